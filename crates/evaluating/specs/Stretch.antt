-- What the evaluator is given, and what it leaves (document 01, sections 5 and 6).
use Rattle.std.specs.Prelude.{Bool, true, false, ◌≡◌, List, ℕ, ◌+◌, ◌-◌, ◌*◌, ◌≤◌, Option, Some, None, Result, length, take, drop}
use Rattle.tree.specs.Tree.{Tree}
use Rattle.tree.specs.Bounds.{depth, Proper, Small}
use Rattle.meaning.specs.Mean.{mean, Side}
use Rattle.meaning.specs.Mean.Side.{first, second, neither}
use Rattle.meaning.specs.Real.{real}
use Rattle.records.specs.Encode.{encode}
use Rattle.lists.specs.Entries.{Entry, list_of}
use Rattle.lists.specs.Entries.Listed.{listed}
use Rattle.lists.specs.Given.{binding_of, running_of}
use Rattle.kinds.specs.Tables.{tables_of}
use Rattle.lent.specs.declared.Tables.{Tables}
use Rattle.lent.specs.Lent.{Serves}
use Rattle.modes.specs.Cell.{cell_of}
use Rattle.answers.specs.declared.Refusal.{Refusal}
use Rattle.slots.specs.Slots.{At}

-- the bytes from start to end are a tree's record, as in an image, or with `#` in it as while a text is prepared
pub record Stretch (image : List ℕ) (start end : ℕ) (t : Tree) : Type 0 where
  pub proper : Proper t
  pub small : Small t
  pub order : start ≤ end
  pub inside : end ≤ length image
  pub is : take (end - start) (drop start image) ≡ encode t

-- a tree stands there; the list is good; the tables serve the tree's calls; from o on there are slots for its depth
pub record Ready (image list : List ℕ) (tables : Tables) (start end o room : ℕ) : Type 0 where
  pub tree : Tree
  pub stretch : Stretch image start end tree
  pub taken : ℕ → Bool
  pub entries : List Entry
  pub good : list_of taken list ≡ listed entries
  pub need : ℕ
  pub enough : tables_of tree ≤ need
  pub lent : Serves need tables
  pub slots : o + 1024 * (1 + 3 * (depth tree - 1)) ≤ room

-- whatever tree stands there, its meaning with that list is told and stands at o
unfoldable pub Means : List ℕ → List ℕ → ℕ → ℕ → ℕ → Result ℕ Refusal → List ℕ → List ℕ → Type 0
Means image list start end o r before after =
    (taken : ℕ → Bool) (es : List Entry) (t : Tree) → list_of taken list ≡ listed es → Stretch image start end t
    → At (mean (real cell_of) (binding_of es) (running_of es) t) o r before after

-- the side that is chosen
unfoldable pub side_by : Option Bool → Side
side_by (Some true) = first
side_by (Some false) = second
side_by None = neither
