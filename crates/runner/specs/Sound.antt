-- An image and a list that passed their checks (document 01, section 7: past 28 and 27).
use Rattle.std.specs.Prelude.{◌≡◌, List, ℕ}
use Rattle.tree.specs.Tree.{Tree}
use Rattle.tree.specs.Bounds.{Within}
use Rattle.meaning.specs.Mean.{mean}
use Rattle.meaning.specs.Real.{real}
use Rattle.records.specs.Encode.{encode}
use Rattle.lists.specs.Entries.{Entry, running, list_of}
use Rattle.lists.specs.Entries.Listed.{listed}
use Rattle.lists.specs.Given.{binding_of, running_of}
use Rattle.recipe.specs.Run.{ran_of}
use Rattle.kinds.specs.Tables.{tables_of}
use Rattle.lent.specs.Lent.{Serves}
use Rattle.lent.specs.declared.Tables.{Tables}
use Rattle.modes.specs.Cell.{cell_of}

-- the bytes are a tree's, the list is good, `need` are the tables that the tree's calls need; a run answers what the tree means
pub record Sound (image list : List ℕ) (need : ℕ) : Type 0 where
  pub tree : Tree
  pub within : Within tree
  pub whole : image ≡ encode tree
  pub tables : need ≡ tables_of tree
  pub entries : List Entry
  pub good : list_of running list ≡ listed entries
  pub means : ran_of cell_of image list ≡ mean (real cell_of) (binding_of entries) (running_of entries) tree

-- and the tables are lent
pub record Served (image list : List ℕ) (tables : Tables) : Type 0 where
  pub need : ℕ
  pub sound : Sound image list need
  pub lent : Serves need tables
