-- Good lists (document 01, section 6), in words of their own.
use Rattle.std.specs.Prelude.{◌≡◌, Bool, true, List, [], ◌∷◌, ◌++◌, ℕ, ◌≤◌, length}
use Rattle.records.specs.Record.{record_of}
use Rattle.lists.specs.Entries.{Entry}

-- a list is its records, one after another
unfoldable pub spell_list : List Entry → List ℕ
spell_list [] = []
spell_list (e ∷ es) = record_of e.kind e.held ++ spell_list es

-- a kind that none of the entries has
unfoldable pub NotIn : ℕ → List Entry → Type 0
NotIn k [] = Unit {0}
NotIn k (e ∷ es) = (e.kind ≡ k → ⊥) × NotIn k es

-- each kind is taken, each payload has at most 1,024 bytes, no kind twice
unfoldable pub GoodList : (ℕ → Bool) → List Entry → Type 0
GoodList taken [] = Unit {0}
GoodList taken (e ∷ es) = (taken e.kind ≡ true) × (length e.held ≤ 1024) × NotIn e.kind es × GoodList taken es
