-- What a folded record is, and what sizing it asks.
use Rattle.lent.specs.declared.Tables.{Tables}
use Rattle.std.specs.Prelude.{◌≡◌, true, List, ℕ, ◌≤◌, length}
use Rattle.tree.specs.Tree.{Tree}
use Rattle.records.specs.Decode.{decode}
use Rattle.folding.specs.Parts.{Parts}
use Rattle.folding.specs.Folded.{folded_of, folded_from}
use Rattle.ways.specs.Ways.{the_calls, bound_by, tables_all, Rooms}

-- the bytes that the record that stands first folds to with a list
unfoldable pub folded_at : List ℕ → List ℕ → List ℕ
folded_at list s = folded_of the_calls (bound_by list) (decode true 16 s)

-- the bytes that so many records from place u on fold to
unfoldable pub folded_past : List ℕ → List ℕ → ℕ → ℕ → List ℕ
folded_past list p left u = folded_from the_calls (bound_by list) (decode true 16) p left u

-- so many records stand from place u on, and fill the payload
pub record ReadyAll (left at : ℕ) (s list : List ℕ) (tables : Tables) (room : ℕ) : Type 0 where
  pub trees : List Tree
  pub parts : Parts (decode true 16) s at trees
  pub count : length trees ≡ left
  pub within : at ≤ length s
  pub rooms : Rooms (tables_all trees) list tables room
  pub short : length s ≤ 12288
