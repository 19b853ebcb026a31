-- A call's letters as one number, by which code finds the row.
use Rattle.std.specs.Prelude.{List, [], ◌∷◌, ℕ, ◌+◌, ◌*◌, eqb}
use Rattle.common.specs.Choice.{pick}
use Rattle.tree.specs.Calls.{Call}
use Rattle.texts.specs.Spelling.{Found}
use Rattle.texts.specs.Spelling.Found.{known, unknown}

-- the first letter is the highest
unfoldable pub packed : List ℕ → ℕ → ℕ
packed [] n = n
packed (x ∷ w) n = packed w (n * 256 + x)

-- the row whose letters are this number
unfoldable pub call_by : List Call → ℕ → Found
call_by [] n = unknown
call_by (r ∷ rs) n = let rest = call_by rs n in pick (eqb (packed r.letters 0) n) (known r) rest
