-- A payload filled by records (document 01, section 6: a call's payload is its arguments' records, one after another).
use Rattle.std.specs.Prelude.{◌≡◌, List, [], ◌∷◌, ℕ, ◌+◌, length, drop}
use Rattle.tree.specs.Tree.{Tree}
use Rattle.tree.specs.Tree.Tree.{literal, bound, row, run, one, two, three, four, when}
use Rattle.records.specs.Decode.{Item}
use Rattle.records.specs.Decode.Item.{item}

-- the records of these trees stand from place u on and fill the payload; `sub` reads one
unfoldable pub Parts : (List ℕ → Item) → List ℕ → ℕ → List Tree → Type 0
Parts sub p u [] = u ≡ length p
Parts sub p u (t ∷ ts) = (v : ℕ) × (sub (drop u p) ≡ item t v) × Parts sub p (u + v) ts

-- counts of leaves, which alone can be long
unfoldable pub leaves : Tree → ℕ
leaves (literal v) = 1
leaves (bound n) = 1
leaves (row n) = 1
leaves (run n) = 1
leaves (one k a) = leaves a
leaves (two k a b) = leaves a + leaves b
leaves (three k a b c) = leaves a + leaves b + leaves c
leaves (four k a b c d) = leaves a + leaves b + leaves c + leaves d
leaves (when c a b) = leaves c + leaves a + leaves b
