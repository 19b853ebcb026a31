-- Depth, nodes and well-formed trees (document 01, section 5).
use Rattle.std.specs.Prelude.{Bool, true, false, ◌≡◌, List, [], ◌∷◌, ℕ, suc, ◌+◌, ◌≤◌, ◌<◌, max, eqb, leb, ltb, length, get_or}
use Rattle.common.specs.Choice.{pick}
use Rattle.tree.specs.Tree.{Tree}
use Rattle.tree.specs.Tree.Tree.{literal, bound, row, run, one, two, three, four, when}
use Rattle.tree.specs.Calls.{Call, calls}

-- the root is 1
unfoldable pub depth : Tree → ℕ
depth (literal v) = 1
depth (bound n) = 1
depth (row n) = 1
depth (run n) = 1
depth (one k a) = suc (depth a)
depth (two k a b) = suc (max (depth a) (depth b))
depth (three k a b c) = suc (max (depth a) (max (depth b) (depth c)))
depth (four k a b c d) = suc (max (depth a) (max (depth b) (max (depth c) (depth d))))
depth (when c a b) = suc (max (depth c) (max (depth a) (depth b)))

-- literals, names, calls
unfoldable pub nodes : Tree → ℕ
nodes (literal v) = 1
nodes (bound n) = 1
nodes (row n) = 1
nodes (run n) = 1
nodes (one k a) = suc (nodes a)
nodes (two k a b) = suc (nodes a + nodes b)
nodes (three k a b c) = suc (nodes a + nodes b + nodes c)
nodes (four k a b c d) = suc (nodes a + nodes b + nodes c + nodes d)
nodes (when c a b) = suc (nodes c + nodes a + nodes b)

-- whether a kind is of this row: the row's own, or for a cipher call the row's and a suite 1 to 5
unfoldable pub of_row : Bool → ℕ → ℕ → Bool
of_row false kind k = eqb k kind
of_row true kind k = pick (ltb kind k) (leb k (kind + 5)) false

-- the number of arguments that the table gives a kind; 0 where the table has no such kind
unfoldable pub arguments_in : List Call → ℕ → ℕ
arguments_in [] k = 0
arguments_in (r ∷ rs) k = pick (of_row r.suited r.kind k) r.arguments (arguments_in rs k)

unfoldable pub arguments_of : ℕ → ℕ
arguments_of = arguments_in calls

-- the kind of `when`, whose sides are evaluated by choice
abbrev pub when_kind : ℕ
when_kind = 0x0014

-- a list of bytes
abbrev pub Bytes : List ℕ → Type 0
Bytes v = (i : ℕ) → get_or v i 0 < 256

-- a tree of section 5: digits in range, each call of the table with its number of arguments, literals of bytes
unfoldable pub Proper : Tree → Type 0
Proper (literal v) = Bytes v
Proper (bound n) = n < 4
Proper (row n) = n < 8
Proper (run n) = n < 4
Proper (one k a) = (arguments_of k ≡ 1) × Proper a
Proper (two k a b) = (arguments_of k ≡ 2) × Proper a × Proper b
Proper (three k a b c) = (arguments_of k ≡ 3) × (k ≡ when_kind → ⊥) × Proper a × Proper b × Proper c
Proper (four k a b c d) = (arguments_of k ≡ 4) × Proper a × Proper b × Proper c × Proper d
Proper (when c a b) = Proper c × Proper a × Proper b

-- section 5: each literal is a value, 0 to 1,024 bytes
unfoldable pub Small : Tree → Type 0
Small (literal v) = length v ≤ 1024
Small (bound n) = Unit {0}
Small (row n) = Unit {0}
Small (run n) = Unit {0}
Small (one k a) = Small a
Small (two k a b) = Small a × Small b
Small (three k a b c) = Small a × Small b × Small c
Small (four k a b c d) = Small a × Small b × Small c × Small d
Small (when c a b) = Small c × Small a × Small b

-- within the bounds of section 5
pub record Within (t : Tree) : Type 0 where
  pub proper : Proper t
  pub small : Small t
  pub shallow : depth t ≤ 16
  pub few : nodes t ≤ 128
