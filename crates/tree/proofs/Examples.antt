-- The table of calls, kind by kind, and the bounds at their edges (document 01, sections 5 and 6).
use mathlib.Core.Path.{◌≡◌, refl}
use mathlib.Core.List.{List, [], ◌∷◌, ◌++◌}
use Prim.Native.Nat.{ℕ, zero, suc, ◌+◌, ◌*◌}
use lib.ListN.{length, replicate}
use Rattle.common.specs.Choice.{pick}
use Rattle.common.specs.Places.{tab}
use Rattle.tree.specs.Tree.{Tree}
use Rattle.tree.specs.Tree.Tree.{literal, row, run, two, when}
use Rattle.tree.specs.Calls.{calls, plain, cipher}
use Rattle.tree.specs.Bounds.{of_row, arguments_in, arguments_of, depth, nodes}

-- below 0100: cat, xor, eq and head have two arguments, when three
pub plain_kinds : tab 256 arguments_of ≡ replicate 16 0 ++ (2 ∷ 2 ∷ 2 ∷ 2 ∷ 3 ∷ []) ++ replicate 235 0
unfolding tab arguments_of arguments_in of_row calls plain cipher pick
plain_kinds = refl

-- 0100 + 16f + suite for suites 0 to 15: n arguments for suites 1 to 5
abbrev suites : ℕ → List ℕ
suites n = 0 ∷ n ∷ n ∷ n ∷ n ∷ n ∷ replicate 10 0

abbrev ciphers : ℕ → List ℕ
ciphers f = tab 16 (λ s. arguments_of (0x0100 + 16 * f + s))

-- blk unblk ctr ofb cfb uncfb cbc uncbc cbp uncbp mac chk, and none after
pub cipher_kinds :
    (ciphers 0 ≡ suites 2)
    × (ciphers 1 ≡ suites 2)
    × (ciphers 2 ≡ suites 3)
    × (ciphers 3 ≡ suites 3)
    × (ciphers 4 ≡ suites 3)
    × (ciphers 5 ≡ suites 3)
    × (ciphers 6 ≡ suites 3)
    × (ciphers 7 ≡ suites 3)
    × (ciphers 8 ≡ suites 3)
    × (ciphers 9 ≡ suites 3)
    × (ciphers 10 ≡ suites 2)
    × (ciphers 11 ≡ suites 3)
    × (ciphers 12 ≡ suites 0)
unfolding tab arguments_of arguments_in of_row calls plain cipher pick
cipher_kinds = (refl, refl, refl, refl, refl, refl, refl, refl, refl, refl, refl, refl, refl)

-- the table has 17 names
pub seventeen : length calls ≡ 17
unfolding calls
seventeen = refl

-- cat('',cat('',..)), n calls deep
unfoldable pub nest : ℕ → Tree
nest zero = literal []
nest (suc n) = two 0x0010 (literal []) (nest n)

-- both sides of 16 levels; 127 and 129 nodes, and 128 with one `when`
pub edges : (depth (nest 15) ≡ 16) × (depth (nest 16) ≡ 17) × (nodes (nest 63) ≡ 127) × (nodes (nest 64) ≡ 129) × (nodes (when (row 0) (run 0) (nest 62)) ≡ 128)
unfolding nest depth nodes
edges = (refl, refl, refl, refl, refl)
