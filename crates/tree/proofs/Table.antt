-- Which kinds the table of calls has (document 01, section 6).
use mathlib.Core.Path.{◌≡◌, refl}
use mathlib.Core.Bool.{Bool, true, false}
use mathlib.Core.List.{List, [], ◌∷◌}
use Prim.Native.Nat.{ℕ, suc, ◌+◌, ◌≤◌}
use native.Mathlib.Omega.{arith}
use lib.Dec.{leb, ltb}
use borrow.Author.Tests.{leb-true, ltb-true, eqb-true}
use Rattle.common.specs.Choice.{pick}
use Rattle.common.proofs.Choices.{pick_both}
use Rattle.tree.specs.Calls.{Call, calls, plain, cipher}
use Rattle.tree.specs.Bounds.{of_row, arguments_in, arguments_of, when_kind}

-- a row holds kinds from its own to five above it
row_range : (s : Bool) (kind k : ℕ) → of_row s kind k ≡ true → (kind ≤ k) × (k ≤ kind + 5)
unfolding of_row
row_range false kind k e = let q = eqb-true k kind e in (omega arith, omega arith)
row_range true kind k e =
    let (a, b) = pick_both (ltb kind k) (leb k (kind + 5)) e in
    let l = ltb-true kind k a in
    let m = leb-true k (kind + 5) b in
    (omega arith, omega arith)

-- all kinds of the rows lie between lo and hi
unfoldable rows_within : ℕ → ℕ → List Call → Bool
rows_within lo hi [] = true
rows_within lo hi (r ∷ rs) = pick (leb lo r.kind) (pick (leb (r.kind + 5) hi) (rows_within lo hi rs) false) false

in_rows : (rs : List Call) (lo hi k n : ℕ) → rows_within lo hi rs ≡ true → arguments_in rs k ≡ suc n → (lo ≤ k) × (k ≤ hi)
unfolding rows_within arguments_in pick
in_rows [] lo hi k n h e = absurd (omega arith)
in_rows (r ∷ rs) lo hi k n h e =
    let (a, h1) = pick_both (leb lo r.kind) (pick (leb (r.kind + 5) hi) (rows_within lo hi rs) false) h in
    let (b, h2) = pick_both (leb (r.kind + 5) hi) (rows_within lo hi rs) h1 in
    by_row (of_row r.suited r.kind k) refl e (leb-true lo r.kind a) (leb-true (r.kind + 5) hi b) (in_rows rs lo hi k n h2)
  where
    by_row : (t : Bool) → of_row r.suited r.kind k ≡ t → pick t r.arguments (arguments_in rs k) ≡ suc n → lo ≤ r.kind → r.kind + 5 ≤ hi
        → (arguments_in rs k ≡ suc n → (lo ≤ k) × (k ≤ hi)) → (lo ≤ k) × (k ≤ hi)
    by_row true q f a b ih = let (l, m) = row_range r.suited r.kind k q in (omega arith, omega arith)
    by_row false q f a b ih = ih f

-- a call's kind is none of a leaf, and fits two bytes
pub call_kind : (k n : ℕ) → arguments_of k ≡ suc n → (0x0010 ≤ k) × (k ≤ 0x01B5)
unfolding arguments_of rows_within calls plain cipher pick
call_kind k n e = in_rows calls 0x0010 0x01B5 k n refl e

-- `when` is in the table, with three arguments
pub when_arguments : arguments_of when_kind ≡ 3
unfolding arguments_of arguments_in of_row calls plain cipher pick
when_arguments = refl
