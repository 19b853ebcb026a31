-- The row of a number, where it is none of the table's.
use mathlib.Core.Path.{◌≡◌, sym}
use Prim.Native.Nat.{ℕ}
use borrow.Author.Tests.{ne_eqb}
use Rattle.common.specs.Choice.{pick}
use Rattle.tree.specs.Calls.{calls, plain, cipher}
use Rattle.texts.specs.Spelling.Found.{unknown}
use Rattle.texts.specs.Packed.{packed, call_by}

-- a number of no row
pub no_row : (w : ℕ) → (w ≡ 6513012 → ⊥) → (w ≡ 7892850 → ⊥) → (w ≡ 25969 → ⊥) → (w ≡ 1751474532 → ⊥) → (w ≡ 2003330414 → ⊥) → (w ≡ 6450283 → ⊥) → (w ≡ 504363117675 → ⊥) → (w ≡ 6517874 → ⊥) → (w ≡ 7300706 → ⊥) → (w ≡ 6514274 → ⊥) → (w ≡ 504363181666 → ⊥) → (w ≡ 6513251 → ⊥) → (w ≡ 504363180643 → ⊥) → (w ≡ 6513264 → ⊥) → (w ≡ 504363180656 → ⊥) → (w ≡ 7168355 → ⊥) → (w ≡ 6514795 → ⊥) → call_by calls w ≡ unknown
unfolding call_by calls plain cipher packed pick
no_row w h1 h2 h3 h4 h5 h6 h7 h8 h9 h10 h11 h12 h13 h14 h15 h16 h17 =
    simp (ne_eqb 6513012 w (λ e. h1 (sym e)), ne_eqb 7892850 w (λ e. h2 (sym e)), ne_eqb 25969 w (λ e. h3 (sym e)), ne_eqb 1751474532 w (λ e. h4 (sym e)), ne_eqb 2003330414 w (λ e. h5 (sym e)), ne_eqb 6450283 w (λ e. h6 (sym e)), ne_eqb 504363117675 w (λ e. h7 (sym e)), ne_eqb 6517874 w (λ e. h8 (sym e)), ne_eqb 7300706 w (λ e. h9 (sym e)), ne_eqb 6514274 w (λ e. h10 (sym e)), ne_eqb 504363181666 w (λ e. h11 (sym e)), ne_eqb 6513251 w (λ e. h12 (sym e)), ne_eqb 504363180643 w (λ e. h13 (sym e)), ne_eqb 6513264 w (λ e. h14 (sym e)), ne_eqb 504363180656 w (λ e. h15 (sym e)), ne_eqb 7168355 w (λ e. h16 (sym e)), ne_eqb 6514795 w (λ e. h17 (sym e)))
