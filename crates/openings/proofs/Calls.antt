-- The calls that open, by their numbers.
use mathlib.Core.Path.{◌≡◌, refl, sym, ap, ◌∙◌}
use Prim.Native.Nat.{ℕ, ◌≤◌}
use native.Mathlib.Omega.{arith}
use borrow.Author.Tests.{ne_eqb}
use Rattle.common.specs.Choice.{pick}
use Rattle.lent.specs.Lent.{need_of}
use Rattle.modes.specs.Cell.{Call, call_of}
use Rattle.judging.proofs.Calls.{by_call}

pub is_unblk : (f : ℕ) → f ≡ 1 → call_of f ≡ Call.unblk
unfolding call_of
is_unblk f e = ap call_of e

pub is_uncbc : (f : ℕ) → f ≡ 7 → call_of f ≡ Call.uncbc
unfolding call_of
is_uncbc f e = ap call_of e

-- the third of them
pub is_uncbp : (f : ℕ) → need_of f ≡ 2 → (f ≡ 1 → ⊥) → (f ≡ 7 → ⊥) → call_of f ≡ Call.uncbp
unfolding need_of pick
is_uncbp f =
    by_call (λ g k. need_of g ≡ 2 → (g ≡ 1 → ⊥) → (g ≡ 7 → ⊥) → k ≡ Call.uncbp)
    (λ n h1 h7. absurd (one n))
    (λ n h1 h7. absurd (h1 refl))
    (λ n h1 h7. absurd (one n))
    (λ n h1 h7. absurd (one n))
    (λ n h1 h7. absurd (one n))
    (λ n h1 h7. absurd (one n))
    (λ n h1 h7. absurd (one n))
    (λ n h1 h7. absurd (h7 refl))
    (λ n h1 h7. absurd (one n))
    (λ n h1 h7. refl)
    (λ n h1 h7. absurd (one n))
    (λ g l n h1 h7. absurd (late g l n)) f
  where
    one : ◌≡◌ {A = ℕ} 1 2 → ⊥
    one e = omega arith

    late : (g : ℕ) → 11 ≤ g → need_of g ≡ 2 → ⊥
    late g l n = one (sym is_one ∙ n)
      where
        is_one : need_of g ≡ 1
        is_one = rw (ne_eqb g 1 (λ e. omega arith), ne_eqb g 7 (λ e. omega arith), ne_eqb g 9 (λ e. omega arith))
