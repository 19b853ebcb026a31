-- Tests, and choices whose test is known.
use mathlib.Core.Bool.{Bool, true, false}
use mathlib.Core.Path.{◌≡◌, refl, sym, ap}
use Prim.Native.Nat.{ℕ}
use native.Mathlib.Omega.{arith}
use Rattle.common.specs.Choice.{pick}

pub false_true : false ≡ true → ⊥
false_true e = let z : ◌≡◌ {A = ℕ} 0 1 = cc in omega arith

pub true_false : true ≡ false → ⊥
true_false e = false_true (sym e)

pub bool_cases : (P : Bool → Type 0) (b : Bool) → (b ≡ true → P b) → (b ≡ false → P b) → P b
bool_cases P true f g = f refl
bool_cases P false f g = g refl

pub pick_true : {A : Type 0} (b : Bool) (x y : A) → b ≡ true → pick b x y ≡ x
unfolding pick
pick_true b x y e = rw e

pub pick_false : {A : Type 0} (b : Bool) (x y : A) → b ≡ false → pick b x y ≡ y
unfolding pick
pick_false b x y e = rw e

pub pick_both : (b c : Bool) → pick b c false ≡ true → (b ≡ true) × (c ≡ true)
unfolding pick
pick_both true c e = (refl, e)
pick_both false c e = absurd (false_true e)

-- a test as a number
pub picked_one : (t : Bool) → t ≡ true → ◌≡◌ {A = ℕ} 1 (pick t 1 0)
unfolding pick
picked_one t e = ap (λ x. pick {A = ℕ} x 1 0) (sym e)

pub picked_zero : (t : Bool) → t ≡ false → ◌≡◌ {A = ℕ} 0 (pick t 1 0)
unfolding pick
picked_zero t e = ap (λ x. pick {A = ℕ} x 1 0) (sym e)
