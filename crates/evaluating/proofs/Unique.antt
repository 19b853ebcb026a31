-- Two results of the evaluator that meet its statement are equal in all that it states: what is told, what stands below o, the value's bytes.
use mathlib.Core.Path.{◌≡◌, refl, sym}
use native.Mathlib.Omega.{arith}
use mathlib.Core.List.{List}
use Prim.Native.Nat.{ℕ}
use lib.ListN.{take, drop}
use Rattle.std.specs.Prelude.{Bool, true, false, Option, Some, None, Result, Ok}
use Rattle.answers.specs.declared.Refusal.{Refusal}
use Rattle.meaning.specs.Mean.Side.{first, second, neither}
use Rattle.slots.proofs.Unique.{told_unique, kept_unique, bytes_unique}
use Rattle.lent.specs.declared.Tables.{Tables}
use Rattle.evaluating.specs.Stretch.{Ready, Means, side_by}

not_second : first ≡ second → ⊥
not_second e = let z : ◌≡◌ {A = ℕ} 0 1 = cc in omega arith

not_neither : first ≡ neither → ⊥
not_neither e = let z : ◌≡◌ {A = ℕ} 0 1 = cc in omega arith

second_neither : second ≡ neither → ⊥
second_neither e = let z : ◌≡◌ {A = ℕ} 0 1 = cc in omega arith

pub unique : (image list : List ℕ) (tables : Tables) (start end o room : ℕ) (w : List ℕ) → Ready image list tables start end o room → (r q : Result ℕ Refusal) (a b : List ℕ)
    → Means image list start end o r w a → Means image list start end o q w b
    → (r ≡ q) × (take o a ≡ take o b) × ((n : ℕ) → r ≡ Ok n → take n (drop o a) ≡ take n (drop o b))
unfolding Means
unique image list tables start end o room w R r q a b A B =
    let A1 = A R.taken R.entries R.tree R.good R.stretch in
    let B1 = B R.taken R.entries R.tree R.good R.stretch in
    (told_unique _ o r q w a b A1 B1, kept_unique _ o r q w a b A1 B1, bytes_unique _ o r q w a b A1 B1)

-- a side is told in one way
pub side_unique : (p q : Option Bool) → side_by p ≡ side_by q → p ≡ q
unfolding side_by
side_unique (Some true) (Some true) e = refl
side_unique (Some true) (Some false) e = absurd (not_second e)
side_unique (Some true) None e = absurd (not_neither e)
side_unique (Some false) (Some true) e = absurd (not_second (sym e))
side_unique (Some false) (Some false) e = refl
side_unique (Some false) None e = absurd (second_neither e)
side_unique None (Some true) e = absurd (not_neither (sym e))
side_unique None (Some false) e = absurd (second_neither (sym e))
side_unique None None e = refl
