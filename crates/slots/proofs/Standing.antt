-- What stands in one slot still stands there after work in later ones.
use mathlib.Core.Path.{◌≡◌, refl, ap, sym, ◌∙◌, subst}
use mathlib.Core.List.{List}
use Prim.Native.Nat.{ℕ, ◌+◌, ◌≤◌}
use native.Mathlib.Omega.{arith}
use lib.ListN.{length, take, drop}
use lib.Seq.{take-take, take-add, drop_at, length-take-le}
use Rattle.std.specs.Prelude.{Result, Ok, Err}
use Rattle.common.specs.Answer.{Value, Answer}
use Rattle.common.specs.Answer.Answer.{value, refused}
use Rattle.answers.specs.declared.Refusal.{Refusal}
use Rattle.answers.specs.Told.{table}
use Rattle.slots.specs.Slots.{Tells, Holds, At}

-- an answer that is the value of n bytes at o
pub record Has (x : Answer) (n o : ℕ) (w : List ℕ) : Type 0 where
  pub v : Value
  pub is : x ≡ value v
  pub len : n ≡ length v
  pub small : n ≤ 1024
  pub bytes : take n (drop o w) ≡ v

no_done : {n : ℕ} {e : Refusal} → ◌≡◌ {A = Result ℕ Refusal} (Err e) (Ok n) → ⊥
no_done e = let z : ◌≡◌ {A = ℕ} 0 1 = cc in omega arith

same_done : {n m : ℕ} → ◌≡◌ {A = Result ℕ Refusal} (Ok n) (Ok m) → n ≡ m
same_done e = cc

same_refused : {e f : Refusal} → ◌≡◌ {A = Result ℕ Refusal} (Err e) (Err f) → e ≡ f
same_refused e = cc

pub has_of : (x : Answer) (o n : ℕ) (r : Result ℕ Refusal) (w w' : List ℕ) → At x o r w w' → r ≡ Ok n → Has x n o w'
unfolding Tells Holds
has_of (value v) o n r w w' A e =
    let en : n ≡ length v = same_done (sym e ∙ A.says) in
    record { v = v; is = refl; len = en; small = omega (arith, en, A.holds.0); bytes = ap (λ m. take m (drop o w')) en ∙ A.holds.1 }
has_of (refused m) o n r w w' A e = absurd (no_done (sym A.says.1 ∙ e))

pub refused_of : (x : Answer) (o : ℕ) (e : Refusal) (r : Result ℕ Refusal) (w w' : List ℕ) → At x o r w w' → r ≡ Err e → x ≡ refused (table e)
unfolding Tells
refused_of (value v) o e r w w' A q = absurd (no_done (sym q ∙ A.says))
refused_of (refused m) o e r w w' A q = ap refused (sym A.says.2 ∙ ap table (same_refused (sym A.says.1 ∙ q)))

-- a refusal stands nowhere
pub at_refused : (e : Refusal) (o : ℕ) (x : Answer) (w w' : List ℕ) → x ≡ refused (table e) → take o w' ≡ take o w → At x o (Err e) w w'
unfolding Tells Holds
at_refused e o x w w' q k = subst (λ y. At y o (Err e) w w') (sym q) (record { says = (e, refl, refl); kept = k; holds = tt })

pub kept_down : (o m : ℕ) (x y : List ℕ) → o ≤ m → take m x ≡ take m y → take o x ≡ take o y
kept_down o m x y h e = sym (take-take o m x h) ∙ ap (take o) e ∙ take-take o m y h

drop_take : (o m : ℕ) (l : List ℕ) → o ≤ length l → drop o (take (o + m) l) ≡ take m (drop o l)
drop_take o m l h = ap (drop o) (take-add o m l) ∙ drop_at (take o l) (take m (drop o l)) o (length-take-le o l h)

pub bytes_kept : (o n m : ℕ) (x y : List ℕ) → n ≤ m → o ≤ length x → o ≤ length y → take (o + m) x ≡ take (o + m) y → take n (drop o x) ≡ take n (drop o y)
bytes_kept o n m x y h hx hy e =
    sym (take-take n m (drop o x) h) ∙ ap (take n) (sym (drop_take o m x hx) ∙ ap (drop o) e ∙ drop_take o m y hy) ∙ take-take n m (drop o y) h

-- a value stays where it stands while the slots above it are written
pub has_kept : (x : Answer) (n o m : ℕ) (w w' : List ℕ) → Has x n o w → n ≤ m → o ≤ length w → o ≤ length w' → take (o + m) w' ≡ take (o + m) w → Has x n o w'
has_kept x n o m w w' H h hw hw' e =
    record { v = H.v; is = H.is; len = H.len; small = H.small; bytes = bytes_kept o n m w' w h hw' hw e ∙ H.bytes }

-- the same answer, told of an earlier room
pub at_earlier : (x : Answer) (o : ℕ) (r : Result ℕ Refusal) (w0 w1 w2 : List ℕ) → take o w1 ≡ take o w0 → At x o r w1 w2 → At x o r w0 w2
at_earlier x o r w0 w1 w2 k A = record { says = A.says; kept = A.kept ∙ k; holds = A.holds }
