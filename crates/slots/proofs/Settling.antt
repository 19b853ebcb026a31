-- What was delivered into a slot is an answer in the work room.
use mathlib.Core.Path.{◌≡◌, refl, ap, sym, ◌∙◌}
use mathlib.Core.List.{List, ◌++◌}
use Prim.Native.Nat.{ℕ, ◌+◌, ◌-◌, ◌≤◌}
use native.Mathlib.Omega.{arith}
use lib.ListN.{length, take, drop}
use lib.Seq.{take-append-le, length-take-le, take_at, drop_at}
use borrow.Author.Tests.{le-leb}
use borrow.Rule.Slice.PartMut.{mid_of, put_mid, take_put, mid_len}
use Rattle.std.specs.Prelude.{Result, Ok, Err}
use Rattle.common.specs.Answer.{Answer, Delivered, refusal, deliver}
use Rattle.common.specs.Answer.Answer.{value, refused}
use Rattle.common.proofs.Choices.{pick_true}
use Rattle.meaning.specs.Values.{Valued}
use Rattle.meaning.specs.Numbers.{Numbered}
use Rattle.answers.specs.declared.Refusal.{Refusal}
use Rattle.answers.specs.Told.{number_by, number_of, count_of, told_of}
use Rattle.answers.proofs.Cases.{never_zero}
use Rattle.slots.specs.Slots.{Tells, Holds, At}

-- what was told is the answer
done_told : (r : Result ℕ Refusal) (n : ℕ) → number_of r ≡ 0 → count_of r ≡ n → r ≡ Ok n
unfolding number_of number_by count_of
done_told (Ok m) n a b = ap Ok b
done_told (Err e) n a b = let h = never_zero e in absurd (omega arith)

refused_told : (r : Result ℕ Refusal) (n : ℕ) → number_of r ≡ n → (n ≡ 0 → ⊥) → Tells (refused n) r
unfolding number_of number_by Tells
refused_told (Ok m) n a z = absurd (z (sym a))
refused_told (Err e) n a z = (e, refl, a)

-- the value's bytes lead what was delivered
pub record Led (x : Answer) (r : Result ℕ Refusal) (ys : List ℕ) : Type 0 where
  pub told : Tells x r
  pub holds : Holds x ys 0

module _ (r : Result ℕ Refusal) (mid ys : List ℕ) (long : length mid ≡ 1024) where
  pub led : (x : Answer) → Valued x → Numbered x → told_of r ys ≡ deliver x mid → Led x r ys
  unfolding told_of Tells Holds deliver refusal
  led (value v) hv hn e =
      let s : length v ≤ 1024 = (hv v refl).short in
      let d : told_of r ys ≡ record { number = 0; count = length v; out = v ++ drop (length v) mid } = e ∙ pick_true _ _ _ (le-leb (length v) (length mid) (omega arith)) in
      record {
        told = done_told r (length v) (ap (λ (q : Delivered). q.number) d) (ap (λ (q : Delivered). q.count) d);
        holds = (s, ap (take (length v)) (ap (λ (q : Delivered). q.out) d) ∙ take_at v (drop (length v) mid) (length v) refl);
      }
  led (refused n) hv hn e = record { told = refused_told r n (ap (λ (q : Delivered). q.number) e) (hn n refl); holds = tt }

-- what leads a part stands in the whole where the part does
holds_put : (x : Answer) (o k : ℕ) (w ys : List ℕ) → o ≤ length w → length ys ≡ 1024 → Holds x ys 0 → Holds x (put_mid o k w ys) o
unfolding Holds
holds_put (value v) o k w ys ho ly (s, h) =
    (s, ap (take (length v)) (drop_at (take o w) _ o (length-take-le o w ho)) ∙ take-append-le (length v) ys _ (omega arith) ∙ h)
holds_put (refused n) o k w ys ho ly h = tt

-- a call that wrote into the slot at o, its answer a value or a number of the table
pub at_slot : (x : Answer) (o e : ℕ) (r : Result ℕ Refusal) (w ys : List ℕ) → e ≡ o + 1024 → e ≤ length w → length ys ≡ length (mid_of o (e - o) w) → Valued x → Numbered x
    → told_of r ys ≡ deliver x (mid_of o (e - o) w) → At x o r w (put_mid o (e - o) w ys)
at_slot x o e r w ys he hw ly hv hn d =
    let lm : length (mid_of o (e - o) w) ≡ e - o = mid_len o e w hw in
    let L = led r (mid_of o (e - o) w) ys (omega arith) x hv hn d in
    record { says = L.told; kept = take_put o (e - o) w ys (omega arith); holds = holds_put x o (e - o) w ys (omega arith) (omega arith) L.holds }
