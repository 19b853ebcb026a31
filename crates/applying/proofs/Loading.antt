-- Arguments in their slots, and answers left there.
use mathlib.Core.Path.{◌≡◌, refl, ap, sym, ◌∙◌, subst}
use mathlib.Core.List.{List, ◌++◌}
use Prim.Native.Nat.{ℕ, ◌+◌, ◌-◌, ◌≤◌}
use native.Mathlib.Omega.{arith}
use lib.ListN.{length, take, drop, length-take}
use lib.Seq.{length-take-le, take_at, drop_at}
use Rattle.std.specs.Prelude.{Result, Ok, Err}
use Rattle.common.specs.Answer.{Answer}
use Rattle.common.specs.Answer.Answer.{value, refused}
use Rattle.tree.specs.Bounds.{Bytes}
use Rattle.tree.specs.Values.{IsValue}
use Rattle.tree.proofs.Bytes.{bytes_take, bytes_drop}
use Rattle.answers.specs.declared.Refusal.{Refusal}
use Rattle.answers.specs.Told.{count_of}
use Rattle.slots.specs.Slots.{Tells, Holds, At}
use Rattle.slots.proofs.Settling.{Led}
use Rattle.applying.specs.Left.{left_of}

-- the bytes of a slot are a value
pub slot_value : (w : List ℕ) (o n : ℕ) → Bytes w → n ≤ 1024 → IsValue (take n (drop o w))
slot_value w o n h l = record { short = (let q = length-take n (drop o w) in omega arith); bytes = bytes_take n (drop o w) (bytes_drop o w h) }

-- a slot's part, as it is lent
pub part_lent : (w : List ℕ) (o n : ℕ) → take (o + n - o) (drop o w) ≡ take n (drop o w)
part_lent w o n = let m : o + n - o ≡ n = omega arith in ap (λ i. take i (drop o w)) m

-- `leave`
module _ (t : Result ℕ Refusal) (out work : List ℕ) (o : ℕ) where
  pub leaves_value : (n : ℕ) (w : List ℕ) → t ≡ Ok n → n ≤ length out → w ≡ take o work ++ (take n out ++ drop (o + length (take n out)) work) → w ≡ left_of t out work o
  unfolding left_of
  leaves_value n w e h q =
      q ∙ ap (λ i. take o work ++ (take n out ++ drop (o + i) work)) (length-take-le n out h) ∙ sym (ap (λ x. left_of x out work o) e)

  pub leaves_none : (m : Refusal) → t ≡ Err m → work ≡ left_of t out work o
  unfolding left_of
  leaves_none m e = sym (ap (λ x. left_of x out work o) e)

pub count_done : (t : Result ℕ Refusal) (n : ℕ) → t ≡ Ok n → count_of t ≡ n
unfolding count_of
count_done t n e = ap count_of e

-- what is told of an answer in a room of 1,024 bytes fits a slot
module _ (t : Result ℕ Refusal) (ys : List ℕ) where
  pub fits_slot : (x : Answer) → Led x t ys → count_of t ≤ 1024
  unfolding Tells Holds count_of
  fits_slot (value v) L = let q : count_of t ≡ length v = ap count_of L.told in let h = L.holds.0 in omega arith
  fits_slot (refused n) L = let q : count_of t ≡ 0 = ap count_of L.told.1 in omega arith

  -- left at o, it is an answer in the slot
  pub left_at : (x : Answer) (o : ℕ) (w : List ℕ) → Led x t ys → length ys ≡ 1024 → o + 1024 ≤ length w → At x o t w (left_of t ys w o)
  unfolding Tells Holds left_of
  left_at (value v) o w L ly hw =
      let n : ℕ = length v in
      let h : n ≤ 1024 = L.holds.0 in
      let lo : length (take o w) ≡ o = length-take-le o w (omega arith) in
      let ln : length (take n ys) ≡ n = length-take-le n ys (omega arith) in
      subst (λ z. At (value v) o z w (left_of z ys w o)) (sym L.told)
      (record {
        says = refl;
        kept = take_at (take o w) (take n ys ++ drop (o + n) w) o lo;
        holds = (h, ap (take n) (drop_at (take o w) (take n ys ++ drop (o + n) w) o lo) ∙ take_at (take n ys) (drop (o + n) w) n ln ∙ L.holds.1);
      })
  left_at (refused n) o w L ly hw =
      subst (λ z. At (refused n) o z w (left_of z ys w o)) (sym L.told.1) (record { says = (L.told.0, refl, L.told.2); kept = refl; holds = tt })

pub under : (n l : ℕ) → n ≤ 1024 → l ≡ 1024 → n ≤ l
under n l h e = omega arith

pub as_left : (x : Answer) (o : ℕ) (r t : Result ℕ Refusal) (w w' v : List ℕ) → r ≡ t → w' ≡ v → At x o t w v → At x o r w w'
as_left x o r t w w' v e f A = subst (λ y. At x o y w w') (sym e) (subst (λ y. At x o t w y) (sym f) A)
