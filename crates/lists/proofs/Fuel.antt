-- How many records a walk may still take does not matter, if they are as many as bytes.
use mathlib.Core.Path.{◌≡◌, refl, ap, sym, ◌∙◌}
use mathlib.Core.Bool.{Bool, true, false}
use mathlib.Core.List.{List, [], ◌∷◌}
use Prim.Native.Nat.{ℕ, zero, suc, ◌+◌, ◌-◌, ◌≤◌}
use native.Mathlib.Omega.{arith}
use lib.Dec.{eqb}
use lib.ListN.{length, drop, length-drop}
use borrow.Author.Tests.{eq-eqb}
use Rattle.common.specs.Choice.{pick}
use Rattle.common.specs.Answer.{Value}
use Rattle.common.proofs.Choices.{pick_true}
use Rattle.records.specs.Record.{Front, front_of}
use Rattle.records.specs.Record.Front.{front, cut}
use Rattle.lists.specs.Entries.{entry, Listed, with_first, then_entry, walk}
use Rattle.lists.specs.Entries.Listed.{listed}

module _ (taken : ℕ → Bool) where
  entry_same : (met : List ℕ) (m : Front) (f g : ℕ → Value → Listed) → ((k : ℕ) (v : Value) → f k v ≡ g k v) → then_entry taken met m f ≡ then_entry taken met m g
  unfolding then_entry
  entry_same met (front k v) f g h = rw (h k v)
  entry_same met cut f g h = refl

  at_end : (n : ℕ) (met s : List ℕ) → length s ≡ 0 → walk taken n met s ≡ listed []
  unfolding walk
  at_end zero met s e = pick_true _ _ _ (eq-eqb _ _ e)
  at_end (suc n) met s e = pick_true _ _ _ (eq-eqb _ _ e)

  pick_same : (b : Bool) (x y z : Listed) → (b ≡ false → y ≡ z) → pick b x y ≡ pick b x z
  unfolding pick
  pick_same true x y z h = refl
  pick_same false x y z h = h refl

  pub walk_enough : (n m : ℕ) (met s : List ℕ) → length s ≤ n → length s ≤ m → walk taken n met s ≡ walk taken m met s
  unfolding walk
  walk_enough zero zero met s hn hm = refl
  walk_enough zero (suc m) met s hn hm = at_end zero met s (omega arith) ∙ sym (at_end (suc m) met s (omega arith))
  walk_enough (suc n) zero met s hn hm = at_end (suc n) met s (omega arith) ∙ sym (at_end zero met s (omega arith))
  walk_enough (suc n) (suc m) met s hn hm =
      pick_same (eqb (length s) 0) _ _ _ λ e.
      entry_same met (front_of s) _ _ λ k v.
      let l : length (drop (4 + length v) s) ≡ length s - (4 + length v) = length-drop (4 + length v) s in
      ap (with_first (entry k v)) (walk_enough n m (k ∷ met) (drop (4 + length v) s) (omega arith) (omega arith))
