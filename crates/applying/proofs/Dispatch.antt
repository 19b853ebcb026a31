-- Each kind has its own call; the answer goes into the slot.
use mathlib.Core.Path.{◌≡◌, ap, ap₂, sym, ◌∙◌}
use mathlib.Core.List.{List, [], ◌∷◌}
use Prim.Native.Nat.{ℕ, ◌+◌, ◌%◌, ◌≤◌, ◌<◌}
use native.Mathlib.Omega.{arith}
use lib.ListN.{length, take, drop}
use borrow.Author.Tests.{eq-eqb, ne_eqb}
use Rattle.std.specs.Prelude.{Result}
use Rattle.common.specs.Answer.{Delivered, deliver}
use Rattle.common.proofs.Choices.{pick_true, pick_false}
use Rattle.tree.specs.Bounds.{Bytes, arguments_of, when_kind}
use Rattle.meaning.specs.Real.{cat, xor, eq, head, ciphered, real_two, real}
use Rattle.meaning.proofs.Plain.{real_valued}
use Rattle.meaning.proofs.Refusals.{real_numbered}
use Rattle.modes.specs.Cell.{call_of, cell, cell_of}
use Rattle.demands.proofs.Real.{cell_valued, numbered}
use Rattle.answers.specs.declared.Refusal.{Refusal}
use Rattle.answers.specs.Told.{told_of}
use Rattle.slots.proofs.Settling.{Led, led}
use Rattle.applying.proofs.Numbering.{number_in, two_cell, three_cell}
use Rattle.applying.proofs.Loading.{slot_value}

-- `call_two`
module _ (k : ℕ) (a b out : List ℕ) (d : Delivered) where
  pub as_cat : k ≡ 0x0010 → d ≡ deliver (cat a b) out → d ≡ deliver (real_two cell_of k a b) out
  unfolding real_two
  as_cat e h = h ∙ sym (ap (λ x. deliver x out) (pick_true _ _ _ (eq-eqb k 0x0010 e)))

  pub as_xor : k ≡ 0x0011 → d ≡ deliver (xor a b) out → d ≡ deliver (real_two cell_of k a b) out
  unfolding real_two
  as_xor e h = h ∙ sym (ap (λ x. deliver x out) (pick_false _ _ _ (ne_eqb k 0x0010 (λ q. omega arith)) ∙ pick_true _ _ _ (eq-eqb k 0x0011 e)))

  pub as_eq : k ≡ 0x0012 → d ≡ deliver (eq a b) out → d ≡ deliver (real_two cell_of k a b) out
  unfolding real_two
  as_eq e h =
      h ∙ sym (ap (λ x. deliver x out) (pick_false _ _ _ (ne_eqb k 0x0010 (λ q. omega arith)) ∙ pick_false _ _ _ (ne_eqb k 0x0011 (λ q. omega arith)) ∙ pick_true _ _ _ (eq-eqb k 0x0012 e)))

  pub as_head : k ≡ 0x0013 → d ≡ deliver (head a b) out → d ≡ deliver (real_two cell_of k a b) out
  unfolding real_two
  as_head e h =
      h ∙ sym (ap (λ x. deliver x out)
      (pick_false _ _ _ (ne_eqb k 0x0010 (λ q. omega arith)) ∙ pick_false _ _ _ (ne_eqb k 0x0011 (λ q. omega arith)) ∙ pick_false _ _ _ (ne_eqb k 0x0012 (λ q. omega arith)) ∙ pick_true _ _ _ (eq-eqb k 0x0013 e)))

  pub as_cipher : arguments_of k ≡ 2 → 0x0013 < k → d ≡ deliver (cell (call_of (number_in k)) (k % 16) a [] b) out → d ≡ deliver (real_two cell_of k a b) out
  unfolding real_two
  as_cipher ea hk h =
      h ∙ sym (ap (λ x. deliver x out)
      (pick_false _ _ _ (ne_eqb k 0x0010 (λ q. omega arith)) ∙ pick_false _ _ _ (ne_eqb k 0x0011 (λ q. omega arith)) ∙ pick_false _ _ _ (ne_eqb k 0x0012 (λ q. omega arith)) ∙ pick_false _ _ _ (ne_eqb k 0x0013 (λ q. omega arith)) ∙ two_cell k ea hk a b))

-- `call_three`
pub as_three : (k : ℕ) (a b c out : List ℕ) (d : Delivered) → arguments_of k ≡ 3 → (k ≡ when_kind → ⊥) → d ≡ deliver (cell (call_of (number_in k)) (k % 16) a b c) out
    → d ≡ deliver (ciphered cell_of k (a ∷ b ∷ c ∷ [])) out
as_three k a b c out d e n h = h ∙ sym (ap (λ x. deliver x out) (three_cell k e n a b c))

-- `apply_two`, `apply_three`: what the call told and wrote is the answer, in a room of its own
module _ (k o : ℕ) (w mid ys : List ℕ) (r : Result ℕ Refusal) (hw : Bytes w) (hm : length mid ≡ 1024) where
  pub two_led : (a b : List ℕ) (la lb : ℕ) → la ≤ 1024 → lb ≤ 1024 → a ≡ take la (drop o w) → b ≡ take lb (drop (o + 1024) w) → told_of r ys ≡ deliver (real_two cell_of k a b) mid
      → Led (real_two cell_of k (take la (drop o w)) (take lb (drop (o + 1024) w))) r ys
  unfolding real
  two_led a b la lb sa sb ea eb h =
      led r mid ys hm (real_two cell_of k (take la (drop o w)) (take lb (drop (o + 1024) w)))
      ((real_valued cell_of cell_valued).two_valued k (take la (drop o w)) (take lb (drop (o + 1024) w)) (slot_value w o la hw sa) (slot_value w (o + 1024) lb hw sb))
      ((real_numbered cell_of numbered).two_numbered k (take la (drop o w)) (take lb (drop (o + 1024) w)))
      (h ∙ ap₂ (λ x y. deliver (real_two cell_of k x y) mid) ea eb)

  pub three_led : (a b c : List ℕ) (la lb lc : ℕ) → la ≤ 1024 → lb ≤ 1024 → lc ≤ 1024 → a ≡ take la (drop o w) → b ≡ take lb (drop (o + 1024) w) → c ≡ take lc (drop (o + 2048) w)
      → told_of r ys ≡ deliver (ciphered cell_of k (a ∷ b ∷ c ∷ [])) mid
      → Led (ciphered cell_of k (take la (drop o w) ∷ take lb (drop (o + 1024) w) ∷ take lc (drop (o + 2048) w) ∷ [])) r ys
  unfolding real
  three_led a b c la lb lc sa sb sc ea eb ec h =
      led r mid ys hm (ciphered cell_of k (take la (drop o w) ∷ take lb (drop (o + 1024) w) ∷ take lc (drop (o + 2048) w) ∷ []))
      ((real_valued cell_of cell_valued).three_valued k (take la (drop o w)) (take lb (drop (o + 1024) w)) (take lc (drop (o + 2048) w)) (slot_value w o la hw sa) (slot_value w (o + 1024) lb hw sb) (slot_value w (o + 2048) lc hw sc))
      ((real_numbered cell_of numbered).three_numbered k (take la (drop o w)) (take lb (drop (o + 1024) w)) (take lc (drop (o + 2048) w)))
      (h ∙ ap₂ (λ x y. deliver (ciphered cell_of k (x ∷ y ∷ c ∷ [])) mid) ea eb ∙ ap (λ z. deliver (ciphered cell_of k (take la (drop o w) ∷ take lb (drop (o + 1024) w) ∷ z ∷ [])) mid) ec)
