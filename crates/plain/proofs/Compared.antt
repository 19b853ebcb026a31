-- Values compared with no early exit.
use mathlib.Core.Bool.{Bool, true, false}
use mathlib.Core.Path.{◌≡◌, refl, sym, ap, ◌∙◌}
use mathlib.Core.List.{List}
use Prim.Native.Nat.{ℕ, ◌+◌, ◌<◌}
use native.Mathlib.Decide.{dec_lt}
use native.Mathlib.Omega.{arith}
use lib.Bits.{bit_or, or_add_and, and_le_l, and_le_r}
use lib.ListN.{get_or, length}
use lib.Seq.{ext_get_or}
use mathlib.Core.Logic.{◌⊎◌}
use Rattle.std.proofs.Common.{eqb, ◌≢◌}
use Rattle.std.proofs.lemmas.Bool.Decides.{eqb_tells}
use Rattle.field.specs.Xor.{xor}
use Rattle.field.proofs.XorLaws as X
use Rattle.meaning.specs.Real.{same}
use Rattle.meaning.proofs.Plain.{same_equal, same_self}

or_zero : (d x : ℕ) → bit_or d x ≡ 0 → (d ≡ 0) × (x ≡ 0)
or_zero d x e = let l = or_add_and d x in let m = and_le_l d x in let k = and_le_r d x in (omega arith, omega arith)

zero_or : (d x : ℕ) → d ≡ 0 → x ≡ 0 → bit_or d x ≡ 0
zero_or d x e f = let l = or_add_and d x in omega arith

-- d is 0 exactly where the i leading bytes are the same
pub record Met (a b : List ℕ) (i d : ℕ) : Type 0 where
  pub there : d ≡ 0 → (j : ℕ) → j < i → get_or a j 0 ≡ get_or b j 0
  pub back : ((j : ℕ) → j < i → get_or a j 0 ≡ get_or b j 0) → d ≡ 0

pub met_none : (a b : List ℕ) → Met a b 0 0
met_none a b = record { there = λ e j l. absurd (omega arith); back = λ h. refl }

pub met_more : (a b : List ℕ) (i d x r : ℕ) → Met a b i d → x ≡ xor (get_or a i 0) (get_or b i 0) → r ≡ bit_or d x → Met a b (i + 1) r
met_more a b i d x r M e u =
    record {
      there = λ z j l. go j l (or_zero d x (sym u ∙ z)) (dec_lt j i);
      back = λ q. u ∙ zero_or d x (M.back (λ j l. q j (omega arith))) (e ∙ ap (λ y. xor y (get_or b i 0)) (q i (omega arith)) ∙ X.self (get_or b i 0));
    }
  where
    go : (j : ℕ) → j < i + 1 → (d ≡ 0) × (x ≡ 0) → Dec (j < i) → get_or a j 0 ≡ get_or b j 0
    go j l z (yes s) = M.there z.0 j s
    go j l z (no s) =
        let q : j ≡ i = omega arith in
        ap (λ k. get_or a k 0) q ∙ X.none (get_or a i 0) (get_or b i 0) (sym e ∙ z.1) ∙ ap (λ k. get_or b k 0) (sym q)

not_same : (t : Bool) → (t ≡ true → ⊥) → t ≡ false
not_same true h = absurd (h refl)
not_same false h = refl

module _ (a b : List ℕ) where
  pub alike_same : (i d : ℕ) → i ≡ length a → length a ≡ length b → Met a b i d → eqb d 0 ≡ same a b
  alike_same i d e l M = go (eqb_tells d 0)
    where
      go : ((eqb d 0 ≡ true) × (d ≡ 0)) ⊎ ((eqb d 0 ≡ false) × (d ≢ 0)) → eqb d 0 ≡ same a b
      go (◌⊎◌.inl h) =
          h.0 ∙ sym (ap (same a) (sym (ext_get_or 0 a b l (λ j q. M.there h.1 j (omega arith)))) ∙ same_self a)
      go (◌⊎◌.inr h) =
          h.0 ∙ sym (not_same (same a b) (λ t. h.1 (M.back (λ j q. ap (λ x. get_or x j 0) (same_equal a b t)))))

  pub other_length : (length a ≡ length b → ⊥) → false ≡ same a b
  other_length h = sym (not_same (same a b) (λ t. h (ap length (same_equal a b t))))
