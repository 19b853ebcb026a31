-- Tags compared with no early exit: the sum of what differs.
use mathlib.Core.Bool.{Bool, true, false}
use mathlib.Core.Path.{◌≡◌, refl, sym, ap, ap₂, ◌∙◌, subst}
use mathlib.Core.List.{List, [], ◌∷◌, ◌++◌}
use Prim.Native.Nat.{ℕ, zero, suc, ◌+◌, ◌<◌, ◌≤◌}
use native.Mathlib.Nat.{not-suc-le-zero}
use native.Mathlib.Numerals.{add-one}
use native.Mathlib.Decide.{dec_lt}
use native.Mathlib.Omega.{arith}
use lib.ListN.{get_or, take, drop, length, set}
use lib.Seq.{get_or-take, length-take-le, ext_get_or, take-append-le, set_split}
use native.Mathlib.Decide.{ℕ_discrete}
use borrow.Author.Tests.{eq-eqb, ne_eqb}
use lib.Dec.{eqb}
use Rattle.std.specs.Int.{from_bool}
use Rattle.common.specs.Choice.{pick}
use Rattle.field.specs.Xor.{xor}
use Rattle.field.proofs.XorLaws as X
use Rattle.modes.specs.Mac.{same, mac, chk}
use Rattle.modes.proofs.Mac.{same_true, same_self}

-- what differs in the n leading bytes
unfoldable pub differ : List ℕ → List ℕ → ℕ → ℕ
differ a b zero = 0
differ a b (suc n) = differ a b n + xor (get_or a n 0) (get_or b n 0)

pub differ_more : (a b : List ℕ) (n d x : ℕ) → d ≡ differ a b n → x ≡ xor (get_or a n 0) (get_or b n 0) → d + x ≡ differ a b (n + 1)
unfolding differ
differ_more a b n d x e q = ap₂ (λ (u v : ℕ). u + v) e q ∙ ap (differ a b) (sym (add-one n))

pub differ_none : (a b : List ℕ) → 0 ≡ differ a b 0
unfolding differ
differ_none a b = refl

-- nothing differs: equal bytes
equal : (a b : List ℕ) (n : ℕ) → differ a b n ≡ 0 → (i : ℕ) → i < n → get_or a i 0 ≡ get_or b i 0
unfolding differ
equal a b zero e i l = absurd (not-suc-le-zero l)
equal a b (suc n) e i l = go (dec_lt i n) (equal a b n (omega (arith, e)) i)
  where
    go : Dec (i < n) → (i < n → get_or a i 0 ≡ get_or b i 0) → get_or a i 0 ≡ get_or b i 0
    go (yes d) f = f d
    go (no d) f = here (omega arith)
      where
        here : i ≡ n → get_or a i 0 ≡ get_or b i 0
        here q = ap (λ k. get_or a k 0) q ∙ X.none (get_or a n 0) (get_or b n 0) (omega (arith, e)) ∙ ap (λ k. get_or b k 0) (sym q)

-- equal bytes: nothing differs
alike : (a b : List ℕ) (n : ℕ) → ((i : ℕ) → i < n → get_or a i 0 ≡ get_or b i 0) → differ a b n ≡ 0
unfolding differ
alike a b zero h = refl
alike a b (suc n) h =
    ap₂ (λ (u v : ℕ). u + v) (alike a b n (λ i l. h i (omega arith))) (ap (λ x. xor x (get_or b n 0)) (h n (omega arith)) ∙ X.self (get_or b n 0))

module _ (a b : List ℕ) (n : ℕ) (long : length a ≡ n) (room : n ≤ length b) where
  -- the comparison says that nothing differs
  pub differ_same : differ a b n ≡ 0 → same a (take n b) ≡ true
  differ_same e = ap (same a) (sym whole) ∙ same_self a
    where
      whole : a ≡ take n b
      whole =
          ext_get_or 0 a (take n b) (long ∙ sym (length-take-le n b room))
          (λ i l. equal a b n e i (subst (λ m. i < m) long l) ∙ sym (get_or-take n b i 0 (subst (λ m. i < m) long l)))

  pub differ_other : (differ a b n ≡ 0 → ⊥) → same a (take n b) ≡ false
  differ_other h = go (same a (take n b)) refl
    where
      go : (t : Bool) → same a (take n b) ≡ t → t ≡ false
      go false e = refl
      go true e = absurd (h (alike a b n (λ i l. ap (λ x. get_or x i 0) (same_true a (take n b) e) ∙ get_or-take n b i 0 l)))

  -- the sum against 0
  pub differ_says : (d : ℕ) → d ≡ differ a b n → eqb d 0 ≡ same a (take n b)
  differ_says d e = go (ℕ_discrete d 0)
    where
      go : Dec (d ≡ 0) → eqb d 0 ≡ same a (take n b)
      go (yes q) = eq-eqb d 0 q ∙ sym (differ_same (sym e ∙ q))
      go (no q) = ne_eqb d 0 q ∙ sym (differ_other (λ z. q (e ∙ z)))

listed : (t : Bool) → from_bool t ∷ [] ≡ pick t (1 ∷ []) (0 ∷ [])
unfolding pick
listed true = refl
listed false = refl

-- the byte is what 9.3 answers
pub chk_is : (B : ℕ) (E : List ℕ → List ℕ) (tag text right rest : List ℕ) (s : Bool) (r : ℕ) → length (mac B E text) ≡ B → length tag ≤ B → right ≡ mac B E text ++ rest
    → s ≡ same tag (take (length tag) right) → r ≡ from_bool s → r ∷ [] ≡ chk B E tag text
unfolding chk
chk_is B E tag text right rest s r lm lt er es e =
    ap (λ x. x ∷ []) (e ∙ ap from_bool (es ∙ ap (same tag) (ap (take (length tag)) er ∙ take-append-le (length tag) (mac B E text) rest (omega (arith, lm)))))
    ∙ listed (same tag (take (length tag) (mac B E text)))

-- and is stored
pub chk_out : (o y : List ℕ) (r : ℕ) → 0 < length o → r ∷ [] ≡ y → set o 0 r ≡ y ++ drop 1 o
chk_out o y r l e = set_split o 0 r l ∙ ap (λ x. x ++ drop 1 o) e
