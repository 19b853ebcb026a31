-- The tag: its bytes, and the comparison.
use mathlib.Core.Bool.{Bool, true, false}
use mathlib.Core.Path.{◌≡◌, refl, sym, ap, ap₂, ◌∙◌}
use mathlib.Core.List.{List, [], ◌∷◌}
use Prim.Native.Nat.{ℕ}
use native.Mathlib.Nat.{}
use native.Mathlib.Omega.{arith}
use borrow.Author.Tests.{eqb-true, eq-eqb}
use lib.Dec.{eqb}
use lib.ListN.{take, length}
use Rattle.common.specs.Choice.{pick}
use Rattle.kalyna.specs.State.{Bytes}
use Rattle.modes.specs.Mac.{mac_of, mac, same, chk}

-- the comparison is equality
pub same_true : (x y : List ℕ) → same x y ≡ true → x ≡ y
unfolding same pick
same_true [] [] e = refl
same_true [] (b ∷ y) e = let z : ◌≡◌ {A = ℕ} 0 1 = cc in absurd (omega arith)
same_true (a ∷ x) [] e = let z : ◌≡◌ {A = ℕ} 0 1 = cc in absurd (omega arith)
same_true (a ∷ x) (b ∷ y) e = go (eqb a b) refl (same_true x y) e
  where
    go : (t : Bool) → eqb a b ≡ t → (same x y ≡ true → x ≡ y) → pick t (same x y) false ≡ true → a ∷ x ≡ b ∷ y
    go true et ih e = ap₂ (λ (c : ℕ) (l : List ℕ). c ∷ l) (eqb-true a b et) (ih e)
    go false et ih e = let z : ◌≡◌ {A = ℕ} 0 1 = cc in absurd (omega arith)

pub same_self : (x : List ℕ) → same x x ≡ true
unfolding same pick
same_self [] = refl
same_self (a ∷ x) = ap (λ t. pick t (same x x) false) (eq-eqb a a refl) ∙ same_self x

pub mac_bytes : (B : ℕ) (E : List ℕ → List ℕ) (text : List ℕ) → ((b : List ℕ) → Bytes B (E b)) → Bytes B (mac B E text)
unfolding mac mac_of
mac_bytes B E text outs = outs _

module _ (B : ℕ) (E : List ℕ → List ℕ) (tag text : List ℕ) where
  -- 01 for the leading bytes of the computed tag
  pub chk_right : tag ≡ take (length tag) (mac B E text) → chk B E tag text ≡ 1 ∷ []
  unfolding chk pick
  chk_right e = ap (λ t. pick t (1 ∷ []) (0 ∷ [])) (ap (same tag) (sym e) ∙ same_self tag)

  -- 00 for all else
  pub chk_wrong : (tag ≡ take (length tag) (mac B E text) → ⊥) → chk B E tag text ≡ 0 ∷ []
  unfolding chk pick
  chk_wrong ne = go (same tag (take (length tag) (mac B E text))) refl
    where
      go : (t : Bool) → same tag (take (length tag) (mac B E text)) ≡ t → pick {A = List ℕ} t (1 ∷ []) (0 ∷ []) ≡ 0 ∷ []
      go true e = absurd (ne (same_true tag (take (length tag) (mac B E text)) e))
      go false e = refl

  pub chk_one : chk B E tag text ≡ 1 ∷ [] → tag ≡ take (length tag) (mac B E text)
  unfolding chk pick
  chk_one e = go (same tag (take (length tag) (mac B E text))) refl e
    where
      go : (t : Bool) → same tag (take (length tag) (mac B E text)) ≡ t → pick {A = List ℕ} t (1 ∷ []) (0 ∷ []) ≡ 1 ∷ [] → tag ≡ take (length tag) (mac B E text)
      go true es e = same_true tag (take (length tag) (mac B E text)) es
      go false es e = let z : ◌≡◌ {A = ℕ} 0 1 = cc in absurd (omega arith)

  pub chk_zero : chk B E tag text ≡ 0 ∷ [] → tag ≡ take (length tag) (mac B E text) → ⊥
  chk_zero e t = let o : chk B E tag text ≡ 1 ∷ [] = chk_right t in let z : ◌≡◌ {A = ℕ} 0 1 = cc in omega arith

  pub chk_either : (P : List ℕ → Type 0) → P (1 ∷ []) → P (0 ∷ []) → P (chk B E tag text)
  unfolding chk pick
  chk_either P a b = go (same tag (take (length tag) (mac B E text)))
    where
      go : (t : Bool) → P (pick t (1 ∷ []) (0 ∷ []))
      go true = a
      go false = b
