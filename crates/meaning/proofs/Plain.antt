-- The plain calls: of values they make values, and `eq` tells whether two values are equal.
use mathlib.Core.Path.{◌≡◌, refl, ap₂, subst}
use mathlib.Core.Bool.{Bool, true, false}
use mathlib.Core.List.{List, [], ◌∷◌, ◌++◌}
use mathlib.Core.Logic.{◌↔◌}
use Prim.Native.Nat.{ℕ, zero, suc, ◌+◌, ◌<◌}
use native.Mathlib.Omega.{arith}
use lib.Bits.{xor_lt}
use lib.Dec.{eqb, leb}
use lib.ListN.{length, take, length-append, length-take}
use borrow.Author.Tests.{leb-true, eqb-true, eq-eqb}
use Rattle.common.specs.Choice.{pick}
use Rattle.common.proofs.Places.{length_tab}
use Rattle.common.specs.Answer.{Value, Answer}
use Rattle.common.specs.Answer.Answer.{value, refused}
use Rattle.common.proofs.Choices.{false_true, pick_both}
use Rattle.tree.specs.Bounds.{Bytes}
use Rattle.tree.proofs.Bytes.{bytes_append, bytes_take, bytes_tab}
use Rattle.meaning.specs.Real.{cat, xor_byte, xor_bytes, xor, same, eq, head, Cipher, ciphered, real_two, real}
use Rattle.tree.specs.Values.{IsValue}
use Rattle.meaning.specs.Values.{Valued, CallsValued, AllValues, CipherValued}
use Rattle.meaning.proofs.Binds.{no_value, same_value}

-- a choice between a value and a refusal is a value only by the test
pub pick_value : (b : Bool) (v : Value) (n : ℕ) {w : Value} → pick b (value v) (refused n) ≡ value w → (b ≡ true) × (v ≡ w)
unfolding pick
pick_value true v n e = (refl, same_value e)
pick_value false v n e = absurd (no_value e)

xor_byte_lt : (a b : ℕ) → a < 256 → b < 256 → xor_byte a b < 256
unfolding xor_byte
xor_byte_lt a b ha hb = xor_lt 8 a b ha hb

cat_valued : (a b : Value) → IsValue a → IsValue b → Valued (cat a b)
unfolding cat
cat_valued a b ha hb v e =
    let (t, q) = pick_value (leb (length a + length b) 1024) (a ++ b) 6 e in
    subst IsValue q (record { short = rw length-append (leb-true _ _ t); bytes = bytes_append a b ha.bytes hb.bytes })

xor_valued : (a b : Value) → IsValue a → IsValue b → Valued (xor a b)
unfolding xor xor_bytes
xor_valued a b ha hb v e =
    let (t, q) = pick_value (eqb (length a) (length b)) (xor_bytes a b) 10 e in
    subst IsValue q (record { short = rw length_tab ha.short; bytes = bytes_tab (length a) _ (λ i. xor_byte_lt _ _ (ha.bytes i) (hb.bytes i)) })

one_byte : (x : ℕ) → x < 256 → IsValue (x ∷ [])
one_byte x h = record { short = omega arith; bytes = at }
  where
    at : Bytes (x ∷ [])
    at zero = h
    at (suc i) = omega arith

eq_byte : (b : Bool) → IsValue (pick b (0x01 ∷ []) (0x00 ∷ []))
unfolding pick
eq_byte true = one_byte 1 (omega arith)
eq_byte false = one_byte 0 (omega arith)

eq_valued : (a b : Value) → IsValue a → IsValue b → Valued (eq a b)
unfolding eq
eq_valued a b ha hb v e = subst IsValue (same_value e) (eq_byte (same a b))

head_valued : (a b : Value) → IsValue a → IsValue b → Valued (head a b)
unfolding head
head_valued [] b ha hb v e = absurd (no_value e)
head_valued (n ∷ []) b ha hb v e =
    let (t, q) = pick_value (leb n (length b)) (take n b) 12 e in
    subst IsValue q (record { short = rw length-take (omega (arith, hb.short)); bytes = bytes_take n b hb.bytes })
head_valued (n ∷ (m ∷ r)) b ha hb v e = absurd (no_value e)

pick_valued : (b : Bool) (r s : Answer) → Valued r → Valued s → Valued (pick b r s)
unfolding pick
pick_valued true r s hr hs = hr
pick_valued false r s hr hs = hs

module _ (cipher : Cipher) (h : CipherValued cipher) where
  ciphered_valued : (k : ℕ) (vs : List Value) → AllValues vs → Valued (ciphered cipher k vs)
  unfolding ciphered
  ciphered_valued k vs hv = h _ _ vs hv

  -- of values the calls of section 5 make values
  pub real_valued : CallsValued (real cipher)
  unfolding real real_two AllValues
  real_valued =
      record {
        one_valued = λ k x hx. ciphered_valued k (x ∷ []) (hx, tt);
        two_valued =
            λ k x y hx hy.
            pick_valued _ _ _ (cat_valued x y hx hy)
            (pick_valued _ _ _ (xor_valued x y hx hy)
            (pick_valued _ _ _ (eq_valued x y hx hy) (pick_valued _ _ _ (head_valued x y hx hy) (ciphered_valued k (x ∷ y ∷ []) (hx, (hy, tt))))));
        three_valued = λ k x y z hx hy hz. ciphered_valued k (x ∷ y ∷ z ∷ []) (hx, (hy, (hz, tt)));
        four_valued = λ k x y z w hx hy hz hw. ciphered_valued k (x ∷ y ∷ z ∷ w ∷ []) (hx, (hy, (hz, (hw, tt))));
      }

-- `same` tells whether two values are equal
pub same_equal : (a b : Value) → same a b ≡ true → a ≡ b
unfolding same
same_equal [] [] e = refl
same_equal [] (y ∷ b) e = absurd (false_true e)
same_equal (x ∷ a) [] e = absurd (false_true e)
same_equal (x ∷ a) (y ∷ b) e =
    let (p, q) = pick_both (eqb x y) (same a b) e in
    ap₂ (λ (x : ℕ) (l : List ℕ). x ∷ l) (eqb-true x y p) (same_equal a b q)

pub same_self : (a : Value) → same a a ≡ true
unfolding same pick
same_self [] = refl
same_self (x ∷ a) = rw (eq-eqb x x refl, same_self a)

pub same_exactly : (a b : Value) → (same a b ≡ true) ↔ (a ≡ b)
same_exactly a b = (same_equal a b, λ e. rw e (same_self b))
