-- Bytes and the numbers that they make: each undoes the other, and xor passes through.
use mathlib.Core.Path.{◌≡◌, refl, sym, ap, ap₂, ◌∙◌, subst}
use Prim.Native.Nat.{ℕ, zero, suc, ◌+◌, ◌*◌, ◌/◌, ◌%◌, ◌^◌, ◌<◌}
use native.Mathlib.Nat.{mod-lt, mod-one, mul-one, add-zero, suc-add, mul_assoc, div-one, pow-suc, pow-succ', div-div-eq-div-mul, div-add-mod', div-lt_iff_lt-mul, not-suc-le-zero, zero-lt-suc, le_of_suc-le-suc, zero-add}
use native.Mathlib.Omega.{arith}
use lib.Arith.{digits_lt, digits_div, digits_mod, mod-mul}
use lib.Pow.{pow-add}
use Rattle.field.specs.Xor.{xor}
use Rattle.field.specs.Mixing.{xsum}
use Rattle.field.specs.Column.{byte_of, pack}
use Rattle.field.specs.Mixing.{product, coef}
use mathlib.Core.List.{List}
use Rattle.field.proofs.XorLaws as X
use Rattle.field.proofs.FieldLaws.{times_lt}

abbrev pub AllBytes : ℕ → (ℕ → ℕ) → Type 0
AllBytes n f = (i : ℕ) → i < n → f i < 256

zlt : (n : ℕ) → 0 < suc n
zlt n = zero-lt-suc n

up : {i n : ℕ} → i < n → suc i < suc n
up h = omega arith

pub byte_of_lt : (w i : ℕ) → byte_of w i < 256
unfolding byte_of
byte_of_lt w i = mod-lt _ (omega arith)

pub byte_of_zero : (w : ℕ) → byte_of w 0 ≡ w % 256
unfolding byte_of
byte_of_zero w = ap (λ x. x % 256) (div-one w)

pub byte_of_suc : (w i : ℕ) → byte_of w (suc i) ≡ byte_of (w / 256) i
unfolding byte_of
byte_of_suc w i = ap (λ x. x % 256) (ap (λ x. w / x) (pow-succ' 256 i) ∙ sym (div-div-eq-div-mul w 256 (256 ^ i)))

pub pack_ext : (n : ℕ) (f g : ℕ → ℕ) → ((i : ℕ) → i < n → f i ≡ g i) → pack n f ≡ pack n g
unfolding pack
pack_ext zero f g h = refl
pack_ext (suc n) f g h = ap₂ (λ (x y : ℕ). x * 256 + y) (pack_ext n (λ i. f (suc i)) (λ i. g (suc i)) (λ i l. h (suc i) (up l))) (h 0 (zlt n))

pub pack_lt : (n : ℕ) (f : ℕ → ℕ) → AllBytes n f → pack n f < 256 ^ n
unfolding pack
pack_lt zero f h = omega arith
pack_lt (suc n) f h =
    subst (λ x. pack n (λ i. f (suc i)) * 256 + f 0 < x) (sym (pow-suc 256 n))
    (digits_lt (pack_lt n (λ i. f (suc i)) (λ i l. h (suc i) (up l))) (h 0 (zlt n)))

pub byte_pack : (n : ℕ) (f : ℕ → ℕ) → AllBytes n f → (i : ℕ) → i < n → byte_of (pack n f) i ≡ f i
unfolding pack
byte_pack zero f h i l = absurd (not-suc-le-zero l)
byte_pack (suc n) f h zero l = byte_of_zero _ ∙ digits_mod (pack n (λ i. f (suc i))) (h 0 (zlt n))
byte_pack (suc n) f h (suc i) l =
    byte_of_suc _ i ∙ ap (λ x. byte_of x i) (digits_div (pack n (λ i. f (suc i))) (h 0 (zlt n)))
    ∙ byte_pack n (λ i. f (suc i)) (λ i l. h (suc i) (up l)) i (le_of_suc-le-suc l)

pub pack_byte : (n w : ℕ) → w < 256 ^ n → pack n (byte_of w) ≡ w
unfolding pack
pack_byte zero w h = omega arith
pack_byte (suc n) w h =
    ap₂ (λ (x y : ℕ). x * 256 + y)
    (pack_ext n (λ i. byte_of w (suc i)) (byte_of (w / 256)) (λ i l. byte_of_suc w i)
    ∙ pack_byte n (w / 256) ((div-lt_iff_lt-mul (omega arith)).1 (subst (λ x. w < x) (pow-suc 256 n) h)))
    (byte_of_zero w)
    ∙ div-add-mod' w 256

pub pack_xor : (n : ℕ) (f g : ℕ → ℕ) → AllBytes n f → AllBytes n g → pack n (λ i. xor (f i) (g i)) ≡ xor (pack n f) (pack n g)
unfolding pack
pack_xor zero f g hf hg = sym (X.self 0)
pack_xor (suc n) f g hf hg =
    ap (λ x. x * 256 + xor (f 0) (g 0)) (pack_xor n (λ i. f (suc i)) (λ i. g (suc i)) (λ i l. hf (suc i) (up l)) (λ i l. hg (suc i) (up l)))
    ∙ sym (X.block 8 (pack n (λ i. f (suc i))) (pack n (λ i. g (suc i))) (f 0) (g 0) (hf 0 (zlt n)) (hg 0 (zlt n)))

pub pack_zero : (n : ℕ) → pack n (λ i. 0) ≡ 0
unfolding pack
pack_zero zero = refl
pack_zero (suc n) = ap (λ x. x * 256 + 0) (pack_zero n)

pub xsum_bytes : (m : ℕ) (f : ℕ → ℕ) → ((j : ℕ) → j < m → f j < 256) → xsum m f < 256
unfolding xsum
xsum_bytes zero f h = omega arith
xsum_bytes (suc m) f h = X.bound 8 _ _ (xsum_bytes m f (λ j l. h j (omega arith))) (h m (omega arith))

-- a column of sums is the sum of the columns
pub pack_xsum : (n m : ℕ) (f : ℕ → ℕ → ℕ) → ((k j : ℕ) → k < n → j < m → f k j < 256)
    → pack n (λ k. xsum m (f k)) ≡ xsum m (λ j. pack n (λ k. f k j))
unfolding xsum
pack_xsum n zero f h = pack_zero n
pack_xsum n (suc m) f h =
    pack_xor n (λ k. xsum m (f k)) (λ k. f k m) (λ k l. xsum_bytes m (f k) (λ j lj. h k j l (omega arith))) (λ k l. h k m l (omega arith))
    ∙ ap (λ x. xor x (pack n (λ k. f k m))) (pack_xsum n m f (λ k j lk lj. h k j lk (omega arith)))

-- a row of a product is a byte
pub product_lt : (v : List ℕ) (f : ℕ → ℕ) → ((k : ℕ) → k < 8 → f k < 256) → (i : ℕ) → product v f i < 256
unfolding product
product_lt v f h i = xsum_bytes 8 _ (λ j l. times_lt (coef v i j) (f j) (h j l))

pub byte_xor : (a b i : ℕ) → byte_of (xor a b) i ≡ xor (byte_of a i) (byte_of b i)
byte_xor a b zero = byte_of_zero (xor a b) ∙ X.low 8 a b ∙ sym (ap₂ xor (byte_of_zero a) (byte_of_zero b))
byte_xor a b (suc i) =
    byte_of_suc (xor a b) i ∙ ap (λ x. byte_of x i) (X.high 8 a b) ∙ byte_xor (a / 256) (b / 256) i ∙ sym (ap₂ xor (byte_of_suc a i) (byte_of_suc b i))

word_pack : (f : ℕ → ℕ) → (((((((f 7 * 256 + f 6) * 256 + f 5) * 256 + f 4) * 256 + f 3) * 256 + f 2) * 256 + f 1) * 256 + f 0) ≡ pack 8 f
unfolding pack
word_pack f = ap (λ x. (((((((x * 256 + f 6) * 256 + f 5) * 256 + f 4) * 256 + f 3) * 256 + f 2) * 256 + f 1) * 256 + f 0)) (sym (zero-add (f 7)))

-- eight bytes, each under its own equation
pub eight_bytes : (f : ℕ → ℕ) (w7 w6 w5 w4 w3 w2 w1 w0 : ℕ) → w7 ≡ f 7 → w6 ≡ f 6 → w5 ≡ f 5 → w4 ≡ f 4 → w3 ≡ f 3 → w2 ≡ f 2 → w1 ≡ f 1 → w0 ≡ f 0
    → (((((((w7 * 256 + w6) * 256 + w5) * 256 + w4) * 256 + w3) * 256 + w2) * 256 + w1) * 256 + w0) ≡ pack 8 f
eight_bytes f w7 w6 w5 w4 w3 w2 w1 w0 e7 e6 e5 e4 e3 e2 e1 e0 = cc (word_pack f)

-- ---- bytes at their places

pub quotient : (j i : ℕ) → i < 8 → (8 * j + i) / 8 ≡ j
quotient j i l = omega arith

pub remainder : (j i : ℕ) → i < 8 → (8 * j + i) % 8 ≡ i
remainder j i l = omega arith

pub power : (n : ℕ) → 0 < 256 ^ n
power zero = omega arith
power (suc n) = omega (arith, power n, pow-suc 256 n)

-- the lowest n bytes of a number
pub pack_low : (n w : ℕ) → pack n (byte_of w) ≡ w % 256 ^ n
unfolding pack
pack_low zero w = sym (mod-one w)
pack_low (suc n) w =
    ap₂ (λ (x y : ℕ). x * 256 + y) (pack_ext n (λ i. byte_of w (suc i)) (byte_of (w / 256)) (λ i l. byte_of_suc w i) ∙ pack_low n (w / 256)) (byte_of_zero w)
    ∙ sym (mod-mul w {m = 256 ^ n} {c = 256} (power n) (omega arith)) ∙ ap (λ x. w % x) (sym (pow-suc 256 n))

-- from byte q on
pub byte_after : (w q i : ℕ) → byte_of w (q + i) ≡ byte_of (w / 256 ^ q) i
unfolding byte_of
byte_after w q i = ap (λ x. x % 256) (ap (λ x. w / x) (pow-add 256 q i) ∙ sym (div-div-eq-div-mul w (256 ^ q) (256 ^ i)))

-- n bytes and then m bytes
pub pack_add : (n m : ℕ) (f : ℕ → ℕ) → pack (n + m) f ≡ pack m (λ i. f (n + i)) * 256 ^ n + pack n f
unfolding pack
pack_add zero m f = ap (λ k. pack k f) (zero-add m) ∙ pack_ext m f (λ i. f (0 + i)) (λ i l. ap f (sym (zero-add i))) ∙ sym (ap (λ x. x + 0) (mul-one (pack m (λ i. f (0 + i)))) ∙ add-zero (pack m (λ i. f (0 + i))))
pack_add (suc n) m f =
    ap (λ k. pack k f) (suc-add n m) ∙ ap (λ x. x * 256 + f 0) (pack_add n m (λ i. f (suc i)))
    ∙ over (pack m (λ i. f (suc (n + i)))) (256 ^ n) (pack n (λ i. f (suc i))) (f 0)
    ∙ ap₂ (λ (x y : ℕ). x * y + (pack n (λ i. f (suc i)) * 256 + f 0)) (pack_ext m _ _ (λ i l. ap f (sym (suc-add n i)))) (sym (pow-suc 256 n))
  where
    over : (a p b x : ℕ) → (a * p + b) * 256 + x ≡ a * (p * 256) + (b * 256 + x)
    over a p b x = omega (arith, mul_assoc a p 256)
