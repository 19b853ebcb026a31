-- Multiplication in GF(2^8) by a constant is linear: it passes over xor, at all numbers. Two linear functions that agree at
-- 1, 2, 4 .. 128 agree at each byte.
use mathlib.Core.Path.{◌≡◌, sym, ap, ap₂, ◌∙◌, subst}
use Prim.Native.Nat.{ℕ, zero, suc, ◌+◌, ◌*◌, ◌/◌, ◌%◌, ◌^◌, ◌<◌}
use native.Mathlib.Nat.{mod-lt, add-zero, zero-mul, one-mul}
use native.Mathlib.Omega.{arith}
use lib.Pow.{pow_pos}
use Rattle.field.specs.Xor.{xor}
use Rattle.field.specs.Field.{polynomial, double, times_digits, times}
use Rattle.field.proofs.XorLaws as X

abbrev pub Lin : (ℕ → ℕ) → Type 0
Lin f = (x y : ℕ) → f (xor x y) ≡ xor (f x) (f y)

pub lin_zero : (f : ℕ → ℕ) → Lin f → f 0 ≡ 0
lin_zero f h = sym (X.twice (f 0) (f 0)) ∙ ap (λ x. xor x (f 0)) (sym (h 0 0) ∙ ap f (X.zero_l 0)) ∙ X.self (f 0)

twofold_lin : Lin (λ x. x * 2)
twofold_lin x y =
    sym (add-zero (xor x y * 2)) ∙ ap (λ z. xor x y * 2 + z) (sym (X.zero_l 0)) ∙ sym (X.block 1 x y 0 0 (omega arith) (omega arith))
    ∙ ap₂ xor (add-zero (x * 2)) (add-zero (y * 2))

-- a digit times a number
bit_mul : (p q c : ℕ) → p < 2 → q < 2 → xor p q * c ≡ xor (p * c) (q * c)
bit_mul p q c hp hq =
    X.lt_two (λ p. xor p q * c ≡ xor (p * c) (q * c))
    (ap (λ x. x * c) (X.zero_l q) ∙ sym (ap (λ x. xor x (q * c)) (zero-mul c) ∙ X.zero_l (q * c)))
    (X.lt_two (λ q. xor 1 q * c ≡ xor (1 * c) (q * c))
    (ap (λ x. x * c) (X.zero_r 1) ∙ sym (ap (λ x. xor (1 * c) x) (zero-mul c) ∙ X.zero_r (1 * c)))
    (ap (λ x. x * c) (X.self 1) ∙ zero-mul c ∙ sym (X.self (1 * c))) q hq) p hp

two : 0 < 2
two = omega arith

pub double_lin : Lin double
unfolding double
double_lin x y =
    ap (λ z. z % 256)
    (ap₂ xor (twofold_lin x y)
    (ap (λ z. z % 2 * polynomial) (X.high 7 x y) ∙ ap (λ z. z * polynomial) (X.low 1 (x / 128) (y / 128)) ∙ bit_mul (x / 128 % 2) (y / 128 % 2) polynomial (mod-lt _ two) (mod-lt _ two))
    ∙ X.swap4 (x * 2) (y * 2) (x / 128 % 2 * polynomial) (y / 128 % 2 * polynomial))
    ∙ X.low 8 (xor (x * 2) (x / 128 % 2 * polynomial)) (xor (y * 2) (y / 128 % 2 * polynomial))

pub double_lt : (x : ℕ) → double x < 256
unfolding double
double_lt x = mod-lt _ (omega arith)

-- a digit times x is linear in x
scale_lin : (p : ℕ) → p < 2 → Lin (λ x. p * x)
scale_lin p hp x y =
    X.lt_two (λ p. p * xor x y ≡ xor (p * x) (p * y))
    (zero-mul _ ∙ sym (ap₂ xor (zero-mul x) (zero-mul y) ∙ X.self 0))
    (one-mul _ ∙ sym (ap₂ xor (one-mul x) (one-mul y))) p hp

times_digits_lin : (n a : ℕ) → Lin (times_digits n a)
unfolding times_digits
times_digits_lin zero a x y = sym (X.self 0)
times_digits_lin (suc n) zero x y = sym (X.self 0)
times_digits_lin (suc n) (suc a) x y =
    ap₂ xor (scale_lin (suc a % 2) (mod-lt (suc a) two) x y) (ap (times_digits n (suc a / 2)) (double_lin x y) ∙ times_digits_lin n (suc a / 2) (double x) (double y))
    ∙ X.swap4 (suc a % 2 * x) (suc a % 2 * y) (times_digits n (suc a / 2) (double x)) (times_digits n (suc a / 2) (double y))

pub times_lin : (a : ℕ) → Lin (times a)
unfolding times
times_lin a = times_digits_lin 8 a

scale_lt : (p x : ℕ) → p < 2 → x < 256 → p * x < 256
scale_lt p x hp hx = X.lt_two (λ p. p * x < 256) (subst (λ z. z < 256) (sym (zero-mul x)) (omega arith)) (subst (λ z. z < 256) (sym (one-mul x)) hx) p hp

times_digits_lt : (n a b : ℕ) → b < 256 → times_digits n a b < 256
unfolding times_digits
times_digits_lt zero a b h = omega arith
times_digits_lt (suc n) zero b h = omega arith
times_digits_lt (suc n) (suc a) b h = X.bound 8 _ _ (scale_lt (suc a % 2) b (mod-lt (suc a) two) h) (times_digits_lt n (suc a / 2) (double b) (double_lt b))

pub times_lt : (a b : ℕ) → b < 256 → times a b < 256
unfolding times
times_lt a b h = times_digits_lt 8 a b h

-- linear functions that agree at the powers of two below 2 ^ n agree below 2 ^ n
module _ (f g : ℕ → ℕ) (hf : Lin f) (hg : Lin g) where
  pub agree : (n : ℕ) → ((b : ℕ) → b < n → f (2 ^ b) ≡ g (2 ^ b)) → (x : ℕ) → x < 2 ^ n → f x ≡ g x
  agree zero h x hx = ap f (X.lt_one x hx) ∙ lin_zero f hf ∙ sym (lin_zero g hg) ∙ ap g (sym (X.lt_one x hx))
  agree (suc n) h x hx =
      ap f (X.parts n x) ∙ hf _ _ ∙ ap₂ xor top (agree n (λ b hb. h b (omega arith)) (x % 2 ^ n) (mod-lt x (pow_pos n))) ∙ sym (hg _ _) ∙ ap g (sym (X.parts n x))
    where
      q : x / 2 ^ n < 2
      q = X.top_lt n x hx

      top : f (x / 2 ^ n * 2 ^ n) ≡ g (x / 2 ^ n * 2 ^ n)
      top = X.lt_two (λ p. f (p * 2 ^ n) ≡ g (p * 2 ^ n))
          (ap f (zero-mul (2 ^ n)) ∙ lin_zero f hf ∙ sym (lin_zero g hg) ∙ ap g (sym (zero-mul (2 ^ n))))
          (ap f (one-mul (2 ^ n)) ∙ h n (omega arith) ∙ ap g (sym (one-mul (2 ^ n)))) (x / 2 ^ n) q
