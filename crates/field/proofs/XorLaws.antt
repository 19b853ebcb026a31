-- Laws of xor.
use mathlib.Core.Path.{◌≡◌, refl, sym, ap, ap₂, ◌∙◌, subst}
use Prim.Native.Nat.{ℕ, zero, suc, ◌+◌, ◌*◌, ◌/◌, ◌%◌, ◌^◌, ◌<◌}
use native.Mathlib.Nat.{mod-lt, div-lt_iff_lt-mul, mul_comm, pow-suc}
use lib.Pow.{pow_pos, split}
use native.Mathlib.Omega.{arith}
use lib.Arith.{bin_ind}
use lib.Bits.{differ, xor_step, xor_comm, xor_self, xor_zero_r, xor_lt, xor_mod, xor_shr, xor_block, xor_shifted}
use Rattle.field.specs.Xor.{xor}

pub comm : (a b : ℕ) → xor a b ≡ xor b a
unfolding xor
comm a b = xor_comm a b

pub self : (a : ℕ) → xor a a ≡ 0
unfolding xor
self a = xor_self a

pub zero_l : (a : ℕ) → xor 0 a ≡ a
unfolding xor
zero_l a = refl

pub zero_r : (a : ℕ) → xor a 0 ≡ a
unfolding xor
zero_r a = xor_zero_r a

pub bound : (k a b : ℕ) → a < 2 ^ k → b < 2 ^ k → xor a b < 2 ^ k
unfolding xor
bound k a b = xor_lt k a b

pub low : (k a b : ℕ) → xor a b % 2 ^ k ≡ xor (a % 2 ^ k) (b % 2 ^ k)
unfolding xor
low k a b = xor_mod a b k

pub high : (k a b : ℕ) → xor a b / 2 ^ k ≡ xor (a / 2 ^ k) (b / 2 ^ k)
unfolding xor
high k a b = xor_shr a b k

pub block : (k a b r s : ℕ) → r < 2 ^ k → s < 2 ^ k → xor (a * 2 ^ k + r) (b * 2 ^ k + s) ≡ xor a b * 2 ^ k + xor r s
unfolding xor
block k a b r s = xor_block k a b r s

step : (a b : ℕ) → xor a b ≡ xor (a / 2) (b / 2) * 2 + differ (a % 2) (b % 2)
unfolding xor
step a b = xor_step a b

-- one digit
pub lt_two : (P : ℕ → Type 0) → P 0 → P 1 → (x : ℕ) → x < 2 → P x
lt_two P p0 p1 zero h = p0
lt_two P p0 p1 (suc zero) h = p1
lt_two P p0 p1 (suc (suc x)) h = let z : ⊥ = omega arith in absurd z

differ_assoc : (x y z : ℕ) → x < 2 → y < 2 → z < 2 → differ (differ x y) z ≡ differ x (differ y z)
differ_assoc x y z hx hy hz =
    lt_two (λ x. differ (differ x y) z ≡ differ x (differ y z)) refl
    (lt_two (λ y. differ (differ 1 y) z ≡ differ 1 (differ y z)) refl
    (lt_two (λ z. differ (differ 1 1) z ≡ differ 1 (differ 1 z)) refl refl z hz) y hy) x hx

pub assoc : (a b c : ℕ) → xor (xor a b) c ≡ xor a (xor b c)
assoc = bin_ind (λ (a : ℕ). (b c : ℕ) → xor (xor a b) c ≡ xor a (xor b c)) (λ b c. ap (λ x. xor x c) (zero_l b) ∙ sym (zero_l (xor b c)))
    (λ a ih b c.
    step (xor a b) c
    ∙ ap₂ (λ (x y : ℕ). x * 2 + y)
    (ap (λ x. xor x (c / 2)) (high 1 a b) ∙ ih (b / 2) (c / 2) ∙ ap (xor (a / 2)) (sym (high 1 b c)))
    (ap (λ x. differ x (c % 2)) (low1 a b) ∙ differ_assoc (a % 2) (b % 2) (c % 2) (mod-lt a two) (mod-lt b two) (mod-lt c two) ∙ ap (differ (a % 2)) (sym (low1 b c)))
    ∙ sym (step a (xor b c)))
  where
    two : 0 < 2
    two = omega arith

    xor2 : (x y : ℕ) → x < 2 → y < 2 → xor x y ≡ differ x y
    xor2 x y hx hy = lt_two (λ x. xor x y ≡ differ x y) (zero_l y) (lt_two (λ y. xor 1 y ≡ differ 1 y) (unfold xor in refl) (unfold xor in refl) y hy) x hx

    low1 : (a b : ℕ) → xor a b % 2 ≡ differ (a % 2) (b % 2)
    low1 a b = low 1 a b ∙ xor2 (a % 2) (b % 2) (mod-lt a two) (mod-lt b two)

-- what is xored twice is gone
pub twice : (a b : ℕ) → xor (xor a b) b ≡ a
twice a b = assoc a b b ∙ ap (xor a) (self b) ∙ zero_r a

-- numbers whose xor is 0 are equal
pub none : (a b : ℕ) → xor a b ≡ 0 → a ≡ b
none a b e = sym (twice a b) ∙ ap (λ x. xor x b) e ∙ zero_l b

-- (a ^ b) ^ (c ^ d) = (a ^ c) ^ (b ^ d)
pub swap4 : (a b c d : ℕ) → xor (xor a b) (xor c d) ≡ xor (xor a c) (xor b d)
swap4 a b c d =
    assoc a b (xor c d)
    ∙ ap (xor a) (sym (assoc b c d) ∙ ap (λ x. xor x d) (comm b c) ∙ assoc c b d)
    ∙ sym (assoc a c (xor b d))

pub lt_one : (x : ℕ) → x < 1 → x ≡ 0
lt_one x h = omega arith

-- a number is its upper digits, in place, xor its lower ones
pub parts : (n x : ℕ) → x ≡ xor (x / 2 ^ n * 2 ^ n) (x % 2 ^ n)
unfolding xor
parts n x = sym (split x n) ∙ sym (xor_shifted (x / 2 ^ n) n (x % 2 ^ n) (mod-lt x (pow_pos n)))

pub top_lt : (n x : ℕ) → x < 2 ^ suc n → x / 2 ^ n < 2
top_lt n x h = (div-lt_iff_lt-mul (pow_pos n)).1 (subst (λ z. x < z) (pow-suc 2 n ∙ mul_comm (2 ^ n) 2) h)

pub pos : (k : ℕ) → 0 < 2 ^ k
pos k = pow_pos k

pub never : {A : Type 0} → ⊥ → A
never z = absurd z
