-- Blocks of a cell, at the three widths.
use mathlib.Core.Path.{◌≡◌, sym, ap, ◌∙◌, subst}
use Prim.Native.Nat.{ℕ, suc, ◌+◌, ◌-◌, ◌*◌, ◌/◌, ◌<◌, ◌≤◌}
use native.Mathlib.Nat.{mul-suc, mul-le-mul_left, mul_comm, mul_assoc, div-add-mod', mod-lt, suc-mul, mul-le-mul_right}
use native.Mathlib.Numerals.{add-one}
use native.Mathlib.Omega.{arith}
use Rattle.blocks.proofs.Widths.{by_width}
use Rattle.blocks.specs.Blocks.{Width}
use Rattle.modes.specs.Cell.{blocks_in}

-- the blocks of a cell have room in it
pub blocks_fit : (n c : ℕ) → Width c → n ≤ 1024 → 4 * (c * blocks_in (8 * c) n) ≤ 512
unfolding blocks_in
blocks_fit n = by_width (λ c. n ≤ 1024 → 4 * (c * ((n + (8 * c - 1)) / (8 * c))) ≤ 512) (λ h. omega arith) (λ h. omega arith) (λ h. omega arith)

-- each place lies in one of them
pub in_blocks : (n c : ℕ) → Width c → (m : ℕ) → m < n → m / (8 * c) < blocks_in (8 * c) n
unfolding blocks_in
in_blocks n = by_width (λ c. (m : ℕ) → m < n → m / (8 * c) < (n + (8 * c - 1)) / (8 * c)) (λ m l. omega arith) (λ m l. omega arith) (λ m l. omega arith)

-- all but the last are whole
pub blocks_whole : (n c : ℕ) → Width c → 0 < n → (0 < blocks_in (8 * c) n) × ((blocks_in (8 * c) n - 1) * (8 * c) ≤ n)
unfolding blocks_in
blocks_whole n =
    by_width (λ c. 0 < n → (0 < (n + (8 * c - 1)) / (8 * c)) × (((n + (8 * c - 1)) / (8 * c) - 1) * (8 * c) ≤ n))
    (λ h. (omega arith, omega arith)) (λ h. (omega arith, omega arith)) (λ h. (omega arith, omega arith))

-- whole blocks, and fewer bytes than one
pub whole_le : (n B : ℕ) → n / B * B ≤ n
whole_le n B = omega (arith, div-add-mod' n B)

pub rest_lt : (n B : ℕ) → 0 < B → n - n / B * B < B
rest_lt n B p = omega (arith, div-add-mod' n B, mod-lt n p)

pub next_whole : (B i q n : ℕ) → i < q → q * B ≤ n → i * B + B ≤ n
next_whole B i q n l h = omega (arith, suc-mul i B, mul-le-mul_right B l)

-- a block by columns
pub next_block : (c i n : ℕ) → i < n → c * i + c ≤ c * n
next_block c i n l = subst (λ x. x ≤ c * n) (mul-suc c i) (mul-le-mul_left c l)

-- blocks by bytes and by columns
pub bytes_columns : (c n : ℕ) → n * (8 * c) ≡ 8 * (c * n)
bytes_columns c n = mul_comm n (8 * c) ∙ mul_assoc 8 c n

-- the next block starts where this one ends
pub next_at : (B i at : ℕ) → at ≡ i * B → at + B ≡ (i + 1) * B
next_at B i at e = ap (λ n. n + B) e ∙ sym (ap (λ k. k * B) (add-one i) ∙ suc-mul i B)

pub ended : (B i q at : ℕ) → i ≡ q → at ≡ i * B → at ≡ q * B
ended B i q at e a = a ∙ ap (λ k. k * B) e

pub room : (c n : ℕ) → 0 < n → c + c * (n - 1) ≡ c * n
room c n p = omega (arith, (ap (λ k. c * k) last ∙ mul-suc c (n - 1)))
  where
    last : n ≡ suc (n - 1)
    last = omega arith

-- a short block begins a block's length before the end of the cell, or earlier
pub short_fit : (n c : ℕ) → Width c → n ≤ 1024 → (n / (8 * c) * (8 * c) ≡ n → ⊥) → n / (8 * c) * (8 * c) + 8 * c ≤ 1024
short_fit n = by_width (λ c. n ≤ 1024 → (n / (8 * c) * (8 * c) ≡ n → ⊥) → n / (8 * c) * (8 * c) + 8 * c ≤ 1024) (λ h e. omega arith) (λ h e. omega arith) (λ h e. omega arith)
