-- What holds at 2, 4 and 8 columns holds at every width of the suite table.
use Rattle.std.proofs.Common.{◌≡◌, ℕ, ◌*◌, ◌<◌, ◌≤◌, sym, subst, ⊎_elim, arith}
use Rattle.blocks.specs.Blocks.{Width}

pub by_width : (P : ℕ → Type 0) → P 2 → P 4 → P 8 → (c : ℕ) → Width c → P c
by_width P a b d c w = ⊎_elim (λ e. subst P (sym e) a) (⊎_elim (λ e. subst P (sym e) b) (λ e. subst P (sym e) d)) w

pub width_pos : (c : ℕ) → Width c → 0 < c
width_pos = by_width (λ c. 0 < c) (omega arith) (omega arith) (omega arith)

pub width_le : (c : ℕ) → Width c → c ≤ 8
width_le = by_width (λ c. c ≤ 8) (omega arith) (omega arith) (omega arith)

-- a block has bytes
pub width_lt : (c : ℕ) → Width c → 0 < 8 * c
width_lt = by_width (λ c. 0 < 8 * c) (omega arith) (omega arith) (omega arith)

-- neither 2 nor 4
pub eight_is : (c : ℕ) → Width c → (c ≡ 2 → ⊥) → (c ≡ 4 → ⊥) → c ≡ 8
eight_is c w a b = ⊎_elim (λ e. absurd (a e)) (⊎_elim (λ e. absurd (b e)) (λ e. e)) w
