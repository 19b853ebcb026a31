-- A byte as the low or the high half of a piece.
use Rattle.std.proofs.Common.{◌≡◌, ℕ, ◌*◌, ◌/◌, ◌%◌, ◌<◌, arith}

pub low : (x : ℕ) → x < 256 → x % 256 ≡ x
low x l = omega arith

pub high : (x : ℕ) → x * 256 / 256 ≡ x
high x = omega arith
