-- A column of the state (document 003, 6.2): eight bytes, and the number that they make, low byte first (6.3.2).
use Rattle.std.specs.Prelude.{ℕ, zero, suc, ◌+◌, ◌*◌, ◌/◌, ◌%◌, ◌^◌}

-- byte i of a number
unfoldable pub byte_of : ℕ → ℕ → ℕ
byte_of w i = w / 256 ^ i % 256

-- the number of the n bytes f 0, f 1 ..
unfoldable pub pack : ℕ → (ℕ → ℕ) → ℕ
pack zero f = 0
pack (suc n) f = pack n (λ i. f (suc i)) * 256 + f 0
