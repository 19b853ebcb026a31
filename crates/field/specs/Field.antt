-- GF(2^8) by x^8 + x^4 + x^3 + x^2 + 1, 0x11D (document 003, 6.3.5).
use Rattle.std.specs.Prelude.{ℕ, zero, suc, ◌*◌, ◌/◌, ◌%◌}
use Rattle.field.specs.Xor.{xor}

abbrev pub polynomial : ℕ
polynomial = 0x11D

-- times x: doubled, and less the polynomial where the digit of x^7 was set
unfoldable pub double : ℕ → ℕ
double a = xor (a * 2) (a / 128 % 2 * polynomial) % 256

-- the lowest n binary digits of a, as a polynomial, times b
unfoldable pub times_digits : ℕ → ℕ → ℕ → ℕ
times_digits zero a b = 0
times_digits (suc n) zero b = 0
times_digits (suc n) (suc a) b = xor (suc a % 2 * b) (times_digits n (suc a / 2) (double b))

-- the product of two elements of the field
unfoldable pub times : ℕ → ℕ → ℕ
times a b = times_digits 8 a b
