-- The mixing of a column and its inverse (document 003, 6.3.5 and 6.4.5). A column is a function from the row to the byte.
use Rattle.std.specs.Prelude.{List, [], ◌∷◌, ℕ, zero, suc, ◌+◌, ◌-◌, ◌%◌, get_or}
use Rattle.field.specs.Xor.{xor}
use Rattle.field.specs.Field.{times}

-- the sum in the field of f 0 .. f (n - 1)
unfoldable pub xsum : ℕ → (ℕ → ℕ) → ℕ
xsum zero f = 0
xsum (suc n) f = xor (xsum n f) (f n)

-- 6.3.5: the vector that makes the matrix of the mixing
abbrev pub forward : List ℕ
forward = 0x01 ∷ 0x01 ∷ 0x05 ∷ 0x01 ∷ 0x08 ∷ 0x06 ∷ 0x07 ∷ 0x04 ∷ []

-- 6.4.5: the vector that makes the matrix of the inverse
abbrev pub backward : List ℕ
backward = 0xAD ∷ 0x95 ∷ 0x76 ∷ 0xA8 ∷ 0x2F ∷ 0x49 ∷ 0xD7 ∷ 0xCA ∷ []

-- place j of the vector v turned right by i
unfoldable pub coef : List ℕ → ℕ → ℕ → ℕ
coef v i j = get_or v ((j + 8 - i) % 8) 0

-- row i of the result: the vector turned right by i, times the column
unfoldable pub product : List ℕ → (ℕ → ℕ) → ℕ → ℕ
product v col i = xsum 8 (λ j. times (coef v i j) (col j))
