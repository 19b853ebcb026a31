-- The state (document 003, 6.2): the list of its c columns, each the number of its eight bytes, low byte first.
use Rattle.std.specs.Prelude.{List, ◌≡◌, ℕ, ◌+◌, ◌*◌, ◌/◌, ◌%◌, ◌^◌, ◌<◌, get_or, length}
use Rattle.common.specs.Places.{tab}
use Rattle.field.specs.Column.{byte_of, pack}

-- the bytes of a block go to the state by columns
unfoldable pub columns_of : ℕ → List ℕ → List ℕ
columns_of c b = tab c (λ j. pack 8 (λ i. get_or b (8 * j + i) 0))

-- and are read from it by columns
unfoldable pub bytes_of : ℕ → List ℕ → List ℕ
bytes_of c s = tab (8 * c) (λ n. byte_of (get_or s (n / 8) 0) (n % 8))

-- c columns of 64 bits
pub record State (c : ℕ) (s : List ℕ) : Type 0 where
  pub long : length s ≡ c
  pub fits : (j : ℕ) → j < c → get_or s j 0 < 2 ^ 64

-- n bytes
pub record Bytes (n : ℕ) (b : List ℕ) : Type 0 where
  pub long : length b ≡ n
  pub fits : (j : ℕ) → j < n → get_or b j 0 < 256
