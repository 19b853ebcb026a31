-- What one walk over the blocks of a cell makes of each block.
use Rattle.std.specs.Prelude.{List, ◌≡◌, ℕ, ◌+◌, ◌^◌, ◌<◌, get_or}
use Rattle.common.specs.Places.{tab}
use Rattle.field.specs.Column.{byte_of}
use Rattle.lookup.specs.Table.{gather}
use Rattle.kalyna.specs.Round.{xor_key, from, to}
use Rattle.kalyna.specs.Block.{moves}

-- column j is gathered from the table t, its row i out of column at i j
unfoldable pub looked : List ℕ → ℕ → (ℕ → ℕ → ℕ) → List ℕ → List ℕ
looked t c at x = tab c (λ j. gather t (λ i. byte_of (get_or x (at i j) 0) i))

-- where the rows of a column come from, sealing and opening
unfoldable pub seal_places : ℕ → ℕ → ℕ → ℕ
seal_places c i j = from c (moves c i) j

unfoldable pub open_places : ℕ → ℕ → ℕ → ℕ
open_places c i j = to c (moves c i) j

-- the c columns of a key that start at a place of ks
unfoldable pub key_at : ℕ → List ℕ → ℕ → List ℕ
key_at c ks at = tab c (λ j. get_or ks (at + j) 0)

-- a round: looked up, and the key added modulo 2
unfoldable pub round_of : List ℕ → ℕ → (ℕ → ℕ → ℕ) → List ℕ → List ℕ → List ℕ
round_of t c at k x = xor_key c k (looked t c at x)

-- the columns r are a block looked up, each of 64 bits
pub record Looked (t : List ℕ) (c : ℕ) (at : ℕ → ℕ → ℕ) (x r : List ℕ) : Type 0 where
  pub says : r ≡ looked t c at x
  pub fits : (k : ℕ) → k < c → get_or r k 0 < 2 ^ 64
