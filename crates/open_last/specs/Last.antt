-- The columns of a block shifted and substituted back, by lookups in the row of four tables.
use Rattle.std.specs.Prelude.{◌≡◌, ℕ, ◌+◌, ◌*◌, ◌%◌, ◌<◌, List, slice_index}
use Rattle.field.specs.Column.{byte_of, pack}
use Rattle.words.specs.Words.{word_at}
use Rattle.rounds.specs.Rounds.{open_places}

-- a column whose row i is the byte b i, replaced by table i mod 4 of the row u
unfoldable pub replaced : List ℕ → (ℕ → ℕ) → ℕ
replaced u b = pack 8 (λ i. slice_index u (256 * (i % 4) + b i))

-- the columns r are those of the block that starts at column w, each row from where it is shifted back from, and replaced
pub record Replaced (u : List ℕ) (c : ℕ) (s : List ℕ) (w : ℕ) (r : List ℕ) : Type 0 where
  pub says : (j : ℕ) → j < c → slice_index r j ≡ replaced u (λ i. byte_of (word_at s (w + open_places c i j)) i)
