-- The table that the rounds read: what row i at the byte x adds to a mixed column, for rows 0 to 3; rows 4 to 7 are these turned by half a column.
use Rattle.std.specs.Prelude.{List, ℕ, ◌+◌, ◌*◌, ◌/◌, ◌%◌, get_or}
use Rattle.common.specs.Places.{tab}
use Rattle.field.specs.Xor.{xor}
use Rattle.field.specs.Field.{times}
use Rattle.field.specs.Column.{pack}
use Rattle.field.specs.Mixing.{coef, forward, backward, xsum}
use Rattle.substitutions.specs.Tables.{sub, unsub}

-- byte 2048 i + 8 x + k: row k of the column that row i adds, whose byte x is substituted by f and mixed by the vector v
unfoldable pub table_of : List ℕ → (ℕ → ℕ → ℕ) → List ℕ
table_of v f = tab 8192 (λ n. times (coef v (n % 8) (n / 2048)) (f (n / 2048) (n / 8 % 256)))

-- the table of sealing: substitute, then mix
unfoldable pub seal_table : List ℕ
seal_table = table_of forward sub

-- the table of opening: substitute back, then mix back
unfoldable pub open_table : List ℕ
open_table = table_of backward unsub

-- the two halves of a column change places
unfoldable pub turned : ℕ → ℕ
turned w = w % 4294967296 * 4294967296 + w / 4294967296

-- the column that a table t has for row i at the byte x
unfoldable pub entry : List ℕ → ℕ → ℕ → ℕ
entry t i x = pack 8 (λ k. get_or t (2048 * i + 8 * x + k) 0)

-- four rows of a column, whose bytes are b 0 .. b 3
unfoldable pub half : List ℕ → (ℕ → ℕ) → ℕ
half t b = xsum 4 (λ i. entry t i (b i))

-- a whole column, whose row i is the byte b i
unfoldable pub gather : List ℕ → (ℕ → ℕ) → ℕ
gather t b = xor (half t b) (turned (half t (λ i. b (i + 4))))
