-- The bytes of the block that stands first in a cell.
use Rattle.std.specs.Prelude.{List, ℕ}
use Rattle.kalyna.specs.State.{bytes_of}
use Rattle.words.specs.Words.{block_at}

-- the c columns of block 0, read as bytes (document 003, 6.2)
unfoldable pub held : ℕ → List ℕ → List ℕ
held c s = bytes_of c (block_at c s 0)
