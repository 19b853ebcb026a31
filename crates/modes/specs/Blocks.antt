-- Texts as blocks of B bytes (document 003, 7.2: m_1 || m_2 || .. ). Blocks are counted from 0 here.
use Rattle.std.specs.Prelude.{List, ℕ, zero, suc, ◌*◌, get_or, take, drop}
use Rattle.common.specs.Places.{tab}
use Rattle.field.specs.Xor.{xor}
use Rattle.field.specs.Column.{byte_of, pack}

-- block i of a text: B bytes, fewer at the text's end
unfoldable pub block_at : ℕ → List ℕ → ℕ → List ℕ
block_at B text i = take B (drop (i * B) text)

-- two blocks added modulo 2
unfoldable pub xor_block : ℕ → List ℕ → List ℕ → List ℕ
xor_block B x y = tab B (λ n. xor (get_or x n 0) (get_or y n 0))

-- a block as a number, low byte first
unfoldable pub number_of : ℕ → List ℕ → ℕ
number_of B b = pack B (λ n. get_or b n 0)

-- and a number as a block
unfoldable pub block_of : ℕ → ℕ → List ℕ
block_of B x = tab B (byte_of x)

-- what stands before block i of a sealed text: the IV, then the block before
unfoldable pub before : ℕ → List ℕ → List ℕ → ℕ → List ℕ
before B iv text zero = iv
before B iv text (suc i) = block_at B text i
