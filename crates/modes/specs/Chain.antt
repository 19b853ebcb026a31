-- Chaining (document 003, section 10), over a cipher E and its inverse D on blocks of B bytes.
use Rattle.std.specs.Prelude.{List, ℕ, zero, suc, ◌+◌, ◌/◌, ◌%◌, get_or, length}
use Rattle.common.specs.Places.{tab}
use Rattle.field.specs.Xor.{xor}
use Rattle.modes.specs.Blocks.{block_at, xor_block, before}

-- 10.2: c_i; c_0 is the IV
unfoldable pub chained : ℕ → (List ℕ → List ℕ) → List ℕ → List ℕ → ℕ → List ℕ
chained B E iv text zero = iv
chained B E iv text (suc i) = E (xor_block B (chained B E iv text i) (block_at B text i))

unfoldable pub cbc : ℕ → (List ℕ → List ℕ) → List ℕ → List ℕ → List ℕ
cbc B E iv text = tab (length text) (λ n. get_or (chained B E iv text (n / B + 1)) (n % B) 0)

-- 10.3: m_i is c_(i-1) added to the opened c_i
unfoldable pub uncbc : ℕ → (List ℕ → List ℕ) → List ℕ → List ℕ → List ℕ
uncbc B D iv text =
    tab (length text) (λ n. xor (get_or (before B iv text (n / B)) (n % B) 0) (get_or (D (block_at B text (n / B))) (n % B) 0))
