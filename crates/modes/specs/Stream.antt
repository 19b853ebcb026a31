-- Modes that add a gamma to the text (document 003, sections 7, 8 and 11), over a cipher E on blocks of B bytes.
use Rattle.std.specs.Prelude.{List, ℕ, zero, suc, ◌+◌, ◌-◌, ◌*◌, ◌/◌, ◌%◌, ◌^◌, min, get_or, length}
use Rattle.common.specs.Places.{tab}
use Rattle.field.specs.Xor.{xor}
use Rattle.modes.specs.Blocks.{block_at, xor_block, number_of, block_of, before}

-- byte n of the text takes the byte of its block's gamma that stands at place n
unfoldable pub add_gamma : ℕ → (ℕ → List ℕ) → (ℕ → ℕ) → List ℕ → List ℕ
add_gamma B gamma place text = tab (length text) (λ n. xor (get_or text n 0) (get_or (gamma (n / B)) (place n) 0))

-- L of sections 7 and 11: a short last block takes the front of its gamma
unfoldable pub front : ℕ → ℕ → ℕ
front B n = n % B

-- R of section 8: a short last block takes the last bytes of its gamma; the text has `long` bytes
unfoldable pub rear : ℕ → ℕ → ℕ → ℕ
rear B long n = B - min B (long - n / B * B) + n % B

-- section 7, document 01 section 4: the encrypted IV as a number, plus i modulo 2^(block bits)
unfoldable pub counter : ℕ → List ℕ → ℕ → ℕ
counter B s i = (number_of B s + i) % 256 ^ B

-- section 7: the gamma of block i, whose number in the section is i + 1
unfoldable pub ctr_gamma : ℕ → (List ℕ → List ℕ) → List ℕ → ℕ → List ℕ
ctr_gamma B E iv i = E (block_of B (counter B (E iv) (i + 1)))

unfoldable pub ctr : ℕ → (List ℕ → List ℕ) → List ℕ → List ℕ → List ℕ
ctr B E iv text = add_gamma B (ctr_gamma B E iv) (front B) text

-- section 11: the gamma is encrypted anew for each block
unfoldable pub ofb_gamma : (List ℕ → List ℕ) → List ℕ → ℕ → List ℕ
ofb_gamma E iv zero = E iv
ofb_gamma E iv (suc i) = E (ofb_gamma E iv i)

unfoldable pub ofb : ℕ → (List ℕ → List ℕ) → List ℕ → List ℕ → List ℕ
ofb B E iv text = add_gamma B (ofb_gamma E iv) (front B) text

-- section 8 with feedback of a whole block: the encrypted IV, then the encrypted block of the sealed text
unfoldable pub cfb_gamma : ℕ → (List ℕ → List ℕ) → List ℕ → List ℕ → ℕ → List ℕ
cfb_gamma B E iv text zero = E iv
cfb_gamma B E iv text (suc i) = E (xor_block B (block_at B text i) (cfb_gamma B E iv text i))

unfoldable pub cfb : ℕ → (List ℕ → List ℕ) → List ℕ → List ℕ → List ℕ
cfb B E iv text = add_gamma B (cfb_gamma B E iv text) (rear B (length text)) text

-- 8.3: the sealed text is at hand
unfoldable pub uncfb_gamma : ℕ → (List ℕ → List ℕ) → List ℕ → List ℕ → ℕ → List ℕ
uncfb_gamma B E iv text i = E (before B iv text i)

unfoldable pub uncfb : ℕ → (List ℕ → List ℕ) → List ℕ → List ℕ → List ℕ
uncfb B E iv text = add_gamma B (uncfb_gamma B E iv text) (rear B (length text)) text
