-- Gammas in a cell, and a text that they are added to.
use Rattle.std.specs.Prelude.{List, ◌≡◌, ℕ, zero, suc, ◌+◌, ◌/◌, ◌%◌, ◌^◌, ◌<◌, get_or, take, drop, length}
use Rattle.common.specs.Places.{tab}
use Rattle.field.specs.Xor.{xor}
use Rattle.field.specs.Column.{byte_of}
use Rattle.words.specs.Words.{word_at, block_at}
use Rattle.modes.specs.Blocks as Text
use Rattle.modes.specs.Stream.{ofb_gamma, cfb_gamma}

-- byte n of a cell
unfoldable pub cell_byte : List ℕ → ℕ → ℕ
cell_byte s n = byte_of (word_at s (n / 8)) (n % 8)

-- what is carried into column j when x is added to the columns f 0, f 1 ..
unfoldable pub carry : (ℕ → ℕ) → ℕ → ℕ → ℕ
carry f x zero = x
carry f x (suc j) = (f j + carry f x j) / 2 ^ 64

-- column j of the sum
unfoldable pub counted : List ℕ → ℕ → ℕ → ℕ
counted e x j = (word_at e j + carry (word_at e) x j) % 2 ^ 64

-- blocks 0 to n - 1 of a cell are g 0 .. g (n - 1)
pub record Laid (c n : ℕ) (g : ℕ → List ℕ) (before after : List ℕ) : Type 0 where
  pub long : length after ≡ length before
  pub done : (i : ℕ) → i < n → block_at c after i ≡ g i

-- byte n of a text with its gamma added, as the modes define it
unfoldable pub added : ℕ → (ℕ → List ℕ) → (ℕ → ℕ) → List ℕ → ℕ → ℕ
added B gamma place text n = xor (get_or text n 0) (get_or (gamma (n / B)) (place n) 0)

-- the leading n bytes are f 0 .. f (n - 1), and the rest stays
pub record Written (f : ℕ → ℕ) (n : ℕ) (before after : List ℕ) : Type 0 where
  pub long : length after ≡ length before
  pub front : take n after ≡ tab n f
  pub back : drop n after ≡ drop n before

-- what is encrypted for block i: section 11, the gamma before; section 8, the sealed block before
unfoldable pub ofb_fed : (List ℕ → List ℕ) → List ℕ → ℕ → List ℕ
ofb_fed E iv zero = iv
ofb_fed E iv (suc i) = ofb_gamma E iv i

unfoldable pub cfb_fed : ℕ → (List ℕ → List ℕ) → List ℕ → List ℕ → ℕ → List ℕ
cfb_fed B E iv text zero = iv
cfb_fed B E iv text (suc i) = Text.xor_block B (Text.block_at B text i) (cfb_gamma B E iv text i)
