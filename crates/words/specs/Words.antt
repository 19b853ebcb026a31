-- A cell in 16-bit pieces, low piece first: column j is pieces 4 j to 4 j + 3, block i is columns c i to c i + c - 1.
use Rattle.std.specs.Prelude.{List, [], ◌∷◌, ◌≡◌, ℕ, zero, suc, ◌+◌, ◌*◌, ◌/◌, ◌%◌, ◌<◌, ◌≤◌, get_or, length}
use Rattle.std.proofs.lemmas.List.Edits.{sets}
use Rattle.common.specs.Places.{tab}

-- column j
unfoldable pub word_at : List ℕ → ℕ → ℕ
word_at s j = ((get_or s (4 * j + 3) 0 * 65536 + get_or s (4 * j + 2) 0) * 65536 + get_or s (4 * j + 1) 0) * 65536 + get_or s (4 * j) 0

-- the four pieces of a column
unfoldable pub pieces : ℕ → List ℕ
pieces w = w % 65536 ∷ w / 65536 % 65536 ∷ w / 4294967296 % 65536 ∷ w / 281474976710656 % 65536 ∷ []

-- column j replaced
unfoldable pub put_word : List ℕ → ℕ → ℕ → List ℕ
put_word s j w = sets s (4 * j) (pieces w)

-- n columns replaced, from column at on
unfoldable pub put_words : List ℕ → ℕ → ℕ → (ℕ → ℕ) → List ℕ
put_words s at zero f = s
put_words s at (suc n) f = put_word (put_words s at n f) (at + n) (f n)

-- block i of c columns
unfoldable pub block_at : ℕ → List ℕ → ℕ → List ℕ
block_at c s i = tab c (λ j. word_at s (c * i + j))

-- a walk over n blocks of c columns: each is replaced by what F makes of it, and every other column stays
pub record Walked (c n : ℕ) (F : List ℕ → List ℕ) (before after : List ℕ) : Type 0 where
  pub long : length after ≡ length before
  pub done : (i : ℕ) → i < n → block_at c after i ≡ F (block_at c before i)
  pub kept : (j : ℕ) → c * n ≤ j → word_at after j ≡ word_at before j
