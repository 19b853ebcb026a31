-- Values stored one after another, and keys stored at every second place.
use Rattle.std.specs.Prelude.{◌⊎◌, List, ◌≡◌, ℕ, ◌+◌, ◌*◌, ◌%◌, ◌^◌, ◌<◌, ◌≤◌, get_or, length}
use Rattle.words.specs.Words.{word_at, put_words, block_at}
use Rattle.kalyna.specs.Round.{add_key}
use Rattle.kalyna.specs.Keys.{constant, even_input}
use Rattle.blocks.specs.Blocks.{keys_of}

-- f 0 .. f (n - 1) stand from place at on, and every other place is as it was
pub record Stored (at n : ℕ) (f : ℕ → ℕ) (before after : List ℕ) : Type 0 where
  pub long : length after ≡ length before
  pub done : (j : ℕ) → j < n → get_or after (at + j) 0 ≡ f j
  pub kept : (m : ℕ) → (m < at) ⊎ (at + n ≤ m) → get_or after m 0 ≡ get_or before m 0

-- of the keys, c columns each, key 2 e + p is K e for e below n, and every other key is as it was
pub record Spread (c p n : ℕ) (K : ℕ → List ℕ) (before after : List ℕ) : Type 0 where
  pub long : length after ≡ length before
  pub done : (e : ℕ) → e < n → keys_of c after (2 * e + p) ≡ K e
  pub kept : (v : ℕ) → ((e : ℕ) → e < n → v ≡ 2 * e + p → ⊥) → keys_of c after v ≡ keys_of c before v

-- of n blocks of c columns, each is replaced by what F makes of it and of its number
pub record Laned (c n : ℕ) (F : ℕ → List ℕ → List ℕ) (before after : List ℕ) : Type 0 where
  pub long : length after ≡ length before
  pub done : (e : ℕ) → e < n → block_at c after e ≡ F e (block_at c before e)

-- document 003, 6.5.2: lane e of a is the helper key h and the constant added, and lane e of s what enters even index 2 e, with that added
pub record Lanes (c kc n : ℕ) (k h a s : List ℕ) : Type 0 where
  pub addend : (e : ℕ) → e < n → keys_of c a e ≡ add_key c (constant c e) h
  pub input : (e : ℕ) → e < n → block_at c s e ≡ add_key c (keys_of c a e) (even_input c kc k e)

-- the lane from column w on: in a the addends, h and g added; in s the key k turned by u columns, and those added
pub record Lane (c kc : ℕ) (k h : List ℕ) (w u g : ℕ) (a a' s s' : List ℕ) : Type 0 where
  pub addends : Stored w c (λ j. (word_at h j + g) % 2 ^ 64) a a'
  pub inputs : s' ≡ put_words s w c (λ j. (get_or k ((j + u) % kc) 0 + (word_at h j + g) % 2 ^ 64) % 2 ^ 64)
