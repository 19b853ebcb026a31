-- A loop that replaces the columns of a block one by one, each by what stood there and its place.
use Rattle.std.proofs.Common.{◌≡◌, ℕ, ◌+◌, ◌-◌, ◌*◌, ◌%◌, ◌^◌, ◌<◌, ◌≤◌, List, length, get_or, sym, ap, ◌∙◌, mod-lt, mul-le-mul_left, mul-suc, add-one, arith}
use Rattle.common.specs.Places.{tab}
use Rattle.common.proofs.Places.{get_d_tab, tab_ext}
use Rattle.words.specs.Words.{word_at, put_words, block_at, Walked}
use Rattle.words.proofs.Walks.{walk_more}
use Rattle.kalyna.specs.Round.{add_key, sub_key}
use Rattle.rounds.specs.Rounds.{key_at}

-- room for block i of n
pub room : (c i n l : ℕ) → i < n → 4 * (c * n) ≤ l → 4 * (c * i + c) ≤ l
room c i n l h r = omega (arith, mul-le-mul_left c h, mul-suc c i)

pub next_block : (c i w : ℕ) → w ≡ c * i → w + c ≡ c * (i + 1)
next_block c i w e = ap (λ x. x + c) e ∙ sym (mul-suc c i) ∙ ap (λ x. c * x) (sym (add-one i))

-- column j of block i
pub block_column : (c : ℕ) (s : List ℕ) (i j : ℕ) → j < c → get_or (block_at c s i) j 0 ≡ word_at s (c * i + j)
unfolding block_at
block_column c s i j l = get_d_tab c (λ j. word_at s (c * i + j)) j l

-- one more block: g makes of block i what F says
pub block_more : (c i : ℕ) (F : List ℕ → List ℕ) (s₀ s s' : List ℕ) (g : ℕ → ℕ → ℕ) (w : ℕ) → Walked c i F s₀ s → 4 * (c * i + c) ≤ length s₀ → w ≡ c * i
    → s' ≡ put_words s w c (λ j. g (word_at s (w + j)) j) → ((x j : ℕ) → g x j < 2 ^ 64) → ((b : List ℕ) → tab c (λ j. g (get_or b j 0) j) ≡ F b) → Walked c (i + 1) F s₀ s'
block_more c i F s₀ s s' g w a r ew e h q =
    walk_more c i F s₀ s s' (λ j. g (word_at s (c * i + j)) j) a r (e ∙ ap (λ n. put_words s n c (λ j. g (word_at s (n + j)) j)) ew) (λ k l. h _ k)
    (tab_ext c _ _ (λ j l. ap (λ x. g x j) (sym (block_column c s i j l))) ∙ q (block_at c s i))

pub added : (c : ℕ) (ks : List ℕ) (at : ℕ) (b : List ℕ) → tab c (λ j. (get_or b j 0 + get_or ks (at + j) 0) % 2 ^ 64) ≡ add_key c (key_at c ks at) b
unfolding add_key key_at
added c ks at b = tab_ext c _ _ (λ j l. ap (λ x. (get_or b j 0 + x) % 2 ^ 64) (sym (get_d_tab c (λ j. get_or ks (at + j) 0) j l)))

pub subtracted : (c : ℕ) (ks : List ℕ) (at : ℕ) (b : List ℕ) → tab c (λ j. (get_or b j 0 + 2 ^ 64 - get_or ks (at + j) 0 % 2 ^ 64) % 2 ^ 64) ≡ sub_key c (key_at c ks at) b
unfolding sub_key key_at
subtracted c ks at b = tab_ext c _ _ (λ j l. ap (λ x. (get_or b j 0 + 2 ^ 64 - x % 2 ^ 64) % 2 ^ 64) (sym (get_d_tab c (λ j. get_or ks (at + j) 0) j l)))

pub below : (x : ℕ) → x % 2 ^ 64 < 2 ^ 64
below x = mod-lt x (omega arith)

-- a difference that wraps
pub sub_is : (b a r : ℕ) → (r + b) % 2 ^ 64 ≡ a → b < 2 ^ 64 → r < 2 ^ 64 → r ≡ (a + 2 ^ 64 - b % 2 ^ 64) % 2 ^ 64
sub_is b a r e hb hr = omega arith
