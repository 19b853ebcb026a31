-- Walks over the blocks of a cell, and the bytes of a column in its pieces.
use mathlib.Core.Path.{◌≡◌, refl, sym, ap, ap₂, ◌∙◌, subst}
use mathlib.Core.Logic.{◌⊎◌, ⊎_elim}
use mathlib.Core.List.{List}
use Prim.Native.Nat.{ℕ, zero, suc, ◌+◌, ◌*◌, ◌/◌, ◌%◌, ◌^◌, ◌<◌, ◌≤◌}
use native.Mathlib.Nat.{div-div-eq-div-mul, mul-le-mul_left, mul-suc, not-suc-le-zero}
use native.Mathlib.Numerals.{add-one}
use native.Mathlib.Decide.{dec_lt}
use native.Mathlib.Omega.{arith}
use lib.ListN.{get_or, length}
use Rattle.common.specs.Places.{tab}
use Rattle.common.proofs.Places.{tab_ext}
use Rattle.field.specs.Column.{byte_of}
use Rattle.field.proofs.PackLaws.{byte_of_zero, byte_of_suc}
use Rattle.words.specs.Words.{word_at, put_word, put_words, block_at, Walked}
use Rattle.words.proofs.Laws.{Pieces, word_same, word_other, length_put}

-- ---- several columns put

pub length_puts : (s : List ℕ) (at n : ℕ) (f : ℕ → ℕ) → length (put_words s at n f) ≡ length s
unfolding put_words
length_puts s at zero f = refl
length_puts s at (suc n) f = length_put (put_words s at n f) (at + n) (f n) ∙ length_puts s at n f

pub puts_other : (s : List ℕ) (at n : ℕ) (f : ℕ → ℕ) (j : ℕ) → (j < at) ⊎ (at + n ≤ j) → word_at (put_words s at n f) j ≡ word_at s j
unfolding put_words
puts_other s at zero f j h = refl
puts_other s at (suc n) f j h =
    word_other (put_words s at n f) (at + n) j (f n) (λ e. ⊎_elim (λ x. omega arith) (λ x. omega arith) h)
    ∙ puts_other s at n f j (⊎_elim (λ x. ◌⊎◌.inl x) (λ x. ◌⊎◌.inr (omega arith)) h)

pub puts_at : (s : List ℕ) (at n : ℕ) (f : ℕ → ℕ) → ((k : ℕ) → k < n → f k < 2 ^ 64) → 4 * (at + n) ≤ length s → (k : ℕ) → k < n → word_at (put_words s at n f) (at + k) ≡ f k
unfolding put_words
puts_at s at zero f h r k l = absurd (not-suc-le-zero l)
puts_at s at (suc n) f h r k l = go (dec_lt k n) (puts_at s at n f (λ i li. h i (omega arith)) (omega arith) k)
  where
    go : Dec (k < n) → (k < n → word_at (put_words s at n f) (at + k) ≡ f k) → word_at (put_word (put_words s at n f) (at + n) (f n)) (at + k) ≡ f k
    go (yes q) ih = word_other (put_words s at n f) (at + n) (at + k) (f n) (λ e. omega arith) ∙ ih q
    go (no q) ih = last (omega arith)
      where
        last : k ≡ n → word_at (put_word (put_words s at n f) (at + n) (f n)) (at + k) ≡ f k
        last e =
            ap (λ i. word_at (put_word (put_words s at n f) (at + n) (f n)) (at + i)) e
            ∙ word_same (put_words s at n f) (at + n) (f n) (subst (λ x. 4 * (at + n) + 4 ≤ x) (sym (length_puts s at n f)) (omega arith)) (h n (omega arith))
            ∙ ap f (sym e)

-- one more column
pub puts_more : (s₀ s s' : List ℕ) (w j : ℕ) (f : ℕ → ℕ) (v : ℕ) → s ≡ put_words s₀ w j f → s' ≡ put_word s (w + j) v → v ≡ f j → s' ≡ put_words s₀ w (j + 1) f
unfolding put_words
puts_more s₀ s s' w j f v e r q = r ∙ ap₂ (λ (l : List ℕ) (x : ℕ). put_word l (w + j) x) e q ∙ ap (λ n. put_words s₀ w n f) (sym (add-one j))

-- the column that is next stands as it did
pub puts_next : (s₀ s : List ℕ) (w j : ℕ) (f : ℕ → ℕ) → s ≡ put_words s₀ w j f → word_at s (w + j) ≡ word_at s₀ (w + j)
puts_next s₀ s w j f e = ap (λ l. word_at l (w + j)) e ∙ puts_other s₀ w j f (w + j) (◌⊎◌.inr (omega arith))

-- ---- walks

pub block_ext : (c : ℕ) (s s' : List ℕ) (i : ℕ) → ((j : ℕ) → j < c → word_at s (c * i + j) ≡ word_at s' (c * i + j)) → block_at c s i ≡ block_at c s' i
unfolding block_at
block_ext c s s' i h = tab_ext c _ _ h

pub walk_none : (c : ℕ) (F : List ℕ → List ℕ) (s : List ℕ) → Walked c 0 F s s
walk_none c F s = record { long = refl; done = λ i l. absurd (not-suc-le-zero l); kept = λ j l. refl }

before : (c k i j : ℕ) → k < i → j < c → c * k + j < c * i
before c k i j l h = omega (arith, mul-le-mul_left c l, mul-suc c k)

-- one more block
pub walk_more : (c i : ℕ) (F : List ℕ → List ℕ) (s₀ s s' : List ℕ) (f : ℕ → ℕ) → Walked c i F s₀ s → 4 * (c * i + c) ≤ length s₀ → s' ≡ put_words s (c * i) c f
    → ((k : ℕ) → k < c → f k < 2 ^ 64) → tab c f ≡ F (block_at c s i) → Walked c (i + 1) F s₀ s'
walk_more c i F s₀ s s' f w r e h q =
    record {
      long = ap length e ∙ length_puts s (c * i) c f ∙ w.long;
      done = λ k l. one k (dec_lt k i) l;
      kept = λ j l. other j (◌⊎◌.inr (next j l)) ∙ w.kept j (omega (arith, next j l));
    }
  where
    next : (j : ℕ) → c * (i + 1) ≤ j → c * i + c ≤ j
    next j l = subst (λ x. x ≤ j) (ap (λ x. c * x) (add-one i) ∙ mul-suc c i) l

    other : (j : ℕ) → (j < c * i) ⊎ (c * i + c ≤ j) → word_at s' j ≡ word_at s j
    other j x = ap (λ y. word_at y j) e ∙ puts_other s (c * i) c f j x

    one : (k : ℕ) → Dec (k < i) → k < i + 1 → block_at c s' k ≡ F (block_at c s₀ k)
    one k (yes l) m = block_ext c s' s k (λ j hj. other (c * k + j) (◌⊎◌.inl (before c k i j l hj))) ∙ w.done k l
    one k (no l) m =
        ap (block_at c s') k_is ∙ fresh ∙ q ∙ ap F (block_ext c s s₀ i (λ j hj. w.kept (c * i + j) (omega arith))) ∙ ap (λ n. F (block_at c s₀ n)) (sym k_is)
      where
        k_is : k ≡ i
        k_is = omega arith

        fresh : block_at c s' i ≡ tab c f
        fresh = unfold block_at in tab_ext c (λ j. word_at s' (c * i + j)) f (λ j hj. ap (λ y. word_at y (c * i + j)) e ∙ puts_at s (c * i) c f h (subst (λ x. 4 * (c * i + c) ≤ x) (sym w.long) r) j hj)

-- one walk after another
pub walk_then : (c n : ℕ) (F G : List ℕ → List ℕ) (s s' s'' : List ℕ) → Walked c n F s s' → Walked c n G s' s'' → Walked c n (λ x. G (F x)) s s''
walk_then c n F G s s' s'' a b =
    record { long = b.long ∙ a.long; done = λ i l. b.done i l ∙ ap G (a.done i l); kept = λ j l. b.kept j l ∙ a.kept j l }

-- what F makes of the blocks that are there
pub walk_as : (c n : ℕ) (F G : List ℕ → List ℕ) (s s' : List ℕ) → ((i : ℕ) → i < n → F (block_at c s i) ≡ G (block_at c s i)) → Walked c n F s s' → Walked c n G s s'
walk_as c n F G s s' h a = record { long = a.long; done = λ i l. a.done i l ∙ h i l; kept = a.kept }

-- ---- the bytes of a column

piece_0 : (x p : ℕ) → byte_of (x * 65536 + p) 0 ≡ p % 256
piece_0 x p = byte_of_zero (x * 65536 + p) ∙ e
  where
    e : (x * 65536 + p) % 256 ≡ p % 256
    e = omega arith

piece_1 : (x p : ℕ) → p < 65536 → byte_of (x * 65536 + p) 1 ≡ p / 256
piece_1 x p h = byte_of_suc (x * 65536 + p) 0 ∙ byte_of_zero ((x * 65536 + p) / 256) ∙ e
  where
    e : (x * 65536 + p) / 256 % 256 ≡ p / 256
    e = omega arith

piece_skip : (x p i : ℕ) → p < 65536 → byte_of (x * 65536 + p) (suc (suc i)) ≡ byte_of x i
piece_skip x p i h = byte_of_suc (x * 65536 + p) (suc i) ∙ byte_of_suc ((x * 65536 + p) / 256) i ∙ ap (λ y. byte_of y i) (div-div-eq-div-mul (x * 65536 + p) 256 256 ∙ e)
  where
    e : (x * 65536 + p) / 65536 ≡ x
    e = omega arith

module _ (s : List ℕ) (j : ℕ) (h : Pieces s) where
  pub low_0 : (n : ℕ) → n ≡ 4 * j → byte_of (word_at s j) 0 ≡ get_or s n 0 % 256
  unfolding word_at
  low_0 n e = piece_0 _ (get_or s (4 * j) 0) ∙ ap (λ m. get_or s m 0 % 256) (sym e)

  pub high_0 : (n : ℕ) → n ≡ 4 * j → byte_of (word_at s j) 1 ≡ get_or s n 0 / 256
  unfolding word_at
  high_0 n e = piece_1 _ (get_or s (4 * j) 0) (h (4 * j)) ∙ ap (λ m. get_or s m 0 / 256) (sym e)

  pub low_1 : (n : ℕ) → n ≡ 4 * j + 1 → byte_of (word_at s j) 2 ≡ get_or s n 0 % 256
  unfolding word_at
  low_1 n e = piece_skip _ (get_or s (4 * j) 0) 0 (h (4 * j)) ∙ piece_0 _ (get_or s (4 * j + 1) 0) ∙ ap (λ m. get_or s m 0 % 256) (sym e)

  pub high_1 : (n : ℕ) → n ≡ 4 * j + 1 → byte_of (word_at s j) 3 ≡ get_or s n 0 / 256
  unfolding word_at
  high_1 n e = piece_skip _ (get_or s (4 * j) 0) 1 (h (4 * j)) ∙ piece_1 _ (get_or s (4 * j + 1) 0) (h (4 * j + 1)) ∙ ap (λ m. get_or s m 0 / 256) (sym e)

  pub low_2 : (n : ℕ) → n ≡ 4 * j + 2 → byte_of (word_at s j) 4 ≡ get_or s n 0 % 256
  unfolding word_at
  low_2 n e =
      piece_skip _ (get_or s (4 * j) 0) 2 (h (4 * j)) ∙ piece_skip _ (get_or s (4 * j + 1) 0) 0 (h (4 * j + 1)) ∙ piece_0 _ (get_or s (4 * j + 2) 0)
      ∙ ap (λ m. get_or s m 0 % 256) (sym e)

  pub high_2 : (n : ℕ) → n ≡ 4 * j + 2 → byte_of (word_at s j) 5 ≡ get_or s n 0 / 256
  unfolding word_at
  high_2 n e =
      piece_skip _ (get_or s (4 * j) 0) 3 (h (4 * j)) ∙ piece_skip _ (get_or s (4 * j + 1) 0) 1 (h (4 * j + 1)) ∙ piece_1 _ (get_or s (4 * j + 2) 0) (h (4 * j + 2))
      ∙ ap (λ m. get_or s m 0 / 256) (sym e)

  top : byte_of (word_at s j) 6 ≡ byte_of (get_or s (4 * j + 3) 0) 0
  unfolding word_at
  top =
      piece_skip _ (get_or s (4 * j) 0) 4 (h (4 * j)) ∙ piece_skip _ (get_or s (4 * j + 1) 0) 2 (h (4 * j + 1)) ∙ piece_skip _ (get_or s (4 * j + 2) 0) 0 (h (4 * j + 2))

  pub low_3 : (n : ℕ) → n ≡ 4 * j + 3 → byte_of (word_at s j) 6 ≡ get_or s n 0 % 256
  low_3 n e = top ∙ byte_of_zero (get_or s (4 * j + 3) 0) ∙ ap (λ m. get_or s m 0 % 256) (sym e)

  pub high_3 : (n : ℕ) → n ≡ 4 * j + 3 → byte_of (word_at s j) 7 ≡ get_or s n 0 / 256
  unfolding word_at
  high_3 n e =
      piece_skip _ (get_or s (4 * j) 0) 5 (h (4 * j)) ∙ piece_skip _ (get_or s (4 * j + 1) 0) 3 (h (4 * j + 1)) ∙ piece_skip _ (get_or s (4 * j + 2) 0) 1 (h (4 * j + 2))
      ∙ byte_of_suc (get_or s (4 * j + 3) 0) 0 ∙ byte_of_zero (get_or s (4 * j + 3) 0 / 256) ∙ last (get_or s (4 * j + 3) 0) (h (4 * j + 3)) ∙ ap (λ m. get_or s m 0 / 256) (sym e)
    where
      last : (p : ℕ) → p < 65536 → p / 256 % 256 ≡ p / 256
      last p l = omega arith

-- a column of pieces is below 2^64
pub word_lt : (s : List ℕ) (j : ℕ) → Pieces s → word_at s j < 2 ^ 64
unfolding word_at
word_lt s j h = bound (get_or s (4 * j + 3) 0) (get_or s (4 * j + 2) 0) (get_or s (4 * j + 1) 0) (get_or s (4 * j) 0) (h (4 * j + 3)) (h (4 * j + 2)) (h (4 * j + 1)) (h (4 * j))
  where
    bound : (a b c d : ℕ) → a < 65536 → b < 65536 → c < 65536 → d < 65536 → ((a * 65536 + b) * 65536 + c) * 65536 + d < 2 ^ 64
    bound a b c d la lb lc ld = omega arith
