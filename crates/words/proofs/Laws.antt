-- Columns in pieces: what is put is read, and nothing else changes; bytes of a column are halves of its pieces.
use mathlib.Core.Path.{◌≡◌, refl, sym, ap, ap₂, ◌∙◌}
use mathlib.Core.Logic.{◌⊎◌, ⊎_elim}
use mathlib.Core.List.{List, [], ◌∷◌}
use Prim.Native.Nat.{ℕ, ◌+◌, ◌*◌, ◌/◌, ◌%◌, ◌^◌, ◌<◌, ◌≤◌}
use native.Mathlib.Nat.{div-div-eq-div-mul, div-add-mod', div-lt_iff_lt-mul, mod-eq_of_lt}
use native.Mathlib.Numerals.{towards_suc}
use native.Mathlib.Decide.{dec_lt}
use native.Mathlib.Omega.{arith}
use lib.ListN.{get_or, length, set, length-set}
use lib.Seq.{sets, length-sets, get_or-set_same, get_or-set_other}
use Rattle.words.specs.Words.{word_at, pieces, put_word}

-- every piece is of 16 bits
abbrev pub Pieces : List ℕ → Type 0
Pieces s = (i : ℕ) → get_or s i 0 < 65536

-- ---- stores

-- four stores, one after another
pub sets_four : (l : List ℕ) (at a b c d : ℕ) → set (set (set (set l at a) (at + 1) b) (at + 2) c) (at + 3) d ≡ sets l at (a ∷ b ∷ c ∷ d ∷ [])
sets_four l at a b c d = simp towards_suc

-- what stands at a place after four stores
module _ (l : List ℕ) (n a b c d : ℕ) where
  s₁ : List ℕ
  s₁ = set l n a

  s₂ : List ℕ
  s₂ = set (set l n a) (n + 1) b

  s₃ : List ℕ
  s₃ = set (set (set l n a) (n + 1) b) (n + 2) c

  into : (k : ℕ) → get_or (sets l n (a ∷ b ∷ c ∷ d ∷ [])) k 0 ≡ get_or (set s₃ (n + 3) d) k 0
  unfolding s₃
  into k = ap (λ x. get_or x k 0) (sym (sets_four l n a b c d))

  past_3 : (k : ℕ) → (k ≡ n + 3 → ⊥) → get_or (sets l n (a ∷ b ∷ c ∷ d ∷ [])) k 0 ≡ get_or s₃ k 0
  past_3 k h = into k ∙ get_or-set_other s₃ (n + 3) k d 0 h

  past_2 : (k : ℕ) → (k ≡ n + 3 → ⊥) → (k ≡ n + 2 → ⊥) → get_or (sets l n (a ∷ b ∷ c ∷ d ∷ [])) k 0 ≡ get_or s₂ k 0
  unfolding s₂ s₃
  past_2 k h g = past_3 k h ∙ get_or-set_other s₂ (n + 2) k c 0 g

  past_1 : (k : ℕ) → (k ≡ n + 3 → ⊥) → (k ≡ n + 2 → ⊥) → (k ≡ n + 1 → ⊥) → get_or (sets l n (a ∷ b ∷ c ∷ d ∷ [])) k 0 ≡ get_or s₁ k 0
  unfolding s₁ s₂
  past_1 k h g f = past_2 k h g ∙ get_or-set_other s₁ (n + 1) k b 0 f

  at_none : (k : ℕ) → (k < n) ⊎ (n + 4 ≤ k) → get_or (sets l n (a ∷ b ∷ c ∷ d ∷ [])) k 0 ≡ get_or l k 0
  unfolding s₁
  at_none k h = past_1 k (away 3 (omega arith)) (away 2 (omega arith)) (away 1 (omega arith)) ∙ get_or-set_other l n k a 0 away_0
    where
      away : (m : ℕ) → m < 4 → k ≡ n + m → ⊥
      away m q e = ⊎_elim (λ x. omega arith) (λ x. omega arith) h

      away_0 : k ≡ n → ⊥
      away_0 e = ⊎_elim (λ x. omega arith) (λ x. omega arith) h

  at_0 : n + 4 ≤ length l → get_or (sets l n (a ∷ b ∷ c ∷ d ∷ [])) n 0 ≡ a
  unfolding s₁
  at_0 h = past_1 n (λ e. omega arith) (λ e. omega arith) (λ e. omega arith) ∙ get_or-set_same l n a 0 (omega arith)

  at_1 : n + 4 ≤ length l → get_or (sets l n (a ∷ b ∷ c ∷ d ∷ [])) (n + 1) 0 ≡ b
  unfolding s₁ s₂
  at_1 h = past_2 (n + 1) (λ e. omega arith) (λ e. omega arith) ∙ get_or-set_same s₁ (n + 1) b 0 (simp length-set (omega arith))

  at_2 : n + 4 ≤ length l → get_or (sets l n (a ∷ b ∷ c ∷ d ∷ [])) (n + 2) 0 ≡ c
  unfolding s₁ s₂ s₃
  at_2 h = past_3 (n + 2) (λ e. omega arith) ∙ get_or-set_same s₂ (n + 2) c 0 (simp length-set (omega arith))

  at_3 : n + 4 ≤ length l → get_or (sets l n (a ∷ b ∷ c ∷ d ∷ [])) (n + 3) 0 ≡ d
  unfolding s₁ s₂ s₃
  at_3 h = into (n + 3) ∙ get_or-set_same s₃ (n + 3) d 0 (simp length-set (omega arith))

-- the pieces make the word again
word_pieces : (w : ℕ) → w < 2 ^ 64 → ((w / 281474976710656 % 65536 * 65536 + w / 4294967296 % 65536) * 65536 + w / 65536 % 65536) * 65536 + w % 65536 ≡ w
word_pieces w h =
    ap (λ x. x * 65536 + w % 65536)
    (ap (λ x. x * 65536 + w / 65536 % 65536)
    (ap (λ x. x * 65536 + w / 4294967296 % 65536) top ∙ ap (λ x. x * 65536 + w / 4294967296 % 65536) (sym (div-div-eq-div-mul w 4294967296 65536)) ∙ div-add-mod' (w / 4294967296) 65536
    ∙ sym (div-div-eq-div-mul w 65536 65536))
    ∙ div-add-mod' (w / 65536) 65536)
    ∙ div-add-mod' w 65536
  where
    top : w / 281474976710656 % 65536 ≡ w / 281474976710656
    top = mod-eq_of_lt ((div-lt_iff_lt-mul {k = 281474976710656} {x = w} {y = 65536} (omega arith)).1 h)

-- the same column
pub word_same : (s : List ℕ) (j w : ℕ) → 4 * j + 4 ≤ length s → w < 2 ^ 64 → word_at (put_word s j w) j ≡ w
unfolding word_at put_word pieces
word_same s j w h l =
    ap₂ (λ (x y : ℕ). x * 65536 + y)
    (ap₂ (λ (x y : ℕ). x * 65536 + y) (ap₂ (λ (x y : ℕ). x * 65536 + y) (at_3 s (4 * j) _ _ _ _ h) (at_2 s (4 * j) _ _ _ _ h)) (at_1 s (4 * j) _ _ _ _ h))
    (at_0 s (4 * j) _ _ _ _ h)
    ∙ word_pieces w l

-- another column
pub word_other : (s : List ℕ) (j k w : ℕ) → (k ≡ j → ⊥) → word_at (put_word s j w) k ≡ word_at s k
unfolding word_at put_word pieces
word_other s j k w n =
    ap₂ (λ (x y : ℕ). x * 65536 + y)
    (ap₂ (λ (x y : ℕ). x * 65536 + y) (ap₂ (λ (x y : ℕ). x * 65536 + y) (one 3 (omega arith)) (one 2 (omega arith))) (one 1 (omega arith)))
    (at_none s (4 * j) _ _ _ _ (4 * k) (side 0 (omega arith) (4 * k) (omega arith)))
  where
    side : (q : ℕ) → q < 4 → (x : ℕ) → x ≡ 4 * k + q → (x < 4 * j) ⊎ (4 * j + 4 ≤ x)
    side q lq x e = go (dec_lt k j)
      where
        go : Dec (k < j) → (x < 4 * j) ⊎ (4 * j + 4 ≤ x)
        go (yes l) = ◌⊎◌.inl (omega arith)
        go (no l) = ◌⊎◌.inr (omega arith)

    one : (q : ℕ) → q < 4 → get_or (sets s (4 * j) (pieces w)) (4 * k + q) 0 ≡ get_or s (4 * k + q) 0
    one q lq = at_none s (4 * j) _ _ _ _ (4 * k + q) (side q lq (4 * k + q) refl)

pub length_put : (s : List ℕ) (j w : ℕ) → length (put_word s j w) ≡ length s
unfolding put_word
length_put s j w = length-sets s (4 * j) (pieces w)
