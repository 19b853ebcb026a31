-- A walk's statement determines every piece: two results that meet it are equal.
use mathlib.Core.Path.{◌≡◌, sym, ap, ◌∙◌, subst}
use mathlib.Core.List.{List}
use Prim.Native.Nat.{ℕ, ◌+◌, ◌*◌, ◌/◌, ◌%◌, ◌<◌}
use native.Mathlib.Nat.{div-add-mod, mod-lt, div-lt_iff_lt-mul, mul_comm}
use native.Mathlib.Decide.{dec_lt}
use native.Mathlib.Omega.{arith}
use lib.ListN.{get_or, length}
use lib.Seq.{ext_get_or}
use Rattle.common.proofs.Cases.{four}
use Rattle.common.proofs.Places.{get_d_tab}
use Rattle.words.specs.Words.{word_at, block_at, Walked}
use Rattle.words.proofs.Laws.{Pieces}

-- ---- the pieces of a column

low : (x p : ℕ) → p < 65536 → (x * 65536 + p) % 65536 ≡ p
low x p l = omega arith

high : (x p : ℕ) → p < 65536 → (x * 65536 + p) / 65536 ≡ x
high x p l = omega arith

-- equal columns have equal pieces
module _ (a b c d a' b' c' d' : ℕ) (lb : b < 65536) (lc : c < 65536) (ld : d < 65536) (lb' : b' < 65536) (lc' : c' < 65536) (ld' : d' < 65536)
    (e : ((a * 65536 + b) * 65536 + c) * 65536 + d ≡ ((a' * 65536 + b') * 65536 + c') * 65536 + d') where
  piece_0 : d ≡ d'
  piece_0 = sym (low ((a * 65536 + b) * 65536 + c) d ld) ∙ ap (λ x. x % 65536) e ∙ low ((a' * 65536 + b') * 65536 + c') d' ld'

  rest_1 : (a * 65536 + b) * 65536 + c ≡ (a' * 65536 + b') * 65536 + c'
  rest_1 = sym (high ((a * 65536 + b) * 65536 + c) d ld) ∙ ap (λ x. x / 65536) e ∙ high ((a' * 65536 + b') * 65536 + c') d' ld'

  piece_1 : c ≡ c'
  piece_1 = sym (low (a * 65536 + b) c lc) ∙ ap (λ x. x % 65536) rest_1 ∙ low (a' * 65536 + b') c' lc'

  rest_2 : a * 65536 + b ≡ a' * 65536 + b'
  rest_2 = sym (high (a * 65536 + b) c lc) ∙ ap (λ x. x / 65536) rest_1 ∙ high (a' * 65536 + b') c' lc'

  piece_2 : b ≡ b'
  piece_2 = sym (low a b lb) ∙ ap (λ x. x % 65536) rest_2 ∙ low a' b' lb'

  piece_3 : a ≡ a'
  piece_3 = sym (high a b lb) ∙ ap (λ x. x / 65536) rest_2 ∙ high a' b' lb'

module _ (s s' : List ℕ) (h : Pieces s) (h' : Pieces s') where
  pieces_of : (j : ℕ) → word_at s j ≡ word_at s' j → (q : ℕ) → q < 4 → get_or s (4 * j + q) 0 ≡ get_or s' (4 * j + q) 0
  unfolding word_at
  pieces_of j e =
      four (λ q. get_or s (4 * j + q) 0 ≡ get_or s' (4 * j + q) 0)
      (ap (λ n. get_or s n 0) zero_more ∙ piece_0 a b c d a' b' c' d' lb lc ld lb' lc' ld' e ∙ ap (λ n. get_or s' n 0) (sym zero_more))
      (piece_1 a b c d a' b' c' d' lb lc ld lb' lc' ld' e)
      (piece_2 a b c d a' b' c' d' lb lc ld lb' lc' ld' e)
      (piece_3 a b c d a' b' c' d' lb lc ld lb' lc' ld' e)
    where
      a : ℕ
      a = get_or s (4 * j + 3) 0

      b : ℕ
      b = get_or s (4 * j + 2) 0

      c : ℕ
      c = get_or s (4 * j + 1) 0

      d : ℕ
      d = get_or s (4 * j) 0

      a' : ℕ
      a' = get_or s' (4 * j + 3) 0

      b' : ℕ
      b' = get_or s' (4 * j + 2) 0

      c' : ℕ
      c' = get_or s' (4 * j + 1) 0

      d' : ℕ
      d' = get_or s' (4 * j) 0

      lb : b < 65536
      lb = h (4 * j + 2)

      lc : c < 65536
      lc = h (4 * j + 1)

      ld : d < 65536
      ld = h (4 * j)

      lb' : b' < 65536
      lb' = h' (4 * j + 2)

      lc' : c' < 65536
      lc' = h' (4 * j + 1)

      ld' : d' < 65536
      ld' = h' (4 * j)

      zero_more : 4 * j + 0 ≡ 4 * j
      zero_more = omega arith

  -- cells whose columns are equal are equal
  pub cells_equal : length s ≡ length s' → ((j : ℕ) → word_at s j ≡ word_at s' j) → s ≡ s'
  cells_equal l e = ext_get_or 0 s s' l (λ i hi. ap (λ n. get_or s n 0) (place i) ∙ pieces_of (i / 4) (e (i / 4)) (i % 4) (omega arith) ∙ ap (λ n. get_or s' n 0) (sym (place i)))
    where
      place : (i : ℕ) → i ≡ 4 * (i / 4) + i % 4
      place i = omega arith

-- two results of one walk are equal
pub walked_unique : (c n : ℕ) (F : List ℕ → List ℕ) (b s s' : List ℕ) → 0 < c → Pieces s → Pieces s' → Walked c n F b s → Walked c n F b s' → s ≡ s'
walked_unique c n F b s s' hc h h' w w' = cells_equal s s' h h' (w.long ∙ sym w'.long) (λ j. one j (dec_lt j (c * n)))
  where
    at : (x : List ℕ) (i k : ℕ) → k < c → get_or (block_at c x i) k 0 ≡ word_at x (c * i + k)
    at x i k l = unfold block_at in get_d_tab c (λ k. word_at x (c * i + k)) k l

    one : (j : ℕ) → Dec (j < c * n) → word_at s j ≡ word_at s' j
    one j (yes l) =
        ap (word_at s) (sym (div-add-mod j c)) ∙ sym (at s (j / c) (j % c) (mod-lt j hc)) ∙ ap (λ x. get_or x (j % c) 0) (w.done (j / c) below ∙ sym (w'.done (j / c) below))
        ∙ at s' (j / c) (j % c) (mod-lt j hc) ∙ ap (word_at s') (div-add-mod j c)
      where
        below : j / c < n
        below = (div-lt_iff_lt-mul {k = c} {x = j} {y = n} hc).1 (subst (λ x. j < x) (mul_comm c n) l)
    one j (no l) = w.kept j (omega arith) ∙ sym (w'.kept j (omega arith))
