-- Blocks looked up, and what a walk's round is in the standard's words.
use mathlib.Core.Path.{◌≡◌, sym, ap, ap₂, ◌∙◌, subst}
use mathlib.Core.List.{List, [], ◌∷◌}
use Prim.Native.Nat.{ℕ, ◌+◌, ◌-◌, ◌*◌, ◌/◌, ◌%◌, ◌^◌, ◌<◌}
use native.Mathlib.Nat.{mod-lt, mod-eq_of_lt}
use native.Mathlib.Decide.{dec_lt}
use native.Mathlib.Omega.{arith}
use lib.ListN.{get_or, take, length}
use Rattle.std.proofs.lemmas.List.{take_all}
use Rattle.common.specs.Places.{tab}
use Rattle.common.proofs.Cases.{eight}
use Rattle.common.proofs.Places.{get_d_tab, tab_ext}
use Rattle.field.specs.Xor.{xor}
use Rattle.field.specs.Column.{byte_of}
use Rattle.field.proofs.XorLaws as X
use Rattle.field.proofs.PackLaws.{byte_of_lt}
use Rattle.lookup.specs.Table.{gather, seal_table, open_table}
use Rattle.lookup.proofs.Laws.{gather_ext, gather_seal, gather_open}
use Rattle.words.specs.Words.{word_at, block_at}
use Rattle.words.proofs.Laws.{Pieces}
use Rattle.words.proofs.Walks.{low_0, low_1, low_2, low_3, high_0, high_1, high_2, high_3}
use Rattle.kalyna.specs.Round.{xor_key, from, to, ssm, unmix}
use Rattle.kalyna.specs.Block.{moves}
use Rattle.kalyna.proofs.Rows.{ssm_at, back, unmix_back_at}
use Rattle.rounds.specs.Rounds.{looked, seal_places, open_places, key_at, round_of}

-- ---- places

-- row i moves by less than c
moved : (c i : ℕ) → 0 < c → i < 8 → (i * (64 * c) / 512 ≡ i * c / 8) × (i * c / 8 < c)
moved c i h l = eight (λ i. (i * (64 * c) / 512 ≡ i * c / 8) × (i * c / 8 < c)) (omega arith, omega arith) (omega arith, omega arith) (omega arith, omega arith) (omega arith, omega arith) (omega arith, omega arith) (omega arith, omega arith) (omega arith, omega arith) (omega arith, omega arith) i l

pub seal_place : (c i j : ℕ) → i < 8 → j < c → ((j + c - i * c / 8) % c ≡ seal_places c i j) × ((j + c - i * c / 8) % c < c)
unfolding seal_places from moves
seal_place c i j l h = (ap (λ x. x % c) same, mod-lt _ some)
  where
    some : 0 < c
    some = omega arith

    same : j + c - i * c / 8 ≡ j + (c - i * (64 * c) / 512 % c)
    same = omega (arith, (moved c i some l).1, (ap (λ x. x % c) (moved c i some l).0 ∙ mod-eq_of_lt (moved c i some l).1))

pub open_place : (c i j : ℕ) → i < 8 → j < c → ((j + i * c / 8) % c ≡ open_places c i j) × ((j + i * c / 8) % c < c)
unfolding open_places to moves
open_place c i j l h = (ap (λ x. (j + x) % c) (sym (moved c i (omega arith) l).0), mod-lt _ (omega arith))

-- ---- columns

-- a list that is filled to its end
pub filled : (n k : ℕ) (f : ℕ → ℕ) (o : List ℕ) → length o ≡ n → k ≡ n → take k o ≡ tab k f → o ≡ tab n f
filled n k f o h q e = sym (take_all k o (omega arith)) ∙ e ∙ ap (λ k. tab k f) q

-- one more value of 64 bits
pub fits_next : (f : ℕ → ℕ) (n v : ℕ) → ((k : ℕ) → k < n → f k < 2 ^ 64) → v < 2 ^ 64 → v ≡ f n → (k : ℕ) → k < n + 1 → f k < 2 ^ 64
fits_next f n v h l e k m = go (dec_lt k n)
  where
    go : Dec (k < n) → f k < 2 ^ 64
    go (yes q) = h k q
    go (no q) = subst (λ x. x < 2 ^ 64) (e ∙ ap f is) l
      where
        is : n ≡ k
        is = omega arith

-- a column, from the pieces of the columns that its rows come from
module _ (s : List ℕ) (c b : ℕ) (h : Pieces s) where
  abbrev pub piece_of : ℕ → List ℕ
  piece_of q = tab c (λ k. get_or s (4 * (c * b + k) + q) 0)

  at_place : (q i r k : ℕ) (f : ℕ → ℕ) → r ≡ k → r < c → f (get_or s (4 * (c * b + r) + q) 0) ≡ byte_of (word_at s (c * b + r)) i
      → (p : List ℕ) → p ≡ piece_of q → f (get_or p r 0) ≡ byte_of (get_or (block_at c s b) k 0) i
  unfolding block_at
  at_place q i r k f e l g p z =
      ap (λ x. f (get_or x r 0)) z ∙ ap f (get_d_tab c (λ k. get_or s (4 * (c * b + k) + q) 0) r l) ∙ g
      ∙ ap (λ x. byte_of x i) (sym (get_d_tab c (λ j. word_at s (c * b + j)) r l) ∙ ap (λ k. get_or (tab c (λ j. word_at s (c * b + j))) k 0) e)

  pub rows_of : (at : ℕ → ℕ) (p q u v : List ℕ) → p ≡ piece_of 0 → q ≡ piece_of 1 → u ≡ piece_of 2 → v ≡ piece_of 3 → (r0 r1 r2 r3 r4 r5 r6 r7 : ℕ)
      → (r0 ≡ at 0) × (r0 < c) → (r1 ≡ at 1) × (r1 < c) → (r2 ≡ at 2) × (r2 < c) → (r3 ≡ at 3) × (r3 < c) → (r4 ≡ at 4) × (r4 < c) → (r5 ≡ at 5) × (r5 < c) → (r6 ≡ at 6) × (r6 < c) → (r7 ≡ at 7) × (r7 < c)
      → (i : ℕ) → i < 8 → get_or (get_or p r0 0 % 256 ∷ get_or p r1 0 / 256 ∷ get_or q r2 0 % 256 ∷ get_or q r3 0 / 256 ∷ get_or u r4 0 % 256 ∷ get_or u r5 0 / 256 ∷ get_or v r6 0 % 256 ∷ get_or v r7 0 / 256 ∷ []) i 0 ≡ byte_of (get_or (block_at c s b) (at i) 0) i
  rows_of at p q u v zp zq zu zv r0 r1 r2 r3 r4 r5 r6 r7 e0 e1 e2 e3 e4 e5 e6 e7 =
      eight (λ i. get_or (get_or p r0 0 % 256 ∷ get_or p r1 0 / 256 ∷ get_or q r2 0 % 256 ∷ get_or q r3 0 / 256 ∷ get_or u r4 0 % 256 ∷ get_or u r5 0 / 256 ∷ get_or v r6 0 % 256 ∷ get_or v r7 0 / 256 ∷ []) i 0 ≡ byte_of (get_or (block_at c s b) (at i) 0) i) (at_place 0 0 r0 (at 0) (λ x. x % 256) e0.0 e0.1 (sym (low_0 s (c * b + r0) h _ (omega arith))) p zp)
      (at_place 0 1 r1 (at 1) (λ x. x / 256) e1.0 e1.1 (sym (high_0 s (c * b + r1) h _ (omega arith))) p zp)
      (at_place 1 2 r2 (at 2) (λ x. x % 256) e2.0 e2.1 (sym (low_1 s (c * b + r2) h _ (omega arith))) q zq)
      (at_place 1 3 r3 (at 3) (λ x. x / 256) e3.0 e3.1 (sym (high_1 s (c * b + r3) h _ (omega arith))) q zq)
      (at_place 2 4 r4 (at 4) (λ x. x % 256) e4.0 e4.1 (sym (low_2 s (c * b + r4) h _ (omega arith))) u zu)
      (at_place 2 5 r5 (at 5) (λ x. x / 256) e5.0 e5.1 (sym (high_2 s (c * b + r5) h _ (omega arith))) u zu)
      (at_place 3 6 r6 (at 6) (λ x. x % 256) e6.0 e6.1 (sym (low_3 s (c * b + r6) h _ (omega arith))) v zv)
      (at_place 3 7 r7 (at 7) (λ x. x / 256) e7.0 e7.1 (sym (high_3 s (c * b + r7) h _ (omega arith))) v zv)

  pub column_of : (t : List ℕ) (at : ℕ → ℕ) (p q u v : List ℕ) → p ≡ piece_of 0 → q ≡ piece_of 1 → u ≡ piece_of 2 → v ≡ piece_of 3 → (r0 r1 r2 r3 r4 r5 r6 r7 : ℕ)
      → (r0 ≡ at 0) × (r0 < c) → (r1 ≡ at 1) × (r1 < c) → (r2 ≡ at 2) × (r2 < c) → (r3 ≡ at 3) × (r3 < c) → (r4 ≡ at 4) × (r4 < c) → (r5 ≡ at 5) × (r5 < c) → (r6 ≡ at 6) × (r6 < c) → (r7 ≡ at 7) × (r7 < c)
      → gather t (λ i. get_or (get_or p r0 0 % 256 ∷ get_or p r1 0 / 256 ∷ get_or q r2 0 % 256 ∷ get_or q r3 0 / 256 ∷ get_or u r4 0 % 256 ∷ get_or u r5 0 / 256 ∷ get_or v r6 0 % 256 ∷ get_or v r7 0 / 256 ∷ []) i 0) ≡ gather t (λ i. byte_of (get_or (block_at c s b) (at i) 0) i)
  column_of t at p q u v zp zq zu zv r0 r1 r2 r3 r4 r5 r6 r7 e0 e1 e2 e3 e4 e5 e6 e7 =
      gather_ext t _ (λ i. byte_of (get_or (block_at c s b) (at i) 0) i) (rows_of at p q u v zp zq zu zv r0 r1 r2 r3 r4 r5 r6 r7 e0 e1 e2 e3 e4 e5 e6 e7)

-- the columns stored are the round of the block
pub round_cols : (t : List ℕ) (c : ℕ) (at : ℕ → ℕ → ℕ) (ks x s : List ℕ) (p : ℕ) → x ≡ looked t c at s → tab c (λ j. xor (get_or x j 0) (get_or ks (p + j) 0)) ≡ round_of t c at (key_at c ks p) s
unfolding round_of xor_key key_at
round_cols t c at ks x s p e = tab_ext c _ _ (λ j h. ap₂ xor (ap (λ l. get_or l j 0) e) (sym (get_d_tab c (λ j. get_or ks (p + j) 0) j h)))

-- ---- in the standard's words

pub looked_seal : (c : ℕ) (x : List ℕ) → looked seal_table c (seal_places c) x ≡ ssm (moves c) c x
unfolding looked seal_places
looked_seal c x =
    tab_ext c _ (λ j. get_or (ssm (moves c) c x) j 0) (λ j h.
    gather_seal (λ i. byte_of (get_or x (from c (moves c i) j) 0) i) (λ i l. byte_of_lt (get_or x (from c (moves c i) j) 0) i) ∙ sym (ssm_at (moves c) c x j h))
    ∙ self
  where
    self : tab c (λ j. get_or (ssm (moves c) c x) j 0) ≡ ssm (moves c) c x
    self = Rattle.common.proofs.Places.tab_self c (ssm (moves c) c x) (Rattle.kalyna.proofs.Undo.ssm_state (moves c) c x).long

pub looked_open : (c : ℕ) (x : List ℕ) → looked open_table c (open_places c) x ≡ unmix c (back (moves c) c x)
unfolding looked open_places
looked_open c x =
    tab_ext c _ (λ j. get_or (unmix c (back (moves c) c x)) j 0) (λ j h.
    gather_open (λ i. byte_of (get_or x (to c (moves c i) j) 0) i) (λ i l. byte_of_lt (get_or x (to c (moves c i) j) 0) i) ∙ sym (unmix_back_at (moves c) c x j h))
    ∙ self
  where
    self : tab c (λ j. get_or (unmix c (back (moves c) c x)) j 0) ≡ unmix c (back (moves c) c x)
    self = Rattle.common.proofs.Places.tab_self c (unmix c (back (moves c) c x)) (Rattle.kalyna.proofs.Undo.unmix_state c (back (moves c) c x)).long

-- with two columns a row comes from the same place both ways
pub places_two : (i j : ℕ) → i < 8 → j < 2 → seal_places 2 i j ≡ open_places 2 i j
unfolding seal_places open_places from to moves
places_two i j hi hj = X.lt_two (λ j. (i : ℕ) → i < 8 → (j + (2 - i * 128 / 512 % 2)) % 2 ≡ (j + i * 128 / 512) % 2) (λ i h. omega arith) (λ i h. omega arith) j hj i hi
