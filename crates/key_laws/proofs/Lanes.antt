-- The loops over the lanes of the even keys, and over the odd keys.
use mathlib.Core.Path.{◌≡◌, sym, ap, ap₂, ◌∙◌, subst}
use mathlib.Core.Logic.{◌⊎◌}
use mathlib.Core.List.{List}
use Prim.Native.Nat.{ℕ, ◌+◌, ◌*◌, ◌/◌, ◌%◌, ◌^◌, ◌<◌, ◌≤◌}
use native.Mathlib.Nat.{not-suc-le-zero, mod-lt, add-mod-mod, add-mod, mul-le-mul_left, mul-suc, pow-suc, mul-zero, zero-add}
use native.Mathlib.Numerals.{add-one}
use native.Mathlib.Decide.{dec_lt}
use native.Mathlib.Omega.{arith}
use lib.ListN.{get_or, length}
use Rattle.common.specs.Places.{tab}
use Rattle.common.proofs.Places.{get_d_tab, tab_ext, tab_self}
use Rattle.field.specs.Xor.{xor}
use Rattle.field.proofs.XorLaws as X
use Rattle.words.specs.Words.{word_at, put_words, block_at}
use Rattle.words.proofs.Walks.{length_puts, puts_other, puts_at, block_ext}
use Rattle.kalyna.specs.State.{State}
use Rattle.kalyna.specs.Round.{add_key, xor_key}
use Rattle.kalyna.specs.Keys.{constant, even_input, odd_key}
use Rattle.kalyna.proofs.Rows.{tab_state}
use Rattle.kalyna.proofs.Bytes.{odd_state}
use Rattle.rounds.specs.Rounds.{key_at}
use Rattle.blocks.specs.Blocks.{Width, keys_of}
use Rattle.blocks.proofs.Laws.{block_column}
use Rattle.blocks.proofs.Widths.{width_pos}
use Rattle.key_laws.specs.Stores.{Stored, Spread, Laned, Lanes}
use Rattle.key_laws.specs.Turns.{lane_turn, odd_word}
use Rattle.key_laws.proofs.Stores.{apart, key_stored, key_other, key_column, spread_more}
use Rattle.key_laws.proofs.Turns.{even_input_lem, odd_word_lem}

-- ---- the constant

-- the constant, modulo 2^64, doubled
pub doubled : (g e : ℕ) → g ≡ 281479271743489 * 2 ^ e % 2 ^ 64 → (g + g) % 2 ^ 64 ≡ 281479271743489 * 2 ^ (e + 1) % 2 ^ 64
doubled g e q = ap (λ x. (x + x) % 2 ^ 64) q ∙ twice (281479271743489 * 2 ^ e) ∙ ap (λ x. x % 2 ^ 64) (over (2 ^ e) ∙ ap (λ x. 281479271743489 * x) (sym (pow-suc 2 e) ∙ ap (λ n. 2 ^ n) (sym (add-one e))))
  where
    twice : (x : ℕ) → (x % 2 ^ 64 + x % 2 ^ 64) % 2 ^ 64 ≡ (x + x) % 2 ^ 64
    twice x = sym (add-mod x x (2 ^ 64))

    over : (p : ℕ) → 281479271743489 * p + 281479271743489 * p ≡ 281479271743489 * (p * 2)
    over p = omega arith

-- ---- the lanes made

-- a lane of addends
addend_is : (c e : ℕ) (h : List ℕ) (g : ℕ) → g ≡ 281479271743489 * 2 ^ e % 2 ^ 64 → tab c (λ j. (word_at h j + g) % 2 ^ 64) ≡ add_key c (constant c e) (block_at c h 0)
unfolding add_key constant
addend_is c e h g q =
    tab_ext c _ _ (λ j l.
    ap (λ x. (word_at h j + x) % 2 ^ 64) q ∙ add-mod-mod (word_at h j) (281479271743489 * 2 ^ e) (2 ^ 64)
    ∙ ap₂ (λ (x y : ℕ). (x + y) % 2 ^ 64) (sym (block_column c h 0 j l ∙ ap (word_at h) (at j))) (sym (get_d_tab c (λ j. 281479271743489 * 2 ^ e) j l)))
  where
    at : (j : ℕ) → c * 0 + j ≡ j
    at j = ap (λ x. x + j) (mul-zero c) ∙ zero-add j

pub lanes_none : (c kc : ℕ) (k h a s : List ℕ) → Lanes c kc 0 k h a s
lanes_none c kc k h a s = record { addend = λ e l. absurd (not-suc-le-zero l); input = λ e l. absurd (not-suc-le-zero l) }

-- one more lane
module _ (c kc i : ℕ) (k h a a' s s' : List ℕ) (w u g : ℕ) where
  pub lanes_more : Lanes c kc i k (block_at c h 0) a s → w ≡ c * i → u ≡ lane_turn c kc i → g ≡ 281479271743489 * 2 ^ i % 2 ^ 64 → (kc ≡ c) ⊎ (kc ≡ 2 * c) → 0 < c
      → 4 * (w + c) ≤ length s → Stored w c (λ j. (word_at h j + g) % 2 ^ 64) a a'
      → s' ≡ put_words s w c (λ j. (get_or k ((j + u) % kc) 0 + (word_at h j + g) % 2 ^ 64) % 2 ^ 64) → Lanes c kc (i + 1) k (block_at c h 0) a' s'
  lanes_more L ew eu eg hk hp r st es =
      record { addend = λ e l. addend' e (dec_lt e i) l; input = λ e l. input' e (dec_lt e i) l }
    where
      st' : Stored (c * i) c (λ j. (word_at h j + g) % 2 ^ 64) a a'
      st' = subst (λ n. Stored n c (λ j. (word_at h j + g) % 2 ^ 64) a a') ew st

      es' : s' ≡ put_words s (c * i) c (λ j. (get_or k ((j + u) % kc) 0 + (word_at h j + g) % 2 ^ 64) % 2 ^ 64)
      es' = es ∙ ap (λ n. put_words s n c (λ j. (get_or k ((j + u) % kc) 0 + (word_at h j + g) % 2 ^ 64) % 2 ^ 64)) ew

      fresh : keys_of c a' i ≡ add_key c (constant c i) (block_at c h 0)
      fresh = key_stored c i _ a a' st' ∙ addend_is c i h g eg

      addend' : (e : ℕ) → Dec (e < i) → e < i + 1 → keys_of c a' e ≡ add_key c (constant c e) (block_at c h 0)
      addend' e (yes l) m = key_other c i e _ a a' st' (λ q. omega arith) ∙ L.addend e l
      addend' e (no l) m = last (omega arith)
        where
          last : e ≡ i → keys_of c a' e ≡ add_key c (constant c e) (block_at c h 0)
          last q = ap (keys_of c a') q ∙ fresh ∙ ap (λ n. add_key c (constant c n) (block_at c h 0)) (sym q)

      put : block_at c s' i ≡ tab c (λ j. (get_or k ((j + u) % kc) 0 + (word_at h j + g) % 2 ^ 64) % 2 ^ 64)
      put = unfold block_at in
          tab_ext c (λ j. word_at s' (c * i + j)) _ (λ j l. ap (λ y. word_at y (c * i + j)) es'
          ∙ puts_at s (c * i) c (λ j. (get_or k ((j + u) % kc) 0 + (word_at h j + g) % 2 ^ 64) % 2 ^ 64) (λ n m. mod-lt _ (omega arith)) (subst (λ n. 4 * (n + c) ≤ length s) ew r) j l)

      entered : block_at c s' i ≡ add_key c (keys_of c a' i) (even_input c kc k i)
      entered = put ∙ unfold add_key in
          tab_ext c _ _ (λ j l. ap₂ (λ (x y : ℕ). (x + y) % 2 ^ 64) (ap (λ n. get_or k ((j + n) % kc) 0) eu ∙ sym (even_input_lem c kc k i j hk hp l)) (sym (key_column c a' i j l ∙ st'.done j l)))

      input' : (e : ℕ) → Dec (e < i) → e < i + 1 → block_at c s' e ≡ add_key c (keys_of c a' e) (even_input c kc k e)
      input' e (yes l) m =
          block_ext c s' s e (λ j hj. ap (λ y. word_at y (c * e + j)) es' ∙ puts_other s (c * i) c _ (c * e + j) (apart c i e j (λ q. omega arith) hj))
          ∙ L.input e l ∙ ap (λ d. add_key c d (even_input c kc k e)) (sym (key_other c i e _ a a' st' (λ q. omega arith)))
      input' e (no l) m = last (omega arith)
        where
          last : e ≡ i → block_at c s' e ≡ add_key c (keys_of c a' e) (even_input c kc k e)
          last q = ap (block_at c s') q ∙ entered ∙ ap (λ n. add_key c (keys_of c a' n) (even_input c kc k n)) (sym q)

-- ---- the addends added modulo 2

pub xored : (c n m : ℕ) (a s s' : List ℕ) → m ≡ c * n → 4 * m ≤ length s → ((j : ℕ) → word_at s j < 2 ^ 64) → ((j : ℕ) → get_or a j 0 < 2 ^ 64)
    → s' ≡ put_words s 0 m (λ j. xor (word_at s j) (get_or a j 0)) → Laned c n (λ e. xor_key c (keys_of c a e)) s s'
unfolding xor_key block_at
xored c n m a s s' em r hs ha e = record { long = ap length e ∙ length_puts s 0 m _; done = done' }
  where
    inside : (i j : ℕ) → i < n → j < c → c * i + j < m
    inside i j l h = omega (arith, em, mul-le-mul_left c l, mul-suc c i)

    done' : (i : ℕ) → i < n → block_at c s' i ≡ xor_key c (keys_of c a i) (block_at c s i)
    done' i l =
        tab_ext c (λ j. word_at s' (c * i + j)) (λ j. xor (word_at s (c * i + j)) (get_or a (c * i + j) 0))
        (λ j h. ap (λ y. word_at y (c * i + j)) e ∙ ap (word_at (put_words s 0 m (λ j. xor (word_at s j) (get_or a j 0)))) (sym (zero-add (c * i + j)))
        ∙ puts_at s 0 m (λ j. xor (word_at s j) (get_or a j 0)) (λ k g. X.bound 64 _ _ (hs k) (ha k)) (subst (λ x. 4 * x ≤ length s) (sym (zero-add m)) r) (c * i + j) (inside i j l h))
        ∙ tab_ext c _ _ (λ j h. ap₂ xor (sym (block_column c s i j h)) (sym (key_column c a i j h)))

-- ---- the even keys kept

pub kept_is : (c i w : ℕ) (a s : List ℕ) → w ≡ c * i → tab c (λ j. (word_at s (w + j) + get_or a (w + j) 0) % 2 ^ 64) ≡ add_key c (keys_of c a i) (block_at c s i)
unfolding add_key
kept_is c i w a s e =
    tab_ext c _ _ (λ j l. ap (λ w. (word_at s (w + j) + get_or a (w + j) 0) % 2 ^ 64) e ∙ ap₂ (λ (x y : ℕ). (x + y) % 2 ^ 64) (sym (block_column c s i j l)) (sym (key_column c a i j l)))

-- ---- the odd keys

-- the columns from at on are key 2 i
pub odd_is : (c i at : ℕ) (s₀ s : List ℕ) → Width c → at ≡ c * (2 * i) → keys_of c s (2 * i) ≡ keys_of c s₀ (2 * i) → ((j : ℕ) → get_or s₀ j 0 < 2 ^ 64)
    → tab c (λ j. odd_word c (get_or s (at + (j + c / 4) % c) 0) (get_or s (at + (j + c / 4 + 1) % c) 0)) ≡ odd_key c (keys_of c s₀ (2 * i))
odd_is c i at s₀ s w e q h =
    tab_ext c _ (λ j. get_or (odd_key c (keys_of c s₀ (2 * i))) j 0)
    (λ j l. ap₂ (odd_word c) (column ((j + c / 4) % c) (mod-lt _ (width_pos c w))) (column ((j + c / 4 + 1) % c) (mod-lt _ (width_pos c w))) ∙ sym (odd_word_lem c (keys_of c s₀ (2 * i)) j w l st))
    ∙ tab_self c (odd_key c (keys_of c s₀ (2 * i))) (odd_state c _).long
  where
    column : (j : ℕ) → j < c → get_or s (at + j) 0 ≡ get_or (keys_of c s₀ (2 * i)) j 0
    column j l = ap (λ x. get_or s (x + j) 0) e ∙ sym (key_column c s (2 * i) j l) ∙ ap (λ x. get_or x j 0) q

    st : State c (keys_of c s₀ (2 * i))
    st = unfold keys_of key_at in tab_state c _ (λ j l. h (c * (2 * i) + j))

-- one more odd key
pub odd_keys_more : (c i at : ℕ) (ks₀ ks ks' : List ℕ) → Width c → at ≡ c * (2 * i + 0) → Spread c 1 i (λ e. odd_key c (keys_of c ks₀ (2 * e))) ks₀ ks → ((j : ℕ) → get_or ks₀ j 0 < 2 ^ 64)
    → Stored (at + c) c (λ j. odd_word c (get_or ks (at + (j + c / 4) % c) 0) (get_or ks (at + (j + c / 4 + 1) % c) 0)) ks ks' → Spread c 1 (i + 1) (λ e. odd_key c (keys_of c ks₀ (2 * e))) ks₀ ks'
odd_keys_more c i at ks₀ ks ks' w e a h b =
    spread_more c 1 i (λ e. odd_key c (keys_of c ks₀ (2 * e))) ks₀ ks ks' _ (at + c) a after b (odd_is c i at ks₀ ks w place (a.kept (2 * i) (λ n l q. omega arith)) h)
  where
    place : at ≡ c * (2 * i)
    place = e ∙ ap (λ x. c * x) none
      where
        none : 2 * i + 0 ≡ 2 * i
        none = omega arith

    after : at + c ≡ c * (2 * i + 1)
    after = ap (λ x. x + c) place ∙ sym (mul-suc c (2 * i)) ∙ ap (λ x. c * x) (sym (add-one (2 * i)))
