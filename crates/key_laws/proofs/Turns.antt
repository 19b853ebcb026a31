-- The turns as the code does them are those of the definitions.
use mathlib.Core.Path.{◌≡◌, sym, ap, ap₂, ◌∙◌, subst}
use mathlib.Core.Logic.{◌⊎◌, ⊎_elim}
use mathlib.Core.List.{List}
use Prim.Native.Nat.{ℕ, ◌+◌, ◌-◌, ◌*◌, ◌/◌, ◌%◌, ◌^◌, ◌<◌, ◌≤◌}
use native.Mathlib.Nat.{mod-lt, mod-eq_of_lt, div-lt_iff_lt-mul, add_comm, mul-le-mul_right}
use native.Mathlib.Decide.{ℕ_discrete}
use native.Mathlib.Omega.{arith}
use lib.Dec.{eqb}
use lib.Arith.{digits_lt}
use lib.Pow.{pow-add}
use lib.Bits.{bit_and, and_mask}
use lib.ListN.{get_or, take, drop}
use lib.Seq.{get_or-take, get_or-drop}
use borrow.Author.Tests.{eq-eqb, ne_eqb}
use Rattle.blocks.proofs.Widths.{width_pos}
use Rattle.common.specs.Choice.{pick}
use Rattle.common.specs.Places.{tab}
use Rattle.common.proofs.Places.{get_d_tab}
use Rattle.common.proofs.Choices.{pick_true, pick_false}
use Rattle.field.specs.Column.{byte_of, pack}
use Rattle.field.proofs.PackLaws.{pack_ext, power, pack_low, byte_after, pack_add}
use Rattle.kalyna.specs.State.{State, columns_of, bytes_of}
use Rattle.kalyna.specs.Keys.{turn_key, even_input, odd_turn, odd_key}
use Rattle.blocks.specs.Blocks.{Width}
use Rattle.key_laws.specs.Turns.{Sized, lane_turn, odd_word}

-- ---- sizes

-- the key has 2, 4 or 8 columns too
pub key_width : (c kc : ℕ) → Sized c kc → Width kc
key_width c kc z = ⊎_elim (λ e. subst Width (sym e) z.width) (λ e. ⊎_elim (two e) (⊎_elim (four e) (eight e)) z.width) z.halves
  where
    two : kc ≡ 2 * c → c ≡ 2 → Width kc
    two e q = ◌⊎◌.inr (◌⊎◌.inl (omega arith))

    four : kc ≡ 2 * c → c ≡ 4 → Width kc
    four e q = ◌⊎◌.inr (◌⊎◌.inr (omega arith))

    eight : kc ≡ 2 * c → c ≡ 8 → Width kc
    eight e q = absurd (over z.most)
      where
        over : kc ≤ 8 → ⊥
        over h = omega arith

pub halves_le : (c kc : ℕ) → (kc ≡ c) ⊎ (kc ≡ 2 * c) → c ≤ kc
halves_le c kc h = ⊎_elim (λ e. omega arith) (λ e. omega arith) h

-- the remainder by a width is its lowest digits
pub mask : (c n : ℕ) → Width c → bit_and n (c - 1) ≡ n % c
mask c n w = ⊎_elim (at 2 (and_mask n 1)) (⊎_elim (at 4 (and_mask n 2)) (at 8 (and_mask n 3))) w
  where
    at : (d : ℕ) → bit_and n (d - 1) ≡ n % d → c ≡ d → bit_and n (c - 1) ≡ n % c
    at d h e = subst (λ c. bit_and n (c - 1) ≡ n % c) (sym e) h

pub mask_lt : (c n : ℕ) → Width c → bit_and n (c - 1) < c
mask_lt c n w = subst (λ x. x < c) (sym (mask c n w)) (mod-lt n (width_pos c w))

-- ---- what enters an even index

pub same_turn : (c kc e : ℕ) → c ≡ kc → lane_turn c kc e ≡ e
unfolding lane_turn pick
same_turn c kc e h = rw (eq-eqb c kc h)

pub other_turn : (c kc e : ℕ) → (c ≡ kc → ⊥) → lane_turn c kc e ≡ e / 2 + e % 2 * c
unfolding lane_turn pick
other_turn c kc e h = rw (ne_eqb c kc h)

-- a half and a digit of it times c are small
pub turn_le : {a m c : ℕ} → a ≤ 8 → m ≤ 1 → c ≤ 8 → a + m * c ≤ 16
turn_le {a} {m} {c} h l g = omega (arith, mul-le-mul_right c l)

pub turn_fits : {a m c : ℕ} → a ≤ 8 → m ≤ 1 → c ≤ 8 → a + m * c < 2 ^ 64
turn_fits {a} {m} {c} h l g = omega (arith, turn_le h l g)

pub digit_fits : {m c : ℕ} → m ≤ 1 → c ≤ 8 → m * c < 2 ^ 64
digit_fits {m} {c} l g = omega (arith, mul-le-mul_right c l)

turned_at : (kc : ℕ) (k : List ℕ) (n j : ℕ) → j < kc → get_or (turn_key kc k n) j 0 ≡ get_or k ((j + n) % kc) 0
unfolding turn_key
turned_at kc k n j l = get_d_tab kc (λ j. get_or k ((j + n) % kc) 0) j l

pub even_input_lem : (c kc : ℕ) (k : List ℕ) (e j : ℕ) → (kc ≡ c) ⊎ (kc ≡ 2 * c) → 0 < c → j < c → get_or (even_input c kc k e) j 0 ≡ get_or k ((j + lane_turn c kc e) % kc) 0
unfolding even_input
even_input_lem c kc k e j h p l = go (ℕ_discrete c kc)
  where
    whole : c ≡ kc → get_or (even_input c kc k e) j 0 ≡ get_or k ((j + lane_turn c kc e) % kc) 0
    whole q =
        ap (λ x. get_or x j 0) (pick_true (eqb c kc) _ _ (eq-eqb c kc q)) ∙ turned_at kc k e j (omega arith)
        ∙ ap (λ n. get_or k ((j + n) % kc) 0) (sym (same_turn c kc e q))

    half : (c ≡ kc → ⊥) → kc ≡ 2 * c → get_or (even_input c kc k e) j 0 ≡ get_or k ((j + lane_turn c kc e) % kc) 0
    half n q = ap (λ x. get_or x j 0) (pick_false (eqb c kc) _ _ (ne_eqb c kc n)) ∙ which (ℕ_discrete (e % 2) 0) ∙ ap (λ n. get_or k ((j + n) % kc) 0) (sym (other_turn c kc e n))
      where
        which : Dec (e % 2 ≡ 0) → get_or (pick (eqb (e % 2) 0) (take c (turn_key kc k (e / 2))) (drop c (turn_key kc k (e / 2)))) j 0 ≡ get_or k ((j + (e / 2 + e % 2 * c)) % kc) 0
        which (yes z) =
            ap (λ x. get_or x j 0) (pick_true (eqb (e % 2) 0) _ _ (eq-eqb (e % 2) 0 z)) ∙ get_or-take c (turn_key kc k (e / 2)) j 0 l ∙ turned_at kc k (e / 2) j (omega arith)
            ∙ ap (λ n. get_or k ((j + n) % kc) 0) (low z)
          where
            low : e % 2 ≡ 0 → e / 2 ≡ e / 2 + e % 2 * c
            low z = sym (ap (λ x. e / 2 + x * c) z ∙ none)
              where
                none : e / 2 + 0 * c ≡ e / 2
                none = omega arith
        which (no z) =
            ap (λ x. get_or x j 0) (pick_false (eqb (e % 2) 0) _ _ (ne_eqb (e % 2) 0 z)) ∙ get_or-drop c (turn_key kc k (e / 2)) j 0 ∙ turned_at kc k (e / 2) (c + j) (omega arith)
            ∙ ap (λ n. get_or k (n % kc) 0) (high one)
          where
            one : e % 2 ≡ 1
            one = omega arith

            high : e % 2 ≡ 1 → c + j + e / 2 ≡ j + (e / 2 + e % 2 * c)
            high o = sym (ap (λ x. j + (e / 2 + x * c)) o ∙ swap (e / 2))
              where
                swap : (h : ℕ) → j + (h + 1 * c) ≡ c + j + h
                swap h = omega arith

    go : Dec (c ≡ kc) → get_or (even_input c kc k e) j 0 ≡ get_or k ((j + lane_turn c kc e) % kc) 0
    go (yes q) = whole q
    go (no n) = ⊎_elim (λ e. absurd (n (sym e))) (λ q. half n q) h

-- ---- the bytes of an odd key

-- the bytes of x from q on, and then those of y, are eight
module _ (p q x y : ℕ) (f : ℕ → ℕ) where
  pub joined : x < 256 ^ (q + p) → ((i : ℕ) → i < p → f i ≡ byte_of x (q + i)) → ((i : ℕ) → i < q → f (p + i) ≡ byte_of y i)
      → pack (p + q) f ≡ x / 256 ^ q + y % 256 ^ q * 256 ^ p
  joined h g k =
      pack_add p q f
      ∙ ap₂ (λ (a b : ℕ). a * 256 ^ p + b) (pack_ext q _ (byte_of y) k ∙ pack_low q y)
      (pack_ext p f (byte_of (x / 256 ^ q)) (λ i l. g i l ∙ byte_after x q i) ∙ pack_low p (x / 256 ^ q) ∙ mod-eq_of_lt top)
      ∙ add_comm (y % 256 ^ q * 256 ^ p) (x / 256 ^ q)
    where
      top : x / 256 ^ q < 256 ^ p
      top = (div-lt_iff_lt-mul {k = 256 ^ q} {x = x} {y = 256 ^ p} (power q)).1 (subst (λ n. x < n) (pow-add 256 q p ∙ native.Mathlib.Nat.mul_comm (256 ^ q) (256 ^ p)) h)

-- the bytes of an odd key, as they stand
bytes : ℕ → List ℕ → List ℕ
bytes c k = tab (8 * c) (λ n. get_or (bytes_of c k) ((n + odd_turn c) % (8 * c)) 0)

-- byte i of column j
odd_byte : (c : ℕ) (k : List ℕ) (j i m b : ℕ) → j < c → i < 8 → (8 * j + i + odd_turn c) % (8 * c) / 8 ≡ m → (8 * j + i + odd_turn c) % (8 * c) % 8 ≡ b
    → get_or (bytes c k) (8 * j + i) 0 ≡ byte_of (get_or k m 0) b
unfolding bytes_of bytes
odd_byte c k j i m b hj hi em eb =
    get_d_tab (8 * c) (λ n. get_or (bytes_of c k) ((n + odd_turn c) % (8 * c)) 0) (8 * j + i) (omega arith)
    ∙ get_d_tab (8 * c) (λ n. byte_of (get_or k (n / 8) 0) (n % 8)) ((8 * j + i + odd_turn c) % (8 * c)) (mod-lt (8 * j + i + odd_turn c) (omega arith))
    ∙ ap₂ (λ (m b : ℕ). byte_of (get_or k m 0) b) em eb

-- column j
odd_column : (c : ℕ) (k : List ℕ) (j : ℕ) → j < c → get_or (odd_key c k) j 0 ≡ pack 8 (λ i. get_or (bytes c k) (8 * j + i) 0)
unfolding odd_key columns_of bytes
odd_column c k j l = get_d_tab c _ j l

-- what is said of column j
abbrev Odd : ℕ → List ℕ → ℕ → Type 0
Odd c k j = get_or (odd_key c k) j 0 ≡ odd_word c (get_or k ((j + c / 4) % c) 0) (get_or k ((j + c / 4 + 1) % c) 0)

odd_2 : (k : List ℕ) (j : ℕ) → j < 2 → State 2 k → Odd 2 k j
unfolding odd_turn odd_word pick
odd_2 k j l st =
    odd_column 2 k j l
    ∙ joined 1 7 (get_or k ((j + 2 / 4) % 2) 0) (get_or k ((j + 2 / 4 + 1) % 2) 0) (λ i. get_or (bytes 2 k) (8 * j + i) 0) (st.fits _ (mod-lt (j + 2 / 4) (omega arith)))
    (λ i h. odd_byte 2 k j i _ _ l (omega arith) (omega arith) (omega arith))
    (λ i h. odd_byte 2 k j (1 + i) _ _ l (omega arith) (omega arith) (omega arith))

odd_4 : (k : List ℕ) (j : ℕ) → j < 4 → State 4 k → Odd 4 k j
unfolding odd_turn odd_word pick
odd_4 k j l st =
    odd_column 4 k j l
    ∙ joined 5 3 (get_or k ((j + 4 / 4) % 4) 0) (get_or k ((j + 4 / 4 + 1) % 4) 0) (λ i. get_or (bytes 4 k) (8 * j + i) 0) (st.fits _ (mod-lt (j + 4 / 4) (omega arith)))
    (λ i h. odd_byte 4 k j i _ _ l (omega arith) (omega arith) (omega arith))
    (λ i h. odd_byte 4 k j (5 + i) _ _ l (omega arith) (omega arith) (omega arith))

odd_8 : (k : List ℕ) (j : ℕ) → j < 8 → State 8 k → Odd 8 k j
unfolding odd_turn odd_word pick
odd_8 k j l st =
    odd_column 8 k j l
    ∙ joined 5 3 (get_or k ((j + 8 / 4) % 8) 0) (get_or k ((j + 8 / 4 + 1) % 8) 0) (λ i. get_or (bytes 8 k) (8 * j + i) 0) (st.fits _ (mod-lt (j + 8 / 4) (omega arith)))
    (λ i h. odd_byte 8 k j i _ _ l (omega arith) (omega arith) (omega arith))
    (λ i h. odd_byte 8 k j (5 + i) _ _ l (omega arith) (omega arith) (omega arith))

-- column j of an odd key, from two columns of the key before it
pub odd_word_lem : (c : ℕ) (k : List ℕ) (j : ℕ) → Width c → j < c → State c k → Odd c k j
odd_word_lem c k j w = ⊎_elim (at 2 (odd_2 k j)) (⊎_elim (at 4 (odd_4 k j)) (at 8 (odd_8 k j))) w
  where
    at : (d : ℕ) → (j < d → State d k → Odd d k j) → c ≡ d → j < c → State c k → Odd c k j
    at d h e = subst (λ c. j < c → State c k → Odd c k j) (sym e) h

-- ---- a word of an odd key by the code's cases

pub odd_two : (c x y : ℕ) → c ≡ 2 → x / 72057594037927936 + y % 72057594037927936 * 256 ≡ odd_word c x y
unfolding odd_word pick
odd_two c x y e = rw (eq-eqb c 2 e)

pub odd_more : (c x y : ℕ) → (c ≡ 2 → ⊥) → x / 16777216 + y % 16777216 * 1099511627776 ≡ odd_word c x y
unfolding odd_word pick
odd_more c x y e = rw (ne_eqb c 2 e)

-- parts of two columns fit a column
pub part_fits : (p q x y : ℕ) → x < q * p → 0 < p → x / p + y % p * q < p * q
part_fits p q x y h g =
    subst (λ n. n < p * q) (add_comm (y % p * q) (x / p)) (digits_lt {q = y % p} {m = p} {r = x / p} {c = q} (mod-lt y g) ((div-lt_iff_lt-mul {k = p} {x = x} {y = q} g).1 h))
