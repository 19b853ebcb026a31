-- The number of a block in base 256 is the number of its columns in base 2^64, so a carry over the columns counts the block.
use mathlib.Core.Path.{◌≡◌, refl, sym, ap, ap₂, ◌∙◌}
use mathlib.Core.List.{List}
use Prim.Native.Nat.{ℕ, zero, suc, ◌+◌, ◌*◌, ◌/◌, ◌%◌, ◌^◌, ◌<◌}
use native.Mathlib.Nat.{mod-lt, div-one, pow-suc, div-div-eq-div-mul, mul-zero, mul-add-mod_self_right, not-suc-le-zero}
use native.Mathlib.Numerals.{add-one}
use native.Mathlib.Omega.{arith}
use lib.Arith.{mod-mul, digits_div}
use lib.Pow.{pow-add}
use lib.ListN.{get_or}
use Rattle.common.specs.Places.{tab}
use Rattle.common.proofs.Places.{get_d_tab, tab_ext}
use Rattle.field.specs.Column.{byte_of, pack}
use Rattle.field.proofs.PackLaws.{pack_ext, pack_byte, byte_of_zero, byte_of_suc, power, pack_low, byte_after, pack_add}
use Rattle.words.specs.Words.{word_at, block_at}
use Rattle.kalyna.specs.State.{State, columns_of, bytes_of}
use Rattle.modes.specs.Blocks.{number_of, block_of}
use Rattle.modes.specs.Stream.{counter}
use Rattle.stream_laws.specs.Gammas.{carry, counted}
use Rattle.stream_laws.proofs.Cells.{get_d_blocks}

-- the number of the c columns f 0, f 1 ..
unfoldable pub join : ℕ → (ℕ → ℕ) → ℕ
join zero f = 0
join (suc c) f = join c (λ j. f (suc j)) * 2 ^ 64 + f 0

pub join_ext : (c : ℕ) (f g : ℕ → ℕ) → ((j : ℕ) → j < c → f j ≡ g j) → join c f ≡ join c g
unfolding join
join_ext zero f g h = refl
join_ext (suc c) f g h = ap₂ (λ (x y : ℕ). x * 2 ^ 64 + y) (join_ext c (λ j. f (suc j)) (λ j. g (suc j)) (λ j l. h (suc j) (omega arith))) (h 0 (omega arith))

-- ---- bytes

-- bytes below n do not see what is beyond
byte_mod : (n w i : ℕ) → i < n → byte_of (w % 256 ^ n) i ≡ byte_of w i
byte_mod zero w i l = absurd (not-suc-le-zero l)
byte_mod (suc n) w zero l =
    byte_of_zero (w % 256 ^ suc n) ∙ ap (λ x. x % 256) (split n w) ∙ mul-add-mod_self_right (w / 256 % 256 ^ n) 256 (w % 256) ∙ twice w ∙ sym (byte_of_zero w)
  where
    split : (n w : ℕ) → w % 256 ^ suc n ≡ w / 256 % 256 ^ n * 256 + w % 256
    split n w = ap (λ p. w % p) (pow-suc 256 n) ∙ mod-mul w {m = 256 ^ n} {c = 256} (power n) (omega arith)

    twice : (w : ℕ) → w % 256 % 256 ≡ w % 256
    twice w = omega arith
byte_mod (suc n) w (suc i) l =
    byte_of_suc (w % 256 ^ suc n) i ∙ ap (λ x. byte_of (x / 256) i) (split n w) ∙ ap (λ x. byte_of x i) (digits_div (w / 256 % 256 ^ n) {m = 256} {r = w % 256} (mod-lt w (omega arith)))
    ∙ byte_mod n (w / 256) i (omega arith) ∙ sym (byte_of_suc w i)
  where
    split : (n w : ℕ) → w % 256 ^ suc n ≡ w / 256 % 256 ^ n * 256 + w % 256
    split n w = ap (λ p. w % p) (pow-suc 256 n) ∙ mod-mul w {m = 256 ^ n} {c = 256} (power n) (omega arith)

-- ---- columns

-- the bytes of the columns and the columns make one number
pub pack_join : (c : ℕ) (f : ℕ → ℕ) → ((j : ℕ) → j < c → f j < 2 ^ 64) → pack (8 * c) (λ n. byte_of (f (n / 8)) (n % 8)) ≡ join c f
unfolding join
pack_join zero f h = ap (λ n. pack n (λ n. byte_of (f (n / 8)) (n % 8))) (mul-zero 8) ∙ (unfold pack in refl)
pack_join (suc c) f h =
    ap (λ n. pack n (λ n. byte_of (f (n / 8)) (n % 8))) eight
    ∙ pack_add 8 (8 * c) (λ n. byte_of (f (n / 8)) (n % 8))
    ∙ ap₂ (λ (x y : ℕ). x * 2 ^ 64 + y)
    (pack_ext (8 * c) _ _ (λ i l. ap₂ (λ (a b : ℕ). byte_of (f a) b) (over i) (same i)) ∙ pack_join c (λ j. f (suc j)) (λ j l. h (suc j) (omega arith)))
    (pack_ext 8 _ (byte_of (f 0)) (λ i l. ap₂ (λ (a b : ℕ). byte_of (f a) b) (none i l) (self i l)) ∙ pack_byte 8 (f 0) (h 0 (omega arith)))
  where
    eight : 8 * suc c ≡ 8 + 8 * c
    eight = omega arith

    over : (i : ℕ) → (8 + i) / 8 ≡ suc (i / 8)
    over i = omega arith

    same : (i : ℕ) → (8 + i) % 8 ≡ i % 8
    same i = omega arith

    none : (i : ℕ) → i < 8 → i / 8 ≡ 0
    none i l = omega arith

    self : (i : ℕ) → i < 8 → i % 8 ≡ i
    self i l = omega arith

-- column j of a number
column_of : (x j : ℕ) → pack 8 (λ i. byte_of x (8 * j + i)) ≡ x / 256 ^ (8 * j) % 2 ^ 64
column_of x j = pack_ext 8 _ (byte_of (x / 256 ^ (8 * j))) (λ i l. byte_after x (8 * j) i) ∙ pack_low 8 (x / 256 ^ (8 * j))

-- the first carry, then the others
carry_front : (f : ℕ → ℕ) (x j : ℕ) → carry f x (suc j) ≡ carry (λ j. f (suc j)) ((f 0 + x) / 2 ^ 64) j
unfolding carry
carry_front f x zero = refl
carry_front f x (suc j) = ap (λ y. (f (suc j) + y) / 2 ^ 64) (carry_front f x j)

W : 0 < 2 ^ 64
W = omega arith

-- the columns of the sum
sum_column : (c : ℕ) (f : ℕ → ℕ) (x j : ℕ) → j < c → (join c f + x) / 256 ^ (8 * j) % 2 ^ 64 ≡ (f j + carry f x j) % 2 ^ 64
unfolding join carry
sum_column zero f x j l = absurd (not-suc-le-zero l)
sum_column (suc c) f x zero l = ap (λ p. (join c (λ j. f (suc j)) * 2 ^ 64 + f 0 + x) / p % 2 ^ 64) (ap (λ n. 256 ^ n) (mul-zero 8)) ∙ ap (λ y. y % 2 ^ 64) (div-one _) ∙ first (join c (λ j. f (suc j))) (f 0) x
  where
    first : (q a x : ℕ) → (q * 2 ^ 64 + a + x) % 2 ^ 64 ≡ (a + x) % 2 ^ 64
    first q a x = omega arith
sum_column (suc c) f x (suc j) l =
    ap (λ p. (join c (λ j. f (suc j)) * 2 ^ 64 + f 0 + x) / p % 2 ^ 64) (ap (λ n. 256 ^ n) eight ∙ pow-add 256 8 (8 * j))
    ∙ ap (λ y. y % 2 ^ 64) (sym (div-div-eq-div-mul (join c (λ j. f (suc j)) * 2 ^ 64 + f 0 + x) (2 ^ 64) (256 ^ (8 * j))))
    ∙ ap (λ y. y / 256 ^ (8 * j) % 2 ^ 64) (rest (join c (λ j. f (suc j))) (f 0) x)
    ∙ sum_column c (λ j. f (suc j)) ((f 0 + x) / 2 ^ 64) j (omega arith)
    ∙ ap (λ y. (f (suc j) + y) % 2 ^ 64) (sym (carry_front f x j))
  where
    eight : 8 * suc j ≡ 8 + 8 * j
    eight = omega arith

    rest : (q a x : ℕ) → (q * 2 ^ 64 + a + x) / 2 ^ 64 ≡ q + (a + x) / 2 ^ 64
    rest q a x = omega arith

-- ---- the counter

pub get_d_bytes : (c : ℕ) (S : List ℕ) (n : ℕ) → n < 8 * c → get_or (bytes_of c S) n 0 ≡ byte_of (get_or S (n / 8) 0) (n % 8)
unfolding bytes_of
get_d_bytes c S n l = get_d_tab (8 * c) (λ n. byte_of (get_or S (n / 8) 0) (n % 8)) n l

-- the block after x more, by columns
pub count_is : (c : ℕ) (e S : List ℕ) (x : ℕ) → State c S → block_at c e 0 ≡ S
    → tab c (counted e x) ≡ columns_of c (block_of (8 * c) (counter (8 * c) (bytes_of c S) x))
unfolding counted columns_of block_of counter number_of
count_is c e S x st q =
    tab_ext c _ _ (λ j l.
    sym (ap (λ y. y / 256 ^ (8 * j) % 2 ^ 64) refl ∙ sum_column c (word_at e) x j l)
    ∙ ap (λ n. (n + x) / 256 ^ (8 * j) % 2 ^ 64) (sym number)
    ∙ sym (column_of (pack (8 * c) (λ n. get_or (bytes_of c S) n 0) + x) j)
    ∙ pack_ext 8 _ _ (λ i li.
    sym (get_d_tab (8 * c) (byte_of ((pack (8 * c) (λ n. get_or (bytes_of c S) n 0) + x) % 256 ^ (8 * c))) (8 * j + i) (omega arith)
    ∙ byte_mod (8 * c) (pack (8 * c) (λ n. get_or (bytes_of c S) n 0) + x) (8 * j + i) (omega arith))))
  where
    word : (j : ℕ) → j < c → get_or S j 0 ≡ word_at e j
    word j l = ap (λ s. get_or s j 0) (sym q) ∙ get_d_blocks c 0 j e l ∙ ap (word_at e) (first c j)
      where
        first : (c j : ℕ) → c * 0 + j ≡ j
        first c j = omega arith

    number : pack (8 * c) (λ n. get_or (bytes_of c S) n 0) ≡ join c (word_at e)
    number =
        pack_ext (8 * c) _ (λ n. byte_of (get_or S (n / 8) 0) (n % 8)) (λ n l. get_d_bytes c S n l)
        ∙ pack_join c (λ j. get_or S j 0) (λ j l. st.fits j l)
        ∙ join_ext c (λ j. get_or S j 0) (word_at e) word

pub counted_lt : (e : List ℕ) (x j : ℕ) → counted e x j < 2 ^ 64
unfolding counted
counted_lt e x j = mod-lt _ (omega arith)

-- one more column, and what it carries
pub counted_next : (e : List ℕ) (x j y more v : ℕ) → y ≡ word_at e j → more ≡ carry (word_at e) x j → v ≡ (y + more) % 2 ^ 64 → v ≡ counted e x j
unfolding counted
counted_next e x j y more v ey em ev = ev ∙ ap₂ (λ (a b : ℕ). (a + b) % 2 ^ 64) ey em

pub carry_next : (e : List ℕ) (x j y more v : ℕ) → y ≡ word_at e j → more ≡ carry (word_at e) x j → v ≡ (y + more) / 2 ^ 64 → v ≡ carry (word_at e) x (j + 1)
unfolding carry
carry_next e x j y more v ey em ev = ev ∙ ap₂ (λ (a b : ℕ). (a + b) / 2 ^ 64) ey em ∙ ap (carry (word_at e) x) (sym (add-one j))
