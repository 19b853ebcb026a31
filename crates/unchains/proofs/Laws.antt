-- All blocks of a text opened at once in a cell, and the block before added to each.
use mathlib.Core.Path.{◌≡◌, refl, sym, ap, ap₂, ◌∙◌, subst}
use mathlib.Core.Logic.{◌⊎◌}
use mathlib.Core.List.{List, ◌++◌}
use Prim.Native.Nat.{ℕ, zero, suc, ◌+◌, ◌-◌, ◌*◌, ◌/◌, ◌%◌, ◌^◌, ◌<◌, ◌≤◌}
use native.Mathlib.Nat.{zero-add, mul_comm, mul_assoc, mul-suc, mod-lt, div-add-mod', div-lt_iff_lt-mul, mul-le-mul_left, suc-mul, zero-mul, div-eq_of_lt, mod-eq_of_lt}
use native.Mathlib.Omega.{arith}
use lib.Arith.{digits_div, digits_mod}
use lib.ListN.{get_or, take, drop, length}
use Rattle.common.specs.Places.{tab}
use Rattle.common.proofs.Places.{get_d_tab, tab_ext}
use Rattle.field.specs.Xor.{xor}
use Rattle.field.specs.Column.{byte_of, pack}
use Rattle.field.proofs.XorLaws as X
use Rattle.field.proofs.PackLaws.{byte_pack, byte_xor, pack_lt, pack_ext}
use Rattle.words.specs.Words as W
use Rattle.words.specs.Words.{word_at, put_words, Walked}
use Rattle.words.proofs.Laws.{Pieces}
use Rattle.words.proofs.Walks.{puts_at, puts_other, word_lt}
use Rattle.kalyna.specs.State.{columns_of, bytes_of}
use Rattle.kalyna.specs.Block.{unseal, unseal_bytes}
use Rattle.modes.specs.Blocks.{block_at, before}
use Rattle.modes.specs.Chain.{uncbc}
use Rattle.modes.proofs.Blocks.{get_d_block}

-- ---- places

places : (c i : ℕ) → i * (8 * c) ≡ 8 * (c * i)
places c i = mul_comm i (8 * c) ∙ mul_assoc 8 c i

-- the column and the byte of place i B + r
column_of : (c i r k : ℕ) → k ≡ i * (8 * c) + r → k / 8 ≡ c * i + r / 8
column_of c i r k e = omega (arith, places c i)

byte_of_lem : (c i r k : ℕ) → k ≡ i * (8 * c) + r → k % 8 ≡ r % 8
byte_of_lem c i r k e = omega (arith, places c i)

-- the block of a place
block_lt : (c n k : ℕ) → 0 < c → k < 8 * (c * n) → k / (8 * c) < n
block_lt c n k p l = (div-lt_iff_lt-mul {k = 8 * c} {x = k} {y = n} (omega arith)).1 (subst (λ x. k < x) (sym (places c n)) l)

div_small : (k B : ℕ) → k < B → k / B ≡ 0
div_small k B l = div-eq_of_lt l

mod-small : (k B : ℕ) → k < B → k % B ≡ k
mod-small k B l = mod-eq_of_lt l

small_lt : (k B : ℕ) → 0 < B → k / B ≡ 0 → k < B
small_lt k B p e = omega (arith, div-add-mod' k B, mod-lt k p, ap (λ q. q * B) e, zero-mul B)

-- bytes from place 0 on that are loaded as columns
bytes_loaded : (b : List ℕ) (k j : ℕ) → ((n : ℕ) → get_or b n 0 < 256) → j ≡ k / 8 → byte_of (pack 8 (λ i. get_or b (0 + 8 * j + i) 0)) (k % 8) ≡ get_or b k 0
bytes_loaded b k j h e = byte_pack 8 (λ i. get_or b (0 + 8 * j + i) 0) (λ i l. h _) (k % 8) (omega arith) ∙ ap (λ m. get_or b m 0) place
  where
    place : 0 + 8 * j + k % 8 ≡ k
    place = omega arith

column_lt : (b : List ℕ) (j : ℕ) → ((n : ℕ) → get_or b n 0 < 256) → pack 8 (λ i. get_or b (0 + 8 * j + i) 0) < 2 ^ 64
column_lt b j h = pack_lt 8 (λ i. get_or b (0 + 8 * j + i) 0) (λ i l. h _)

module _ (c n : ℕ) (iv text : List ℕ) (hi : (i : ℕ) → get_or iv i 0 < 256) (ht : (i : ℕ) → get_or text i 0 < 256) (pos : 0 < c) (some : 0 < n) where
  first_le : c ≤ c * n
  first_le = omega (arith, mul-le-mul_left c some, mul-suc c 0)

  -- ---- the blocks as they are loaded

  module _ (s s' : List ℕ) (room : 4 * (c * n) ≤ length s) (e : s' ≡ put_words s 0 (c * n) (λ j. pack 8 (λ i. get_or text (0 + 8 * j + i) 0))) where
    loaded : (j : ℕ) → j < c * n → word_at s' j ≡ pack 8 (λ i. get_or text (0 + 8 * j + i) 0)
    loaded j l =
        ap₂ (λ (x : List ℕ) (k : ℕ). word_at x k) e (sym (zero-add j))
        ∙ puts_at s 0 (c * n) (λ j. pack 8 (λ i. get_or text (0 + 8 * j + i) 0)) (λ k lk. column_lt text k ht) (omega arith) j l

    pub block_loaded : (i : ℕ) → i < n → W.block_at c s' i ≡ columns_of c (block_at (8 * c) text i)
    unfolding W.block_at columns_of
    block_loaded i l =
        tab_ext c _ _ (λ j lj.
        loaded (c * i + j) (inside j lj)
        ∙ pack_ext 8 _ _ (λ q lq. ap (λ m. get_or text m 0) (place j q) ∙ sym (get_d_block (8 * c) i (8 * j + q) text (omega arith))))
      where
        inside : (j : ℕ) → j < c → c * i + j < c * n
        inside j lj = omega (arith, mul-le-mul_left c l, mul-suc c i)

        place : (j q : ℕ) → 0 + 8 * (c * i + j) + q ≡ i * (8 * c) + (8 * j + q)
        place j q = omega (arith, places c i)

    -- ---- opened

    module _ (t : ℕ) (K : ℕ → List ℕ) (s₂ : List ℕ) (w : Walked c n (unseal c t K) s' s₂) where
      abbrev opened : ℕ → ℕ
      opened k = get_or (unseal_bytes c t K (block_at (8 * c) text (k / (8 * c)))) (k % (8 * c)) 0

      in_block : (k i r : ℕ) → k ≡ i * (8 * c) + r → i < n → r < 8 * c → byte_of (word_at s₂ (k / 8)) (k % 8) ≡ get_or (unseal_bytes c t K (block_at (8 * c) text i)) r 0
      unfolding unseal_bytes bytes_of W.block_at
      in_block k i r ek li lr =
          ap₂ (λ (a b : ℕ). byte_of (word_at s₂ a) b) (column_of c i r k ek) (byte_of_lem c i r k ek)
          ∙ ap (λ x. byte_of x (r % 8))
          (sym (get_d_tab c (λ j. word_at s₂ (c * i + j)) (r / 8) (omega arith)) ∙ ap (λ x. get_or x (r / 8) 0) (w.done i li ∙ ap (unseal c t K) (block_loaded i li)))
          ∙ sym (get_d_tab (8 * c) (λ m. byte_of (get_or (unseal c t K (columns_of c (block_at (8 * c) text i))) (m / 8) 0) (m % 8)) r lr)

      opened-byte : (k : ℕ) → k < 8 * (c * n) → byte_of (word_at s₂ (k / 8)) (k % 8) ≡ opened k
      opened-byte k l = in_block k (k / (8 * c)) (k % (8 * c)) (sym (div-add-mod' k (8 * c))) (block_lt c n k pos l) (mod-lt k (omega arith))

      -- ---- the block before added

      module _ (s₃ s₄ : List ℕ) (p₂ : Pieces s₂) (p₃ : Pieces s₃) (l₂ : 4 * (c * n) ≤ length s₂) (l₃ : 4 * (c * n) ≤ length s₃)
          (e₃ : s₃ ≡ put_words s₂ 0 c (λ j. xor (word_at s₂ (0 + j)) (pack 8 (λ i. get_or iv (0 + 8 * j + i) 0))))
          (e₄ : s₄ ≡ put_words s₃ c (c * n - c) (λ j. xor (word_at s₃ (c + j)) (pack 8 (λ i. get_or text (0 + 8 * j + i) 0)))) where
        -- the first block has the IV before it
        word_first : (j : ℕ) → j < c → word_at s₄ j ≡ xor (word_at s₂ j) (pack 8 (λ i. get_or iv (0 + 8 * j + i) 0))
        word_first j l =
            ap (λ x. word_at x j) e₄ ∙ puts_other s₃ c (c * n - c) _ j (◌⊎◌.inl l)
            ∙ ap₂ (λ (x : List ℕ) (k : ℕ). word_at x k) e₃ (sym (zero-add j))
            ∙ puts_at s₂ 0 c (λ j. xor (word_at s₂ (0 + j)) (pack 8 (λ i. get_or iv (0 + 8 * j + i) 0))) (λ k lk. X.bound 64 _ _ (word_lt s₂ (0 + k) p₂) (column_lt iv k hi)) (omega (arith, first_le)) j l
            ∙ ap (λ k. xor (word_at s₂ k) (pack 8 (λ i. get_or iv (0 + 8 * j + i) 0))) (zero-add j)

        -- the others have the sealed block before
        word_later : (j : ℕ) → c + j < c * n → word_at s₄ (c + j) ≡ xor (word_at s₂ (c + j)) (pack 8 (λ i. get_or text (0 + 8 * j + i) 0))
        word_later j l =
            ap (λ x. word_at x (c + j)) e₄
            ∙ puts_at s₃ c (c * n - c) (λ j. xor (word_at s₃ (c + j)) (pack 8 (λ i. get_or text (0 + 8 * j + i) 0))) (λ k lk. X.bound 64 _ _ (word_lt s₃ (c + k) p₃) (column_lt text k ht)) (omega (arith, first_le)) j (omega arith)
            ∙ ap (λ x. xor x (pack 8 (λ i. get_or text (0 + 8 * j + i) 0))) (ap (λ x. word_at x (c + j)) e₃ ∙ puts_other s₂ 0 c _ (c + j) (◌⊎◌.inr (omega arith)))

        byte_first : (k : ℕ) → k < 8 * c → k < 8 * (c * n) → byte_of (word_at s₄ (k / 8)) (k % 8) ≡ xor (get_or (before (8 * c) iv text (k / (8 * c))) (k % (8 * c)) 0) (opened k)
        unfolding before
        byte_first k l lk =
            ap (λ x. byte_of x (k % 8)) (word_first (k / 8) (omega arith)) ∙ byte_xor (word_at s₂ (k / 8)) _ (k % 8)
            ∙ ap₂ xor (opened-byte k lk) (bytes_loaded iv k (k / 8) hi refl)
            ∙ X.comm (opened k) (get_or iv k 0)
            ∙ ap (λ x. xor x (opened k)) (sym (ap₂ (λ (i r : ℕ). get_or (before (8 * c) iv text i) r 0) (div_small k (8 * c) l) (mod-small k (8 * c) l)))

        byte_later : (k i r b : ℕ) → b ≡ i * (8 * c) + r → k ≡ suc i * (8 * c) + r → r < 8 * c → k < 8 * (c * n)
            → byte_of (word_at s₄ (k / 8)) (k % 8) ≡ xor (get_or (before (8 * c) iv text (k / (8 * c))) (k % (8 * c)) 0) (opened k)
        unfolding before
        byte_later k i r b eb ek lr lk =
            ap₂ (λ (a b : ℕ). byte_of (word_at s₄ a) b) column same ∙ ap (λ x. byte_of x (b % 8)) (word_later (b / 8) (omega (arith, column, lk)))
            ∙ byte_xor (word_at s₂ (c + b / 8)) _ (b % 8)
            ∙ ap₂ xor (ap₂ (λ (x y : ℕ). byte_of (word_at s₂ x) y) (sym column) (sym same) ∙ opened-byte k lk) (bytes_loaded text b (b / 8) ht refl)
            ∙ X.comm (opened k) (get_or text b 0)
            ∙ ap (λ x. xor x (opened k))
            (ap (λ m. get_or text m 0) eb ∙ sym (get_d_block (8 * c) i r text lr) ∙ sym (ap₂ (λ (q m : ℕ). get_or (before (8 * c) iv text q) m 0) (ap (λ x. x / (8 * c)) ek ∙ digits_div (suc i) lr) (ap (λ x. x % (8 * c)) ek ∙ digits_mod (suc i) lr)))
          where
            behind : k ≡ 8 * c + b
            behind = omega (arith, ek, eb, suc-mul i (8 * c))

            column : k / 8 ≡ c + b / 8
            column = omega (arith, behind)

            same : k % 8 ≡ b % 8
            same = omega (arith, behind)

        byte_added : (k : ℕ) → k < 8 * (c * n) → byte_of (word_at s₄ (k / 8)) (k % 8) ≡ xor (get_or (before (8 * c) iv text (k / (8 * c))) (k % (8 * c)) 0) (opened k)
        byte_added k l = go (k / (8 * c)) refl
          where
            go : (q : ℕ) → q ≡ k / (8 * c) → byte_of (word_at s₄ (k / 8)) (k % 8) ≡ xor (get_or (before (8 * c) iv text (k / (8 * c))) (k % (8 * c)) 0) (opened k)
            go zero e = byte_first k (small_lt k (8 * c) (omega arith) (sym e)) l
            go (suc i) e = byte_later k i (k % (8 * c)) (i * (8 * c) + k % (8 * c)) refl (sym (div-add-mod' k (8 * c)) ∙ ap (λ q. q * (8 * c) + k % (8 * c)) (sym e)) (mod-lt k (omega arith)) l

        -- 10.3
        pub opened_is : length text ≡ 8 * (c * n) → tab (8 * (c * n)) (λ i. byte_of (word_at s₄ (0 + i / 8)) (i % 8)) ≡ uncbc (8 * c) (unseal_bytes c t K) iv text
        unfolding uncbc
        opened_is long =
            tab_ext (8 * (c * n)) _ _ (λ k l. ap (λ j. byte_of (word_at s₄ j) (k % 8)) (zero-add (k / 8)) ∙ byte_added k l)
            ∙ ap (λ m. tab m (λ k. xor (get_or (before (8 * c) iv text (k / (8 * c))) (k % (8 * c)) 0) (get_or (unseal_bytes c t K (block_at (8 * c) text (k / (8 * c)))) (k % (8 * c)) 0))) (sym long)

-- whole blocks in columns
pub whole_columns : (c l : ℕ) → l % (8 * c) ≡ 0 → l ≡ 8 * (c * (l / (8 * c)))
whole_columns c l e = omega (arith, div-add-mod' l (8 * c), places c (l / (8 * c)))

pub some_whole : (c l : ℕ) → 0 < l → l % (8 * c) ≡ 0 → 0 < l / (8 * c)
some_whole c l h e = go (l / (8 * c)) refl
  where
    go : (q : ℕ) → q ≡ l / (8 * c) → 0 < l / (8 * c)
    go zero z = absurd (omega (arith, div-add-mod' l (8 * c), ap (λ q. q * (8 * c)) z, zero-mul (8 * c)))
    go (suc q) z = omega (arith, z)

-- stored from the front on
pub stored_all : (m l : ℕ) (x y o o' : List ℕ) → l ≡ 8 * m → o' ≡ take 0 o ++ (x ++ drop (0 + 8 * m) o) → x ≡ y → o' ≡ y ++ drop l o
stored_all m l x y o o' e h q = h ∙ ap₂ (λ (a : List ℕ) (n : ℕ). a ++ drop n o) q (zero-add (8 * m) ∙ sym e)

pub first_columns : (c n : ℕ) → 0 < n → c ≤ c * n
first_columns c n h = omega (arith, mul-le-mul_left c h, mul-suc c 0)
