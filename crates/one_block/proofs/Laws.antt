-- What loading, adding, sealing, opening and storing make of the first block's bytes.
use mathlib.Core.Path.{◌≡◌, sym, ap, ap₂, ◌∙◌, subst}
use mathlib.Core.List.{List}
use Prim.Native.Nat.{ℕ, ◌+◌, ◌*◌, ◌/◌, ◌%◌, ◌^◌, ◌<◌, ◌≤◌}
use native.Mathlib.Nat.{zero-add}
use native.Mathlib.Omega.{arith}
use lib.ListN.{get_or, take, drop, length, length-drop}
use lib.Seq.{get_or-take, get_or-drop, length-take-le}
use Rattle.common.specs.Places.{tab}
use Rattle.common.proofs.Places.{get_d_tab, length_tab, tab_ext, tab_self}
use Rattle.field.specs.Xor.{xor}
use Rattle.field.specs.Column.{byte_of, pack}
use Rattle.field.proofs.XorLaws as X
use Rattle.field.proofs.PackLaws.{byte_pack, byte_xor, pack_lt}
use Rattle.words.specs.Words.{word_at, put_words, block_at, Walked}
use Rattle.words.proofs.Laws.{Pieces}
use Rattle.words.proofs.Walks.{puts_at, word_lt}
use Rattle.kalyna.specs.State.{State, bytes_of}
use Rattle.kalyna.specs.Block.{seal, unseal, seal_bytes, unseal_bytes}
use Rattle.kalyna.proofs.Bytes.{columns_bytes, bytes_of_bytes}
use Rattle.modes.specs.Blocks.{xor_block}
use Rattle.modes.proofs.Blocks.{of_bytes}
use Rattle.one_block.specs.Held.{held}

pub length_held : (c : ℕ) (s : List ℕ) → length (held c s) ≡ 8 * c
unfolding held
length_held c s = (bytes_of_bytes c (block_at c s 0)).long

pub held_byte : (c : ℕ) (s : List ℕ) (n : ℕ) → get_or (held c s) n 0 < 256
unfolding held
held_byte c s n = of_bytes (8 * c) (held c s) (bytes_of_bytes c (block_at c s 0)) n

-- byte n
pub get_d_held : (c : ℕ) (s : List ℕ) (n : ℕ) → n < 8 * c → get_or (held c s) n 0 ≡ byte_of (word_at s (n / 8)) (n % 8)
unfolding held bytes_of block_at
get_d_held c s n l =
    get_d_tab (8 * c) (λ n. byte_of (get_or (block_at c s 0) (n / 8) 0) (n % 8)) n l
    ∙ ap (λ x. byte_of x (n % 8)) (get_d_tab c (λ j. word_at s (c * 0 + j)) (n / 8) (omega arith) ∙ ap (word_at s) first)
  where
    first : c * 0 + n / 8 ≡ n / 8
    first = omega arith

-- a block whose bytes are those of y
pub held_is : (c : ℕ) (s y : List ℕ) → length y ≡ 8 * c → ((n : ℕ) → n < 8 * c → byte_of (word_at s (n / 8)) (n % 8) ≡ get_or y n 0) → held c s ≡ y
held_is c s y e h =
    sym (tab_self (8 * c) (held c s) (length_held c s)) ∙ tab_ext (8 * c) _ (λ n. get_or y n 0) (λ n l. get_d_held c s n l ∙ h n l) ∙ tab_self (8 * c) y e

-- as it is stored
pub stored : (c : ℕ) (s : List ℕ) → tab (8 * c) (λ n. byte_of (word_at s (0 + n / 8)) (n % 8)) ≡ held c s
stored c s =
    tab_ext (8 * c) _ (λ n. get_or (held c s) n 0) (λ n l. ap (λ j. byte_of (word_at s j) (n % 8)) (zero-add (n / 8)) ∙ sym (get_d_held c s n l))
    ∙ tab_self (8 * c) (held c s) (length_held c s)

-- ---- bytes of a slice

module _ (c at : ℕ) (b : List ℕ) (h : (n : ℕ) → get_or b n 0 < 256) (r : at + 8 * c ≤ length b) where
  length_part : length (take (8 * c) (drop at b)) ≡ 8 * c
  length_part = length-take-le (8 * c) (drop at b) (subst (λ n. 8 * c ≤ n) (sym (length-drop at b)) (omega arith))

  get_d_part : (n : ℕ) → n < 8 * c → get_or (take (8 * c) (drop at b)) n 0 ≡ get_or b (at + n) 0
  get_d_part n l = get_or-take (8 * c) (drop at b) n 0 l ∙ get_or-drop at b n 0

  -- byte n of the columns that are loaded
  byte_loaded : (n : ℕ) → byte_of (pack 8 (λ i. get_or b (at + 8 * (n / 8) + i) 0)) (n % 8) ≡ get_or b (at + n) 0
  byte_loaded n = byte_pack 8 (λ i. get_or b (at + 8 * (n / 8) + i) 0) (λ i l. h _) (n % 8) (omega arith) ∙ ap (λ m. get_or b m 0) place
    where
      place : at + 8 * (n / 8) + n % 8 ≡ at + n
      place = omega arith

  column_lt : (j : ℕ) → pack 8 (λ i. get_or b (at + 8 * j + i) 0) < 2 ^ 64
  column_lt j = pack_lt 8 (λ i. get_or b (at + 8 * j + i) 0) (λ i l. h _)

  module _ (s s' : List ℕ) (room : 4 * c ≤ length s) where
    pub held_load : s' ≡ put_words s 0 c (λ j. pack 8 (λ i. get_or b (at + 8 * j + i) 0)) → held c s' ≡ take (8 * c) (drop at b)
    held_load e =
        held_is c s' _ length_part (λ n l.
        ap (λ w. byte_of w (n % 8)) (word (n / 8) (omega arith)) ∙ byte_loaded n ∙ sym (get_d_part n l))
      where
        word : (j : ℕ) → j < c → word_at s' j ≡ pack 8 (λ i. get_or b (at + 8 * j + i) 0)
        word j l =
            ap₂ (λ (x : List ℕ) (k : ℕ). word_at x k) e (sym (zero-add j))
            ∙ puts_at s 0 c (λ j. pack 8 (λ i. get_or b (at + 8 * j + i) 0)) (λ k lk. column_lt k) (omega arith) j l

    pub held_add : Pieces s → s' ≡ put_words s 0 c (λ j. xor (word_at s (0 + j)) (pack 8 (λ i. get_or b (at + 8 * j + i) 0)))
        → held c s' ≡ xor_block (8 * c) (held c s) (take (8 * c) (drop at b))
    unfolding xor_block
    held_add p e =
        held_is c s' _ (length_tab (8 * c) _) (λ n l.
        ap (λ w. byte_of w (n % 8)) (word (n / 8) (omega arith))
        ∙ byte_xor (word_at s (n / 8)) _ (n % 8)
        ∙ ap₂ xor (sym (get_d_held c s n l)) (byte_loaded n ∙ sym (get_d_part n l))
        ∙ sym (get_d_tab (8 * c) (λ n. xor (get_or (held c s) n 0) (get_or (take (8 * c) (drop at b)) n 0)) n l))
      where
        word : (j : ℕ) → j < c → word_at s' j ≡ xor (word_at s j) (pack 8 (λ i. get_or b (at + 8 * j + i) 0))
        word j l =
            ap₂ (λ (x : List ℕ) (k : ℕ). word_at x k) e (sym (zero-add j))
            ∙ puts_at s 0 c (λ j. xor (word_at s (0 + j)) (pack 8 (λ i. get_or b (at + 8 * j + i) 0))) (λ k lk. X.bound 64 _ _ (word_lt s (0 + k) p) (column_lt k)) (omega arith) j l
            ∙ ap (λ k. xor (word_at s k) (pack 8 (λ i. get_or b (at + 8 * j + i) 0))) (zero-add j)

-- ---- one block sealed, one block opened

first_state : (c : ℕ) (s : List ℕ) → Pieces s → State c (block_at c s 0)
unfolding block_at
first_state c s p =
    record { long = length_tab c _; fits = λ j l. subst (λ x. x < 2 ^ 64) (sym (get_d_tab c (λ j. word_at s (c * 0 + j)) j l)) (word_lt s (c * 0 + j) p) }

module _ (c t : ℕ) (K : ℕ → List ℕ) (s s' : List ℕ) (p : Pieces s) where
  pub held_seal : Walked c 1 (seal c t K) s s' → held c s' ≡ seal_bytes c t K (held c s)
  unfolding held seal_bytes
  held_seal w = ap (bytes_of c) (w.done 0 (omega arith) ∙ ap (seal c t K) (sym (columns_bytes c (block_at c s 0) (first_state c s p))))

  pub held_open : Walked c 1 (unseal c t K) s s' → held c s' ≡ unseal_bytes c t K (held c s)
  unfolding held unseal_bytes
  held_open w = ap (bytes_of c) (w.done 0 (omega arith) ∙ ap (unseal c t K) (sym (columns_bytes c (block_at c s 0) (first_state c s p))))
