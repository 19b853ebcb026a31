-- The last, short block, and the whole answer.
use mathlib.Core.Path.{◌≡◌, refl, sym, ap, ◌∙◌, subst}
use mathlib.Core.List.{List, ◌++◌}
use Prim.Native.Nat.{ℕ, suc, ◌+◌, ◌-◌, ◌*◌, ◌/◌, ◌%◌, ◌<◌, ◌≤◌}
use native.Mathlib.Nat.{zero-add, zero-mul, suc-mul}
use native.Mathlib.Numerals.{add-one}
use native.Mathlib.Omega.{arith}
use lib.Arith.{digits_div, digits_mod}
use lib.ListN.{get_or, take, drop, length}
use Rattle.common.specs.Places.{tab}
use Rattle.field.specs.Xor.{xor}
use Rattle.field.specs.Column.{byte_of, pack}
use Rattle.words.specs.Words.{word_at, put_words, block_at, Walked}
use Rattle.kalyna.specs.State.{State, columns_of, bytes_of}
use Rattle.kalyna.proofs.Bytes.{seal_state}
use Rattle.kalyna.specs.Block.{seal, seal_bytes}
use Rattle.blocks.specs.Blocks.{Width}
use Rattle.blocks.proofs.Widths.{width_pos}
use Rattle.modes.specs.Blocks as Text
use Rattle.modes.specs.Stream.{add_gamma, front, rear, ofb_gamma, ofb, cfb_gamma, cfb, uncfb_gamma, uncfb}
use Rattle.modes.specs.Cell.{blocks_in}
use Rattle.stream_laws.specs.Gammas.{cell_byte, Laid, added, Written, ofb_fed, cfb_fed}
use Rattle.stream_laws.proofs.Out.{written_gamma}
use Rattle.stream_laws.proofs.Widths.{in_blocks, whole_le, rest_lt, next_whole}
use Rattle.stream_laws.proofs.Adding.{block_added, cells_added}
use Rattle.stream_laws.proofs.Cells.{loaded}
use Rattle.stream_laws.proofs.Modes.{xored_in, ofb_sealed, cfb_sealed, uncfb_sealed, rear_in, rear_last}

module _ (c : ℕ) (gamma : ℕ → List ℕ) (place : ℕ → ℕ) (text : List ℕ) where
  -- a whole block, by columns
  pub whole_added : (i at : ℕ) (s o₀ o o' : List ℕ) → Written (added (8 * c) gamma place text) at o₀ o → at ≡ i * (8 * c) → bytes_of c (block_at c s 0) ≡ gamma i
      → ((j : ℕ) → j < 8 * c → place (i * (8 * c) + j) ≡ j)
      → o' ≡ take at o ++ (tab (8 * c) (λ n. xor (get_or text (at + n) 0) (byte_of (word_at s (0 + n / 8)) (n % 8))) ++ drop (at + 8 * c) o) → at + 8 * c ≤ length o₀
      → Written (added (8 * c) gamma place text) (at + 8 * c) o₀ o'
  unfolding cell_byte
  whole_added i at s o₀ o o' w ea eg ep e l =
      block_added c gamma place text i 0 0 (8 * c) at s o₀ o o' _ w ea (omega arith) eg (λ j lj. ep j lj ∙ sym (zero-add j))
      (λ j lj. ap (xor (get_or text (at + j) 0)) (ap (λ n. byte_of (word_at s n) (j % 8)) (zero-add (j / 8)) ∙ ap (λ n. byte_of (word_at s (n / 8)) (n % 8)) (sym (start j)))) e l
    where
      start : (j : ℕ) → 0 * (8 * c) + (0 + j) ≡ j
      start j = omega (arith, zero-mul (8 * c))

  -- what is written is the whole text
  pub all_written : (n : ℕ) (o o' : List ℕ) → n ≡ length text → Written (added (8 * c) gamma place text) n o o' → o' ≡ add_gamma (8 * c) gamma place text ++ drop (length text) o
  all_written n o o' e w = written_gamma (8 * c) gamma place text o o' (subst (λ n. Written (added (8 * c) gamma place text) n o o') e w)

  -- a short last block: its bytes stand from byte k of block b of the cell on
  pub last_written : (q b k : ℕ) (s o o₁ o₂ : List ℕ) (g : ℕ → ℕ) → 0 < c → q ≡ length text / (8 * c) → length text ≤ length o → k + (length text - q * (8 * c)) ≤ 8 * c
      → Written (added (8 * c) gamma place text) (q * (8 * c)) o o₁ → bytes_of c (block_at c s b) ≡ gamma q
      → ((j : ℕ) → j < length text - q * (8 * c) → place (q * (8 * c) + j) ≡ k + j)
      → ((j : ℕ) → j < length text - q * (8 * c) → g j ≡ xor (get_or text (q * (8 * c) + j) 0) (cell_byte s (b * (8 * c) + (k + j))))
      → o₂ ≡ take (q * (8 * c)) o₁ ++ (tab (length text - q * (8 * c)) g ++ drop (q * (8 * c) + (length text - q * (8 * c))) o₁)
      → o₂ ≡ add_gamma (8 * c) gamma place text ++ drop (length text) o
  last_written q b k s o o₁ o₂ g p eq l fits w eg ep h e =
      all_written (q * (8 * c) + (length text - q * (8 * c))) o o₂ all
      (block_added c gamma place text q b k (length text - q * (8 * c)) (q * (8 * c)) s o o₁ o₂ g w refl fits eg ep h e (subst (λ n. n ≤ length o) (sym all) l))
    where
      all : q * (8 * c) + (length text - q * (8 * c)) ≡ length text
      all = omega (arith, subst (λ q. q * (8 * c) ≤ length text) (sym eq) (whole_le (length text) (8 * c)))

-- a block before the last of q ends within the text
pub ends_in : (B i q n : ℕ) → i < q → q * B ≤ n → suc i * B ≤ n
ends_in B i q n l h = subst (λ x. x ≤ n) (sym (suc-mul i B)) (next_whole B i q n l h)

pub front_place : (B i j : ℕ) → j < B → front B (i * B + j) ≡ j
unfolding front
front_place B i j l = digits_mod i {m = B} {r = j} l

short_lt : (c q L : ℕ) → 0 < c → q ≡ L / (8 * c) → L - q * (8 * c) < 8 * c
short_lt c q L p e = subst (λ q. L - q * (8 * c) < 8 * c) (sym e) (rest_lt L (8 * c) (omega arith))

module _ (c t : ℕ) (K : ℕ → List ℕ) (iv text : List ℕ) where
  abbrev E : List ℕ → List ℕ
  E = seal_bytes c t K

  -- ---- section 11

  pub ofb_start : (e e₁ : List ℕ) → ((n : ℕ) → get_or iv n 0 < 256) → 4 * c ≤ length e → e₁ ≡ put_words e 0 c (λ j. pack 8 (λ i. get_or iv (0 + 8 * j + i) 0))
      → block_at c e₁ 0 ≡ columns_of c (ofb_fed (seal_bytes c t K) iv 0)
  unfolding ofb_fed
  ofb_start e e₁ h r q = ap (λ x. block_at c x 0) q ∙ loaded c e iv h r

  pub ofb_whole_is : (n : ℕ) (o o' : List ℕ) → n ≡ length text → Written (added (8 * c) (ofb_gamma (seal_bytes c t K) iv) (front (8 * c)) text) n o o'
      → o' ≡ ofb (8 * c) (seal_bytes c t K) iv text ++ drop (length text) o
  unfolding ofb
  ofb_whole_is n o o' e w = all_written c (ofb_gamma E iv) (front (8 * c)) text n o o' e w

  pub ofb_is : (q : ℕ) (e e' o o₁ o₂ : List ℕ) → Width c → q ≡ length text / (8 * c) → length text ≤ length o
      → block_at c e 0 ≡ columns_of c (ofb_fed (seal_bytes c t K) iv q) → Walked c 1 (seal c t K) e e'
      → Written (added (8 * c) (ofb_gamma (seal_bytes c t K) iv) (front (8 * c)) text) (q * (8 * c)) o o₁
      → o₂ ≡ take (q * (8 * c)) o₁ ++ (tab (length text - q * (8 * c)) (λ i. xor (get_or text (q * (8 * c) + i) 0) (cell_byte e' i)) ++ drop (q * (8 * c) + (length text - q * (8 * c))) o₁)
      → o₂ ≡ ofb (8 * c) (seal_bytes c t K) iv text ++ drop (length text) o
  unfolding ofb
  ofb_is q e e' o o₁ o₂ w eq l st walked wr r =
      last_written c (ofb_gamma E iv) (front (8 * c)) text q 0 0 e' o o₁ o₂ _ (width_pos c w) eq l (omega (arith, short)) wr (ofb_sealed c t K iv e e' q st walked)
      (λ j lj. front_place (8 * c) q j (omega (arith, short)) ∙ sym (zero-add j)) (λ j lj. ap (λ n. xor (get_or text (q * (8 * c) + j) 0) (cell_byte e' n)) (sym (start j))) r
    where
      short : length text - q * (8 * c) < 8 * c
      short = short_lt c q (length text) (width_pos c w) eq

      start : (j : ℕ) → 0 * (8 * c) + (0 + j) ≡ j
      start j = omega (arith, zero-mul (8 * c))

  -- ---- section 8

  pub cfb_start : (e e₁ : List ℕ) → ((n : ℕ) → get_or iv n 0 < 256) → 4 * c ≤ length e → e₁ ≡ put_words e 0 c (λ j. pack 8 (λ i. get_or iv (0 + 8 * j + i) 0))
      → block_at c e₁ 0 ≡ columns_of c (cfb_fed (8 * c) (seal_bytes c t K) iv text 0)
  unfolding cfb_fed
  cfb_start e e₁ h r q = ap (λ x. block_at c x 0) q ∙ loaded c e iv h r

  -- the sealed block is fed to the next one
  pub cfb_next : (i at : ℕ) (e e₁ e₂ : List ℕ) → ((n : ℕ) → get_or text n 0 < 256) → 4 * c ≤ length e₁ → at ≡ i * (8 * c)
      → block_at c e 0 ≡ columns_of c (cfb_fed (8 * c) (seal_bytes c t K) iv text i) → Walked c 1 (seal c t K) e e₁
      → e₂ ≡ put_words e₁ 0 c (λ j. xor (word_at e₁ (0 + j)) (pack 8 (λ k. get_or text (at + 8 * j + k) 0)))
      → block_at c e₂ 0 ≡ columns_of c (cfb_fed (8 * c) (seal_bytes c t K) iv text (i + 1))
  unfolding cfb_fed
  cfb_next i at e e₁ e₂ h r ea q w p =
      xored_in c i at text (cfb_gamma (8 * c) E iv text i) e₁ e₂ h state (cfb_sealed c t K iv text e e₁ i q w) ea r p
      ∙ ap (λ k. columns_of c (cfb_fed (8 * c) E iv text k)) (sym (add-one i))
    where
      state : State c (block_at c e₁ 0)
      state = subst (State c) (sym (w.done 0 (omega arith))) (seal_state c t K (block_at c e 0))

  pub cfb_whole_is : (n : ℕ) (o o' : List ℕ) → n ≡ length text → Written (added (8 * c) (cfb_gamma (8 * c) (seal_bytes c t K) iv text) (rear (8 * c) (length text)) text) n o o'
      → o' ≡ cfb (8 * c) (seal_bytes c t K) iv text ++ drop (length text) o
  unfolding cfb
  cfb_whole_is n o o' e w = all_written c (cfb_gamma (8 * c) E iv text) (rear (8 * c) (length text)) text n o o' e w

  pub cfb_is : (q : ℕ) (e e' o o₁ o₂ : List ℕ) → Width c → q ≡ length text / (8 * c) → length text ≤ length o
      → block_at c e 0 ≡ columns_of c (cfb_fed (8 * c) (seal_bytes c t K) iv text q) → Walked c 1 (seal c t K) e e'
      → Written (added (8 * c) (cfb_gamma (8 * c) (seal_bytes c t K) iv text) (rear (8 * c) (length text)) text) (q * (8 * c)) o o₁
      → o₂ ≡ take (q * (8 * c)) o₁ ++ (tab (length text - q * (8 * c)) (λ i. xor (get_or text (q * (8 * c) + i) 0) (byte_of (word_at e' ((8 * c - (length text - q * (8 * c)) + i) / 8)) ((8 * c - (length text - q * (8 * c)) + i) % 8))) ++ drop (q * (8 * c) + (length text - q * (8 * c))) o₁)
      → o₂ ≡ cfb (8 * c) (seal_bytes c t K) iv text ++ drop (length text) o
  unfolding cfb cell_byte
  cfb_is q e e' o o₁ o₂ w eq l st walked wr r =
      last_written c (cfb_gamma (8 * c) E iv text) (rear (8 * c) (length text)) text q 0 (8 * c - (length text - q * (8 * c))) e' o o₁ o₂ _ (width_pos c w) eq l (omega (arith, short)) wr (cfb_sealed c t K iv text e e' q st walked)
      (λ j lj. rear_last (8 * c) (length text) q j eq (omega (arith, width_pos c w)) lj)
      (λ j lj. ap (λ n. xor (get_or text (q * (8 * c) + j) 0) (byte_of (word_at e' (n / 8)) (n % 8))) (sym (start (8 * c - (length text - q * (8 * c)) + j)))) r
    where
      short : length text - q * (8 * c) < 8 * c
      short = short_lt c q (length text) (width_pos c w) eq

      start : (j : ℕ) → 0 * (8 * c) + j ≡ j
      start j = omega (arith, zero-mul (8 * c))

  -- ---- 8.3

  -- the whole blocks
  pub uncfb_front : (q : ℕ) (s₀ s o o₁ : List ℕ) → Width c → q ≡ length text / (8 * c) → length text ≤ length o
      → Laid c (blocks_in (8 * c) (length text)) (λ i. seal c t K (columns_of c (Text.before (8 * c) iv text i))) s₀ s
      → o₁ ≡ take 0 o ++ (tab (q * (8 * c)) (λ i. xor (get_or text (0 + i) 0) (cell_byte s i)) ++ drop (0 + q * (8 * c)) o)
      → Written (added (8 * c) (uncfb_gamma (8 * c) (seal_bytes c t K) iv text) (rear (8 * c) (length text)) text) (q * (8 * c)) o o₁
  uncfb_front q s₀ s o o₁ w eq l a r =
      cells_added c (uncfb_gamma (8 * c) E iv text) (rear (8 * c) (length text)) text (q * (8 * c)) s o o₁ (width_pos c w)
      (λ i li. uncfb_sealed c t K iv text s (i / (8 * c)) (a.done (i / (8 * c)) (in_blocks (length text) c w i (omega (arith, inside)))))
      (λ i li. rear_in (8 * c) (length text) q i (omega (arith, width_pos c w)) inside li) r (omega (arith, inside))
    where
      inside : q * (8 * c) ≤ length text
      inside = subst (λ q. q * (8 * c) ≤ length text) (sym eq) (whole_le (length text) (8 * c))

  pub uncfb_whole_is : (q : ℕ) (s₀ s o o₁ : List ℕ) → Width c → q ≡ length text / (8 * c) → q * (8 * c) ≡ length text → length text ≤ length o
      → Laid c (blocks_in (8 * c) (length text)) (λ i. seal c t K (columns_of c (Text.before (8 * c) iv text i))) s₀ s
      → o₁ ≡ take 0 o ++ (tab (q * (8 * c)) (λ i. xor (get_or text (0 + i) 0) (cell_byte s i)) ++ drop (0 + q * (8 * c)) o)
      → o₁ ≡ uncfb (8 * c) (seal_bytes c t K) iv text ++ drop (length text) o
  unfolding uncfb
  uncfb_whole_is q s₀ s o o₁ w eq all l a r =
      all_written c (uncfb_gamma (8 * c) E iv text) (rear (8 * c) (length text)) text (q * (8 * c)) o o₁ all (uncfb_front q s₀ s o o₁ w eq l a r)

  pub uncfb_is : (q : ℕ) (s₀ s o o₁ o₂ : List ℕ) → Width c → q ≡ length text / (8 * c) → (q * (8 * c) ≡ length text → ⊥) → length text ≤ length o
      → Laid c (blocks_in (8 * c) (length text)) (λ i. seal c t K (columns_of c (Text.before (8 * c) iv text i))) s₀ s
      → o₁ ≡ take 0 o ++ (tab (q * (8 * c)) (λ i. xor (get_or text (0 + i) 0) (cell_byte s i)) ++ drop (0 + q * (8 * c)) o)
      → o₂ ≡ take (q * (8 * c)) o₁ ++ (tab (length text - q * (8 * c)) (λ i. xor (get_or text (q * (8 * c) + i) 0) (byte_of (word_at s ((q * (8 * c) + (8 * c - (length text - q * (8 * c))) + i) / 8)) ((q * (8 * c) + (8 * c - (length text - q * (8 * c))) + i) % 8))) ++ drop (q * (8 * c) + (length text - q * (8 * c))) o₁)
      → o₂ ≡ uncfb (8 * c) (seal_bytes c t K) iv text ++ drop (length text) o
  unfolding uncfb cell_byte
  uncfb_is q s₀ s o o₁ o₂ w eq ne l a r₁ r₂ =
      last_written c (uncfb_gamma (8 * c) E iv text) (rear (8 * c) (length text)) text q q (8 * c - (length text - q * (8 * c))) s o o₁ o₂ _ (width_pos c w) eq l (omega (arith, short))
      (uncfb_front q s₀ s o o₁ w eq l a r₁) (uncfb_sealed c t K iv text s q (a.done q (subst (λ n. n < blocks_in (8 * c) (length text)) (digits q) (in_blocks (length text) c w (q * (8 * c)) (omega (arith, inside))))))
      (λ j lj. rear_last (8 * c) (length text) q j eq (omega (arith, width_pos c w)) lj)
      (λ j lj. ap (λ n. xor (get_or text (q * (8 * c) + j) 0) (byte_of (word_at s (n / 8)) (n % 8))) (sum (q * (8 * c)) (8 * c - (length text - q * (8 * c))) j)) r₂
    where
      inside : q * (8 * c) ≤ length text
      inside = subst (λ q. q * (8 * c) ≤ length text) (sym eq) (whole_le (length text) (8 * c))

      short : length text - q * (8 * c) < 8 * c
      short = short_lt c q (length text) (width_pos c w) eq

      digits : (q : ℕ) → q * (8 * c) / (8 * c) ≡ q
      digits q = ap (λ n. n / (8 * c)) (zeros (q * (8 * c))) ∙ digits_div q {m = 8 * c} {r = 0} (omega (arith, width_pos c w))
        where
          zeros : (n : ℕ) → n ≡ n + 0
          zeros n = omega arith

      sum : (x y j : ℕ) → x + y + j ≡ x + (y + j)
      sum x y j = omega arith
