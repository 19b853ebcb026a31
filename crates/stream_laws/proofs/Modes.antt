-- What the code makes of a cell is what the modes define.
use mathlib.Core.Path.{◌≡◌, refl, sym, ap, ap₂, ◌∙◌, subst}
use mathlib.Core.Logic.{◌⊎◌}
use mathlib.Core.List.{List, ◌++◌}
use Prim.Native.Nat.{ℕ, zero, suc, ◌+◌, ◌-◌, ◌*◌, ◌/◌, ◌%◌, ◌^◌, ◌<◌, ◌≤◌}
use native.Mathlib.Nat.{mod-lt, div-add-mod', zero-add, mul-suc, suc-mul, mul-zero, mul_comm, mul_assoc, mul-le-mul_left, mul-le-mul_right, div-lt_iff_lt-mul}
use native.Mathlib.Numerals.{add-one}
use native.Mathlib.Omega.{arith}
use lib.ListN.{get_or, take, drop, length}
use Rattle.common.specs.Places.{tab}
use Rattle.common.proofs.Places.{get_d_tab, tab_ext}
use Rattle.field.specs.Xor.{xor}
use Rattle.field.specs.Column.{pack}
use Rattle.field.proofs.XorLaws as X
use Rattle.field.proofs.PackLaws.{pack_lt, pack_ext, pack_xor}
use Rattle.words.specs.Words.{word_at, put_words, block_at, Walked}
use Rattle.kalyna.specs.State.{State, columns_of, bytes_of}
use Rattle.kalyna.specs.Block.{seal, seal_bytes}
use Rattle.kalyna.proofs.Bytes.{seal_state, columns_bytes, bytes_of_bytes}
use Rattle.blocks.specs.Blocks.{Width}
use Rattle.blocks.proofs.Widths.{width_pos}
use Rattle.modes.specs.Blocks as Text
use Rattle.modes.specs.Stream.{front, rear, counter, ctr_gamma, ctr, ofb_gamma, cfb_gamma, uncfb_gamma}
use Rattle.modes.specs.Cell.{blocks_in}
use Rattle.modes.proofs.Blocks.{get_d_block, get_d_xor}
use Rattle.modes.proofs.Stream.{rear_whole, rear_short}
use Rattle.stream_laws.specs.Gammas.{cell_byte, counted, Laid, ofb_fed, cfb_fed}
use Rattle.stream_laws.proofs.Out.{written_gamma}
use Rattle.stream_laws.proofs.Cells.{get_d_blocks, block_puts, block_other, loaded}
use Rattle.stream_laws.proofs.Counting.{count_is}
use Rattle.stream_laws.proofs.Widths.{in_blocks}
use Rattle.stream_laws.proofs.Adding.{cells_added}

-- ---- one block

-- bytes loaded, then transformed
pub loaded_walked : (c : ℕ) (F : List ℕ → List ℕ) (e e₁ e₂ b : List ℕ) → ((n : ℕ) → get_or b n 0 < 256) → 4 * c ≤ length e
    → e₁ ≡ put_words e 0 c (λ j. pack 8 (λ i. get_or b (0 + 8 * j + i) 0)) → Walked c 1 F e₁ e₂ → block_at c e₂ 0 ≡ F (columns_of c b)
loaded_walked c F e e₁ e₂ b h r q w = w.done 0 (omega arith) ∙ ap F (ap (λ x. block_at c x 0) q ∙ loaded c e b h r)

module _ (c t : ℕ) (K : ℕ → List ℕ) where
  abbrev E : List ℕ → List ℕ
  E = seal_bytes c t K

  -- the bytes of a sealed block
  pub sealed_bytes : (s : List ℕ) (i : ℕ) (b : List ℕ) → block_at c s i ≡ seal c t K (columns_of c b) → bytes_of c (block_at c s i) ≡ seal_bytes c t K b
  unfolding seal_bytes
  sealed_bytes s i b e = ap (bytes_of c) e

  -- and its columns
  pub sealed_columns : (b : List ℕ) → columns_of c (seal_bytes c t K b) ≡ seal c t K (columns_of c b)
  unfolding seal_bytes
  sealed_columns b = columns_bytes c (seal c t K (columns_of c b)) (seal_state c t K (columns_of c b))

  -- ---- section 7

  -- the counters sealed
  pub counters_sealed : (n : ℕ) (iv e s s₁ s₂ : List ℕ) → block_at c e 0 ≡ seal c t K (columns_of c iv) → Laid c n (λ i. tab c (counted e (i + 1))) s s₁
      → Walked c n (seal c t K) s₁ s₂ → Laid c n (λ i. seal c t K (columns_of c (Text.block_of (8 * c) (counter (8 * c) (seal_bytes c t K iv) (i + 1))))) s s₂
  unfolding seal_bytes
  counters_sealed n iv e s s₁ s₂ q a b =
      record {
        long = b.long ∙ a.long;
        done = λ i l. b.done i l ∙ ap (seal c t K) (a.done i l ∙ count_is c e (seal c t K (columns_of c iv)) (i + 1) (seal_state c t K (columns_of c iv)) q);
      }

  pub ctr_is : (iv text s₀ s o o' : List ℕ) → Width c → Laid c (blocks_in (8 * c) (length text)) (λ i. seal c t K (columns_of c (Text.block_of (8 * c) (counter (8 * c) (seal_bytes c t K iv) (i + 1))))) s₀ s
      → length text ≤ length o → o' ≡ take 0 o ++ (tab (length text) (λ i. xor (get_or text (0 + i) 0) (cell_byte s i)) ++ drop (0 + length text) o)
      → o' ≡ ctr (8 * c) (seal_bytes c t K) iv text ++ drop (length text) o
  unfolding ctr ctr_gamma front
  ctr_is iv text s₀ s o o' w a l e =
      written_gamma (8 * c) (ctr_gamma (8 * c) E iv) (front (8 * c)) text o o'
      (cells_added c (ctr_gamma (8 * c) E iv) (front (8 * c)) text (length text) s o o' (width_pos c w)
      (λ i li. sealed_bytes s (i / (8 * c)) _ (a.done (i / (8 * c)) (in_blocks (length text) c w i li))) (λ i li. refl) e l)

  -- ---- section 11

  ofb_gamma_lem : (iv : List ℕ) (i : ℕ) → ofb_gamma E iv i ≡ E (ofb_fed E iv i)
  unfolding ofb_gamma ofb_fed
  ofb_gamma_lem iv zero = refl
  ofb_gamma_lem iv (suc i) = refl

  -- what is fed to the next block
  pub ofb_next : (iv e e' : List ℕ) (i : ℕ) → block_at c e 0 ≡ columns_of c (ofb_fed (seal_bytes c t K) iv i) → Walked c 1 (seal c t K) e e'
      → block_at c e' 0 ≡ columns_of c (ofb_fed (seal_bytes c t K) iv (i + 1))
  unfolding ofb_fed
  ofb_next iv e e' i q w =
      w.done 0 (omega arith) ∙ ap (seal c t K) q ∙ sym (sealed_columns (ofb_fed E iv i)) ∙ ap (columns_of c) (sym (ofb_gamma_lem iv i) ∙ ap (ofb_fed E iv) (sym (add-one i)))

  -- the gamma that stands in the cell
  pub ofb_sealed : (iv e e' : List ℕ) (i : ℕ) → block_at c e 0 ≡ columns_of c (ofb_fed (seal_bytes c t K) iv i) → Walked c 1 (seal c t K) e e'
      → bytes_of c (block_at c e' 0) ≡ ofb_gamma (seal_bytes c t K) iv i
  ofb_sealed iv e e' i q w = sealed_bytes e' 0 (ofb_fed E iv i) (w.done 0 (omega arith) ∙ ap (seal c t K) q) ∙ sym (ofb_gamma_lem iv i)

  -- ---- section 8

  cfb_gamma_lem : (iv text : List ℕ) (i : ℕ) → cfb_gamma (8 * c) E iv text i ≡ E (cfb_fed (8 * c) E iv text i)
  unfolding cfb_gamma cfb_fed
  cfb_gamma_lem iv text zero = refl
  cfb_gamma_lem iv text (suc i) = refl

  pub cfb_sealed : (iv text e e' : List ℕ) (i : ℕ) → block_at c e 0 ≡ columns_of c (cfb_fed (8 * c) (seal_bytes c t K) iv text i) → Walked c 1 (seal c t K) e e'
      → bytes_of c (block_at c e' 0) ≡ cfb_gamma (8 * c) (seal_bytes c t K) iv text i
  cfb_sealed iv text e e' i q w = sealed_bytes e' 0 (cfb_fed (8 * c) E iv text i) (w.done 0 (omega arith) ∙ ap (seal c t K) q) ∙ sym (cfb_gamma_lem iv text i)

-- the text added to the gamma in the cell is the sealed block
pub xored_in : (c i at : ℕ) (text gamma e e' : List ℕ) → ((n : ℕ) → get_or text n 0 < 256) → State c (block_at c e 0) → bytes_of c (block_at c e 0) ≡ gamma → at ≡ i * (8 * c) → 4 * c ≤ length e
    → e' ≡ put_words e 0 c (λ j. xor (word_at e (0 + j)) (pack 8 (λ k. get_or text (at + 8 * j + k) 0)))
    → block_at c e' 0 ≡ columns_of c (Text.xor_block (8 * c) (Text.block_at (8 * c) text i) gamma)
unfolding columns_of
xored_in c i at text gamma e e' h st eg ea r q =
    ap (λ x. block_at c x 0) q
    ∙ block_puts c 0 c 0 e _ 0 (λ j l. X.bound 64 _ _ (subst (λ x. x < 2 ^ 64) (word j l) (st.fits j l)) (pack_lt 8 _ (λ k lk. h _))) (omega arith) (omega arith) (omega arith)
    ∙ tab_ext c _ _ (λ j l.
    ap₂ (λ (x y : ℕ). xor x y) (ap (word_at e) (zero-add (0 + j)) ∙ ap (word_at e) (zero-add j) ∙ sym (direct j l) ∙ columns j l) (pack_ext 8 _ _ (λ k lk. ap (λ n. get_or text n 0) (sum j k) ∙ sym (get_d_block (8 * c) i (8 * j + k) text (omega arith))))
    ∙ X.comm _ _
    ∙ sym (pack_xor 8 (λ k. get_or (Text.block_at (8 * c) text i) (8 * j + k) 0) (λ k. get_or gamma (8 * j + k) 0)
    (λ k lk. subst (λ x. x < 256) (sym (get_d_block (8 * c) i (8 * j + k) text (omega arith))) (h _))
    (λ k lk. subst (λ g. get_or g (8 * j + k) 0 < 256) eg ((bytes_of_bytes c (block_at c e 0)).fits (8 * j + k) (omega arith))))
    ∙ pack_ext 8 _ _ (λ k lk. sym (get_d_xor (8 * c) (8 * j + k) (Text.block_at (8 * c) text i) gamma (omega arith))))
  where
    word : (j : ℕ) → j < c → get_or (block_at c e 0) j 0 ≡ word_at e (0 + j)
    word j l = get_d_blocks c 0 j e l ∙ ap (λ n. word_at e (n + j)) (mul-zero c)

    direct : (j : ℕ) → j < c → get_or (block_at c e 0) j 0 ≡ word_at e j
    direct j l = word j l ∙ ap (word_at e) (zero-add j)

    columns : (j : ℕ) → j < c → get_or (block_at c e 0) j 0 ≡ pack 8 (λ k. get_or gamma (8 * j + k) 0)
    columns j l =
        ap (λ x. get_or x j 0) (sym (columns_bytes c (block_at c e 0) st)) ∙ get_d_tab c (λ j. pack 8 (λ k. get_or (bytes_of c (block_at c e 0)) (8 * j + k) 0)) j l
        ∙ pack_ext 8 _ _ (λ k lk. ap (λ g. get_or g (8 * j + k) 0) eg)

    sum : (j k : ℕ) → at + 8 * (0 + j) + k ≡ i * (8 * c) + (8 * j + k)
    sum j k = omega (arith, ea)

-- ---- 8.3

-- the IV and the sealed blocks before the last, loaded
pub befores_loaded : (c n : ℕ) (iv text s s₁ s₂ : List ℕ) → ((n : ℕ) → get_or iv n 0 < 256) → ((n : ℕ) → get_or text n 0 < 256) → 0 < n → 4 * (c * n) ≤ length s
    → s₁ ≡ put_words s 0 c (λ j. pack 8 (λ i. get_or iv (0 + 8 * j + i) 0)) → s₂ ≡ put_words s₁ c (c * (n - 1)) (λ j. pack 8 (λ i. get_or text (0 + 8 * j + i) 0))
    → length s₁ ≡ length s → length s₂ ≡ length s → Laid c n (λ i. columns_of c (Text.before (8 * c) iv text i)) s s₂
unfolding columns_of Text.before
befores_loaded c n iv text s s₁ s₂ hi ht p r e₁ e₂ l₁ l₂ = record { long = l₂; done = one }
  where
    room : c + c * (n - 1) ≡ c * n
    room = omega (arith, (ap (λ k. c * k) last ∙ mul-suc c (n - 1)))
      where
        last : n ≡ suc (n - 1)
        last = omega arith

    one : (i : ℕ) → i < n → block_at c s₂ i ≡ columns_of c (Text.before (8 * c) iv text i)
    one zero l =
        ap (λ x. block_at c x 0) e₂ ∙ block_other c c (c * (n - 1)) 0 s₁ _ (◌⊎◌.inl (omega (arith, mul-zero c))) ∙ ap (λ x. block_at c x 0) e₁
        ∙ loaded c s iv hi (omega (arith, room))
    one (suc i) l =
        ap (λ x. block_at c x (suc i)) e₂
        ∙ block_puts c c (c * (n - 1)) (suc i) s₁ _ (c * i) (λ j lj. pack_lt 8 _ (λ k lk. ht _)) (subst (λ x. 4 * (c + c * (n - 1)) ≤ x) (sym l₁) (omega (arith, room))) (omega (arith, mul-suc c i))
        (subst (λ x. x ≤ c * (n - 1)) (mul-suc c i) (mul-le-mul_left c (omega arith)))
        ∙ tab_ext c _ _ (λ j lj. pack_ext 8 _ _ (λ k lk. ap (λ m. get_or text m 0) (sum j k) ∙ sym (get_d_block (8 * c) i (8 * j + k) text (omega arith))))
      where
        sum : (j k : ℕ) → 0 + 8 * (c * i + j) + k ≡ i * (8 * c) + (8 * j + k)
        sum j k = omega (arith, (mul_comm i (8 * c) ∙ mul_assoc 8 c i))

-- each gamma is added to its block, the last one but for its front where the text ends in it
module _ (c t : ℕ) (K : ℕ → List ℕ) (iv text : List ℕ) where
  -- the gamma of block i
  pub uncfb_sealed : (s : List ℕ) (i : ℕ) → block_at c s i ≡ seal c t K (columns_of c (Text.before (8 * c) iv text i))
      → bytes_of c (block_at c s i) ≡ uncfb_gamma (8 * c) (seal_bytes c t K) iv text i
  unfolding uncfb_gamma
  uncfb_sealed s i e = sealed_bytes c t K s i (Text.before (8 * c) iv text i) e

-- places of whole blocks
pub rear_in : (B long q i : ℕ) → 0 < B → q * B ≤ long → i < q * B → rear B long i ≡ i % B
rear_in B long q i p h l = ap (rear B long) (sym (div-add-mod' i B)) ∙ rear_whole B long (i / B) (i % B) ends (mod-lt i p)
  where
    ends : suc (i / B) * B ≤ long
    ends = omega (arith, mul-le-mul_right B ((div-lt_iff_lt-mul {k = B} {x = i} {y = q} p).1 l))

-- places of the short block
pub rear_last : (B long q j : ℕ) → q ≡ long / B → 0 < B → j < long - q * B → rear B long (q * B + j) ≡ B - (long - q * B) + j
rear_last B long q j e p l = rear_short B long q j (omega (arith, split, mod-lt long p)) (omega (arith, split, mod-lt long p, suc-mul q B)) l
  where
    split : q * B + long % B ≡ long
    split = ap (λ x. x * B + long % B) e ∙ div-add-mod' long B
