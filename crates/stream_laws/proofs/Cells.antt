-- Bytes of a cell are bytes of its blocks.
use mathlib.Core.Path.{◌≡◌, refl, sym, ap, ap₂, ◌∙◌, subst}
use mathlib.Core.Logic.{◌⊎◌, ⊎_elim}
use mathlib.Core.List.{List}
use Prim.Native.Nat.{ℕ, ◌+◌, ◌*◌, ◌/◌, ◌%◌, ◌^◌, ◌<◌, ◌≤◌}
use native.Mathlib.Nat.{mul_comm, mul_assoc, mul-suc, mul-le-mul_left, mod-lt, div-add-mod', zero-add}
use native.Mathlib.Decide.{dec_lt}
use native.Mathlib.Omega.{arith}
use lib.ListN.{get_or, length}
use Rattle.common.specs.Places.{tab}
use Rattle.common.proofs.Places.{get_d_tab, tab_ext}
use Rattle.field.specs.Column.{byte_of, pack}
use Rattle.field.proofs.PackLaws.{pack_lt, pack_ext}
use Rattle.words.specs.Words.{word_at, put_words, block_at, Walked}
use Rattle.words.proofs.Walks.{puts_at, puts_other, length_puts, block_ext}
use Rattle.kalyna.specs.State.{columns_of, bytes_of}
use Rattle.stream_laws.specs.Gammas.{cell_byte, Laid}

-- column j of block i
pub get_d_blocks : (c i j : ℕ) (s : List ℕ) → j < c → get_or (block_at c s i) j 0 ≡ word_at s (c * i + j)
unfolding block_at
get_d_blocks c i j s l = get_d_tab c (λ j. word_at s (c * i + j)) j l

-- byte m of block i
pub cell_byte_lem : (c i m : ℕ) (s : List ℕ) → m < 8 * c → cell_byte s (i * (8 * c) + m) ≡ get_or (bytes_of c (block_at c s i)) m 0
unfolding cell_byte bytes_of
cell_byte_lem c i m s l =
    ap₂ (λ (a b : ℕ). byte_of (word_at s a) b) column row
    ∙ ap (λ x. byte_of x (m % 8)) (sym (get_d_blocks c i (m / 8) s (omega arith)))
    ∙ sym (get_d_tab (8 * c) (λ n. byte_of (get_or (block_at c s i) (n / 8) 0) (n % 8)) m l)
  where
    start : i * (8 * c) ≡ 8 * (c * i)
    start = mul_comm i (8 * c) ∙ mul_assoc 8 c i

    column : (i * (8 * c) + m) / 8 ≡ c * i + m / 8
    column = omega (arith, start)

    row : (i * (8 * c) + m) % 8 ≡ m % 8
    row = omega (arith, start)

-- the same at any place
pub cell_place : (c n : ℕ) (s : List ℕ) → 0 < c → cell_byte s n ≡ get_or (bytes_of c (block_at c s (n / (8 * c)))) (n % (8 * c)) 0
cell_place c n s p = ap (cell_byte s) (sym (div-add-mod' n (8 * c))) ∙ cell_byte_lem c (n / (8 * c)) (n % (8 * c)) s (mod-lt n (omega arith))

-- block i of columns that are put
pub block_puts : (c w m i : ℕ) (s : List ℕ) (f : ℕ → ℕ) (k : ℕ) → ((j : ℕ) → j < m → f j < 2 ^ 64) → 4 * (w + m) ≤ length s → c * i ≡ w + k → k + c ≤ m
    → block_at c (put_words s w m f) i ≡ tab c (λ j. f (k + j))
unfolding block_at
block_puts c w m i s f k h r e l =
    tab_ext c _ _ (λ j lj. ap (word_at (put_words s w m f)) (at j) ∙ puts_at s w m f h r (k + j) (omega arith))
  where
    at : (j : ℕ) → c * i + j ≡ w + (k + j)
    at j = omega arith

-- a block elsewhere
pub block_other : (c w m i : ℕ) (s : List ℕ) (f : ℕ → ℕ) → (c * i + c ≤ w) ⊎ (w + m ≤ c * i) → block_at c (put_words s w m f) i ≡ block_at c s i
block_other c w m i s f h = block_ext c _ _ i (λ j l. puts_other s w m f (c * i + j) (⊎_elim (λ x. ◌⊎◌.inl (omega arith)) (λ x. ◌⊎◌.inr (omega arith)) h))

-- bytes loaded as block 0 are their columns
pub loaded : (c : ℕ) (s b : List ℕ) → ((n : ℕ) → get_or b n 0 < 256) → 4 * c ≤ length s
    → block_at c (put_words s 0 c (λ j. pack 8 (λ i. get_or b (0 + 8 * j + i) 0))) 0 ≡ columns_of c b
unfolding columns_of
loaded c s b h r =
    block_puts c 0 c 0 s _ 0 (λ j l. pack_lt 8 _ (λ i li. h (0 + 8 * j + i))) (omega arith) (omega arith) (omega arith)
    ∙ tab_ext c _ _ (λ j l. pack_ext 8 _ _ (λ i li. ap (λ n. get_or b n 0) (sum j i)))
  where
    sum : (j i : ℕ) → 0 + 8 * (0 + j) + i ≡ 8 * j + i
    sum j i = omega arith

-- ---- blocks laid one after another

pub laid_none : (c : ℕ) (g : ℕ → List ℕ) (s : List ℕ) → Laid c 0 g s s
laid_none c g s = record { long = refl; done = λ i l. absurd (none i l) }
  where
    none : (i : ℕ) → i < 0 → ⊥
    none i l = omega arith

pub laid_more : (c i : ℕ) (g : ℕ → List ℕ) (f : ℕ → ℕ) (s₀ s s' : List ℕ) → Laid c i g s₀ s → 4 * (c * i + c) ≤ length s₀ → s' ≡ put_words s (c * i) c f
    → ((k : ℕ) → k < c → f k < 2 ^ 64) → tab c f ≡ g i → Laid c (i + 1) g s₀ s'
laid_more c i g f s₀ s s' w r e h q =
    record {
      long = ap length e ∙ length_puts s (c * i) c f ∙ w.long;
      done = λ k l. one k (dec_lt k i) l;
    }
  where
    one : (k : ℕ) → Dec (k < i) → k < i + 1 → block_at c s' k ≡ g k
    one k (yes l) m = ap (λ x. block_at c x k) e ∙ block_other c (c * i) c k s f (◌⊎◌.inl (ends k l)) ∙ w.done k l
      where
        ends : (k : ℕ) → k < i → c * k + c ≤ c * i
        ends k l = subst (λ x. x ≤ c * i) (mul-suc c k) (mul-le-mul_left c l)
    one k (no l) m = ap (λ x. block_at c x k) e ∙ ap (block_at c (put_words s (c * i) c f)) k_is ∙ fresh ∙ ap g (sym k_is)
      where
        k_is : k ≡ i
        k_is = omega arith

        fresh : block_at c (put_words s (c * i) c f) i ≡ g i
        fresh =
            block_puts c (c * i) c i s f 0 h (subst (λ x. 4 * (c * i + c) ≤ x) (sym w.long) r) (omega arith) (omega arith)
            ∙ tab_ext c _ f (λ j l. ap f (zero-add j)) ∙ q

-- and all transformed by one walk
pub laid_walked : (c n : ℕ) (g : ℕ → List ℕ) (F : List ℕ → List ℕ) (s₀ s s' : List ℕ) → Laid c n g s₀ s → Walked c n F s s' → Laid c n (λ i. F (g i)) s₀ s'
laid_walked c n g F s₀ s s' a b = record { long = b.long ∙ a.long; done = λ i l. b.done i l ∙ ap F (a.done i l) }
