-- Each mode with every block computed once, so that an example computes in seconds.
use mathlib.Core.Path.{◌≡◌, refl, sym, ap, ◌∙◌}
use mathlib.Core.List.{List, [], ◌∷◌}
use Prim.Native.Nat.{ℕ, zero, suc, ◌+◌, ◌*◌, ◌/◌, ◌%◌, ◌<◌, ◌≤◌}
use native.Mathlib.Numerals.{add-one}
use native.Mathlib.Nat.{zero-add, div-lt_iff_lt-mul, not-suc-le-zero, le_of_suc-le-suc}
use native.Mathlib.Omega.{arith}
use lib.ListN.{get_or, length}
use Rattle.common.specs.Places.{tab}
use Rattle.common.proofs.Places.{tab_ext}
use Rattle.field.specs.Xor.{xor}
use Rattle.modes.specs.Blocks.{block_at, xor_block}
use Rattle.modes.specs.Stream.{add_gamma, ofb_gamma}
use Rattle.modes.specs.Chain.{chained, cbc}

-- f 0, f 1 .. f (n - 1)
unfoldable pub listed : ℕ → (ℕ → List ℕ) → List (List ℕ)
listed zero f = []
listed (suc n) f = f 0 ∷ listed n (λ i. f (suc i))

get_d_listed : (n : ℕ) (f : ℕ → List ℕ) (i : ℕ) → i < n → get_or (listed n f) i [] ≡ f i
unfolding listed
get_d_listed zero f i h = absurd (not-suc-le-zero h)
get_d_listed (suc n) f zero h = refl
get_d_listed (suc n) f (suc i) h = get_d_listed n (λ i. f (suc i)) i (le_of_suc-le-suc h)

-- x, step 0 x, step 1 (step 0 x) ..: m of them, each made from the one before
unfoldable pub grown : (ℕ → List ℕ → List ℕ) → List ℕ → ℕ → ℕ → List (List ℕ)
grown step x i zero = []
grown step x i (suc m) = let y = step i x in x ∷ grown step y (suc i) m

pub listed_grown : (step : ℕ → List ℕ → List ℕ) (f : ℕ → List ℕ) (m i : ℕ) → ((j : ℕ) → f (suc j) ≡ step (i + j) (f j))
    → listed m f ≡ grown step (f 0) i m
unfolding listed grown
listed_grown step f zero i e = refl
listed_grown step f (suc m) i e =
    ap (λ l. f 0 ∷ l)
    (listed_grown step (λ j. f (suc j)) m (suc i) (λ j. e (suc j) ∙ ap (λ k. step k (f (suc j))) (let z : i + suc j ≡ suc i + j = omega arith in z))
    ∙ ap (λ y. grown step y (suc i) m) (e 0 ∙ ap (λ k. step k (f 0)) (let z : i + 0 ≡ i = omega arith in z)))

-- the bytes of blocks, one after another
unfoldable pub joined : ℕ → ℕ → List (List ℕ) → List ℕ
joined B L bs = tab L (λ n. get_or (get_or bs (n / B) []) (n % B) 0)

unfoldable pub added : ℕ → List (List ℕ) → (ℕ → ℕ) → List ℕ → List ℕ
added B gs place text = tab (length text) (λ n. xor (get_or text n 0) (get_or (get_or gs (n / B) []) (place n) 0))

module _ (m B : ℕ) (pos : 0 < B) (text : List ℕ) (few : length text ≤ m * B) where
  block_of : (n : ℕ) → n < length text → n / B < m
  block_of n l = (div-lt_iff_lt-mul pos).1 (omega arith)

  pub gamma_shared : (gamma : ℕ → List ℕ) (place : ℕ → ℕ) → add_gamma B gamma place text ≡ added B (listed m gamma) place text
  unfolding add_gamma added
  gamma_shared gamma place =
      tab_ext (length text) _ _ (λ n l. ap (λ g. xor (get_or text n 0) (get_or g (place n) 0)) (sym (get_d_listed m gamma (n / B) (block_of n l))))

  pub cbc_shared : (E : List ℕ → List ℕ) (iv : List ℕ) → cbc B E iv text ≡ joined B (length text) (listed m (λ i. chained B E iv text (i + 1)))
  unfolding cbc joined
  cbc_shared E iv =
      tab_ext (length text) _ _ (λ n l. ap (λ g. get_or g (n % B) 0) (sym (get_d_listed m (λ i. chained B E iv text (i + 1)) (n / B) (block_of n l))))

  pub ofb_shared : (E : List ℕ → List ℕ) (iv : List ℕ) (place : ℕ → ℕ) → add_gamma B (ofb_gamma E iv) place text ≡ added B (grown (λ i g. E g) (E iv) 0 m) place text
  unfolding ofb_gamma
  ofb_shared E iv place = gamma_shared (ofb_gamma E iv) place ∙ ap (λ gs. added B gs place text) (listed_grown (λ i g. E g) (ofb_gamma E iv) m 0 (λ j. refl))

  pub chain_shared : (E : List ℕ → List ℕ) (iv : List ℕ)
      → cbc B E iv text ≡ joined B (length text) (grown (λ i c. E (xor_block B c (block_at B text (suc i)))) (E (xor_block B iv (block_at B text 0))) 0 m)
  unfolding chained
  chain_shared E iv =
      cbc_shared E iv
      ∙ ap (joined B (length text))
      (listed_grown (λ i c. E (xor_block B c (block_at B text (suc i)))) (λ i. chained B E iv text (i + 1)) m 0
      (λ j. ap (λ k. chained B E iv text k) (add-one (suc j)) ∙ ap (λ k. E (xor_block B (chained B E iv text (suc j)) (block_at B text (suc k)))) (sym (zero-add j)) ∙ ap (λ k. E (xor_block B (chained B E iv text k) (block_at B text (suc (0 + j))))) (sym (add-one j))))
