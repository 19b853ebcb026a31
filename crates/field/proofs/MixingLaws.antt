-- The inverse mixing undoes the mixing, at every column of bytes: by linearity it is enough at single digits, where antt computes it.
use mathlib.Core.Path.{◌≡◌, refl, sym, ap, ap₂, ◌∙◌}
use mathlib.Core.Bool.{Bool, true, false}
use mathlib.Core.List.{List}
use Prim.Native.Nat.{ℕ, zero, suc, ◌^◌, ◌<◌, ◌≤◌}
use native.Mathlib.Nat.{not-suc-le-zero}
use native.Mathlib.Decide.{dec_lt}
use native.Mathlib.Omega.{arith}
use lib.Dec.{T, eqb, eqb→eq}
use borrow.Author.Tests.{eq-eqb, ne_eqb}
use Rattle.field.proofs.Below.{below, below_at}
use Rattle.field.specs.Xor.{xor}
use Rattle.field.specs.Field.{double, times_digits, times}
use Rattle.field.specs.Mixing.{xsum, coef, product, forward, backward}
use Rattle.field.proofs.XorLaws as X
use Rattle.field.proofs.FieldLaws.{Lin, lin_zero, times_lin, agree}

-- ---- sums by xor

pub xsum_ext : (n : ℕ) (f g : ℕ → ℕ) → ((j : ℕ) → j < n → f j ≡ g j) → xsum n f ≡ xsum n g
unfolding xsum
xsum_ext zero f g h = refl
xsum_ext (suc n) f g h = ap₂ xor (xsum_ext n f g (λ j l. h j (omega arith))) (h n (omega arith))

pub xsum_zero : (n : ℕ) → xsum n (λ j. 0) ≡ 0
unfolding xsum
xsum_zero zero = refl
xsum_zero (suc n) = X.zero_r _ ∙ xsum_zero n

pub xsum_xor : (n : ℕ) (f g : ℕ → ℕ) → xsum n (λ j. xor (f j) (g j)) ≡ xor (xsum n f) (xsum n g)
unfolding xsum
xsum_xor zero f g = sym (X.self 0)
xsum_xor (suc n) f g = ap (λ z. xor z (xor (f n) (g n))) (xsum_xor n f g) ∙ X.swap4 (xsum n f) (xsum n g) (f n) (g n)

pub xsum_push : (f : ℕ → ℕ) → Lin f → (n : ℕ) (g : ℕ → ℕ) → f (xsum n g) ≡ xsum n (λ j. f (g j))
unfolding xsum
xsum_push f h zero g = lin_zero f h
xsum_push f h (suc n) g = h (xsum n g) (g n) ∙ ap (λ z. xor z (f (g n))) (xsum_push f h n g)

pub xsum_swap : (n m : ℕ) (f : ℕ → ℕ → ℕ) → xsum n (λ i. xsum m (λ j. f i j)) ≡ xsum m (λ j. xsum n (λ i. f i j))
unfolding xsum
xsum_swap zero m f = sym (xsum_zero m)
xsum_swap (suc n) m f = ap (λ z. xor z (xsum m (f n))) (xsum_swap n m f) ∙ sym (xsum_xor m (λ j. xsum n (λ i. f i j)) (f n))

pub xsum_lt : (k n : ℕ) (f : ℕ → ℕ) → ((j : ℕ) → j < n → f j < 2 ^ k) → xsum n f < 2 ^ k
unfolding xsum
xsum_lt k zero f h = X.pos k
xsum_lt k (suc n) f h = X.bound k _ _ (xsum_lt k n f (λ j l. h j (omega arith))) (h n (omega arith))

unfoldable pub pick : Bool → ℕ → ℕ
pick true x = x
pick false x = 0

-- one term that is not 0
module _ (i : ℕ) (f : ℕ → ℕ) where
  abbrev pub one : ℕ → ℕ
  one j = pick (eqb i j) (f j)

  xsum_none : (n : ℕ) → n ≤ i → xsum n one ≡ 0
  unfolding pick
  xsum_none n l =
      xsum_ext n one (λ j. 0) (λ j lj. ap (λ b. pick b (f j)) (ne_eqb i j (λ e. omega arith))) ∙ xsum_zero n

  pub xsum_one : (n : ℕ) → i < n → xsum n one ≡ f i
  unfolding xsum pick
  xsum_one zero l = absurd (not-suc-le-zero l)
  xsum_one (suc n) l = go (dec_lt i n) (xsum_one n)
    where
      go : Dec (i < n) → (i < n → xsum n one ≡ f i) → xor (xsum n one) (one n) ≡ f i
      go (yes h) r = ap₂ xor (r h) (ap (λ b. pick b (f n)) (ne_eqb i n (λ e. omega arith))) ∙ X.zero_r (f i)
      go (no h) r = last (omega arith)
        where
          last : i ≡ n → xor (xsum n one) (one n) ≡ f i
          last e = ap₂ xor (xsum_none n (omega arith)) (ap (λ b. pick b (f n)) (eq-eqb i n e)) ∙ X.zero_l (f n) ∙ ap f (sym e)

-- ---- the matrices

-- the entry of the product of the two matrices, as a function of a byte
entry : List ℕ → List ℕ → ℕ → ℕ → ℕ → ℕ
entry u v i j x = xsum 8 (λ k. times (coef u i k) (times (coef v k j) x))

entry_lin : (u v : List ℕ) (i j : ℕ) → Lin (entry u v i j)
unfolding entry
entry_lin u v i j x y =
    xsum_ext 8 _ _ (λ k l. ap (times (coef u i k)) (times_lin (coef v k j) x y) ∙ times_lin (coef u i k) _ _)
    ∙ xsum_xor 8 (λ k. times (coef u i k) (times (coef v k j) x)) (λ k. times (coef u i k) (times (coef v k j) y))

pick_lin : (b : Bool) → Lin (pick b)
unfolding pick
pick_lin true x y = refl
pick_lin false x y = sym (X.self 0)

-- one matrix undoes the other at 8 x 8 entries, each at 8 digits
right : List ℕ → List ℕ → ℕ → ℕ → ℕ → Bool
right u v i j b = eqb (entry u v i j (2 ^ b)) (pick (eqb i j) (2 ^ b))

abbrev Undoes : List ℕ → List ℕ → Type 0
Undoes u v = T (below (λ i. below (λ j. below (right u v i j) 8) 8) 8)

backward_undoes : Undoes backward forward
unfolding right entry pick xsum coef times times_digits double xor
backward_undoes = tt

forward_undoes : Undoes forward backward
unfolding right entry pick xsum coef times times_digits double xor
forward_undoes = tt

module _ (u v : List ℕ) (test : Undoes u v) where
  entry_one : (i j x : ℕ) → i < 8 → j < 8 → x < 256 → entry u v i j x ≡ pick (eqb i j) x
  entry_one i j x hi hj hx = agree (entry u v i j) (pick (eqb i j)) (entry_lin u v i j) (pick_lin (eqb i j)) 8 (λ b hb. digit b hb) x hx
    where
      digit : (b : ℕ) → b < 8 → entry u v i j (2 ^ b) ≡ pick (eqb i j) (2 ^ b)
      digit b hb =
          eqb→eq _ _
          (unfold right in
          below_at (right u v i j) 8 (below_at (λ j. below (right u v i j) 8) 8 (below_at (λ i. below (λ j. below (right u v i j) 8) 8) 8 test i hi) j hj) b hb)

  undoes : (col : ℕ → ℕ) → ((j : ℕ) → j < 8 → col j < 256) → (i : ℕ) → i < 8 → product u (product v col) i ≡ col i
  unfolding product entry
  undoes col h i hi =
      xsum_ext 8 _ _ (λ k l. xsum_push (times (coef u i k)) (times_lin (coef u i k)) 8 (λ j. times (coef v k j) (col j)))
      ∙ xsum_swap 8 8 (λ k j. times (coef u i k) (times (coef v k j) (col j)))
      ∙ xsum_ext 8 _ (λ j. pick (eqb i j) (col j)) (λ j l. entry_one i j (col j) hi l (h j l))
      ∙ xsum_one i col 8 hi

-- the inverse mixing undoes the mixing, and the mixing the inverse, at every column of bytes
pub unmix_mix : (col : ℕ → ℕ) → ((j : ℕ) → j < 8 → col j < 256) → (i : ℕ) → i < 8 → product backward (product forward col) i ≡ col i
unmix_mix = undoes backward forward backward_undoes

pub mix_unmix : (col : ℕ → ℕ) → ((j : ℕ) → j < 8 → col j < 256) → (i : ℕ) → i < 8 → product forward (product backward col) i ≡ col i
mix_unmix = undoes forward backward forward_undoes

pub product_ext : (v : List ℕ) (f g : ℕ → ℕ) → ((k : ℕ) → k < 8 → f k ≡ g k) → (i : ℕ) → product v f i ≡ product v g i
unfolding product
product_ext v f g h i = xsum_ext 8 _ _ (λ j l. ap (times (coef v i j)) (h j l))

-- the mixing passes over xor
pub product_xor : (v : List ℕ) (f g : ℕ → ℕ) (i : ℕ) → product v (λ j. xor (f j) (g j)) i ≡ xor (product v f i) (product v g i)
unfolding product
product_xor v f g i =
    xsum_ext 8 _ _ (λ j l. times_lin (coef v i j) (f j) (g j))
    ∙ xsum_xor 8 (λ j. times (coef v i j) (f j)) (λ j. times (coef v i j) (g j))
