-- The stream modes: lengths, bytes by place, blocks, and how each is undone.
use mathlib.Core.Path.{◌≡◌, refl, sym, ap, ap₂, ◌∙◌, subst}
use mathlib.Core.List.{List}
use Prim.Native.Nat.{ℕ, zero, suc, ◌+◌, ◌-◌, ◌*◌, ◌/◌, ◌<◌, ◌≤◌, min}
use native.Mathlib.Nat.{suc-mul}
use native.Mathlib.Omega.{arith}
use lib.Arith.{digits_div, digits_mod}
use lib.ListN.{get_or, length}
use Rattle.common.specs.Places.{tab}
use Rattle.common.proofs.Places.{get_d_tab, length_tab, tab_ext, tab_self}
use Rattle.field.specs.Xor.{xor}
use Rattle.field.proofs.XorLaws as X
use Rattle.modes.specs.Blocks.{block_at, xor_block, before}
use Rattle.modes.specs.Stream.{add_gamma, front, rear, ctr_gamma, ctr, ofb_gamma, ofb, cfb_gamma, cfb, uncfb_gamma, uncfb}
use Rattle.modes.proofs.Blocks.{OfBytes, block_starts, block_tab, get_d_block, length_block, xor_twice}

-- ---- a gamma added

module _ (B : ℕ) (gamma : ℕ → List ℕ) (place : ℕ → ℕ) (text : List ℕ) where
  pub length_gamma : length (add_gamma B gamma place text) ≡ length text
  unfolding add_gamma
  length_gamma = length_tab (length text) _

  -- byte n of the answer
  pub get_d_gamma : (n : ℕ) → n < length text → get_or (add_gamma B gamma place text) n 0 ≡ xor (get_or text n 0) (get_or (gamma (n / B)) (place n) 0)
  unfolding add_gamma
  get_d_gamma n l = get_d_tab (length text) _ n l

  -- block i of the answer, where the block takes its whole gamma
  pub block_gamma : (i : ℕ) → suc i * B ≤ length text → ((j : ℕ) → j < B → place (i * B + j) ≡ j)
      → block_at B (add_gamma B gamma place text) i ≡ xor_block B (block_at B text i) (gamma i)
  unfolding add_gamma xor_block
  block_gamma i h p =
      block_tab B i (length text) _ h
      ∙ tab_ext B _ _ (λ j l.
      ap₂ xor (sym (get_d_block B i j text l)) (ap₂ (λ (a b : ℕ). get_or (gamma a) b 0) (digits_div i l) (p j l)))

  pub gamma_bytes : OfBytes text → ((i : ℕ) → OfBytes (gamma i)) → (n : ℕ) → n < length text → get_or (add_gamma B gamma place text) n 0 < 256
  gamma_bytes bt bg n l = subst (λ x. x < 256) (sym (get_d_gamma n l)) (X.bound 8 _ _ (bt n) (bg (n / B) (place n)))

-- a gamma added twice is gone, if the second is the first wherever a block of the text starts
pub gamma_twice : (B : ℕ) (g h : ℕ → List ℕ) (place : ℕ → ℕ) (text : List ℕ) → ((i : ℕ) → i * B < length text → h i ≡ g i)
    → add_gamma B h place (add_gamma B g place text) ≡ text
unfolding add_gamma
gamma_twice B g h place text e =
    ap (λ n. tab n (λ n. xor (get_or (add_gamma B g place text) n 0) (get_or (h (n / B)) (place n) 0))) (length_gamma B g place text)
    ∙ tab_ext (length text) _ (λ n. get_or text n 0)
    (λ n l.
    ap₂ xor (get_d_gamma B g place text n l) (ap (λ b. get_or b (place n) 0) (e (n / B) (block_starts B n (length text) l)))
    ∙ X.twice (get_or text n 0) (get_or (g (n / B)) (place n) 0))
    ∙ tab_self (length text) text refl

-- ---- sections 7 and 11

pub ctr_ctr : (B : ℕ) (E : List ℕ → List ℕ) (iv text : List ℕ) → ctr B E iv (ctr B E iv text) ≡ text
unfolding ctr
ctr_ctr B E iv text = gamma_twice B (ctr_gamma B E iv) (ctr_gamma B E iv) (front B) text (λ i l. refl)

pub ofb_ofb : (B : ℕ) (E : List ℕ → List ℕ) (iv text : List ℕ) → ofb B E iv (ofb B E iv text) ≡ text
unfolding ofb
ofb_ofb B E iv text = gamma_twice B (ofb_gamma E iv) (ofb_gamma E iv) (front B) text (λ i l. refl)

-- ---- section 8

-- a whole block takes its whole gamma
pub rear_whole : (B long i j : ℕ) → suc i * B ≤ long → j < B → rear B long (i * B + j) ≡ j
unfolding rear
rear_whole B long i j h l =
    ap₂ (λ (a b : ℕ). B - min B (long - a * B) + b) (digits_div i l) (digits_mod i l) ∙ all
  where
    all : B - min B (long - i * B) + j ≡ j
    all = omega (arith, suc-mul i B)

-- a short last block takes the last bytes of its gamma
pub rear_short : (B long i j : ℕ) → i * B ≤ long → long < suc i * B → j < long - i * B → rear B long (i * B + j) ≡ B - (long - i * B) + j
unfolding rear
rear_short B long i j h s l =
    ap₂ (λ (a b : ℕ). B - min B (long - a * B) + b) (digits_div i small) (digits_mod i small) ∙ all
  where
    small : j < B
    small = omega (arith, suc-mul i B)

    all : B - min B (long - i * B) + j ≡ B - (long - i * B) + j
    all = omega (arith, suc-mul i B)

module _ (B : ℕ) (E : List ℕ → List ℕ) (iv text : List ℕ) where
  pub length_cfb : length (cfb B E iv text) ≡ length text
  unfolding cfb
  length_cfb = length_gamma B (cfb_gamma B E iv text) (rear B (length text)) text

  pub length_uncfb : length (uncfb B E iv text) ≡ length text
  unfolding uncfb
  length_uncfb = length_gamma B (uncfb_gamma B E iv text) (rear B (length text)) text

  -- a block of the sealed text that is fed back
  pub cfb_block : (i : ℕ) → suc i * B ≤ length text → block_at B (cfb B E iv text) i ≡ xor_block B (block_at B text i) (cfb_gamma B E iv text i)
  unfolding cfb
  cfb_block i h = block_gamma B (cfb_gamma B E iv text) (rear B (length text)) text i h (λ j l. rear_whole B (length text) i j h l)

  pub uncfb_block : (i : ℕ) → suc i * B ≤ length text → block_at B (uncfb B E iv text) i ≡ xor_block B (block_at B text i) (uncfb_gamma B E iv text i)
  unfolding uncfb
  uncfb_block i h = block_gamma B (uncfb_gamma B E iv text) (rear B (length text)) text i h (λ j l. rear_whole B (length text) i j h l)

  -- opening has the gamma of sealing
  same_gamma : (i : ℕ) → i * B < length text → uncfb_gamma B E iv (cfb B E iv text) i ≡ cfb_gamma B E iv text i
  unfolding uncfb_gamma cfb_gamma before
  same_gamma zero h = refl
  same_gamma (suc i) h = ap E (cfb_block i (omega arith))

  pub uncfb_cfb : uncfb B E iv (cfb B E iv text) ≡ text
  unfolding cfb uncfb
  uncfb_cfb =
      ap (λ n. add_gamma B (uncfb_gamma B E iv (cfb B E iv text)) (rear B n) (cfb B E iv text)) length_cfb
      ∙ gamma_twice B (cfb_gamma B E iv text) (uncfb_gamma B E iv (cfb B E iv text)) (rear B (length text)) text same_gamma

  -- and sealing what was opened has the gamma of opening
  gamma_same : (i : ℕ) → i * B < length text → cfb_gamma B E iv (uncfb B E iv text) i ≡ uncfb_gamma B E iv text i
  unfolding uncfb_gamma cfb_gamma before
  gamma_same zero h = refl
  gamma_same (suc i) h =
      ap E (ap₂ (xor_block B) (uncfb_block i ends) (gamma_same i (omega (arith, suc-mul i B)))
      ∙ xor_twice B (block_at B text i) (uncfb_gamma B E iv text i) (length_block B i text ends))
    where
      ends : suc i * B ≤ length text
      ends = omega arith

  pub cfb_uncfb : cfb B E iv (uncfb B E iv text) ≡ text
  unfolding cfb uncfb
  cfb_uncfb =
      ap (λ n. add_gamma B (cfb_gamma B E iv (uncfb B E iv text)) (rear B n) (uncfb B E iv text)) length_uncfb
      ∙ gamma_twice B (uncfb_gamma B E iv text) (cfb_gamma B E iv (uncfb B E iv text)) (rear B (length text)) text gamma_same
