-- Chaining: lengths, blocks, and how it is undone.
use mathlib.Core.Path.{◌≡◌, refl, sym, ap, ap₂, ◌∙◌, subst}
use mathlib.Core.List.{List}
use Prim.Native.Nat.{ℕ, zero, suc, ◌+◌, ◌*◌, ◌/◌, ◌%◌, ◌<◌, ◌≤◌}
use native.Mathlib.Nat.{mod-lt, suc-mul, div-add-mod'}
use native.Mathlib.Numerals.{add-one}
use native.Mathlib.Omega.{arith}
use lib.Arith.{digits_div, digits_mod}
use lib.ListN.{get_or, length}
use Rattle.common.specs.Places.{tab}
use Rattle.common.proofs.Places.{get_d_tab, length_tab, tab_ext, tab_self}
use Rattle.field.specs.Xor.{xor}
use Rattle.kalyna.specs.State.{Bytes}
use Rattle.modes.specs.Blocks.{block_at, xor_block, before}
use Rattle.modes.specs.Chain.{chained, cbc, uncbc}
use Rattle.modes.proofs.Blocks.{OfBytes, Cipher, of_bytes, block_ends, block_tab, get_d_block, get_d_place, block_bytes_lem, xor_bytes_lem, get_d_xor, xor_cancel, cancel}

module _ (B : ℕ) (E : List ℕ → List ℕ) (iv text : List ℕ) where
  pub length_cbc : length (cbc B E iv text) ≡ length text
  unfolding cbc
  length_cbc = length_tab (length text) _

  -- byte n of the answer
  pub get_d_cbc : (n : ℕ) → n < length text → get_or (cbc B E iv text) n 0 ≡ get_or (chained B E iv text (suc (n / B))) (n % B) 0
  unfolding cbc
  get_d_cbc n l = get_d_tab (length text) _ n l ∙ ap (λ i. get_or (chained B E iv text i) (n % B) 0) (add-one (n / B))

  pub length_uncbc : length (uncbc B E iv text) ≡ length text
  unfolding uncbc
  length_uncbc = length_tab (length text) _

  pub get_d_uncbc : (n : ℕ) → n < length text
      → get_or (uncbc B E iv text) n 0 ≡ xor (get_or (before B iv text (n / B)) (n % B) 0) (get_or (E (block_at B text (n / B))) (n % B) 0)
  unfolding uncbc
  get_d_uncbc n l = get_d_tab (length text) _ n l

  -- block i of what is opened
  pub uncbc_block : (i : ℕ) → suc i * B ≤ length text → block_at B (uncbc B E iv text) i ≡ xor_block B (before B iv text i) (E (block_at B text i))
  unfolding uncbc xor_block
  uncbc_block i h =
      block_tab B i (length text) _ h
      ∙ tab_ext B _ _ (λ j l.
      ap₂ (λ (a b : ℕ). xor (get_or (before B iv text a) b 0) (get_or (E (block_at B text a)) b 0)) (digits_div i l) (digits_mod i l))

  module _ (outs : (b : List ℕ) → Bytes B (E b)) where
    -- block i of what is sealed
    pub cbc_block : (i : ℕ) → suc i * B ≤ length text → block_at B (cbc B E iv text) i ≡ chained B E iv text (suc i)
    unfolding cbc chained
    cbc_block i h =
        block_tab B i (length text) _ h
        ∙ tab_ext B _ _ (λ j l.
        ap₂ (λ (a b : ℕ). get_or (chained B E iv text a) b 0) (add-one ((i * B + j) / B) ∙ ap suc (digits_div i l)) (digits_mod i l))
        ∙ tab_self B (E (xor_block B (chained B E iv text i) (block_at B text i))) (outs _).long

    pub chained_bytes : (i : ℕ) → Bytes B iv → Bytes B (chained B E iv text i)
    unfolding chained
    chained_bytes zero bi = bi
    chained_bytes (suc i) bi = outs _

    pub cbc_bytes : 0 < B → (n : ℕ) → n < length text → get_or (cbc B E iv text) n 0 < 256
    unfolding chained
    cbc_bytes p n l = subst (λ x. x < 256) (sym (get_d_cbc n l)) ((outs _).fits (n % B) (mod-lt n p))

    -- what stands before a block of what is sealed
    pub before_cbc : (i : ℕ) → i * B ≤ length text → before B iv (cbc B E iv text) i ≡ chained B E iv text i
    unfolding before chained
    before_cbc zero h = refl
    before_cbc (suc i) h = cbc_block i h

module _ (B : ℕ) (E D : List ℕ → List ℕ) (cipher : Cipher B E D) (iv text : List ℕ) (bi : Bytes B iv) (bt : OfBytes text) (whole : length text % B ≡ 0) where
  -- at place n, in block i
  open_at : (n i j : ℕ) → n ≡ i * B + j → suc i * B ≤ length text → j < B
      → xor (get_or (before B iv (cbc B E iv text) i) j 0) (get_or (D (block_at B (cbc B E iv text) i)) j 0) ≡ get_or text n 0
  unfolding chained
  open_at n i j e h l =
      ap₂ (λ (a b : List ℕ). xor (get_or a j 0) (get_or (D b) j 0)) (before_cbc B E iv text cipher.sealed i (omega (arith, suc-mul i B)))
      (cbc_block B E iv text cipher.sealed i h)
      ∙ ap (λ b. xor (get_or (chained B E iv text i) j 0) (get_or b j 0)) (cipher.open_seal _ inner)
      ∙ ap (xor (get_or (chained B E iv text i) j 0)) (get_d_xor B j (chained B E iv text i) (block_at B text i) l)
      ∙ cancel (get_or (chained B E iv text i) j 0) (get_or (block_at B text i) j 0)
      ∙ get_d_block B i j text l
      ∙ ap (λ m. get_or text m 0) (sym e)
    where
      inner : Bytes B (xor_block B (chained B E iv text i) (block_at B text i))
      inner =
          xor_bytes_lem B _ _ (of_bytes B _ (chained_bytes B E iv text cipher.sealed i bi)) (of_bytes B _ (block_bytes_lem B i text bt h))

  pub uncbc_cbc : uncbc B D iv (cbc B E iv text) ≡ text
  unfolding uncbc
  uncbc_cbc =
      ap (λ L. tab L (λ n. xor (get_or (before B iv c (n / B)) (n % B) 0) (get_or (D (block_at B c (n / B))) (n % B) 0))) (length_cbc B E iv text)
      ∙ tab_ext (length text) _ (λ n. get_or text n 0)
      (λ n l. open_at n (n / B) (n % B) (sym (div-add-mod' n B)) (block_ends B n (length text) cipher.positive whole l) (mod-lt n cipher.positive))
      ∙ tab_self (length text) text refl
    where
      c : List ℕ
      c = cbc B E iv text

  -- the chain over what was opened is what was opened from
  chained_back : (i : ℕ) → i * B ≤ length text → chained B E iv (uncbc B D iv text) i ≡ before B iv text i
  unfolding chained before
  chained_back zero h = refl
  chained_back (suc i) h =
      ap E (ap₂ (xor_block B) (chained_back i (omega (arith, suc-mul i B))) (uncbc_block B D iv text i h)
      ∙ xor_cancel B (before B iv text i) (D (block_at B text i)) (cipher.opened _).long)
      ∙ cipher.seal_open _ (block_bytes_lem B i text bt h)

  pub cbc_uncbc : cbc B E iv (uncbc B D iv text) ≡ text
  unfolding cbc
  cbc_uncbc =
      ap (λ L. tab L (λ n. get_or (chained B E iv p (n / B + 1)) (n % B) 0)) (length_uncbc B D iv text)
      ∙ tab_ext (length text) _ (λ n. get_or text n 0)
      (λ n l.
      ap (λ i. get_or (chained B E iv p i) (n % B) 0) (add-one (n / B))
      ∙ ap (λ b. get_or b (n % B) 0) (chained_back (suc (n / B)) (block_ends B n (length text) cipher.positive whole l) ∙ at_suc (n / B))
      ∙ sym (get_d_place B n text cipher.positive))
      ∙ tab_self (length text) text refl
    where
      p : List ℕ
      p = uncbc B D iv text

      at_suc : (i : ℕ) → before B iv text (suc i) ≡ block_at B text i
      at_suc i = unfold before in refl
