-- Blocks chained one after another, and stored.
use mathlib.Core.Path.{◌≡◌, refl, sym, ap, ap₂, ◌∙◌}
use mathlib.Core.List.{List, ◌++◌, append_assoc}
use Prim.Native.Nat.{ℕ, suc, ◌+◌, ◌*◌, ◌/◌, ◌%◌, ◌<◌, ◌≤◌}
use native.Mathlib.Nat.{zero-add, mul-le-mul_right, zero-mul, suc-mul, div-add-mod'}
use native.Mathlib.Numerals.{add-one}
use native.Mathlib.Omega.{arith}
use lib.Arith.{digits_div, digits_mod}
use lib.ListN.{get_or, take, drop, length}
use lib.Seq.{take_at, drop_at, drop-drop, take_all}
use Rattle.common.specs.Places.{tab}
use Rattle.common.proofs.Places.{length_tab, tab_ext, tab_add, tab_self}
use Rattle.modes.specs.Blocks.{block_at, xor_block}
use Rattle.modes.specs.Chain.{chained, cbc}
use Rattle.chains.specs.Links.{linked, links}

-- all of a list that has n bytes
pub take_drop_all : (n : ℕ) (b : List ℕ) → length b ≡ n → take n (drop 0 b) ≡ b
take_drop_all n b e = take_all n b (omega (arith, e))

-- a block stored from the front on
pub given : (B : ℕ) (x y o o' : List ℕ) → o' ≡ take 0 o ++ (x ++ drop (0 + B) o) → x ≡ y → o' ≡ y ++ drop B o
given B x y o o' e q = e ∙ ap₂ (λ (a : List ℕ) (n : ℕ). a ++ drop n o) q (zero-add B)

pub chained_none : (B : ℕ) (E : List ℕ → List ℕ) (iv text : List ℕ) → iv ≡ chained B E iv text 0
unfolding chained
chained_none B E iv text = refl

-- block i ends within n blocks
pub block_room : (B i n l : ℕ) → i < n → n * B ≤ l → i * B + B ≤ l
block_room B i n l h r = omega (arith, suc-mul i B, le (suc i) n B h)
  where
    le : (a b B : ℕ) → a ≤ b → a * B ≤ b * B
    le a b B h = mul-le-mul_right B h

pub next_place : (B i : ℕ) → (i + 1) * B ≡ i * B + B
next_place B i = ap (λ n. n * B) (add-one i) ∙ suc-mul i B

module _ (B : ℕ) (E : List ℕ → List ℕ) (iv text : List ℕ) where
  -- one more block chained
  pub chained_more : (i at : ℕ) (h h' : List ℕ) → at ≡ i * B → h ≡ chained B E iv text i → h' ≡ E (xor_block B h (take B (drop at text))) → h' ≡ chained B E iv text (i + 1)
  unfolding chained block_at
  chained_more i at h h' ea eh e =
      e ∙ ap₂ (λ (x : List ℕ) (n : ℕ). E (xor_block B x (take B (drop n text)))) eh ea ∙ ap (chained B E iv text) (sym (add-one i))

  pub length_links : (n : ℕ) → length (links B E iv text n) ≡ n * B
  unfolding links
  length_links n = length_tab (n * B) _

  pub links_none : (o : List ℕ) → o ≡ links B E iv text 0 ++ drop (0 * B) o
  unfolding links tab
  links_none o = ap (λ n. tab n (linked B E iv text) ++ drop n o) (sym (zero-mul B))

  -- byte j of block i
  linked_block : (i j : ℕ) → j < B → linked B E iv text (i * B + j) ≡ get_or (chained B E iv text (i + 1)) j 0
  unfolding linked
  linked_block i j l = ap₂ (λ (a b : ℕ). get_or (chained B E iv text (a + 1)) b 0) (digits_div i l) (digits_mod i l)

  -- one more block of them
  pub links_more : (i : ℕ) → length (chained B E iv text (i + 1)) ≡ B → links B E iv text (i + 1) ≡ links B E iv text i ++ chained B E iv text (i + 1)
  unfolding links
  links_more i e =
      ap (λ n. tab n (linked B E iv text)) (next_place B i) ∙ tab_add (i * B) B (linked B E iv text)
      ∙ ap (λ x. tab (i * B) (linked B E iv text) ++ x) (tab_ext B _ _ (linked_block i) ∙ tab_self B _ e)

  -- one more block stored
  pub links_stored : (i at : ℕ) (o₀ o o' x : List ℕ) → at ≡ i * B → length x ≡ B → x ≡ chained B E iv text (i + 1) → o ≡ links B E iv text i ++ drop (i * B) o₀
      → o' ≡ take at o ++ (x ++ drop (at + B) o) → o' ≡ links B E iv text (i + 1) ++ drop ((i + 1) * B) o₀
  links_stored i at o₀ o o' x ea lx ex eo e =
      e ∙ ap₂ (λ (a b : List ℕ). a ++ (x ++ b)) front back
      ∙ sym (append_assoc (links B E iv text i) x (drop ((i + 1) * B) o₀))
      ∙ ap (λ a. a ++ drop ((i + 1) * B) o₀) (ap (λ a. links B E iv text i ++ a) ex ∙ sym (links_more i (ap length (sym ex) ∙ lx)))
    where
      front : take at o ≡ links B E iv text i
      front = ap (take at) eo ∙ take_at (links B E iv text i) (drop (i * B) o₀) at (length_links i ∙ sym ea)

      back : drop (at + B) o ≡ drop ((i + 1) * B) o₀
      back =
          sym (drop-drop B at o)
          ∙ ap (drop B) (ap (drop at) eo ∙ drop_at (links B E iv text i) (drop (i * B) o₀) at (length_links i ∙ sym ea))
          ∙ drop-drop B (i * B) o₀ ∙ ap (λ n. drop n o₀) (sym (next_place B i))

  -- whole blocks
  pub links_all : (n : ℕ) → length text ≡ n * B → links B E iv text n ≡ cbc B E iv text
  unfolding links linked cbc
  links_all n e = ap (λ m. tab m (linked B E iv text)) (sym e)

-- all blocks chained from the IV, and stored
pub cbc_is : (B : ℕ) (E : List ℕ → List ℕ) (iv text o o' h : List ℕ) (n : ℕ) → h ≡ iv → n * B ≡ length text → o' ≡ links B E h text n ++ drop (n * B) o
    → o' ≡ cbc B E iv text ++ drop (length text) o
cbc_is B E iv text o o' h n eh en e =
    e ∙ ap₂ (λ (x : List ℕ) (m : ℕ). links B E x text n ++ drop m o) eh en ∙ ap (λ x. x ++ drop (length text) o) (links_all B E iv text n (sym en))

-- the blocks of a text of whole blocks
pub whole_blocks : (B l : ℕ) → l % B ≡ 0 → l / B * B ≡ l
whole_blocks B l e = omega (arith, div-add-mod' l B)

pub some_blocks : (B l : ℕ) → l / B * B ≤ l
some_blocks B l = omega (arith, div-add-mod' l B)
