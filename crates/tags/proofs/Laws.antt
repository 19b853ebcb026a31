-- The tag's last block, its mask, and the whole.
use mathlib.Core.Logic.{⊎_elim}
use mathlib.Core.Path.{◌≡◌, refl, sym, ap, ap₂, ◌∙◌, subst}
use mathlib.Core.List.{List}
use Prim.Native.Nat.{ℕ, zero, suc, ◌+◌, ◌-◌, ◌*◌, ◌/◌, ◌%◌, ◌<◌, ◌≤◌}
use native.Mathlib.Nat.{mod-lt, suc-mul, mul_comm, mul-div_left, zero-mul, div-add-mod'}
use native.Mathlib.Numerals.{add-one}
use native.Mathlib.Omega.{arith}
use borrow.Author.Tests.{eq-eqb, ne_eqb}
use lib.Arith.{digits_div}
use lib.Dec.{eqb}
use lib.ListN.{take, drop, length, set, replicate}
use Rattle.common.specs.Choice.{pick}
use Rattle.common.specs.Places.{tab}
use Rattle.field.specs.Column.{byte_of}
use Rattle.field.proofs.XorLaws.{lt_two}
use Rattle.kalyna.specs.State.{bytes_of}
use Rattle.blocks.specs.Blocks.{Width}
use Rattle.words.specs.Words as W
use Rattle.modes.specs.Blocks.{block_at, xor_block, block_of}
use Rattle.modes.specs.Chain.{chained}
use Rattle.modes.specs.Fill.{fill}
use Rattle.modes.specs.Mac.{mac_text, mac_mask, mac_of, mac}
use Rattle.modes.proofs.Fill.{length_fill}
use Rattle.one_block.specs.Held.{held}
use Rattle.fills.proofs.Laws.{chained_fill}

-- ---- a small number in a cell of zeros

small : ℕ → ℕ → Type 0
small c x = held c (set (replicate 32 0) 0 x) ≡ block_of (8 * c) x

small_2 : (x : ℕ) → x < 2 → small 2 x
unfolding small held block_of bytes_of tab byte_of W.block_at W.word_at
small_2 = lt_two (small 2) refl refl

small_4 : (x : ℕ) → x < 2 → small 4 x
unfolding small held block_of bytes_of tab byte_of W.block_at W.word_at
small_4 = lt_two (small 4) refl refl

small_8 : (x : ℕ) → x < 2 → small 8 x
unfolding small held block_of bytes_of tab byte_of W.block_at W.word_at
small_8 = lt_two (small 8) refl refl

-- 0 or 1 as a block
pub number_held : (c x : ℕ) → Width c → x < 2 → held c (set (replicate 32 0) 0 x) ≡ block_of (8 * c) x
unfolding small
number_held c x w l =
    ⊎_elim (λ e. subst (λ c. small c x) (sym e) (small_2 x l)) (⊎_elim (λ e. subst (λ c. small c x) (sym e) (small_4 x l)) (λ e. subst (λ c. small c x) (sym e) (small_8 x l))) w

zero_set : set (replicate 32 0) 0 0 ≡ replicate {A = ℕ} 32 0
zero_set = refl

pub zero_held : (c : ℕ) → Width c → held c (replicate 32 0) ≡ block_of (8 * c) 0
zero_held c w = ap (held c) (sym zero_set) ∙ number_held c 0 w (omega arith)

-- ---- the number that is masked with

pub mask_whole : (m : ℕ) → m ≡ 0 → ◌≡◌ {A = ℕ} 0 (pick (eqb m 0) 0 1)
unfolding pick
mask_whole m e = ap (λ t. pick {A = ℕ} t 0 1) (sym (eq-eqb m 0 e))

pub mask_filled : (m : ℕ) → (m ≡ 0 → ⊥) → ◌≡◌ {A = ℕ} 1 (pick (eqb m 0) 0 1)
unfolding pick
mask_filled m n = ap (λ t. pick {A = ℕ} t 0 1) (sym (ne_eqb m 0 n))

-- ---- the last block

module _ (B : ℕ) (text : List ℕ) (pos : 0 < B) (some : 0 < length text) where
  abbrev Last : ℕ
  Last = (length text - 1) / B

  whole_text : length text % B ≡ 0 → mac_text B text ≡ text
  unfolding mac_text pick
  whole_text e = ap (λ t. pick t text (fill B text)) (eq-eqb (length text % B) 0 e)

  filled_text : (length text % B ≡ 0 → ⊥) → mac_text B text ≡ fill B text
  unfolding mac_text pick
  filled_text n = ap (λ t. pick t text (fill B text)) (ne_eqb (length text % B) 0 n)

  -- a number by its quotient
  by_quotient : (q r : ℕ) → length text - 1 ≡ q * B + r → r < B → Last ≡ q
  by_quotient q r e l = ap (λ n. n / B) e ∙ digits_div q l

  -- after whole blocks the last one ends the text
  pub last_whole : length text % B ≡ 0 → suc Last * B ≡ length text
  last_whole e = ap (λ n. suc n * B) (by_quotient (length text / B - 1) (B - 1) here (omega arith)) ∙ all
    where
      more : (q : ℕ) → q * B ≡ length text → 0 < q
      more zero h = absurd (omega (arith, h, zero-mul B))
      more (suc q) h = omega arith

      blocks : length text / B * B ≡ length text
      blocks = omega (arith, div-add-mod' (length text) B)

      all : suc (length text / B - 1) * B ≡ length text
      all = ap (λ n. n * B) (let z : suc (length text / B - 1) ≡ length text / B = omega (arith, more (length text / B) blocks) in z) ∙ blocks

      here : length text - 1 ≡ (length text / B - 1) * B + (B - 1)
      here = omega (arith, all, suc-mul (length text / B - 1) B)

  -- else it is the one that is begun
  pub last_begun : (length text % B ≡ 0 → ⊥) → Last ≡ length text / B
  last_begun n = by_quotient (length text / B) (length text % B - 1) (omega (arith, div-add-mod' (length text) B, z)) (omega (arith, mod-lt (length text) pos))
    where
      z : 0 < length text % B
      z = omega (arith, n)

  pub last_text : length (mac_text B text) / B - 1 ≡ Last
  last_text = go (dec_eq (length text % B))
    where
      dec_eq : (m : ℕ) → Dec (m ≡ 0)
      dec_eq zero = yes refl
      dec_eq (suc m) = no (λ e. omega (arith, e))

      less : (q : ℕ) → suc q * B / B - 1 ≡ q
      less q = ap (λ x. x - 1) (mul-div_left (suc q) pos) ∙ (let z : suc q - 1 ≡ q = omega arith in z)

      go : Dec (length text % B ≡ 0) → length (mac_text B text) / B - 1 ≡ Last
      go (yes e) = ap (λ x. x / B - 1) (ap length (whole_text e) ∙ sym (last_whole e)) ∙ less Last
      go (no n) =
          ap (λ x. x / B - 1) (ap length (filled_text n) ∙ length_fill B text pos ∙ mul_comm B (length text / B + 1) ∙ ap (λ q. q * B) (add-one (length text / B)))
          ∙ less (length text / B) ∙ sym (last_begun n)

  -- the blocks before it are the text's
  pub last_room : Last * B ≤ length text
  last_room = omega (arith, div-add-mod' (length text - 1) B)

  chained_text : (E : List ℕ → List ℕ) (iv : List ℕ) → Dec (length text % B ≡ 0) → chained B E iv (mac_text B text) Last ≡ chained B E iv text Last
  chained_text E iv (yes e) = ap (λ x. chained B E iv x Last) (whole_text e)
  chained_text E iv (no n) = ap (λ x. chained B E iv x Last) (filled_text n) ∙ chained_fill B text pos E iv Last last_room

  -- the last block, whole
  pub added_whole : length text % B ≡ 0 → take B (drop (Last * B) text) ≡ block_at B (mac_text B text) Last
  unfolding block_at
  added_whole e = ap (λ x. take B (drop (Last * B) x)) (sym (whole_text e))

  -- or filled
  pub added_filled : (length text % B ≡ 0 → ⊥) → block_at B (fill B text) (length text / B) ≡ block_at B (mac_text B text) Last
  added_filled n = ap₂ (λ (x : List ℕ) (q : ℕ). block_at B x q) (sym (filled_text n)) (sym (last_begun n))

  -- 9.2, step by step
  pub mac_is : (E : List ℕ → List ℕ) (z h₁ h₂ m h₃ h₄ : List ℕ) (x : ℕ) → z ≡ block_of B 0 → h₁ ≡ chained B E z text Last → h₂ ≡ xor_block B h₁ (block_at B (mac_text B text) Last)
      → x ≡ pick (eqb (length text % B) 0) 0 1 → m ≡ E (block_of B x) → h₃ ≡ xor_block B h₂ m → h₄ ≡ E h₃ → h₄ ≡ mac B E text
  unfolding mac mac_of mac_mask
  mac_is E z h₁ h₂ m h₃ h₄ x ez e₁ e₂ ex em e₃ e₄ =
      e₄ ∙ ap E (e₃ ∙ ap₂ (xor_block B) (e₂ ∙ ap (λ y. xor_block B y (block_at B (mac_text B text) Last)) first) (em ∙ ap (λ y. E (block_of B y)) ex))
      ∙ ap (mac_of B E (E (block_of B (pick (eqb (length text % B) 0) 0 1))) (mac_text B text)) (sym last_text)
    where
      dec_eq : (m : ℕ) → Dec (m ≡ 0)
      dec_eq zero = yes refl
      dec_eq (suc m) = no (λ e. omega (arith, e))

      first : h₁ ≡ chained B E (block_of B 0) (mac_text B text) Last
      first = e₁ ∙ ap (λ y. chained B E y text Last) ez ∙ sym (chained_text E (block_of B 0) (dec_eq (length text % B)))
