-- The modes as code makes them: gammas and keys known by their values, the filled text block by block, the tag in its two cases.
use mathlib.Core.Bool.{Bool}
use mathlib.Core.Path.{◌≡◌, refl, sym, ap, ap₂, ◌∙◌}
use mathlib.Core.List.{List}
use Prim.Native.Nat.{ℕ, zero, suc, ◌+◌, ◌-◌, ◌*◌, ◌/◌, ◌%◌, ◌<◌, ◌≤◌}
use native.Mathlib.Nat.{mod-lt, suc-mul, div-add-mod', mul_comm, mul-div_cancel, mul-le-mul_right}
use native.Mathlib.Numerals.{add-one}
use native.Mathlib.Omega.{arith}
use native.Mathlib.Decide.{dec_lt, ℕ_discrete}
use borrow.Author.Tests.{eq-eqb, ne_eqb, lt-ltb, le-ltb}
use lib.Dec.{eqb, ltb}
use lib.ListN.{get_or, length}
use Rattle.common.specs.Choice.{pick}
use Rattle.common.specs.Places.{tab}
use Rattle.common.proofs.Places.{tab_ext, tab_self}
use Rattle.field.specs.Xor.{xor}
use Rattle.kalyna.specs.State.{columns_of, bytes_of}
use Rattle.kalyna.specs.Round.{add_key, sub_key, xor_key, ssm, unssm}
use Rattle.kalyna.specs.Block.{moves, rounds, unrounds, seal, unseal, seal_bytes, unseal_bytes}
use Rattle.modes.specs.Blocks.{block_at, xor_block, block_of}
use Rattle.modes.specs.Stream.{add_gamma}
use Rattle.modes.specs.Chain.{chained}
use Rattle.modes.specs.Fill.{fill}
use Rattle.modes.specs.Mac.{mac_text, mac_mask, mac_of, mac}
use Rattle.modes.proofs.Blocks.{place_lt, block_starts, length_block, get_d_block}
use Rattle.modes.proofs.Fill.{length_fill, fill_front, fill_mark, fill_zero}

-- ---- round keys count up to t only

module _ (c t : ℕ) (K L : ℕ → List ℕ) (same : (v : ℕ) → v ≤ t → K v ≡ L v) where
  rounds_same : (s : List ℕ) (n : ℕ) → n ≤ t → rounds c K s n ≡ rounds c L s n
  unfolding rounds
  rounds_same s zero l = refl
  rounds_same s (suc n) l = ap₂ (λ (k x : List ℕ). xor_key c k (ssm (moves c) c x)) (same (suc n) l) (rounds_same s n (omega arith))

  unrounds_same : (n : ℕ) (s : List ℕ) → n ≤ t → unrounds c K n s ≡ unrounds c L n s
  unfolding unrounds
  unrounds_same zero s l = refl
  unrounds_same (suc n) s l =
      ap (λ k. unrounds c K n (unssm (moves c) c (xor_key c k s))) (same (suc n) l) ∙ unrounds_same n (unssm (moves c) c (xor_key c (L (suc n)) s)) (omega arith)

  pub seal_same : (s : List ℕ) → seal c t K s ≡ seal c t L s
  unfolding seal
  seal_same s =
      ap₂ (λ (k x : List ℕ). add_key c k (ssm (moves c) c (rounds c K (add_key c x s) (t - 1)))) (same t (omega arith)) (same 0 (omega arith))
      ∙ ap (λ x. add_key c (L t) (ssm (moves c) c x)) (rounds_same (add_key c (L 0) s) (t - 1) (omega arith))

  pub unseal_same : (s : List ℕ) → unseal c t K s ≡ unseal c t L s
  unfolding unseal
  unseal_same s =
      ap₂ (λ (k x : List ℕ). sub_key c k (unrounds c K (t - 1) (unssm (moves c) c (sub_key c x s)))) (same 0 (omega arith)) (same t (omega arith))
      ∙ ap (sub_key c (L 0)) (unrounds_same (t - 1) (unssm (moves c) c (sub_key c (L t) s)) (omega arith))

  pub seal_bytes_same : (b : List ℕ) → seal_bytes c t K b ≡ seal_bytes c t L b
  unfolding seal_bytes
  seal_bytes_same b = ap (bytes_of c) (seal_same (columns_of c b))

  pub unseal_bytes_same : (b : List ℕ) → unseal_bytes c t K b ≡ unseal_bytes c t L b
  unfolding unseal_bytes
  unseal_bytes_same b = ap (bytes_of c) (unseal_same (columns_of c b))

-- ---- blocks

-- a whole block by its places
pub block_places : (B i : ℕ) (text : List ℕ) → suc i * B ≤ length text → block_at B text i ≡ tab B (λ j. get_or text (i * B + j) 0)
block_places B i text h =
    sym (tab_self B (block_at B text i) (length_block B i text h)) ∙ tab_ext B _ _ (λ j l. get_d_block B i j text l)

-- gammas that agree where a block of the text starts
pub gamma_ext : (B : ℕ) (g h : ℕ → List ℕ) (place : ℕ → ℕ) (text : List ℕ) → ((i : ℕ) → i * B < length text → g i ≡ h i)
    → add_gamma B g place text ≡ add_gamma B h place text
unfolding add_gamma
gamma_ext B g h place text e =
    tab_ext (length text) _ _ (λ n l. ap (λ b. xor (get_or text n 0) (get_or b (place n) 0)) (e (n / B) (block_starts B n (length text) l)))

-- a chain over texts whose first blocks agree
pub chained_ext : (B : ℕ) (E : List ℕ → List ℕ) (iv x y : List ℕ) (m : ℕ) → ((i : ℕ) → i < m → block_at B x i ≡ block_at B y i)
    → chained B E iv x m ≡ chained B E iv y m
unfolding chained
chained_ext B E iv x y zero e = refl
chained_ext B E iv x y (suc m) e =
    ap E (ap₂ (xor_block B) (chained_ext B E iv x y m (λ i l. e i (omega arith))) (e m (omega arith)))

-- ---- the filled text, block by block

-- byte j of the last block, r bytes of text in it
unfoldable pub last_byte : ℕ → List ℕ → ℕ → ℕ → ℕ
last_byte at text r j = pick (ltb j r) (get_or text (at + j) 0) (pick (eqb j r) 0x80 0)

module _ (B : ℕ) (text : List ℕ) (pos : 0 < B) where
  abbrev q : ℕ
  q = length text / B

  abbrev r : ℕ
  r = length text % B

  here : q * B + r ≡ length text
  here = div-add-mod' (length text) B

  size : length (fill B text) ≡ suc q * B
  size = length_fill B text pos ∙ mul_comm B (length text / B + 1) ∙ ap (λ i. i * B) (add-one (length text / B))

  -- the blocks before the last are the text's
  pub fill_block : (i : ℕ) → suc i * B ≤ length text → block_at B (fill B text) i ≡ block_at B text i
  fill_block i h =
      block_places B i (fill B text) (omega (arith, size, here, mod-lt (length text) pos, suc-mul (length text / B) B))
      ∙ tab_ext B _ _ (λ j l. fill_front B text (i * B + j) (place_lt B i j (length text) h l))
      ∙ sym (block_places B i text h)

  -- the last: what is left of the text, 80, 00 ..
  pub fill_last : block_at B (fill B text) (length text / B) ≡ tab B (last_byte (length text / B * B) text (length text % B))
  unfolding last_byte pick
  fill_last =
      block_places B q (fill B text) (omega (arith, size)) ∙ tab_ext B _ _ (λ j l. at j (dec_lt j r) (ℕ_discrete j r))
    where
      at : (j : ℕ) → Dec (j < length text % B) → Dec (j ≡ length text % B)
          → get_or (fill B text) (length text / B * B + j) 0 ≡ last_byte (length text / B * B) text (length text % B) j
      at j d e = go d e
        where
          go : Dec (j < length text % B) → Dec (j ≡ length text % B)
              → get_or (fill B text) (length text / B * B + j) 0 ≡ pick (ltb j (length text % B)) (get_or text (length text / B * B + j) 0) (pick (eqb j (length text % B)) 0x80 0)
          go (yes l) e =
              fill_front B text (length text / B * B + j) (omega (arith, here))
              ∙ sym (ap (λ t. pick t (get_or text (length text / B * B + j) 0) (pick (eqb j (length text % B)) 0x80 0)) (lt-ltb j (length text % B) l))
          go (no l) (yes e) =
              ap (λ n. get_or (fill B text) n 0) (ap (λ i. length text / B * B + i) e ∙ here)
              ∙ fill_mark B text
              ∙ sym (ap₂ (λ (t u : Bool). pick t (get_or text (length text / B * B + j) 0) (pick u 0x80 0)) (le-ltb j (length text % B) (omega arith)) (eq-eqb j (length text % B) e))
          go (no l) (no e) =
              ap (λ n. get_or (fill B text) n 0) past
              ∙ fill_zero B text (j - suc (length text % B))
              ∙ sym (ap₂ (λ (t u : Bool). pick t (get_or text (length text / B * B + j) 0) (pick u 0x80 0)) (le-ltb j (length text % B) (omega arith)) (ne_eqb j (length text % B) e))
            where
              past : length text / B * B + j ≡ length text + suc (j - suc (length text % B))
              past = omega (arith, here)

  -- the chain before the last block is the text's
  pub chained_fill : (E : List ℕ → List ℕ) (iv : List ℕ) → chained B E iv (fill B text) (length text / B) ≡ chained B E iv text (length text / B)
  chained_fill E iv = chained_ext B E iv (fill B text) text (length text / B) (λ i l. fill_block i (ends i l))
    where
      ends : (i : ℕ) → i < length text / B → suc i * B ≤ length text
      ends i l = omega (arith, here, mul-le-mul_right B l)

  -- section 9.2: whole blocks
  pub mac_whole : (E : List ℕ → List ℕ) → length text % B ≡ 0 → mac B E text ≡ mac_of B E (E (block_of B 0)) text (length text / B - 1)
  unfolding mac mac_mask mac_text pick
  mac_whole E w =
      ap (λ t. mac_of B E (E (block_of B (pick t 0 1))) (pick t text (fill B text)) (length (pick t text (fill B text)) / B - 1)) (eq-eqb (length text % B) 0 w)

  -- section 9.2: a short last block, filled
  pub mac_short : (E : List ℕ → List ℕ) → (length text % B ≡ 0 → ⊥)
      → mac B E text
      ≡ E (xor_block B (xor_block B (chained B E (block_of B 0) text (length text / B)) (tab B (last_byte (length text / B * B) text (length text % B)))) (E (block_of B 1)))
  unfolding mac mac_of mac_mask mac_text pick
  mac_short E w =
      ap (λ t. mac_of B E (E (block_of B (pick t 0 1))) (pick t text (fill B text)) (length (pick t text (fill B text)) / B - 1)) (ne_eqb (length text % B) 0 w)
      ∙ ap (mac_of B E (E (block_of B 1)) (fill B text)) (ap (λ n. n / B - 1) size ∙ ap (λ n. n - 1) (mul-div_cancel (suc (length text / B)) pos) ∙ less (length text / B))
      ∙ ap₂ (λ (x y : List ℕ). E (xor_block B (xor_block B x y) (E (block_of B 1)))) (chained_fill E (block_of B 0)) fill_last
    where
      less : (i : ℕ) → suc i - 1 ≡ i
      less i = omega arith
