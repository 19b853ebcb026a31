-- The last block of a filled text, and the text chained with it.
use mathlib.Core.Path.{◌≡◌, refl, sym, ap, ap₂, ◌∙◌, subst}
use mathlib.Core.List.{List, [], ◌∷◌, ◌++◌}
use Prim.Native.Nat.{ℕ, zero, suc, ◌+◌, ◌-◌, ◌*◌, ◌/◌, ◌%◌, ◌<◌, ◌≤◌}
use native.Mathlib.Nat.{zero-add, suc-mul, mul_comm, div-add-mod', mod-lt, mul-mod_left}
use native.Mathlib.Numerals.{add-one}
use native.Mathlib.Decide.{dec_lt}
use native.Mathlib.Omega.{arith}
use lib.ListN.{get_or, take, drop, length, set, replicate, length-append, length-drop, length-replicate, get_or-append}
use lib.Seq.{take_at, drop_at, take_all, get_or-append-add, get_or-append_seam, get_or-take, get_or-drop, length-take-le}
use Rattle.common.specs.Places.{tab}
use Rattle.common.proofs.Places.{get_d_tab, length_tab, tab_ext, tab_add, tab_self}
use Rattle.common.proofs.Runs.{Run, run_more, run_whole}
use Rattle.modes.specs.Blocks.{block_at, xor_block}
use Rattle.modes.specs.Chain.{chained, cbc}
use Rattle.modes.specs.Fill.{fill}
use Rattle.modes.proofs.Blocks.{length_block, get_d_block, place_lt, block_ends}
use Rattle.modes.proofs.Fill.{length_fill, fill_front, fill_mark, fill_zero}
use Rattle.chains.specs.Links.{linked, links}
use Rattle.chains.proofs.Laws.{next_place, links_stored, links_all}

zeros : (n k : ℕ) → ◌≡◌ {A = ℕ} (get_or (replicate n 0) k 0) 0
zeros zero k = refl
zeros (suc n) zero = refl
zeros (suc n) (suc k) = zeros n k

-- ---- the bytes of the last block

-- the text and the 80; what is past them reads as 0
abbrev pub filled : List ℕ → ℕ → ℕ → ℕ
filled text at i = get_or (text ++ (0x80 ∷ [])) (at + i) 0

module _ (text : List ℕ) where
  past : (k : ℕ) → get_or (text ++ (0x80 ∷ [])) (length text + suc k) 0 ≡ 0
  past k = get_or-append-add text (0x80 ∷ []) (suc k) 0

  -- the filled text by its places
  pub fill_place : (B k : ℕ) → get_or (fill B text) k 0 ≡ get_or (text ++ (0x80 ∷ [])) k 0
  fill_place B k = go (dec_lt k (length text)) (dec_lt (length text) k)
    where
      go : Dec (k < length text) → Dec (length text < k) → get_or (fill B text) k 0 ≡ get_or (text ++ (0x80 ∷ [])) k 0
      go (yes l) d = fill_front B text k l ∙ sym (get_or-append text (0x80 ∷ []) 0 k l)
      go (no n) (yes l) = ap (λ j. get_or (fill B text) j 0) e ∙ fill_zero B text (k - suc (length text)) ∙ sym (past (k - suc (length text))) ∙ ap (λ j. get_or (text ++ (0x80 ∷ [])) j 0) (sym e)
        where
          e : k ≡ length text + suc (k - suc (length text))
          e = omega arith
      go (no n) (no l) = ap (λ j. get_or (fill B text) j 0) e ∙ fill_mark B text ∙ sym (get_or-append_seam text 0x80 [] 0) ∙ ap (λ j. get_or (text ++ (0x80 ∷ [])) j 0) (sym e)
        where
          e : k ≡ length text
          e = omega arith

  pub filled_text : (at i : ℕ) → at + i < length text → get_or text (at + i) 0 ≡ filled text at i
  filled_text at i l = sym (get_or-append text (0x80 ∷ []) 0 (at + i) l)

  pub filled_mark : (at i : ℕ) → at + i ≡ length text → 0x80 ≡ filled text at i
  filled_mark at i e = sym (ap (λ j. get_or (text ++ (0x80 ∷ [])) j 0) e ∙ get_or-append_seam text 0x80 [] 0)

  filled_past : (at i : ℕ) → length text < at + i → filled text at i ≡ 0
  filled_past at i l = ap (λ j. get_or (text ++ (0x80 ∷ [])) j 0) e ∙ past (at + i - suc (length text))
    where
      e : at + i ≡ length text + suc (at + i - suc (length text))
      e = omega arith

  -- the text and the 80 are stored, and zeros stood there
  pub last_is : (at n : ℕ) (o₀ o : List ℕ) → o₀ ≡ replicate 64 0 → at + n ≡ length text → n < 64 → Run (filled text at) 0 o₀ (n + 1) o → o ≡ tab 64 (filled text at)
  last_is at n o₀ o e₀ e l r =
      run_whole (filled text at) 0 o₀ (n + 1) o r
      ∙ ap (λ x. tab (n + 1) (filled text at) ++ x) (ap (λ m. drop m o₀) (zero-add (n + 1)) ∙ rest)
      ∙ sym (tab_add (n + 1) (63 - n) (filled text at))
      ∙ ap (λ m. tab m (filled text at)) all
    where
      all : n + 1 + (63 - n) ≡ 64
      all = omega arith

      long : length (drop (n + 1) o₀) ≡ 63 - n
      long = length-drop (n + 1) o₀ ∙ ap (λ x. x - (n + 1)) (ap length e₀ ∙ length-replicate {A = ℕ} 64 0) ∙ less
        where
          less : 64 - (n + 1) ≡ 63 - n
          less = omega arith

      rest : drop (n + 1) o₀ ≡ tab (63 - n) (λ i. filled text at (n + 1 + i))
      rest =
          sym (tab_self (63 - n) (drop (n + 1) o₀) long)
          ∙ tab_ext (63 - n) _ _ (λ j lj.
          get_or-drop (n + 1) o₀ j 0 ∙ ap (λ x. get_or x (n + 1 + j) 0) e₀ ∙ zeros 64 (n + 1 + j) ∙ sym (filled_past at (n + 1 + j) (omega (arith, e))))

pub last_long : (o : List ℕ) → o ≡ replicate 64 0 → length o ≡ 64
last_long o e = ap length e ∙ length-replicate {A = ℕ} 64 0

-- one more byte stored
pub run_store : (f : ℕ → ℕ) (o₀ o : List ℕ) (i v : ℕ) → Run f 0 o₀ i o → i < length o₀ → v ≡ f i → Run f 0 o₀ (i + 1) (set o i v)
run_store f o₀ o i v r l e = subst (λ k. Run f 0 o₀ (i + 1) (set o k v)) (zero-add i) (run_more f 0 o₀ i o v r (omega arith) e)

-- what is left of the text, stored at the front
pub run_copied : (text o₀ o : List ℕ) (at : ℕ) → at ≤ length text → length text - at ≤ length o₀ → o ≡ take (length text - at) (drop at text) ++ drop (length text - at) o₀ → Run (filled text at) 0 o₀ (length text - at) o
run_copied text o₀ o at h r e₀ =
    record {
      long = ap length e ∙ length-append (drop at text) (drop (length text - at) o₀) ∙ ap₂ (λ (a b : ℕ). a + b) (length-drop at text) (length-drop (length text - at) o₀) ∙ whole;
      front = ap₂ (λ (n : ℕ) (x : List ℕ). take n x) (zero-add (length text - at)) e ∙ take_at (drop at text) (drop (length text - at) o₀) (length text - at) (length-drop at text) ∙ rest;
      back = ap₂ (λ (n : ℕ) (x : List ℕ). drop n x) (zero-add (length text - at)) e ∙ drop_at (drop at text) (drop (length text - at) o₀) (length text - at) (length-drop at text) ∙ sym (ap (λ n. drop n o₀) (zero-add (length text - at)));
    }
  where
    e : o ≡ drop at text ++ drop (length text - at) o₀
    e = e₀ ∙ ap (λ x. x ++ drop (length text - at) o₀) (take_all (length text - at) (drop at text) (omega (arith, length-drop at text)))

    whole : length text - at + (length o₀ - (length text - at)) ≡ length o₀
    whole = omega arith

    rest : drop at text ≡ tab (length text - at) (filled text at)
    rest =
        sym (tab_self (length text - at) (drop at text) (length-drop at text))
        ∙ tab_ext (length text - at) _ (filled text at) (λ i l. get_or-drop at text i 0 ∙ filled_text text at i (omega arith))

module _ (B : ℕ) (text : List ℕ) (pos : 0 < B) where
  abbrev Q : ℕ
  Q = length text / B

  pub last_room : suc Q * B ≤ length (fill B text)
  last_room = omega (arith, length_fill B text pos, mul_comm B (Q + 1), next_place B Q, suc-mul Q B)

  -- it is the last block of the filled text
  pub filled_block : (at : ℕ) → at ≡ Q * B → B ≤ 64 → take B (drop 0 (tab 64 (filled text at))) ≡ block_at B (fill B text) Q
  filled_block at e h =
      sym (tab_self B _ (length-take-le B (tab 64 (filled text at)) (subst (λ n. B ≤ n) (sym (length_tab 64 (filled text at))) h)))
      ∙ tab_ext B _ (λ j. get_or (block_at B (fill B text) Q) j 0) (λ j l.
      get_or-take B (tab 64 (filled text at)) j 0 l ∙ get_d_tab 64 (filled text at) j (omega arith)
      ∙ sym (fill_place text B (at + j)) ∙ ap (λ n. get_or (fill B text) (n + j) 0) e ∙ sym (get_d_block B Q j (fill B text) l))
      ∙ tab_self B (block_at B (fill B text) Q) (length_block B Q (fill B text) last_room)

  -- the blocks before it are those of the text
  block_fill : (i : ℕ) → suc i * B ≤ length text → block_at B (fill B text) i ≡ block_at B text i
  block_fill i h =
      sym (tab_self B _ (length_block B i (fill B text) more))
      ∙ tab_ext B _ (λ j. get_or (block_at B text i) j 0) (λ j l.
      get_d_block B i j (fill B text) l ∙ fill_front B text (i * B + j) (place_lt B i j (length text) h l) ∙ sym (get_d_block B i j text l))
      ∙ tab_self B (block_at B text i) (length_block B i text h)
    where
      more : suc i * B ≤ length (fill B text)
      more = omega (arith, length_fill B text pos, mul_comm B (Q + 1), next_place B Q, div-add-mod' (length text) B, mod-lt (length text) pos)

  module _ (E : List ℕ → List ℕ) (iv : List ℕ) where
    pub chained_fill : (i : ℕ) → i * B ≤ length text → chained B E iv (fill B text) i ≡ chained B E iv text i
    unfolding chained
    chained_fill zero h = refl
    chained_fill (suc i) h = ap E (ap₂ (xor_block B) (chained_fill i (omega (arith, suc-mul i B))) (block_fill i h))

    links_fill : (q : ℕ) → q * B ≤ length text → links B E iv (fill B text) q ≡ links B E iv text q
    unfolding links linked
    links_fill q h =
        tab_ext (q * B) _ _ (λ m l. ap (λ x. get_or x (m % B) 0) (chained_fill (m / B + 1) (ends m l)))
      where
        ends : (m : ℕ) → m < q * B → (m / B + 1) * B ≤ length text
        ends m l = omega (arith, next_place B (m / B), block_ends B m (q * B) pos (mul-mod_left q B) l, suc-mul (m / B) B)

    chained_suc : (i : ℕ) → E (xor_block B (chained B E iv (fill B text) i) (block_at B (fill B text) i)) ≡ chained B E iv (fill B text) (suc i)
    unfolding chained
    chained_suc i = refl

    -- the text's blocks, and the last one
    pub cbp_is : (o o₁ o₂ h h₁ x : List ℕ) → h ≡ iv → h₁ ≡ chained B E h text Q → o₁ ≡ links B E h text Q ++ drop (Q * B) o
        → x ≡ E (xor_block B h₁ (block_at B (fill B text) Q)) → length x ≡ B → o₂ ≡ take (Q * B) o₁ ++ (x ++ drop (Q * B + B) o₁)
        → o₂ ≡ cbc B E iv (fill B text) ++ drop (B * (Q + 1)) o
    cbp_is o o₁ o₂ h h₁ x eh e₁ eo ex lx e =
        links_stored B E iv (fill B text) Q (Q * B) o o₁ o₂ x refl lx last
        (eo ∙ ap (λ y. y ++ drop (Q * B) o) (ap (λ y. links B E y text Q) eh ∙ sym (links_fill Q before))) e
        ∙ ap₂ (λ (a : List ℕ) (n : ℕ). a ++ drop n o) (links_all B E iv (fill B text) (Q + 1) (length_fill B text pos ∙ mul_comm B (Q + 1))) (mul_comm (Q + 1) B)
      where
        before : Q * B ≤ length text
        before = omega (arith, div-add-mod' (length text) B)

        chain : h₁ ≡ chained B E iv (fill B text) Q
        chain = e₁ ∙ ap (λ y. chained B E y text Q) eh ∙ sym (chained_fill Q before)

        last : x ≡ chained B E iv (fill B text) (Q + 1)
        last = ex ∙ ap (λ y. E (xor_block B y (block_at B (fill B text) Q))) chain ∙ chained_suc Q ∙ ap (chained B E iv (fill B text)) (sym (add-one Q))

-- ---- places

-- where the last block starts
pub last_le : (B l at : ℕ) → at ≡ l / B * B → at ≤ l
last_le B l at e = omega (arith, div-add-mod' l B)

pub last_lt : (B l at : ℕ) → at ≡ l / B * B → 0 < B → B ≤ 64 → l < at + 64
last_lt B l at e p h = omega (arith, div-add-mod' l B, mod-lt l p)

-- room for the filled text
pub filled_room : (B q n : ℕ) → B * (q + 1) ≤ n → q * B + B ≤ n
filled_room B q n h = omega (arith, mul_comm B (q + 1), next_place B q)
