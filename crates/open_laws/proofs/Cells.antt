-- Opening all blocks of a cell, walk by walk.
use mathlib.Core.Path.{◌≡◌, refl, sym, ap, ◌∙◌, subst}
use mathlib.Core.Logic.{◌⊎◌, ⊎_elim}
use mathlib.Core.List.{List, [], ◌∷◌}
use Prim.Native.Nat.{ℕ, zero, suc, ◌+◌, ◌-◌, ◌*◌, ◌/◌, ◌%◌, ◌^◌, ◌<◌, ◌≤◌}
use native.Mathlib.Nat.{mul-le-mul_left, mul-suc, not-suc-le-zero, div-one}
use native.Mathlib.Omega.{arith}
use native.Mathlib.Decide.{dec_lt}
use lib.ListN.{get_or, length, set, length-set}
use lib.Seq.{get_or-set_same, get_or-set_other}
use Rattle.common.specs.Places.{tab}
use Rattle.common.proofs.Places.{get_d_tab, tab_ext}
use Rattle.common.proofs.Cases.{eight}
use Rattle.field.specs.Column.{byte_of}
use Rattle.substitutions.specs.Tables.{substitutions}
use Rattle.lookup.specs.Table.{gather, open_table}
use Rattle.lookup.proofs.Laws.{gather_ext}
use Rattle.words.specs.Words.{word_at, block_at, Walked}
use Rattle.words.proofs.Walks.{walk_as, walk_then}
use Rattle.kalyna.specs.Round.{sub_key, xor_key, unmix}
use Rattle.rounds.specs.Rounds.{looked, seal_places, open_places, key_at, round_of}
use Rattle.rounds.proofs.Laws.{looked_open, places_two}
use Rattle.blocks.specs.Blocks.{keys_of}
use Rattle.open_laws.specs.Opening.{first_round, open_round, open_rounds, last_round, open_with, unmixed, swapped, Unmixed}
use Rattle.open_laws.proofs.Swaps.{swapped_is}

-- ---- a round

-- with two columns the code that seals opens too: a row comes from the same place both ways
same_places : (t x : List ℕ) → looked t 2 (seal_places 2) x ≡ looked t 2 (open_places 2) x
unfolding looked
same_places t x = tab_ext 2 _ _ (λ j hj. gather_ext t _ _ (λ i hi. ap (λ n. byte_of (get_or x n 0) i) (places_two i j hi hj)))

-- a walk by the table of opening is a round
pub walk_open : (c n : ℕ) (t k s s' : List ℕ) → t ≡ open_table → Walked c n (round_of t c (open_places c) k) s s' → Walked c n (open_round c k) s s'
unfolding round_of open_round
walk_open c n t k s s' e w =
    walk_as c n _ _ s s' (λ i l. ap (xor_key c k) (ap (λ t. looked t c (open_places c) (block_at c s i)) e ∙ looked_open c (block_at c s i))) w

pub walk_open_2 : (n : ℕ) (t k s s' : List ℕ) → t ≡ open_table → Walked 2 n (round_of t 2 (seal_places 2) k) s s' → Walked 2 n (open_round 2 k) s s'
unfolding round_of
walk_open_2 n t k s s' e w = walk_open 2 n t k s s' e (walk_as 2 n _ _ s s' (λ i l. ap (xor_key 2 k) (same_places t (block_at 2 s i))) w)

-- the same at the width c
pub round_2 : (c n at : ℕ) (t ks s s' : List ℕ) → c ≡ 2 → t ≡ open_table → Walked 2 n (round_of t 2 (seal_places 2) (key_at 2 ks at)) s s' → Walked c n (open_round c (key_at c ks at)) s s'
round_2 c n at t ks s s' e et w = subst (λ d. Walked d n (open_round d (key_at d ks at)) s s') (sym e) (walk_open_2 n t (key_at 2 ks at) s s' et w)

pub round_at : (d c n at : ℕ) (t ks s s' : List ℕ) → c ≡ d → t ≡ open_table → Walked d n (round_of t d (open_places d) (key_at d ks at)) s s' → Walked c n (open_round c (key_at c ks at)) s s'
round_at d c n at t ks s s' e et w = subst (λ d. Walked d n (open_round d (key_at d ks at)) s s') (sym e) (walk_open d n t (key_at d ks at) s s' et w)

-- room for it
pub room_at : (d c n at l m : ℕ) → c ≡ d → 4 * (c * n) ≤ l → at + c ≤ m → (4 * (d * n) ≤ l) × (at + d ≤ m)
room_at d c n at l m e h g = subst (λ d. (4 * (d * n) ≤ l) × (at + d ≤ m)) e (h, g)

-- key v of r stands within them
pub key_room : (c v r m : ℕ) → v < r → c * r ≤ m → c * v + c ≤ m
key_room c v r m h g = omega (arith, mul-le-mul_left c h, mul-suc c v)

-- key 1 starts within r keys
pub first_key : (c r : ℕ) → 0 < r → c ≤ c * r
first_key c r h = omega (arith, mul-le-mul_left c h, mul-suc c 0)

-- ---- before the rounds

-- the key subtracted from each column, which is then swapped by the table of opening
pub started : (c : ℕ) (t p ks : List ℕ) (at : ℕ) (b : List ℕ) → t ≡ open_table → p ≡ substitutions
    → tab c (λ j. swapped t p ((get_or b j 0 + 2 ^ 64 - get_or ks (at + j) 0 % 2 ^ 64) % 2 ^ 64)) ≡ first_round c (key_at c ks at) b
unfolding first_round unmix sub_key key_at unmixed
started c t p ks at b et ep =
    tab_ext c _ _ (λ j l.
    swapped_is t p _ et ep
    ∙ ap unmixed
    (ap (λ k. (get_or b j 0 + 2 ^ 64 - k % 2 ^ 64) % 2 ^ 64) (sym (get_d_tab c (λ j. get_or ks (at + j) 0) j l))
    ∙ sym (get_d_tab c (λ j. (get_or b j 0 + 2 ^ 64 - get_or (tab c (λ j. get_or ks (at + j) 0)) j 0 % 2 ^ 64) % 2 ^ 64) j l)))

-- ---- the bytes of a swapped column

pub swap_is : (t p : List ℕ) (w r a b c d e f g h : ℕ) → a % 256 ≡ get_or p (256 * 0 + w % 256) 0 → b / 256 ≡ get_or p (256 * 1 + w / 256 % 256) 0
    → c % 256 ≡ get_or p (256 * 2 + w / 65536 % 256) 0 → d / 256 ≡ get_or p (256 * 3 + w / 16777216 % 256) 0
    → e % 256 ≡ get_or p (256 * 0 + w / 4294967296 % 256) 0 → f / 256 ≡ get_or p (256 * 1 + w / 1099511627776 % 256) 0
    → g % 256 ≡ get_or p (256 * 2 + w / 281474976710656 % 256) 0 → h / 256 ≡ get_or p (256 * 3 + w / 72057594037927936 % 256) 0
    → r ≡ gather t (λ i. get_or (a % 256 ∷ b / 256 ∷ c % 256 ∷ d / 256 ∷ e % 256 ∷ f / 256 ∷ g % 256 ∷ h / 256 ∷ []) i 0) → r ≡ swapped t p w
unfolding swapped byte_of
swap_is t p w r a b c d e f g h ea eb ec ed ee ef eg eh er =
    er ∙ gather_ext t _ _ (eight _ (ea ∙ ap (λ x. get_or p (256 * 0 + x % 256) 0) (sym (div-one w))) eb ec ed ee ef eg eh)

-- one more word mixed back in place
pub unmixed_more : (a k : ℕ) (t p ks₀ ks : List ℕ) (v : ℕ) → t ≡ open_table → p ≡ substitutions → a ≤ k → k < length ks₀ → Unmixed a k ks₀ ks → v ≡ swapped t p (get_or ks k 0)
    → Unmixed a (k + 1) ks₀ (set ks k v)
unmixed_more a k t p ks₀ ks v et ep l m u e =
    record {
      long = length-set ks k v ∙ u.long;
      inner = λ i h g. go i (dec_lt i k) h g;
      outer = λ i h. get_or-set_other ks k i v 0 (λ q. ⊎_elim (λ x. omega arith) (λ x. omega arith) h) ∙ u.outer i (⊎_elim (λ x. ◌⊎◌.inl x) (λ x. ◌⊎◌.inr (omega arith)) h);
    }
  where
    is : v ≡ unmixed (get_or ks₀ k 0)
    is = e ∙ swapped_is t p (get_or ks k 0) et ep ∙ ap unmixed (u.outer k (◌⊎◌.inr (omega arith)))

    go : (i : ℕ) → Dec (i < k) → a ≤ i → i < k + 1 → get_or (set ks k v) i 0 ≡ unmixed (get_or ks₀ i 0)
    go i (yes q) h g = get_or-set_other ks k i v 0 (λ x. omega arith) ∙ u.inner i h q
    go i (no q) h g = last (omega arith)
      where
        last : i ≡ k → get_or (set ks k v) i 0 ≡ unmixed (get_or ks₀ i 0)
        last x =
            ap (λ n. get_or (set ks k v) n 0) x ∙ get_or-set_same ks k v 0 (subst (λ n. k < n) (sym u.long) m) ∙ is ∙ ap (λ n. unmixed (get_or ks₀ n 0)) (sym x)

pub unmixed_none : (a : ℕ) (ks : List ℕ) → Unmixed a a ks ks
unmixed_none a ks = record { long = refl; inner = λ k h g. let z : ⊥ = omega arith in absurd z; outer = λ k h. refl }

-- ---- rounds with keys r - 1 to 1

-- of n blocks: what G makes of them now is what H makes of them before
pub record Nears (c n : ℕ) (G H : List ℕ → List ℕ) (before after : List ℕ) : Type 0 where
  pub long : length after ≡ length before
  pub todo : (i : ℕ) → i < n → G (block_at c after i) ≡ H (block_at c before i)
  pub kept : (j : ℕ) → c * n ≤ j → word_at after j ≡ word_at before j

-- nothing is done
pub nears_all : (c n : ℕ) (H : List ℕ → List ℕ) (s : List ℕ) → Nears c n H H s s
nears_all c n H s = record { long = refl; todo = λ i l. refl; kept = λ j l. refl }

-- key v is first
first_round_lem : (c : ℕ) (K : ℕ → List ℕ) (v : ℕ) (y : List ℕ) → 0 < v → open_rounds c K v y ≡ open_rounds c K (v - 1) (open_round c (K v) y)
unfolding open_rounds
first_round_lem c K zero y l = absurd (not-suc-le-zero l)
first_round_lem c K (suc v) y l = ap (λ n. open_rounds c K n (open_round c (K (suc v)) y)) less
  where
    less : v ≡ suc v - 1
    less = omega arith

-- the round with key v is done
pub nears_less : (c n : ℕ) (K : ℕ → List ℕ) (v : ℕ) (H : List ℕ → List ℕ) (s₀ s s' : List ℕ) → 0 < v → Nears c n (open_rounds c K v) H s₀ s → Walked c n (open_round c (K v)) s s'
    → Nears c n (open_rounds c K (v - 1)) H s₀ s'
nears_less c n K v H s₀ s s' l a w =
    record {
      long = w.long ∙ a.long;
      todo = λ i h. ap (open_rounds c K (v - 1)) (w.done i h) ∙ sym (first_round_lem c K v (block_at c s i) l) ∙ a.todo i h;
      kept = λ j h. w.kept j h ∙ a.kept j h;
    }

-- none is left
pub nears_none : (c n : ℕ) (K : ℕ → List ℕ) (v : ℕ) (H : List ℕ → List ℕ) (s₀ s : List ℕ) → v ≡ 0 → Nears c n (open_rounds c K v) H s₀ s → Walked c n H s₀ s
unfolding open_rounds
nears_none c n K v H s₀ s e a =
    record { long = a.long; done = λ i h. sym (ap (λ v. open_rounds c K v (block_at c s i)) e) ∙ a.todo i h; kept = a.kept }

-- ---- the whole

pub walk_whole : (c n t : ℕ) (ks s s₁ s₂ s₃ : List ℕ) → Walked c n (first_round c (key_at c ks (c * t))) s s₁ → Walked c n (open_rounds c (keys_of c ks) (t - 1)) s₁ s₂
    → Walked c n (last_round c (key_at c ks 0)) s₂ s₃ → Walked c n (open_with c t (keys_of c ks)) s s₃
unfolding open_with keys_of
walk_whole c n t ks s s₁ s₂ s₃ a b d =
    walk_as c n _ _ s s₃ (λ i l. ap (λ m. last_round c (key_at c ks m) (open_rounds c (keys_of c ks) (t - 1) (first_round c (key_at c ks (c * t)) (block_at c s i)))) zero_place)
    (walk_then c n _ _ s s₂ s₃ (walk_then c n _ _ s s₁ s₂ a b) d)
  where
    zero_place : 0 ≡ c * 0
    zero_place = omega arith
