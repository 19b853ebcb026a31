-- The walks, one after another, are the block transformation.
use mathlib.Core.Path.{◌≡◌, refl, sym, ap, ◌∙◌, subst}
use mathlib.Core.List.{List}
use Prim.Native.Nat.{ℕ, ◌+◌, ◌-◌, ◌*◌, ◌<◌, ◌≤◌}
use native.Mathlib.Nat.{mul-le-mul, mul-le-mul_left, mul-suc, mul-zero}
use native.Mathlib.Numerals.{add-one}
use native.Mathlib.Omega.{arith}
use lib.ListN.{get_or, replicate, get_or-replicate}
use Rattle.common.proofs.Places.{get_d_tab, tab_ext, tab_self}
use Rattle.field.specs.Xor.{xor}
use Rattle.field.proofs.XorLaws.{zero_r}
use Rattle.lookup.specs.Table.{seal_table}
use Rattle.words.specs.Words.{block_at, Walked}
use Rattle.words.proofs.Walks.{walk_then, walk_as}
use Rattle.kalyna.specs.State.{State}
use Rattle.kalyna.specs.Round.{add_key, xor_key, ssm}
use Rattle.kalyna.specs.Block.{moves, rounds, seal}
use Rattle.kalyna.proofs.Undo.{ssm_state}
use Rattle.rounds.specs.Rounds.{seal_places, key_at, round_of}
use Rattle.rounds.proofs.Laws.{looked_seal}
use Rattle.blocks.specs.Blocks.{keys_of}

-- a walk by lookups is a round of the standard
pub round_is : (c n : ℕ) (t k s s' : List ℕ) → t ≡ seal_table → Walked c n (round_of t c (seal_places c) k) s s' → Walked c n (λ x. xor_key c k (ssm (moves c) c x)) s s'
unfolding round_of
round_is c n t k s s' e w =
    walk_as c n _ _ s s' (λ i l. ap (λ t. round_of t c (seal_places c) k (block_at c s i)) e ∙ ap (xor_key c k) (looked_seal c _)) w

-- at a width
pub round_at : (c d n : ℕ) (t ks s s' : List ℕ) (at : ℕ) → c ≡ d → t ≡ seal_table → Walked d n (round_of t d (seal_places d) (key_at d ks at)) s s'
    → Walked c n (λ x. xor_key c (key_at c ks at) (ssm (moves c) c x)) s s'
round_at c d n t ks s s' at e et w =
    subst (λ c. Walked c n (λ x. xor_key c (key_at c ks at) (ssm (moves c) c x)) s s') (sym e) (round_is d n t (key_at d ks at) s s' et w)

abbrev pub zeros : List ℕ
zeros = replicate 8 0

-- a key of zeros changes nothing
zero_key : (c : ℕ) (y : List ℕ) → c ≤ 8 → State c y → xor_key c (key_at c zeros 0) y ≡ y
unfolding xor_key key_at
zero_key c y h st =
    tab_ext c _ (λ j. get_or y j 0)
    (λ j l. ap (xor (get_or y j 0)) (get_d_tab c (λ j. get_or zeros (0 + j) 0) j l ∙ none (0 + j) (omega arith)) ∙ zero_r (get_or y j 0))
    ∙ tab_self c y st.long
  where
    none : (n : ℕ) → n < 8 → get_or zeros n 0 ≡ 0
    none n l = get_or-replicate 8 n 0 0 l

-- a round with a key of zeros, and then a key added
pub last_is : (c n : ℕ) (k s s' s'' : List ℕ) → c ≤ 8 → Walked c n (λ x. xor_key c (key_at c zeros 0) (ssm (moves c) c x)) s s' → Walked c n (add_key c k) s' s''
    → Walked c n (λ x. add_key c k (ssm (moves c) c x)) s s''
last_is c n k s s' s'' h a b =
    walk_as c n _ _ s s'' (λ i l. ap (add_key c k) (zero_key c _ h (ssm_state (moves c) c _))) (walk_then c n _ _ s s' s'' a b)

-- one more round
pub rounds_more : (c n m : ℕ) (ks s₀ s s' : List ℕ) (at : ℕ) → at ≡ c * (m + 1) → Walked c n (λ x. rounds c (keys_of c ks) x m) s₀ s
    → Walked c n (λ x. xor_key c (key_at c ks at) (ssm (moves c) c x)) s s' → Walked c n (λ x. rounds c (keys_of c ks) x (m + 1)) s₀ s'
unfolding rounds keys_of
rounds_more c n m ks s₀ s s' at e a b =
    walk_as c n _ _ s₀ s'
    (λ i l.
    ap (λ p. xor_key c (key_at c ks p) (ssm (moves c) c (rounds c (keys_of c ks) (block_at c s₀ i) m))) (e ∙ ap (λ k. c * k) (add-one m))
    ∙ ap (rounds c (keys_of c ks) (block_at c s₀ i)) (sym (add-one m)))
    (walk_then c n _ _ s₀ s s' a b)

pub rounds_none : (c n : ℕ) (K : ℕ → List ℕ) (s : List ℕ) → Walked c n (λ x. rounds c K x 0) s s
unfolding rounds
rounds_none c n K s = record { long = refl; done = λ i l. refl; kept = λ j l. refl }

-- room for key m + 1 of t
pub key_room : (c m t l : ℕ) → m ≤ t → c * (t + 1) ≤ l → c * m + c ≤ l
key_room c m t l h r = omega (arith, mul-le-mul_left c h, (ap (λ x. c * x) (add-one t) ∙ mul-suc c t))

-- the same of a place that is a product, as far as neither factor is too large
pub product_room : (c a b t l : ℕ) → a ≤ c → b ≤ t → c * (t + 1) ≤ l → a * b + c ≤ l
product_room c a b t l g h r = omega (arith, mul-le-mul g h, key_room c t t l (omega arith) r)

-- the first key added, the rounds, the last round
pub seal_is : (c n t : ℕ) (ks s s' s'' s''' : List ℕ) → Walked c n (add_key c (key_at c ks 0)) s s' → Walked c n (λ x. rounds c (keys_of c ks) x (t - 1)) s' s''
    → Walked c n (λ x. add_key c (key_at c ks (c * t)) (ssm (moves c) c x)) s'' s''' → Walked c n (seal c t (keys_of c ks)) s s'''
unfolding seal keys_of
seal_is c n t ks s s' s'' s''' a b d =
    walk_as c n _ _ s s'''
    (λ i l. ap (λ p. add_key c (key_at c ks (c * t)) (ssm (moves c) c (rounds c (keys_of c ks) (add_key c (key_at c ks p) (block_at c s i)) (t - 1)))) (sym (mul-zero c)))
    (walk_then c n _ _ s s'' s''' (walk_then c n _ _ s s' s'' a b) d)

-- sealed at a width
pub seal_at : (c d n t : ℕ) (ks s s' : List ℕ) → c ≡ d → Walked d n (seal d t (keys_of d ks)) s s' → Walked c n (seal c t (keys_of c ks)) s s'
seal_at c d n t ks s s' e w = subst (λ c. Walked c n (seal c t (keys_of c ks)) s s') (sym e) w

pub room_at : (c d n t l m : ℕ) → c ≡ d → 4 * (c * n) ≤ l → c * (t + 1) ≤ m → (4 * (d * n) ≤ l) × (d * (t + 1) ≤ m)
room_at c d n t l m e h g = subst (λ d. (4 * (d * n) ≤ l) × (d * (t + 1) ≤ m)) e (h, g)
