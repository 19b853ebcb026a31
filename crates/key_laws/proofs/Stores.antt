-- Loops that store values one after another, and keys at every second place.
use mathlib.Core.Path.{◌≡◌, refl, sym, ap, ◌∙◌, subst}
use mathlib.Core.Logic.{◌⊎◌, ⊎_elim}
use mathlib.Core.List.{List}
use Prim.Native.Nat.{ℕ, ◌+◌, ◌*◌, ◌<◌, ◌≤◌}
use native.Mathlib.Nat.{add-zero, not-suc-le-zero, mul-le-mul_left, mul-suc, mul_comm, mul_assoc}
use native.Mathlib.Decide.{dec_lt}
use native.Mathlib.Omega.{arith}
use lib.ListN.{get_or, length, set, length-set}
use lib.Seq.{get_or-set_same, get_or-set_other}
use Rattle.common.specs.Places.{tab}
use Rattle.common.proofs.Places.{get_d_tab, tab_ext}
use Rattle.rounds.specs.Rounds.{key_at}
use Rattle.blocks.specs.Blocks.{keys_of}
use Rattle.key_laws.specs.Stores.{Stored, Spread}

pub stored_none : (at : ℕ) (f : ℕ → ℕ) (s : List ℕ) → Stored at 0 f s s
stored_none at f s = record { long = refl; done = λ j l. absurd (not-suc-le-zero l); kept = λ m h. refl }

-- one more value
pub stored_more : (at j : ℕ) (f : ℕ → ℕ) (s₀ s : List ℕ) (v : ℕ) → Stored at j f s₀ s → at + j < length s₀ → v ≡ f j → Stored at (j + 1) f s₀ (set s (at + j) v)
stored_more at j f s₀ s v a r e =
    record {
      long = length-set s (at + j) v ∙ a.long;
      done = λ i l. one i (dec_lt i j) l;
      kept = λ m h.
          get_or-set_other s (at + j) m v 0 (λ q. ⊎_elim (λ x. omega arith) (λ x. omega arith) h)
          ∙ a.kept m (⊎_elim (λ x. ◌⊎◌.inl x) (λ x. ◌⊎◌.inr (omega arith)) h);
    }
  where
    one : (i : ℕ) → Dec (i < j) → i < j + 1 → get_or (set s (at + j) v) (at + i) 0 ≡ f i
    one i (yes l) m = get_or-set_other s (at + j) (at + i) v 0 (λ q. omega arith) ∙ a.done i l
    one i (no l) m = last (omega arith)
      where
        last : i ≡ j → get_or (set s (at + j) v) (at + i) 0 ≡ f i
        last q =
            ap (λ n. get_or (set s (at + j) v) (at + n) 0) q ∙ get_or-set_same s (at + j) v 0 (subst (λ n. at + j < n) (sym a.long) r) ∙ e ∙ ap f (sym q)

-- the key that was stored
pub key_stored : (c v : ℕ) (f : ℕ → ℕ) (s s' : List ℕ) → Stored (c * v) c f s s' → keys_of c s' v ≡ tab c f
unfolding keys_of key_at
key_stored c v f s s' a = tab_ext c _ f (λ j l. a.done j l)

pub apart : (c v w j : ℕ) → (w ≡ v → ⊥) → j < c → (c * w + j < c * v) ⊎ (c * v + c ≤ c * w + j)
apart c v w j n l = go (dec_lt w v)
  where
    go : Dec (w < v) → (c * w + j < c * v) ⊎ (c * v + c ≤ c * w + j)
    go (yes h) = ◌⊎◌.inl (omega (arith, mul-le-mul_left c h, mul-suc c w))
    go (no h) = ◌⊎◌.inr (after (omega arith))
      where
        after : v < w → c * v + c ≤ c * w + j
        after g = omega (arith, mul-le-mul_left c g, mul-suc c v)

-- another key
pub key_other : (c v w : ℕ) (f : ℕ → ℕ) (s s' : List ℕ) → Stored (c * v) c f s s' → (w ≡ v → ⊥) → keys_of c s' w ≡ keys_of c s w
unfolding keys_of key_at
key_other c v w f s s' a n = tab_ext c _ _ (λ j l. a.kept (c * w + j) (apart c v w j n l))

pub spread_none : (c p : ℕ) (K : ℕ → List ℕ) (s : List ℕ) → Spread c p 0 K s s
spread_none c p K s = record { long = refl; done = λ e l. absurd (not-suc-le-zero l); kept = λ v h. refl }

-- one more key
pub spread_more : (c p i : ℕ) (K : ℕ → List ℕ) (s₀ s s' : List ℕ) (f : ℕ → ℕ) (at : ℕ) → Spread c p i K s₀ s → at ≡ c * (2 * i + p) → Stored at c f s s' → tab c f ≡ K i
    → Spread c p (i + 1) K s₀ s'
spread_more c p i K s₀ s s' f at a q b e =
    record {
      long = b.long ∙ a.long;
      done = λ k l. one k (dec_lt k i) l;
      kept = λ v h. key_other c (2 * i + p) v f s s' b' (h i (omega arith)) ∙ a.kept v (λ k l. h k (omega arith));
    }
  where
    b' : Stored (c * (2 * i + p)) c f s s'
    b' = subst (λ n. Stored n c f s s') q b

    one : (k : ℕ) → Dec (k < i) → k < i + 1 → keys_of c s' (2 * k + p) ≡ K k
    one k (yes l) m = key_other c (2 * i + p) (2 * k + p) f s s' b' (λ x. omega arith) ∙ a.done k l
    one k (no l) m = last (omega arith)
      where
        last : k ≡ i → keys_of c s' (2 * k + p) ≡ K k
        last x = ap (λ n. keys_of c s' (2 * n + p)) x ∙ key_stored c (2 * i + p) f s s' b' ∙ e ∙ ap K (sym x)

-- the same keys by another name
pub spread_as : (c p n : ℕ) (K L : ℕ → List ℕ) (s s' : List ℕ) → ((e : ℕ) → e < n → K e ≡ L e) → Spread c p n K s s' → Spread c p n L s s'
spread_as c p n K L s s' h a = record { long = a.long; done = λ e l. a.done e l ∙ h e l; kept = a.kept }

-- the place of every second key
pub even_place : (c i : ℕ) → 2 * c * i ≡ c * (2 * i + 0)
even_place c i = ap (λ x. x * i) (mul_comm 2 c) ∙ mul_assoc c 2 i ∙ ap (λ x. c * x) (sym (add-zero (2 * i)))

-- key v of the keys, column by column
pub key_column : (c : ℕ) (s : List ℕ) (v j : ℕ) → j < c → get_or (keys_of c s v) j 0 ≡ get_or s (c * v + j) 0
unfolding keys_of key_at
key_column c s v j l = get_d_tab c (λ j. get_or s (c * v + j) 0) j l
