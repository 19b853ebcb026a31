-- Two results of mixing keys back are equal.
use mathlib.Core.Path.{◌≡◌, sym, ◌∙◌}
use mathlib.Core.Logic.{◌⊎◌}
use mathlib.Core.List.{List}
use Prim.Native.Nat.{ℕ, ◌<◌}
use native.Mathlib.Decide.{dec_lt}
use native.Mathlib.Omega.{arith}
use lib.ListN.{get_or}
use lib.Seq.{ext_get_or}
use Rattle.open_laws.specs.Opening.{Unmixed}

pub unmixed_unique : (a b : ℕ) (before x y : List ℕ) → Unmixed a b before x → Unmixed a b before y → x ≡ y
unmixed_unique a b before x y p q = ext_get_or 0 x y (p.long ∙ sym q.long) (λ k l. at k (dec_lt k a) (dec_lt k b))
  where
    at : (k : ℕ) → Dec (k < a) → Dec (k < b) → get_or x k 0 ≡ get_or y k 0
    at k (yes l) m = p.outer k (◌⊎◌.inl l) ∙ sym (q.outer k (◌⊎◌.inl l))
    at k (no l) (yes m) = p.inner k (omega arith) m ∙ sym (q.inner k (omega arith) m)
    at k (no l) (no m) = p.outer k (◌⊎◌.inr (omega arith)) ∙ sym (q.outer k (◌⊎◌.inr (omega arith)))
