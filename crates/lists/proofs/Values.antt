-- What a good list gives are values (document 01, section 5).
use mathlib.Core.Path.{◌≡◌, subst}
use mathlib.Core.Bool.{Bool, true, false}
use mathlib.Core.List.{List, [], ◌∷◌}
use Prim.Native.Nat.{ℕ, suc}
use native.Mathlib.Omega.{arith}
use lib.Dec.{eqb}
use Rattle.common.specs.Choice.{pick}
use Rattle.common.specs.Answer.{Value}
use Rattle.tree.specs.Bounds.{Bytes}
use Rattle.tree.specs.Names.{Given}
use Rattle.tree.specs.Names.Given.{given, nothing}
use Rattle.tree.specs.Values.{IsValue, BindingValued, RunningValued}
use Rattle.tree.proofs.Bytes.{bytes_left, bytes_right}
use Rattle.records.specs.Record.{record_of}
use Rattle.lists.specs.Entries.{Entry, list_of}
use Rattle.lists.specs.Entries.Listed.{listed}
use Rattle.lists.specs.Given.{value_of, binding_of, running_of}
use Rattle.lists.specs.Good.{spell_list, GoodList}
use Rattle.lists.proofs.Exactly.{list_exactly}

no_given : {v : Value} → nothing ≡ given v → ⊥
no_given e = let z : ◌≡◌ {A = ℕ} 0 1 = cc in omega arith

held_bytes : (k : ℕ) (v : Value) → Bytes (record_of k v) → Bytes v
unfolding record_of
held_bytes k v h i = h (suc (suc (suc (suc i))))

pick_given : (b : Bool) (w : Value) (g : Given) (v : Value) → IsValue w → (g ≡ given v → IsValue v) → pick b (given w) g ≡ given v → IsValue v
unfolding pick
pick_given true w g v h f e = let q : w ≡ v = cc in subst IsValue q h
pick_given false w g v h f e = f e

module _ (taken : ℕ → Bool) where
  values_in : (es : List Entry) → GoodList taken es → Bytes (spell_list es) → (k : ℕ) (v : Value) → value_of es k ≡ given v → IsValue v
  unfolding value_of GoodList spell_list
  values_in [] g h k v e = absurd (no_given e)
  values_in (x ∷ es) g h k v e =
      pick_given (eqb x.kind k) x.held (value_of es k) v
      (record { short = g.1; bytes = held_bytes x.kind x.held (bytes_left (record_of x.kind x.held) (spell_list es) h) })
      (values_in es g.3 (bytes_right (record_of x.kind x.held) (spell_list es) h) k v) e

  -- each value that a good list gives is a value
  pub list_values : (s : List ℕ) (es : List Entry) → Bytes s → list_of taken s ≡ listed es → (k : ℕ) (v : Value) → value_of es k ≡ given v → IsValue v
  list_values s es hs e =
      let R = (list_exactly taken s es hs).0 e in
      values_in es R.1 (subst (λ (l : List ℕ). Bytes l) R.0 hs)

  pub binding_valued : (s : List ℕ) (es : List Entry) → Bytes s → list_of taken s ≡ listed es → BindingValued (binding_of es)
  unfolding binding_of
  binding_valued s es hs e n v q = list_values s es hs e _ v q

  pub running_valued : (s : List ℕ) (es : List Entry) → Bytes s → list_of taken s ≡ listed es → RunningValued (running_of es)
  unfolding running_of
  running_valued s es hs e = record { rows_valued = λ n v q. list_values s es hs e _ v q; runs_valued = λ n v q. list_values s es hs e _ v q }
