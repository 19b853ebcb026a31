-- The cipher calls of a recipe make values of the values that they are given, by the side that each takes.
use mathlib.Core.Path.{◌≡◌}
use mathlib.Core.List.{List, [], ◌∷◌}
use Prim.Native.Nat.{ℕ, zero, suc, ◌<◌}
use native.Mathlib.Omega.{arith}
use lib.ListN.{get_or}
use Rattle.common.specs.Answer.{Value}
use Rattle.common.specs.Answer.Answer.{value}
use Rattle.tree.specs.Bounds.{Bytes}
use Rattle.tree.specs.Values.{IsValue}
use Rattle.meaning.specs.Values.{AllValues, Valued}
use Rattle.modes.specs.Cell.{Call, Side, cell, arranged}
use Rattle.modes.proofs.Values.{cell_good}

empty_bytes : Bytes []
empty_bytes i = go i
  where
    go : (i : ℕ) → get_or {A = ℕ} [] i 0 < 256
    go zero = omega arith
    go (suc i) = omega arith

-- argument i is a list of bytes; a missing one is empty
at_bytes : (args : List Value) → AllValues args → (i : ℕ) → Bytes (get_or args i [])
unfolding AllValues
at_bytes [] h zero = empty_bytes
at_bytes [] h (suc i) = empty_bytes
at_bytes (a ∷ args) h zero = h.0.bytes
at_bytes (a ∷ args) h (suc i) = at_bytes args h.1 i

good : (f : Call) (n : ℕ) (key side text v : Value) → Bytes side → Bytes text → cell f n key side text ≡ value v → IsValue v
good f n key side text v bs bt e = let g = cell_good f n key side text v bs bt e in record { short = g.small; bytes = g.bytes }

pub arranged_valued : (s : Side) (f : Call) (n : ℕ) (args : List Value) → AllValues args → Valued (arranged s f n args)
unfolding arranged
arranged_valued Side.none f n args h v e = good f n (get_or args 0 []) [] (get_or args 1 []) v empty_bytes (at_bytes args h 1) e
arranged_valued Side.iv f n args h v e = good f n (get_or args 0 []) (get_or args 1 []) (get_or args 2 []) v (at_bytes args h 1) (at_bytes args h 2) e
arranged_valued Side.tag f n args h v e = good f n (get_or args 0 []) (get_or args 1 []) (get_or args 2 []) v (at_bytes args h 1) (at_bytes args h 2) e
