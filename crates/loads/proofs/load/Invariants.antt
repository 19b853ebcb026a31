use mathlib.Core.Path.{◌≡◌}
use Prim.Native.Nat.{◌≤◌}
use lib.ListN.{length, take, drop}
use Rattle.kalyna.specs.State.{columns_of}
use Rattle.loads.proofs.load.Given as goal

abbrev pub invariant-loop-j : goal.invariant-loop-j
invariant-loop-j l = (l.j ≤ l.n) × (length l.k ≡ length l.initial.k) × (take l.j l.k ≡ columns_of l.j l.b) × (drop l.j l.k ≡ drop l.j l.initial.k)
