use mathlib.Core.Path.{◌≡◌}
use Prim.Native.Nat.{◌-◌}
use lib.ListN.{take}
use Rattle.modes.specs.Fill.{unfill, unfill_from}
use Rattle.fills.proofs.text_end.Given as goal

abbrev pub invariant-loop-k : goal.invariant-loop-k
invariant-loop-k l = unfill l.b (take l.n l.p) ≡ unfill_from (l.n - l.b) l.k (take l.n l.p)
