use Prim.Native.Nat.{◌≤◌}
use Rattle.key_laws.specs.Stores.{Lane}
use Rattle.even_keys.proofs.lane.Given as goal

abbrev pub invariant-loop-j : goal.invariant-loop-j
invariant-loop-j l = (l.j ≤ l.c) × Lane l.j l.kc l.k l.h l.w l.u l.g l.initial.a l.a l.initial.s l.s
