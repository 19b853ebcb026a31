use Rattle.work_room.proofs.Zeros.{Zeroed}
use Prim.Native.Nat.{◌≤◌}
use Rattle.work_room.proofs.clear.Given as goal

abbrev pub invariant-loop-at : goal.invariant-loop-at
invariant-loop-at l = (l.at ≤ l.n) × Zeroed l.initial.work l.at l.work
