use Prim.Native.Nat.{◌*◌, ◌≤◌}
use Rattle.common.proofs.Runs.{Run}
use Rattle.cells.proofs.Laws.{byte}
use Rattle.cells.proofs.store.Given as goal

abbrev pub invariant-loop-j : goal.invariant-loop-j
invariant-loop-j l = (l.j ≤ l.m) × Run (byte l.s l.w) l.at l.initial.o (8 * l.j) l.o
