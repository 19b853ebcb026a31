use Prim.Native.Nat.{◌+◌, ◌*◌, ◌≤◌}
use lib.ListN.{get_or}
use Rattle.common.proofs.Runs.{Run}
use Rattle.field.specs.Xor.{xor}
use Rattle.cells.proofs.Laws.{byte}
use Rattle.cells.proofs.xor_out.Given as goal

abbrev pub invariant-loop-j : goal.invariant-loop-j
invariant-loop-j l = (l.j ≤ l.m) × Run (λ n. xor (get_or l.b (l.at + n) 0) (byte l.s l.w n)) l.at l.initial.o (8 * l.j) l.o
