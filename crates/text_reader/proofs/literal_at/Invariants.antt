use Rattle.text_reader.proofs.Literals as literals
use Prim.Native.Nat.{◌+◌, ◌*◌, ◌-◌}
use lib.ListN.{length}
use Rattle.text_reader.proofs.literal_at.Given as goal

abbrev pub invariant-loop-b : goal.invariant-loop-b
invariant-loop-b l = literals.Pairing l.s l.p l.o l.initial.out l.j (l.p + 1 + 2 * l.j) l.out

abbrev pub decreases-loop-b : goal.decreases-loop-b
decreases-loop-b l = length l.s - l.j
