use Rattle.common.proofs.Runs.{Run}
use lib.ListN.{get_or}
use Rattle.field.specs.Xor.{xor}
use Rattle.plain.proofs.put_xor.Given as goal

abbrev pub invariant-loop-i : goal.invariant-loop-i
invariant-loop-i l = Run (λ j. xor (get_or l.a j 0) (get_or l.b j 0)) 0 l.initial.out l.i l.out
