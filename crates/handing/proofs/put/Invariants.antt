use Rattle.common.proofs.Runs.{Run}
use lib.ListN.{get_or}
use Rattle.handing.proofs.put.Given as goal

abbrev pub invariant-loop-i : goal.invariant-loop-i
invariant-loop-i l = Run (λ j. get_or l.v j 0) l.at l.initial.out l.i l.out
