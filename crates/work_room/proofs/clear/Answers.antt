use native.Mathlib.Omega.{arith}
use Rattle.work_room.proofs.Zeros.{zero_none, zero_more}
use Rattle.work_room.proofs.clear.Goals as goal

pub loop-at-init : goal.loop-at-init
loop-at-init c = (omega arith, zero_none c.args.work.now)

pub loop-at-preserved : goal.loop-at-preserved
loop-at-preserved c = (omega arith, zero_more c.end_of-e.result _ _ c.loop-at.invariant.1 (omega arith) (omega arith) (omega (arith, c.loop-at.auto.work)) c.clean.ensures)

pub returns-2 : goal.returns-2
returns-2 c = (zero_more c.end_of-e.result c.args.n _ c.loop-at.invariant.1 (omega arith) (omega arith) (omega (arith, c.loop-at.auto.work)) c.clean.ensures).is
