use mathlib.Core.Path.{refl, ◌∙◌}
use native.Mathlib.Omega.{arith}
use lib.ListN.{length-replicate, length-set}
use Rattle.common.specs.Places.{tab}
use Rattle.common.proofs.Places.{fill}
use Rattle.rounds.proofs.Laws.{filled}
use Rattle.rounds.proofs.pieces.Goals as goal

pub loop-k-init : goal.loop-k-init
unfolding tab
loop-k-init g c = (length-replicate _ _, refl)

pub loop-k-preserved : goal.loop-k-preserved
loop-k-preserved g c = (length-set _ _ _ ∙ c.loop-k.invariant.0, fill _ _ _ _ c.loop-k.invariant.1 (omega arith) refl)

pub returns : goal.returns
returns g c = filled g.row.C _ _ _ c.loop-k.invariant.0 (omega arith) c.loop-k.invariant.1
