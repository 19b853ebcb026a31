use mathlib.Core.Path.{refl, ◌∙◌}
use native.Mathlib.Omega.{arith}
use lib.ListN.{length-replicate, length-set}
use Rattle.common.specs.Places.{tab}
use Rattle.common.proofs.Places.{fill}
use Rattle.kalyna.specs.Round.{add_key}
use Rattle.rounds.proofs.Laws.{filled}
use Rattle.seal_alone.proofs.Columns.{first_column}
use Rattle.seal_alone.proofs.first.Goals as goal

pub loop-j-init : goal.loop-j-init
unfolding tab
loop-j-init g c = (length-replicate _ _, refl)

pub loop-j-preserved : goal.loop-j-preserved
loop-j-preserved g c = (length-set _ _ _ ∙ c.loop-j.invariant.0, fill _ _ _ _ c.loop-j.invariant.1 (omega arith) (first_column g.row.C c.args.s.now c.args.ks.now c.loop-j.j _ _ c.loop-j-test.true c.added.ensures c.word_at.ensures))

pub returns : goal.returns
unfolding add_key
returns g c = filled g.row.C _ _ _ c.loop-j.invariant.0 (omega arith) c.loop-j.invariant.1
