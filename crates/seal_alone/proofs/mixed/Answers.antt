use mathlib.Core.Path.{refl, ap, ◌∙◌}
use native.Mathlib.Omega.{arith}
use lib.ListN.{length-replicate, length-set}
use Rattle.common.specs.Places.{tab}
use Rattle.common.proofs.Places.{fill}
use Rattle.rounds.specs.Rounds.{looked, seal_places}
use Rattle.rounds.proofs.Laws.{filled}
use Rattle.seal_alone.proofs.Columns.{column_of}
use Rattle.seal_alone.proofs.mixed.Goals as goal

pub loop-j-init : goal.loop-j-init
unfolding tab
loop-j-init g c = (length-replicate _ _, refl)

pub loop-j-preserved : goal.loop-j-preserved
loop-j-preserved g c = (length-set _ _ _ ∙ c.loop-j.invariant.0, fill _ _ _ _ c.loop-j.invariant.1 (omega arith) (c.column_alone.ensures ∙ column_of c.args.t.now c.args.x (λ i. seal_places g.row.C i c.loop-j.j) _ _ _ _ _ _ _ _ c.place.result c.place-in-loop-j.result c.place-in-loop-j-2.result c.place-in-loop-j-3.result c.place-in-loop-j-4.result c.place-in-loop-j-5.result c.place-in-loop-j-6.result c.place-in-loop-j-7.result c.piece.ensures c.piece-in-loop-j.ensures c.piece-in-loop-j-2.ensures c.piece-in-loop-j-3.ensures c.piece-in-loop-j-4.ensures c.piece-in-loop-j-5.ensures c.piece-in-loop-j-6.ensures c.piece-in-loop-j-7.ensures c.place.ensures.0 c.place-in-loop-j.ensures.0 c.place-in-loop-j-2.ensures.0 c.place-in-loop-j-3.ensures.0 (c.place-in-loop-j-4.ensures.0 ∙ ap (λ j. seal_places g.row.C 4 j) (omega arith)) c.place-in-loop-j-5.ensures.0 c.place-in-loop-j-6.ensures.0 c.place-in-loop-j-7.ensures.0))

pub returns : goal.returns
unfolding looked
returns g c = filled g.row.C _ _ _ c.loop-j.invariant.0 (omega arith) c.loop-j.invariant.1
