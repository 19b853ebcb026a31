use mathlib.Core.Path.{refl, ap, ◌∙◌}
use native.Mathlib.Omega.{arith}
use lib.ListN.{get_or, length-replicate, length-set}
use Rattle.common.specs.Places.{tab}
use Rattle.common.proofs.Places.{fill, get_d_tab}
use Rattle.words.proofs.Laws.{Pieces}
use Rattle.rounds.specs.Rounds.{open_places}
use Rattle.rounds.proofs.Laws.{filled, rows_of}
use Rattle.open_last.proofs.Laws.{rows_are}
use Rattle.open_last.proofs.last.Goals as goal

pub loop-j-init : goal.loop-j-init
unfolding tab
loop-j-init g c = (length-replicate _ _, refl)

pub loop-j-preserved : goal.loop-j-preserved
loop-j-preserved g c = let h : Pieces c.args.s.now = λ i. omega (arith, c.type_inv.s i) in
    (length-set _ _ _ ∙ c.loop-j.invariant.0, fill _ _ _ _ c.loop-j.invariant.1 (omega arith) (c.column_of.ensures ∙ rows_are c.args.u.now c.args.s.now g.row.C c.args.b c.loop-j.j _ c.loop-j-test.true (rows_of c.args.s.now g.row.C c.args.b h (λ i. open_places g.row.C i c.loop-j.j) _ _ _ _ c.pieces-p.ensures c.pieces-q.ensures c.pieces-v.ensures c.pieces-w.ensures _ _ _ _ _ _ _ _ c.place.ensures c.place-in-loop-j.ensures c.place-in-loop-j-2.ensures c.place-in-loop-j-3.ensures c.place-in-loop-j-4.ensures c.place-in-loop-j-5.ensures (c.place-in-loop-j-6.ensures.0 ∙ ap (λ i. open_places g.row.C i c.loop-j.j) (omega arith), c.place-in-loop-j-6.ensures.1) c.place-in-loop-j-7.ensures)))

pub returns : goal.returns
returns g c = record { says = λ j h. ap (λ l. get_or l j 0) (filled g.row.C _ _ _ c.loop-j.invariant.0 (omega arith) c.loop-j.invariant.1) ∙ get_d_tab g.row.C _ j h }
