use mathlib.Core.Path.{refl, sym, ap, ◌∙◌, subst}
use Prim.Native.Nat.{◌^◌, ◌<◌}
use native.Mathlib.Nat.{not-suc-le-zero}
use native.Mathlib.Omega.{arith}
use lib.ListN.{get_or, length-replicate, length-set}
use Rattle.common.specs.Places.{tab}
use Rattle.common.proofs.Places.{fill, get_d_tab}
use Rattle.words.proofs.Laws.{Pieces}
use Rattle.rounds.specs.Rounds.{looked}
use Rattle.rounds.proofs.Laws.{filled, fits_next, column_of}
use Rattle.rounds.proofs.mix.Goals as goal

pub loop-j-init : goal.loop-j-init
unfolding tab
loop-j-init g c = (length-replicate _ _, refl, λ k l. absurd (not-suc-le-zero l))

pub loop-j-preserved : goal.loop-j-preserved
loop-j-preserved g c = let h : Pieces c.args.s.now = λ i. omega (arith, c.type_inv.s i) in
    let e = c.column.ensures ∙ column_of c.args.s.now g.row.C c.args.b h c.args.t.now (λ i. g.D.Direction.places g.row.C i c.loop-j.j) _ _ _ _ c.pieces-p.ensures c.pieces-q.ensures c.pieces-u.ensures c.pieces-v.ensures _ _ _ _ _ _ _ _ c.place.ensures c.place-in-loop-j.ensures c.place-in-loop-j-2.ensures (c.place-in-loop-j-3.ensures.0 ∙ ap (λ i. g.D.Direction.places g.row.C i c.loop-j.j) (omega arith), c.place-in-loop-j-3.ensures.1) c.place-in-loop-j-4.ensures c.place-in-loop-j-5.ensures c.place-in-loop-j-6.ensures c.place-in-loop-j-7.ensures in
    (length-set _ _ _ ∙ c.loop-j.invariant.0, fill _ _ _ _ c.loop-j.invariant.1 (omega arith) e, fits_next _ _ _ c.loop-j.invariant.2 (omega (arith, c.column.type_inv)) e)

pub returns : goal.returns
unfolding looked
returns g c = let e = filled g.row.C _ _ _ c.loop-j.invariant.0 (omega arith) c.loop-j.invariant.1 in
    record {
      says = e;
      fits = λ k h. subst (λ x. x < 2 ^ 64) (sym (ap (λ l. get_or l k 0) e ∙ get_d_tab g.row.C _ k h)) (c.loop-j.invariant.2 k (omega arith));
    }
