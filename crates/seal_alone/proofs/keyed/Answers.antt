use mathlib.Core.Path.{refl, sym, ap, ◌∙◌}
use Prim.Native.Nat.{◌+◌, ◌%◌, ◌^◌}
use native.Mathlib.Omega.{arith}
use lib.ListN.{get_or, length-replicate, length-set}
use Rattle.common.specs.Places.{tab}
use Rattle.common.proofs.Places.{fill}
use Rattle.common.proofs.Choices.{pick_true, pick_false}
use Rattle.field.specs.Xor.{xor}
use Rattle.kalyna.specs.Round.{add_key, xor_key}
use Rattle.rounds.proofs.Laws.{filled}
use Rattle.seal_alone.proofs.Columns.{key_column}
use Rattle.seal_alone.proofs.keyed.Goals as goal

pub loop-j-init : goal.loop-j-init
unfolding tab
loop-j-init g c = (length-replicate _ _, refl)

pub loop-j-preserved : goal.loop-j-preserved
loop-j-preserved g c = (length-set _ _ _ ∙ c.loop-j.invariant.0, fill _ _ _ _ c.loop-j.invariant.1 (omega arith) (c.x64.ensures ∙ ap (xor (get_or c.args.y c.loop-j.j 0)) (key_column g.row.C c.args.ks.now c.args.at c.loop-j.j c.loop-j-test.true)))

pub returns-then-more : goal.returns-then-more
unfolding xor_key
returns-then-more g c = filled g.row.C _ _ _ c.loop-j.invariant.0 (omega arith) c.loop-j.invariant.1 ∙ sym (pick_true _ _ _ c.if-more.true)

pub loop-j-2-init : goal.loop-j-2-init
unfolding tab
loop-j-2-init g c = (length-replicate _ _, refl)

pub loop-j-2-preserved : goal.loop-j-2-preserved
loop-j-2-preserved g c = (length-set _ _ _ ∙ c.loop-j-2.invariant.0, fill _ _ _ _ c.loop-j-2.invariant.1 (omega arith) (c.added.ensures ∙ ap (λ k. (get_or c.args.y c.loop-j-2.j 0 + k) % 2 ^ 64) (key_column g.row.C c.args.ks.now c.args.at c.loop-j-2.j c.loop-j-2-test.true)))

pub returns : goal.returns
unfolding add_key
returns g c = filled g.row.C _ _ _ c.loop-j-2.invariant.0 (omega arith) c.loop-j-2.invariant.1 ∙ sym (pick_false _ _ _ c.if-more.false)
