use mathlib.Core.Path.{refl, ap, ◌∙◌}
use native.Mathlib.Omega.{arith}
use lib.ListN.{length}
use Rattle.tags.proofs.Same.{differ, differ_more, differ_none, differ_says}
use Rattle.tags.proofs.same_tag.Goals as goal

pub loop-i-init : goal.loop-i-init
loop-i-init c = (differ_none c.args.tag.now c.args.right.now, omega arith)

pub overflow_add-d : goal.overflow_add-d
overflow_add-d c = omega (arith, c.loop-i.invariant.1, c.requires.1)

pub loop-i-preserved : goal.loop-i-preserved
loop-i-preserved c = (differ_more c.args.tag.now c.args.right.now c.loop-i.i c.loop-i.d _ c.loop-i.invariant.0 (c.from-d.ensures ∙ c.x8.ensures), omega (arith, c.loop-i.invariant.1))

pub returns : goal.returns
returns c = differ_says c.args.tag.now c.args.right.now (length c.args.tag.now) refl c.requires.0 c.loop-i.d (c.loop-i.invariant.0 ∙ ap (differ c.args.tag.now c.args.right.now) (omega arith))
