use native.Mathlib.Omega.{arith}
use mathlib.Core.Path.{sym, ◌∙◌}
use Rattle.runner.proofs.Sounding.{is_sound, refuses_28, refuses_27}
use Rattle.runner.proofs.ran.Goals as goal

pub meant-requires : goal.meant-requires
meant-requires c = (is_sound c.args.image.now c.args.list.now c.check.result c.check.ensures c.in-Some.need c.in-Some.is (λ i. omega (arith, c.type_inv.image i)) (sym c.good.ensures ∙ c.if-good.true), c.requires)

pub returns-in_default : goal.returns-in_default
returns-in_default c = refuses_28 c.args.image.now c.args.list.now c.check.result c.check.ensures c.args.out.now c.in_default.is

pub returns : goal.returns
returns c = refuses_27 c.args.image.now c.args.list.now c.check.result c.check.ensures c.in-Some.need c.in-Some.is c.args.out.now (sym c.good.ensures ∙ c.if-good.false)
