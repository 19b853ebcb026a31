use native.Mathlib.Omega.{arith}
use Rattle.evaluating.proofs.Meant.{side_first, side_second, side_other, side_none}
use Rattle.evaluating.proofs.side.Goals as goal

pub returns-then-n-ne1 : goal.returns-then-n-ne1
returns-then-n-ne1 c = side_none c.args.work.now c.args.o c.args.n c.requires c.if-n-ne1.true

pub returns-in-1 : goal.returns-in-1
returns-in-1 c = side_first c.args.work.now c.args.o c.args.n c.requires c.if-n-ne1.false c.in-1.is

pub returns-in-0 : goal.returns-in-0
returns-in-0 c = side_second c.args.work.now c.args.o c.args.n c.requires c.if-n-ne1.false (λ q. omega (arith, q, c.in-0.is)) c.in-0.is

pub returns-in_default : goal.returns-in_default
returns-in_default c = side_other c.args.work.now c.args.o c.args.n c.requires c.if-n-ne1.false (λ q. omega arith) (λ q. omega arith)
