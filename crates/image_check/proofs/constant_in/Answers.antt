use Rattle.image_check.proofs.Ways.{constant_fits, constant_fails}
use Rattle.image_check.proofs.constant_in.Goals as goal

pub returns-then-p-gt1024 : goal.returns-then-p-gt1024
returns-then-p-gt1024 c = constant_fails c.args.p.now c.if-p-gt1024.true

pub returns : goal.returns
returns c = constant_fits c.args.p.now c.if-p-gt1024.false
