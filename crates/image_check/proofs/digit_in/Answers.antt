use Rattle.image_check.proofs.Ways.{digit_fits, digit_high, digit_size}
use Rattle.image_check.proofs.digit_in.Goals as goal
use Rattle.image_check.proofs.digit_in.Goals.{else-p-eq1-via-then-p-eq1+else-p-top, else-p-eq1-via-else-p-eq1}

pub returns-then-p-top : goal.returns-then-p-top
returns-then-p-top c = digit_fits c.args.top c.args.p.now c.if-p-eq1.true c.if-p-top.true

pub returns : goal.returns
returns c =
    elim c.else-p-eq1.branch [
      | else-p-eq1-via-then-p-eq1+else-p-top w ↦ digit_high c.args.top c.args.p.now w.if-p-eq1.true w.if-p-top.false
      | else-p-eq1-via-else-p-eq1 w ↦ digit_size c.args.top c.args.p.now w.if-p-eq1.false
    ]
