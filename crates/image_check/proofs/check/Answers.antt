use Rattle.std.proofs.Common.{ap, ◌∙◌}
use Rattle.image_check.specs.Check.{counted, needed}
use Rattle.image_check.proofs.Ways.{over_long, image_good, image_many, no_record, image_trails}
use Rattle.image_check.proofs.check.Goals as goal
use Rattle.image_check.proofs.check.Goals.{else-a-s-via-then-a-s+else-a-le128, else-a-s-via-else-a-s}

pub returns-then-s-gt16384 : goal.returns-then-s-gt16384
returns-then-s-gt16384 c = over_long c.args.inner c.args.s.now c.if-s-gt16384.true

pub returns-in_err-a : goal.returns-in_err-a
returns-in_err-a c = ap needed c.from_residual.ensures ∙ no_record c.args.inner c.args.s.now c.if-s-gt16384.false _ c.record_in.ensures (ap counted c.in_err-a.was)

pub returns-then-a-le128 : goal.returns-then-a-le128
returns-then-a-le128 c = image_good c.args.inner c.args.s.now c.if-s-gt16384.false _ c.record_in.ensures _ _ _ (ap counted c.in_ok-a.was) c.if-a-s.true c.if-a-le128.true

pub returns : goal.returns
returns c =
    elim c.else-a-s.branch [
      | else-a-s-via-then-a-s+else-a-le128 w ↦ image_many c.args.inner c.args.s.now c.if-s-gt16384.false _ c.record_in.ensures _ _ _ (ap counted c.in_ok-a.was) w.if-a-s.true w.if-a-le128.false
      | else-a-s-via-else-a-s w ↦ image_trails c.args.inner c.args.s.now c.if-s-gt16384.false _ c.record_in.ensures _ _ _ (ap counted c.in_ok-a.was) w.if-a-s.false
    ]
