use mathlib.Core.Path.{refl}
use Rattle.runner.proofs.Room.{no_room, had_room}
use Rattle.runner.proofs.run.Goals as goal

pub returns-then-work-lt65536 : goal.returns-then-work-lt65536
returns-then-work-lt65536 c = no_room c.args.image.now c.args.list.now c.args.out.now c.args.work.now c.if-work-lt65536.true

pub returns : goal.returns
returns c = had_room c.args.image.now c.args.list.now c.args.out.now c.args.work.now _ _ 65536 refl c.if-work-lt65536.false c.in_room.ensures.0 c.in_room.ensures.1
