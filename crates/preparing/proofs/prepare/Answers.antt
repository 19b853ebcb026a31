use Rattle.modes.specs.Cell.{cell_of}
use Rattle.preparing.proofs.Giving.{short_room, whole_room}
use Rattle.preparing.proofs.prepare.Goals as goal

pub returns-then-work-lt65536 : goal.returns-then-work-lt65536
returns-then-work-lt65536 c = rw c.from.ensures (short_room cell_of c.args.text.now c.args.list.now c.args.out.now c.args.work.now c.if-work-lt65536.true)

pub returns : goal.returns
returns c = whole_room cell_of c.args.text.now c.args.list.now c.args.out.now c.args.work.now _ c.if-work-lt65536.false c.in_room.ensures
