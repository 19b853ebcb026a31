use Rattle.std.proofs.Common.{length, arith}
use Rattle.blocks.proofs.Widths.{eight_is}
use Rattle.open_laws.proofs.Cells.{room_at, round_at}
use Rattle.open_block.proofs.walk.Goals as goal

pub walk-requires : goal.walk-requires
walk-requires c = let r = room_at 2 c.args.c c.args.n c.args.at (length c.args.s.now) (length c.args.ks.now) c.if-c-eq2.true c.requires.2 c.requires.3 in (omega arith, r.0, r.1)

pub returns-then-c-eq2 : goal.returns-then-c-eq2
returns-then-c-eq2 c = round_at 2 c.args.c c.args.n c.args.at c.args.t.now c.args.ks.now c.args.s.now c.walk.new.s c.if-c-eq2.true c.requires.0 c.walk.ensures

pub walk-requires-then-c-eq4 : goal.walk-requires-then-c-eq4
walk-requires-then-c-eq4 c = let r = room_at 4 c.args.c c.args.n c.args.at (length c.args.s.now) (length c.args.ks.now) c.if-c-eq4.true c.requires.2 c.requires.3 in (omega arith, r.0, r.1)

pub returns-then-c-eq4 : goal.returns-then-c-eq4
returns-then-c-eq4 c = round_at 4 c.args.c c.args.n c.args.at c.args.t.now c.args.ks.now c.args.s.now c.walk-then-c-eq4.new.s c.if-c-eq4.true c.requires.0 c.walk-then-c-eq4.ensures

pub walk-requires-else-c-eq4 : goal.walk-requires-else-c-eq4
walk-requires-else-c-eq4 c = let r = room_at 8 c.args.c c.args.n c.args.at (length c.args.s.now) (length c.args.ks.now) (eight_is c.args.c c.requires.1 c.if-c-eq2.false c.if-c-eq4.false) c.requires.2 c.requires.3 in (omega arith, r.0, r.1)

pub returns-else-c-eq4 : goal.returns-else-c-eq4
returns-else-c-eq4 c = round_at 8 c.args.c c.args.n c.args.at c.args.t.now c.args.ks.now c.args.s.now c.walk-else-c-eq4.new.s (eight_is c.args.c c.requires.1 c.if-c-eq2.false c.if-c-eq4.false) c.requires.0 c.walk-else-c-eq4.ensures
