use Rattle.std.proofs.Common.{◌*◌, length, refl}
use Rattle.blocks.proofs.Laws.{room}
use Rattle.open_last.proofs.Laws.{last_more}
use Rattle.open_last.proofs.lasts.Goals as goal

pub loop-i-preserved : goal.loop-i-preserved
loop-i-preserved g c = last_more g.row.C c.loop-i.i c.args.u.now c.args.ks.now c.args.at c.args.s.now c.loop-i.s c.less_block.new.s (g.row.C * c.loop-i.i) c.last-x.result c.requires.0 refl c.last-x.ensures c.loop-i.invariant (room g.row.C c.loop-i.i c.args.n (length c.args.s.now) c.loop-i-test.true c.requires.2) c.less_block.ensures
