use Rattle.std.proofs.Common.{◌-◌, length, arith}
use Rattle.blocks.specs.Blocks.{keys_of}
use Rattle.open_laws.specs.Opening.{open_rounds}
use Rattle.open_laws.proofs.Cells.{key_room, nears_all, nears_less, nears_none}
use Rattle.open_block.proofs.walks.Goals as goal

pub loop-v-init : goal.loop-v-init
loop-v-init c = (omega arith, nears_all c.args.c c.args.n (open_rounds c.args.c (keys_of c.args.c c.args.ks.now) (c.args.r - 1)) c.args.s.now)

pub walk-requires : goal.walk-requires
walk-requires c = (c.requires.0, c.requires.1, omega (arith, c.loop-v.invariant.1.long), key_room c.args.c (c.loop-v.v - 1) c.args.r (length c.args.ks.now) (omega arith) c.requires.4)

pub loop-v-preserved : goal.loop-v-preserved
unfolding keys_of
loop-v-preserved c = (omega arith, nears_less c.args.c c.args.n (keys_of c.args.c c.args.ks.now) (c.loop-v.v - 1) (open_rounds c.args.c (keys_of c.args.c c.args.ks.now) (c.args.r - 1)) c.args.s.now c.loop-v.s c.walk.new.s (omega arith) c.loop-v.invariant.1 c.walk.ensures)

pub returns : goal.returns
returns c = nears_none c.args.c c.args.n (keys_of c.args.c c.args.ks.now) (c.loop-v.v - 1) (open_rounds c.args.c (keys_of c.args.c c.args.ks.now) (c.args.r - 1)) c.args.s.now c.loop-v.s (omega arith) c.loop-v.invariant.1
