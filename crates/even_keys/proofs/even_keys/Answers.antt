use native.Mathlib.Omega.{arith}
use Rattle.words.specs.Words.{block_at}
use Rattle.key_laws.proofs.Loops.{lanes_fit}
use Rattle.key_laws.proofs.Rounds.{even_is}
use Rattle.blocks.proofs.Widths.{width_le}
use Rattle.even_keys.proofs.even_keys.Goals as goal

pub lanes-requires : goal.lanes-requires
lanes-requires c = (c.requires.1, c.requires.2, c.requires.3, c.requires.4, lanes_fit c.args.c c.args.n (width_le c.args.c c.requires.1.width) c.requires.3, omega (arith, lanes_fit c.args.c c.args.n (width_le c.args.c c.requires.1.width) c.requires.3))

pub round-requires : goal.round-requires
round-requires c = (c.requires.0, c.requires.1.width, omega (arith, lanes_fit c.args.c c.args.n (width_le c.args.c c.requires.1.width) c.requires.3, c.lanes.auto.s), omega (arith, (width_le c.args.c c.requires.1.width)))

pub xor_lanes-requires : goal.xor_lanes-requires
xor_lanes-requires c = (omega (arith, lanes_fit c.args.c c.args.n (width_le c.args.c c.requires.1.width) c.requires.3, c.lanes.auto.a), omega (arith, lanes_fit c.args.c c.args.n (width_le c.args.c c.requires.1.width) c.requires.3, c.lanes.auto.s, c.round.ensures.long))

pub round-requires-2 : goal.round-requires-2
round-requires-2 c = (c.requires.0, c.requires.1.width, omega (arith, lanes_fit c.args.c c.args.n (width_le c.args.c c.requires.1.width) c.requires.3, c.lanes.auto.s, c.round.ensures.long, c.xor_lanes.ensures.long), omega (arith, (width_le c.args.c c.requires.1.width)))

pub keep_lanes-requires : goal.keep_lanes-requires
keep_lanes-requires c = (c.requires.5, omega (arith, lanes_fit c.args.c c.args.n (width_le c.args.c c.requires.1.width) c.requires.3, c.lanes.auto.a), omega (arith, lanes_fit c.args.c c.args.n (width_le c.args.c c.requires.1.width) c.requires.3, c.lanes.auto.s, c.round.ensures.long, c.xor_lanes.ensures.long, c.round-2.ensures.long))

pub returns : goal.returns
returns c = even_is c.args.c c.args.kc c.args.n c.args.k.now (block_at c.args.c c.args.h.now 0) c.lanes.new.a c.lanes.new.s c.round.new.s c.xor_lanes.new.s c.round-2.new.s c.args.ks.now c.keep_lanes.new.ks (width_le c.args.c c.requires.1.width) c.lanes.ensures c.round.ensures c.xor_lanes.ensures c.round-2.ensures c.keep_lanes.ensures
