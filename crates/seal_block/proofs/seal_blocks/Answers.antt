use native.Mathlib.Omega.{arith}
use lib.ListN.{length}
use Rattle.blocks.proofs.Widths.{eight_is}
use Rattle.seal_block.proofs.Laws.{seal_at, room_at}
use Rattle.seal_block.proofs.seal_blocks.Goals as goal

pub seal-requires : goal.seal-requires
seal-requires c = let r = room_at c.args.c 2 c.args.n c.args.t (length c.args.s.now) (length c.args.ks.now) c.if-c-eq2.true c.requires.3 c.requires.4 in (c.requires.0, omega arith, c.requires.2, r.0, r.1)

pub returns-then-c-eq2 : goal.returns-then-c-eq2
returns-then-c-eq2 c = seal_at c.args.c 2 c.args.n c.args.t c.args.ks.now c.args.s.now c.seal.new.s c.if-c-eq2.true c.seal.ensures

pub seal-requires-then-c-eq4 : goal.seal-requires-then-c-eq4
seal-requires-then-c-eq4 c = let r = room_at c.args.c 4 c.args.n c.args.t (length c.args.s.now) (length c.args.ks.now) c.if-c-eq4.true c.requires.3 c.requires.4 in (c.requires.0, omega arith, c.requires.2, r.0, r.1)

pub returns-then-c-eq4 : goal.returns-then-c-eq4
returns-then-c-eq4 c = seal_at c.args.c 4 c.args.n c.args.t c.args.ks.now c.args.s.now c.seal-then-c-eq4.new.s c.if-c-eq4.true c.seal-then-c-eq4.ensures

pub seal-requires-2 : goal.seal-requires-2
seal-requires-2 c = let r = room_at c.args.c 8 c.args.n c.args.t (length c.args.s.now) (length c.args.ks.now) (eight_is c.args.c c.requires.1 c.if-c-eq2.false c.if-c-eq4.false) c.requires.3 c.requires.4 in (c.requires.0, omega arith, c.requires.2, r.0, r.1)

pub returns : goal.returns
returns c = seal_at c.args.c 8 c.args.n c.args.t c.args.ks.now c.args.s.now c.seal-2.new.s (eight_is c.args.c c.requires.1 c.if-c-eq2.false c.if-c-eq4.false) c.seal-2.ensures
