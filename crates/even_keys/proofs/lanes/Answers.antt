use mathlib.Core.Path.{refl, subst, ◌∙◌}
use Prim.Native.Nat.{◌*◌}
use native.Mathlib.Omega.{arith}
use lib.ListN.{length}
use Rattle.words.specs.Words.{block_at}
use Rattle.blocks.proofs.Laws.{room}
use Rattle.blocks.proofs.Widths.{width_le, width_pos}
use Rattle.key_laws.specs.Stores.{Lanes}
use Rattle.key_laws.proofs.Turns.{key_width}
use Rattle.key_laws.proofs.Lanes.{doubled, lanes_none, lanes_more}
use Rattle.key_laws.proofs.Loops.{lane_room, lane_long}
use Rattle.even_keys.proofs.lanes.Goals as goal

pub loop-i-init : goal.loop-i-init
loop-i-init c = (refl, refl, refl, lanes_none c.args.c c.args.kc c.args.k.now (block_at c.args.c c.args.h.now 0) c.args.a.now c.args.s.now)

pub turn_of-requires : goal.turn_of-requires
turn_of-requires c = (width_le c.args.c c.requires.0.width, omega arith)

pub lane-requires : goal.lane-requires
lane-requires c = (key_width c.args.c c.args.kc c.requires.0, c.requires.1, width_le c.args.c c.requires.0.width, c.turn_of.ensures.1, c.requires.3, omega (arith, lane_room c.args.c c.loop-i.i c.args.n (c.args.c * c.loop-i.i) (length c.args.a.now) refl c.loop-i-test.true c.requires.4, c.loop-i.invariant.2), omega (arith, room c.args.c c.loop-i.i c.args.n (length c.args.s.now) c.loop-i-test.true c.requires.5, c.loop-i.invariant.1))

pub overflow_mul-c : goal.overflow_mul-c
overflow_mul-c c = omega (arith, lane_room c.args.c c.loop-i.i c.args.n (c.args.c * c.loop-i.i) (length c.args.a.now) refl c.loop-i-test.true c.requires.4, c.well_formed)

pub loop-i-preserved : goal.loop-i-preserved
loop-i-preserved c = (c.added-g.ensures ∙ doubled c.loop-i.g c.loop-i.i c.loop-i.invariant.0, lane_long c.args.c c.args.kc c.args.k.now c.args.h.now (c.args.c * c.loop-i.i) c.turn_of.result c.loop-i.g c.loop-i.a c.lane.new.a c.loop-i.s c.lane.new.s c.lane.ensures ∙ c.loop-i.invariant.1, c.lane.ensures.addends.long ∙ c.loop-i.invariant.2, lanes_more c.args.c c.args.kc c.loop-i.i c.args.k.now c.args.h.now c.loop-i.a c.lane.new.a c.loop-i.s c.lane.new.s (c.args.c * c.loop-i.i) c.turn_of.result c.loop-i.g c.loop-i.invariant.3 refl c.turn_of.ensures.0 c.loop-i.invariant.0 c.requires.0.halves (width_pos c.args.c c.requires.0.width) (omega (arith, room c.args.c c.loop-i.i c.args.n (length c.args.s.now) c.loop-i-test.true c.requires.5, c.loop-i.invariant.1)) c.lane.ensures.addends c.lane.ensures.inputs)

pub returns : goal.returns
returns c = subst (λ m. Lanes c.args.c c.args.kc m c.args.k.now (block_at c.args.c c.args.h.now 0) c.loop-i.a c.loop-i.s) (omega arith) c.loop-i.invariant.3
