use mathlib.Core.Path.{refl, subst}
use Prim.Native.Nat.{◌*◌}
use native.Mathlib.Omega.{arith}
use lib.ListN.{length}
use Rattle.words.specs.Words.{block_at}
use Rattle.kalyna.specs.Round.{add_key}
use Rattle.blocks.specs.Blocks.{keys_of}
use Rattle.blocks.proofs.Laws.{room}
use Rattle.key_laws.specs.Stores.{Spread}
use Rattle.key_laws.proofs.Stores.{spread_none, spread_more, even_place}
use Rattle.key_laws.proofs.Lanes.{kept_is}
use Rattle.key_laws.proofs.Loops.{place_room, pair_room, lane_room}
use Rattle.even_keys.proofs.keep_lanes.Goals as goal

pub loop-i-init : goal.loop-i-init
loop-i-init c = spread_none c.args.c 0 (λ e. add_key c.args.c (keys_of c.args.c c.args.a.now e) (block_at c.args.c c.args.s.now e)) c.args.ks.now

pub keep-requires : goal.keep-requires
keep-requires c = (omega (arith, place_room c.args.c c.loop-i.i c.args.n 0 (2 * c.args.c * c.loop-i.i) (length c.args.ks.now) (omega arith) (even_place c.args.c c.loop-i.i) c.loop-i-test.true c.requires.0, c.loop-i.invariant.long), lane_room c.args.c c.loop-i.i c.args.n (c.args.c * c.loop-i.i) (length c.args.a.now) refl c.loop-i-test.true c.requires.1, omega (arith, room c.args.c c.loop-i.i c.args.n (length c.args.s.now) c.loop-i-test.true c.requires.2))

pub overflow_mul-c : goal.overflow_mul-c
overflow_mul-c c = omega (arith, pair_room c.args.c c.loop-i.i c.args.n (2 * c.args.c * c.loop-i.i) (length c.args.ks.now) (even_place c.args.c c.loop-i.i) c.loop-i-test.true c.requires.0, c.well_formed)

pub overflow_mul-c-in-loop-i-2 : goal.overflow_mul-c-in-loop-i-2
overflow_mul-c-in-loop-i-2 c = omega (arith, lane_room c.args.c c.loop-i.i c.args.n (c.args.c * c.loop-i.i) (length c.args.a.now) refl c.loop-i-test.true c.requires.1, c.well_formed)

pub loop-i-preserved : goal.loop-i-preserved
loop-i-preserved c = spread_more c.args.c 0 c.loop-i.i (λ e. add_key c.args.c (keys_of c.args.c c.args.a.now e) (block_at c.args.c c.args.s.now e)) c.args.ks.now c.loop-i.ks c.keep.new.ks _ (2 * c.args.c * c.loop-i.i) c.loop-i.invariant (even_place c.args.c c.loop-i.i) c.keep.ensures (kept_is c.args.c c.loop-i.i (c.args.c * c.loop-i.i) c.args.a.now c.args.s.now refl)

pub returns : goal.returns
returns c = subst (λ m. Spread c.args.c 0 m (λ e. add_key c.args.c (keys_of c.args.c c.args.a.now e) (block_at c.args.c c.args.s.now e)) c.args.ks.now c.loop-i.ks) (omega arith) c.loop-i.invariant
