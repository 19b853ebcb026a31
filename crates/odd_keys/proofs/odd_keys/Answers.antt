use mathlib.Core.Path.{subst}
use Prim.Native.Nat.{◌*◌}
use native.Mathlib.Omega.{arith}
use lib.ListN.{length}
use Rattle.kalyna.specs.Keys.{odd_key}
use Rattle.blocks.specs.Blocks.{keys_of}
use Rattle.key_laws.specs.Stores.{Spread}
use Rattle.key_laws.proofs.Stores.{spread_none, even_place}
use Rattle.key_laws.proofs.Lanes.{odd_keys_more}
use Rattle.key_laws.proofs.Loops.{pair_room}
use Rattle.odd_keys.proofs.odd_keys.Goals as goal

pub loop-i-init : goal.loop-i-init
loop-i-init c = spread_none c.args.c 1 (λ e. odd_key c.args.c (keys_of c.args.c c.args.ks.now (2 * e))) c.args.ks.now

pub odd_key-requires : goal.odd_key-requires
odd_key-requires c = (c.requires.0, omega (arith, pair_room c.args.c c.loop-i.i c.args.n (2 * c.args.c * c.loop-i.i) (length c.args.ks.now) (even_place c.args.c c.loop-i.i) c.loop-i-test.true c.requires.1, c.loop-i.invariant.long))

pub overflow_mul-c : goal.overflow_mul-c
overflow_mul-c c = omega (arith, pair_room c.args.c c.loop-i.i c.args.n (2 * c.args.c * c.loop-i.i) (length c.args.ks.now) (even_place c.args.c c.loop-i.i) c.loop-i-test.true c.requires.1, c.well_formed)

pub loop-i-preserved : goal.loop-i-preserved
loop-i-preserved c = odd_keys_more c.args.c c.loop-i.i (2 * c.args.c * c.loop-i.i) c.args.ks.now c.loop-i.ks c.odd_key.new.ks c.requires.0 (even_place c.args.c c.loop-i.i) c.loop-i.invariant (λ j. omega (arith, c.slice_known-1.given j)) c.odd_key.ensures

pub returns : goal.returns
returns c = subst (λ m. Spread c.args.c 1 m (λ e. odd_key c.args.c (keys_of c.args.c c.args.ks.now (2 * e))) c.args.ks.now c.loop-i.ks) (omega arith) c.loop-i.invariant
