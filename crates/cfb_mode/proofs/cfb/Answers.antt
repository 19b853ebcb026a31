use mathlib.Core.Path.{refl}
use Prim.Native.Nat.{◌*◌, ◌/◌}
use native.Mathlib.Omega.{arith}
use lib.ListN.{length}
use Rattle.stream_laws.proofs.Widths as widths
use Rattle.stream_laws.proofs.Ends as ends
use Rattle.sealer.specs.Sealing.{block_size, round_keys}
use Rattle.sealer.proofs.Sizes.{columns_pos, columns_le}
use Rattle.cfb_mode.proofs.cfb.Goals as goal

pub overflow_mul-at : goal.overflow_mul-at
overflow_mul-at c = omega (arith, widths.whole_le (length c.args.text.now) (block_size c.args.sealer.now), c.requires.1)

pub cfb_whole-requires : goal.cfb_whole-requires
cfb_whole-requires c = (c.requires.0, omega (arith, columns_pos c.args.sealer.now, columns_le c.args.sealer.now), widths.whole_le (length c.args.text.now) (block_size c.args.sealer.now), c.requires.2)

pub returns-then-at-long : goal.returns-then-at-long
returns-then-at-long c = ends.cfb_whole_is c.args.sealer.now.columns c.args.sealer.now.rounds (round_keys c.args.sealer.now) c.args.iv.now c.args.text.now ((length c.args.text.now) / (block_size c.args.sealer.now) * (block_size c.args.sealer.now)) c.args.out.now c.cfb_whole.new.out c.if-at-long.true c.cfb_whole.ensures.1

pub overflow_sub-r : goal.overflow_sub-r
overflow_sub-r c = omega (arith, widths.whole_le (length c.args.text.now) (block_size c.args.sealer.now))

pub seal-requires : goal.seal-requires
seal-requires c = omega (arith, columns_pos c.args.sealer.now, columns_le c.args.sealer.now, c.cfb_whole.auto.e)

pub overflow_sub-b : goal.overflow_sub-b
overflow_sub-b c = omega (arith, widths.rest_lt (length c.args.text.now) (block_size c.args.sealer.now) (omega (arith, columns_pos c.args.sealer.now, columns_le c.args.sealer.now)))

pub xor_rest-requires : goal.xor_rest-requires
xor_rest-requires c = (omega (arith, columns_pos c.args.sealer.now, columns_le c.args.sealer.now, c.seal.auto.s, c.cfb_whole.auto.e, widths.rest_lt (length c.args.text.now) (block_size c.args.sealer.now) (omega (arith, columns_pos c.args.sealer.now, columns_le c.args.sealer.now))), omega (arith, c.seal.auto.s, c.cfb_whole.auto.e), omega (arith, widths.whole_le (length c.args.text.now) (block_size c.args.sealer.now)), omega (arith, widths.whole_le (length c.args.text.now) (block_size c.args.sealer.now), c.requires.2, c.cfb_whole.ensures.1.long))

pub returns : goal.returns
returns c = ends.cfb_is c.args.sealer.now.columns c.args.sealer.now.rounds (round_keys c.args.sealer.now) c.args.iv.now c.args.text.now ((length c.args.text.now) / (block_size c.args.sealer.now)) c.cfb_whole.new.e c.seal.new.s c.args.out.now c.cfb_whole.new.out c.xor_rest.new.o c.args.sealer.now.width refl c.requires.2 c.cfb_whole.ensures.0 c.seal.ensures c.cfb_whole.ensures.1 c.xor_rest.ensures
