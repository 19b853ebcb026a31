use mathlib.Core.Path.{refl}
use Prim.Native.Nat.{◌*◌, ◌/◌}
use native.Mathlib.Omega.{arith}
use lib.ListN.{length}
use Rattle.stream_laws.proofs.Widths as widths
use Rattle.stream_laws.proofs.Ends as ends
use Rattle.sealer.specs.Sealing.{block_size, round_keys}
use Rattle.sealer.proofs.Sizes.{columns_pos, columns_le}
use Rattle.ofb_mode.proofs.ofb.Goals as goal

pub overflow_mul-at : goal.overflow_mul-at
overflow_mul-at c = omega (arith, widths.whole_le (length c.args.text.now) (block_size c.args.sealer.now), c.requires.1)

pub ofb_whole-requires : goal.ofb_whole-requires
ofb_whole-requires c = (c.requires.0, omega (arith, columns_pos c.args.sealer.now, columns_le c.args.sealer.now), widths.whole_le (length c.args.text.now) (block_size c.args.sealer.now), c.requires.2)

pub returns-then-at-long : goal.returns-then-at-long
returns-then-at-long c = ends.ofb_whole_is c.args.sealer.now.columns c.args.sealer.now.rounds (round_keys c.args.sealer.now) c.args.iv.now c.args.text.now ((length c.args.text.now) / (block_size c.args.sealer.now) * (block_size c.args.sealer.now)) c.args.out.now c.ofb_whole.new.out c.if-at-long.true c.ofb_whole.ensures.1

pub seal-requires : goal.seal-requires
seal-requires c = omega (arith, columns_pos c.args.sealer.now, columns_le c.args.sealer.now, c.ofb_whole.auto.gamma)

pub overflow_sub-long : goal.overflow_sub-long
overflow_sub-long c = omega (arith, widths.whole_le (length c.args.text.now) (block_size c.args.sealer.now))

pub add_front-requires : goal.add_front-requires
add_front-requires c = (omega (arith, columns_pos c.args.sealer.now, columns_le c.args.sealer.now, c.seal.auto.s, c.ofb_whole.auto.gamma, widths.rest_lt (length c.args.text.now) (block_size c.args.sealer.now) (omega (arith, columns_pos c.args.sealer.now, columns_le c.args.sealer.now))), omega (arith, c.seal.auto.s, c.ofb_whole.auto.gamma), omega (arith, widths.whole_le (length c.args.text.now) (block_size c.args.sealer.now)), omega (arith, widths.whole_le (length c.args.text.now) (block_size c.args.sealer.now), c.requires.2, c.ofb_whole.ensures.1.long))

pub returns : goal.returns
returns c = ends.ofb_is c.args.sealer.now.columns c.args.sealer.now.rounds (round_keys c.args.sealer.now) c.args.iv.now c.args.text.now ((length c.args.text.now) / (block_size c.args.sealer.now)) c.ofb_whole.new.gamma c.seal.new.s c.args.out.now c.ofb_whole.new.out c.add_front.new.out c.args.sealer.now.width refl c.requires.2 c.ofb_whole.ensures.0 c.seal.ensures c.ofb_whole.ensures.1 c.add_front.ensures
