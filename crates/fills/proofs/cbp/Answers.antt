use mathlib.Core.Path.{refl, ap, ◌∙◌}
use Prim.Native.Nat.{◌/◌}
use native.Mathlib.Omega.{arith}
use lib.ListN.{length}
use Rattle.one_block.proofs.Laws.{length_held}
use Rattle.chains.proofs.Laws.{take_drop_all, some_blocks}
use Rattle.fills.proofs.Laws.{filled_room, cbp_is}
use Rattle.sealer.specs.Sealing.{block_size, sealed_by}
use Rattle.sealer.proofs.Sizes.{columns_le, size_pos}
use Rattle.fills.proofs.cbp.Goals as goal

pub nonzero_div-q : goal.nonzero_div-q
nonzero_div-q c = omega (arith, size_pos c.args.sealer.now)

pub take_in-requires : goal.take_in-requires
take_in-requires c = (omega (arith, columns_le c.args.sealer.now), omega (arith, c.requires.0))

pub chain_out-requires : goal.chain_out-requires
chain_out-requires c = (omega (arith, columns_le c.args.sealer.now, c.take_in.auto.s), some_blocks (block_size c.args.sealer.now) (length c.args.text.now), omega (arith, filled_room (block_size c.args.sealer.now) (length c.args.text.now / (block_size c.args.sealer.now)) (length c.args.out.now) c.requires.1))

pub overflow_mul-q-2 : goal.overflow_mul-q-2
overflow_mul-q-2 c = omega (arith, c.well_formed, some_blocks (block_size c.args.sealer.now) (length c.args.text.now))

pub add_filled-requires : goal.add_filled-requires
add_filled-requires c = (c.args.sealer.now.width, omega (arith, columns_le c.args.sealer.now, c.take_in.auto.s, c.chain_out.auto.s), refl)

pub seal_first-requires : goal.seal_first-requires
seal_first-requires c = omega (arith, columns_le c.args.sealer.now, c.take_in.auto.s, c.chain_out.auto.s, c.add_filled.auto.s)

pub overflow_mul-q-3 : goal.overflow_mul-q-3
overflow_mul-q-3 c = omega (arith, c.well_formed, some_blocks (block_size c.args.sealer.now) (length c.args.text.now))

pub give_out-requires : goal.give_out-requires
give_out-requires c = (omega (arith, columns_le c.args.sealer.now, c.take_in.auto.s, c.chain_out.auto.s, c.add_filled.auto.s, c.seal_first.auto.s), omega (arith, c.chain_out.auto.out, filled_room (block_size c.args.sealer.now) (length c.args.text.now / (block_size c.args.sealer.now)) (length c.args.out.now) c.requires.1))

pub returns : goal.returns
returns c = cbp_is (block_size c.args.sealer.now) c.args.text.now (size_pos c.args.sealer.now) (sealed_by c.args.sealer.now) c.args.iv.now c.args.out.now _ _ _ _ _ (c.take_in.ensures ∙ take_drop_all (block_size c.args.sealer.now) c.args.iv.now c.requires.0) c.chain_out.ensures.0 c.chain_out.ensures.1 (c.seal_first.ensures ∙ ap (sealed_by c.args.sealer.now) c.add_filled.ensures) (length_held c.args.sealer.now.columns _) c.give_out.ensures
