use mathlib.Core.Path.{◌∙◌}
use Prim.Native.Nat.{◌/◌}
use native.Mathlib.Omega.{arith}
use lib.ListN.{length}
use Rattle.sealer.specs.Sealing.{block_size, sealed_by}
use Rattle.chains.proofs.Laws.{take_drop_all, cbc_is, whole_blocks, some_blocks}
use Rattle.sealer.proofs.Sizes.{columns_le}
use Rattle.chains.proofs.cbc.Goals as goal

pub take_in-requires : goal.take_in-requires
take_in-requires c = (omega (arith, columns_le c.args.sealer.now), omega (arith, c.requires.0))

pub overflow_mul-sealer : goal.overflow_mul-sealer
overflow_mul-sealer c = omega (arith, columns_le c.args.sealer.now)

pub chain_out-requires : goal.chain_out-requires
chain_out-requires c = (omega (arith, columns_le c.args.sealer.now, c.take_in.auto.s), some_blocks (block_size c.args.sealer.now) (length c.args.text.now), omega (arith, some_blocks (block_size c.args.sealer.now) (length c.args.text.now), c.requires.2))

pub returns : goal.returns
returns c = cbc_is (block_size c.args.sealer.now) (sealed_by c.args.sealer.now) c.args.iv.now c.args.text.now c.args.out.now _ _ (length c.args.text.now / (block_size c.args.sealer.now)) (c.take_in.ensures ∙ take_drop_all (block_size c.args.sealer.now) c.args.iv.now c.requires.0) (whole_blocks (block_size c.args.sealer.now) (length c.args.text.now) c.requires.1) c.chain_out.ensures.1
