use mathlib.Core.Path.{ap, ◌∙◌}
use native.Mathlib.Omega.{arith}
use Rattle.sealer.specs.Sealing.{block_size, sealed_by}
use Rattle.chains.proofs.Laws.{take_drop_all, given}
use Rattle.sealer.proofs.Sizes.{columns_le}
use Rattle.chains.proofs.blk.Goals as goal

pub take_in-requires : goal.take_in-requires
take_in-requires c = (omega (arith, columns_le c.args.sealer.now), omega (arith, c.requires.0))

pub seal_first-requires : goal.seal_first-requires
seal_first-requires c = omega (arith, columns_le c.args.sealer.now, c.take_in.auto.s)

pub give_out-requires : goal.give_out-requires
give_out-requires c = (omega (arith, columns_le c.args.sealer.now, c.take_in.auto.s, c.seal_first.auto.s), omega (arith, c.requires.1))

pub returns : goal.returns
returns c = given (block_size c.args.sealer.now) _ _ c.args.out.now _ c.give_out.ensures (c.seal_first.ensures ∙ ap (sealed_by c.args.sealer.now) (c.take_in.ensures ∙ take_drop_all (block_size c.args.sealer.now) c.args.text.now c.requires.0))
