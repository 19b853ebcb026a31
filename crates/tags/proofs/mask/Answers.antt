use mathlib.Core.Path.{ap, ◌∙◌}
use native.Mathlib.Omega.{arith}
use Rattle.chains.proofs.Laws.{given}
use Rattle.tags.proofs.Laws.{number_held}
use Rattle.sealer.specs.Sealing.{block_size, sealed_by}
use Rattle.sealer.proofs.Sizes.{columns_le}
use Rattle.tags.proofs.mask.Goals as goal

pub seal_first-requires : goal.seal_first-requires
seal_first-requires c = omega (arith, columns_le c.args.sealer.now)

pub give_out-requires : goal.give_out-requires
give_out-requires c = (omega (arith, columns_le c.args.sealer.now, c.seal_first.auto.s), omega (arith, c.requires.1))

pub returns : goal.returns
returns c = given (block_size c.args.sealer.now) _ _ c.args.m.now _ c.give_out.ensures (c.seal_first.ensures ∙ ap (sealed_by c.args.sealer.now) (number_held c.args.sealer.now.columns c.args.x c.args.sealer.now.width c.requires.0))
