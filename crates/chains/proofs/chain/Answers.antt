use mathlib.Core.Path.{refl, ap, ◌∙◌}
use native.Mathlib.Omega.{arith}
use lib.ListN.{length}
use Rattle.sealer.specs.Sealing.{block_size, sealed_by}
use Rattle.modes.specs.Chain.{chained}
use Rattle.one_block.specs.Held.{held}
use Rattle.chains.proofs.Laws.{block_room, chained_none, chained_more}
use Rattle.sealer.proofs.Sizes.{columns_le}
use Rattle.chains.proofs.chain.Goals as goal

pub loop-i-init : goal.loop-i-init
loop-i-init c = (refl, chained_none (block_size c.args.sealer.now) (sealed_by c.args.sealer.now) (held c.args.sealer.now.columns c.args.s.now) c.args.text.now)

pub link-requires : goal.link-requires
link-requires c = (omega (arith, c.loop-i.invariant.0, c.requires.0), omega (arith, block_room (block_size c.args.sealer.now) c.loop-i.i c.args.n (length c.args.text.now) (omega arith) c.requires.1))

pub overflow_mul-sealer : goal.overflow_mul-sealer
overflow_mul-sealer c = omega (arith, columns_le c.args.sealer.now)

pub overflow_mul-i : goal.overflow_mul-i
overflow_mul-i c = omega (arith, c.well_formed, block_room (block_size c.args.sealer.now) c.loop-i.i c.args.n (length c.args.text.now) (omega arith) c.requires.1)

pub loop-i-preserved : goal.loop-i-preserved
loop-i-preserved c = (c.link.auto.s ∙ c.loop-i.invariant.0, chained_more (block_size c.args.sealer.now) (sealed_by c.args.sealer.now) (held c.args.sealer.now.columns c.args.s.now) c.args.text.now c.loop-i.i _ _ _ refl c.loop-i.invariant.1 c.link.ensures)

pub returns : goal.returns
returns c = c.loop-i.invariant.1 ∙ ap (chained (block_size c.args.sealer.now) (sealed_by c.args.sealer.now) (held c.args.sealer.now.columns c.args.s.now) c.args.text.now) (omega arith)
