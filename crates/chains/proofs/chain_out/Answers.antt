use mathlib.Core.Path.{refl, ap, ◌∙◌}
use mathlib.Core.List.{◌++◌}
use Prim.Native.Nat.{◌*◌}
use native.Mathlib.Omega.{arith}
use lib.ListN.{drop, length}
use Rattle.sealer.specs.Sealing.{block_size, sealed_by}
use Rattle.modes.specs.Chain.{chained}
use Rattle.one_block.specs.Held.{held}
use Rattle.one_block.proofs.Laws.{length_held}
use Rattle.chains.specs.Links.{links}
use Rattle.chains.proofs.Laws.{block_room, chained_none, chained_more, links_none, links_stored}
use Rattle.sealer.proofs.Sizes.{columns_le}
use Rattle.chains.proofs.chain_out.Goals as goal

pub loop-i-init : goal.loop-i-init
loop-i-init c = (refl, chained_none (block_size c.args.sealer.now) (sealed_by c.args.sealer.now) (held c.args.sealer.now.columns c.args.s.now) c.args.text.now, refl, links_none (block_size c.args.sealer.now) (sealed_by c.args.sealer.now) (held c.args.sealer.now.columns c.args.s.now) c.args.text.now c.args.out.now)

pub link-requires : goal.link-requires
link-requires c = (omega (arith, c.loop-i.invariant.0, c.requires.0), omega (arith, block_room (block_size c.args.sealer.now) c.loop-i.i c.args.n (length c.args.text.now) (omega arith) c.requires.1))

pub give_out-requires : goal.give_out-requires
give_out-requires c = (omega (arith, c.loop-i.invariant.0, c.requires.0, c.link.auto.s), omega (arith, c.loop-i.invariant.2, block_room (block_size c.args.sealer.now) c.loop-i.i c.args.n (length c.args.out.now) (omega arith) c.requires.2))

pub overflow_mul-at : goal.overflow_mul-at
overflow_mul-at c = omega (arith, columns_le c.args.sealer.now)

pub overflow_mul-at-in-loop-i : goal.overflow_mul-at-in-loop-i
overflow_mul-at-in-loop-i c = omega (arith, c.well_formed, block_room (block_size c.args.sealer.now) c.loop-i.i c.args.n (length c.args.text.now) (omega arith) c.requires.1)

pub loop-i-preserved : goal.loop-i-preserved
loop-i-preserved c = (c.link.auto.s ∙ c.loop-i.invariant.0, chained_more (block_size c.args.sealer.now) (sealed_by c.args.sealer.now) (held c.args.sealer.now.columns c.args.s.now) c.args.text.now c.loop-i.i _ _ _ refl c.loop-i.invariant.1 c.link.ensures, c.give_out.auto.o ∙ c.loop-i.invariant.2, links_stored (block_size c.args.sealer.now) (sealed_by c.args.sealer.now) (held c.args.sealer.now.columns c.args.s.now) c.args.text.now c.loop-i.i _ c.args.out.now c.loop-i.out _ _ refl (length_held c.args.sealer.now.columns _) (chained_more (block_size c.args.sealer.now) (sealed_by c.args.sealer.now) (held c.args.sealer.now.columns c.args.s.now) c.args.text.now c.loop-i.i _ _ _ refl c.loop-i.invariant.1 c.link.ensures) c.loop-i.invariant.3 c.give_out.ensures)

pub returns : goal.returns
returns c = (c.loop-i.invariant.1 ∙ ap (chained (block_size c.args.sealer.now) (sealed_by c.args.sealer.now) (held c.args.sealer.now.columns c.args.s.now) c.args.text.now) (omega arith), c.loop-i.invariant.3 ∙ ap (λ m. links (block_size c.args.sealer.now) (sealed_by c.args.sealer.now) (held c.args.sealer.now.columns c.args.s.now) c.args.text.now m ++ drop (m * block_size c.args.sealer.now) c.args.out.now) (omega arith))
