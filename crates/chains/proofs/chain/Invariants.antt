use mathlib.Core.Path.{◌≡◌}
use lib.ListN.{length}
use Rattle.sealer.specs.Sealing.{block_size, sealed_by}
use Rattle.modes.specs.Chain.{chained}
use Rattle.one_block.specs.Held.{held}
use Rattle.chains.proofs.chain.Given as goal

abbrev pub invariant-loop-i : goal.invariant-loop-i
invariant-loop-i l = (length l.s ≡ length l.initial.s) × (held l.sealer.columns l.s ≡ chained (block_size l.sealer) (sealed_by l.sealer) (held l.sealer.columns l.initial.s) l.text l.i)
