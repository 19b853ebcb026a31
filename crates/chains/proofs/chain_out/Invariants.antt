use mathlib.Core.Path.{◌≡◌}
use mathlib.Core.List.{◌++◌}
use Prim.Native.Nat.{◌*◌}
use lib.ListN.{drop, length}
use Rattle.sealer.specs.Sealing.{block_size, sealed_by}
use Rattle.modes.specs.Chain.{chained}
use Rattle.one_block.specs.Held.{held}
use Rattle.chains.specs.Links.{links}
use Rattle.chains.proofs.chain_out.Given as goal

abbrev pub invariant-loop-i : goal.invariant-loop-i
invariant-loop-i l = (length l.s ≡ length l.initial.s) × (held l.sealer.columns l.s ≡ chained (block_size l.sealer) (sealed_by l.sealer) (held l.sealer.columns l.initial.s) l.text l.i) × (length l.out ≡ length l.initial.out) × (l.out ≡ links (block_size l.sealer) (sealed_by l.sealer) (held l.sealer.columns l.initial.s) l.text l.i ++ drop (l.i * block_size l.sealer) l.initial.out)
