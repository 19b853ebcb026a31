use mathlib.Core.Path.{◌≡◌}
use Prim.Native.Nat.{◌*◌}
use lib.ListN.{length}
use Rattle.words.specs.Words.{block_at}
use Rattle.stream_laws.specs.Gammas.{Written, added}
use Rattle.kalyna.specs.State.{columns_of}
use Rattle.modes.specs.Stream.{rear, cfb_gamma}
use Rattle.stream_laws.specs.Gammas.{cfb_fed}
use Rattle.sealer.specs.Sealing.{block_size, sealed_by}
use Rattle.cfb_mode.proofs.cfb_whole.Given as goal

abbrev pub invariant-loop-i : goal.invariant-loop-i
invariant-loop-i l = (length l.e ≡ length l.initial.e) × (block_at l.sealer.columns l.e 0 ≡ columns_of l.sealer.columns (cfb_fed (block_size l.sealer) (sealed_by l.sealer) l.iv l.text l.i)) × Written (added (block_size l.sealer) (cfb_gamma (block_size l.sealer) (sealed_by l.sealer) l.iv l.text) (rear (block_size l.sealer) (length l.text)) l.text) (l.i * block_size l.sealer) l.initial.out l.out
