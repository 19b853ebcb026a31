use mathlib.Core.Path.{◌≡◌}
use Prim.Native.Nat.{◌*◌}
use lib.ListN.{length}
use Rattle.words.specs.Words.{block_at}
use Rattle.stream_laws.specs.Gammas.{Written, added}
use Rattle.kalyna.specs.State.{columns_of}
use Rattle.modes.specs.Stream.{front, ofb_gamma}
use Rattle.stream_laws.specs.Gammas.{ofb_fed}
use Rattle.sealer.specs.Sealing.{block_size, sealed_by}
use Rattle.ofb_mode.proofs.ofb_whole.Given as goal

abbrev pub invariant-loop-i : goal.invariant-loop-i
invariant-loop-i l = (length l.gamma ≡ length l.initial.gamma) × (block_at l.sealer.columns l.gamma 0 ≡ columns_of l.sealer.columns (ofb_fed (sealed_by l.sealer) l.iv l.i)) × Written (added (block_size l.sealer) (ofb_gamma (sealed_by l.sealer) l.iv) (front (block_size l.sealer)) l.text) (l.i * block_size l.sealer) l.initial.out l.out
