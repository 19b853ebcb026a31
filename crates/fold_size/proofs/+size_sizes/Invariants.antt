use Prim.Native.Nat.{◌+◌, ◌*◌}
use lib.ListN.{length}
use Rattle.fold_size.proofs.+size_sizes.Given as goal

abbrev pub decreases-size : goal.decreases-size
decreases-size l = 8 * length l.s.now

abbrev pub decreases-sizes : goal.decreases-sizes
decreases-sizes l = 8 * length l.s.now + 1 + l.left
