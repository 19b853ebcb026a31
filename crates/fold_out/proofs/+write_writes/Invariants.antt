use Prim.Native.Nat.{◌+◌, ◌*◌}
use lib.ListN.{length}
use Rattle.fold_out.proofs.+write_writes.Given as goal

abbrev pub decreases-write : goal.decreases-write
decreases-write l = 8 * length l.s.now

abbrev pub decreases-writes : goal.decreases-writes
decreases-writes l = 8 * length l.s.now + 1 + l.left
