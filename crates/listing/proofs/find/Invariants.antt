use Rattle.listing.proofs.Finding.{Sought}
use Prim.Native.Nat.{◌-◌}
use lib.ListN.{length}
use Rattle.listing.proofs.find.Given as goal

abbrev pub invariant-loop-e : goal.invariant-loop-e
invariant-loop-e l = Sought l.s l.k l.at

abbrev pub decreases-loop-e : goal.decreases-loop-e
decreases-loop-e l = length l.s - l.at
