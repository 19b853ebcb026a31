use Rattle.tokens.proofs.Laws as laws
use lib.ListN.{length}
use Prim.Native.Nat.{◌-◌}
use Rattle.tokens.proofs.letters_at.Given as goal

abbrev pub invariant-loop-b : goal.invariant-loop-b
invariant-loop-b l = laws.Lettering l.s l.p l.w l.k

abbrev pub decreases-loop-b : goal.decreases-loop-b
decreases-loop-b l = length l.s - l.p - l.k
