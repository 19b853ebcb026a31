use Rattle.unbound.proofs.Laws as laws
use Rattle.unbound.specs.Scan.{has_in}
use Rattle.unbound.proofs.first_unbound.Given as goal

abbrev pub invariant-loop-p : goal.invariant-loop-p
invariant-loop-p l = laws.Passed (has_in l.bound) l.text l.p
