use Rattle.plain.proofs.Compared.{Met}
use Rattle.plain.proofs.alike.Given as goal

abbrev pub invariant-loop-i : goal.invariant-loop-i
invariant-loop-i l = Met l.a l.b l.i l.d
