use Prim.Native.Nat.{◌-◌}
use lib.ListN.{length}
use Rattle.text_reader.proofs.+arguments_expression.Given as goal

abbrev pub decreases-arguments : goal.decreases-arguments
decreases-arguments l = length l.s.now - l.p

abbrev pub decreases-expression : goal.decreases-expression
decreases-expression l = length l.s.now - l.p
