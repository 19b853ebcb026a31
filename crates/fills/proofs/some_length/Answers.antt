use mathlib.Core.Path.{sym, ap}
use Rattle.fills.specs.Ended.{some_length}
use Rattle.fills.proofs.Ends.{has_length}
use Rattle.fills.proofs.some_length.Goals as goal

pub returns-then-m-eq0 : goal.returns-then-m-eq0
unfolding some_length
returns-then-m-eq0 c = ap some_length (sym c.if-m-eq0.true)

pub returns : goal.returns
returns c = has_length c.args.m c.if-m-eq0.false
