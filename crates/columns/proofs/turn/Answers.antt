use mathlib.Core.Path.{refl}
use native.Mathlib.Omega.{arith}
use Rattle.lookup.specs.Table.{turned}
use Rattle.columns.proofs.Lookup.{turn_fits}
use Rattle.columns.proofs.turn.Goals as goal

pub overflow_add-result : goal.overflow_add-result
unfolding turned
overflow_add-result c = record { fits = turn_fits c.args.w (omega arith) }

pub returns : goal.returns
unfolding turned
returns c = refl
