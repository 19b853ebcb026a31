use mathlib.Core.Path.{sym}
use native.Mathlib.Omega.{arith}
use Rattle.key_laws.proofs.Turns.{same_turn, other_turn, digit_fits, turn_fits, turn_le}
use Rattle.turns.proofs.turn_of.Goals as goal

pub returns-then-c-kc : goal.returns-then-c-kc
returns-then-c-kc c = (sym (same_turn c.args.c c.args.kc c.args.e c.if-c-kc.true), omega arith)

pub overflow_mul-result : goal.overflow_mul-result
overflow_mul-result c = record { fits = digit_fits (omega arith) c.requires.0 }

pub overflow_add-result : goal.overflow_add-result
overflow_add-result c = record { fits = turn_fits (omega arith) (omega arith) c.requires.0 }

pub returns : goal.returns
returns c = (sym (other_turn c.args.c c.args.kc c.args.e c.if-c-kc.false), turn_le (omega arith) (omega arith) c.requires.0)
