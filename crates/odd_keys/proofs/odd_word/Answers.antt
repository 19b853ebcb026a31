use native.Mathlib.Omega.{arith}
use Rattle.key_laws.proofs.Turns.{odd_two, odd_more, part_fits}
use Rattle.odd_keys.proofs.odd_word.Goals as goal

pub overflow_add-result : goal.overflow_add-result
overflow_add-result c = record { fits = part_fits _ _ c.args.x c.args.y (omega arith) (omega arith) }

pub returns-then-c-eq2 : goal.returns-then-c-eq2
returns-then-c-eq2 c = odd_two c.args.c c.args.x c.args.y c.if-c-eq2.true

pub overflow_add-result-2 : goal.overflow_add-result-2
overflow_add-result-2 c = record { fits = part_fits _ _ c.args.x c.args.y (omega arith) (omega arith) }

pub returns : goal.returns
returns c = odd_more c.args.c c.args.x c.args.y c.if-c-eq2.false
