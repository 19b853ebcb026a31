use native.Mathlib.Omega.{arith}
use Rattle.blocks.proofs.Widths.{width_pos}
use Rattle.key_laws.proofs.Turns.{mask, mask_lt}
use Rattle.turns.proofs.around.Goals as goal

pub overflow_sub-result : goal.overflow_sub-result
overflow_sub-result c = omega (arith, width_pos c.args.c c.requires)

pub returns : goal.returns
returns c = (mask c.args.c c.args.n c.requires, mask_lt c.args.c c.args.n c.requires)
