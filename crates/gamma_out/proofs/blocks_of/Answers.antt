use mathlib.Core.Path.{◌≡◌, ap, ◌∙◌}
use Prim.Native.Nat.{◌+◌, ◌-◌, ◌*◌, ◌/◌}
use native.Mathlib.Omega.{arith}
use Rattle.std.specs.Int.{div_ceil}
use Rattle.blocks.proofs.Widths.{by_width, width_le, width_lt}
use Rattle.modes.specs.Cell.{blocks_in}
use Rattle.gamma_out.proofs.blocks_of.Goals as goal

pub overflow_mul-c : goal.overflow_mul-c
overflow_mul-c c = omega (arith, width_le c.args.c c.requires.0)

pub div_ceil-requires : goal.div_ceil-requires
div_ceil-requires c = width_lt c.args.c c.requires.0

pub returns : goal.returns
unfolding blocks_in
returns c = c.div_ceil.ensures ∙ ap (λ n. div_ceil n (8 * c.args.c)) (omega arith) ∙ by_width (λ d. div_ceil c.args.n (8 * d) ≡ (c.args.n + (8 * d - 1)) / (8 * d)) (omega arith) (omega arith) (omega arith) c.args.c c.requires.0
