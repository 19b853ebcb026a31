use mathlib.Core.Path.{refl}
use native.Mathlib.Omega.{arith}
use Prim.Native.Nat.{◌+◌}
use Rattle.heads.proofs.word_at.Goals as goal

pub overflow_mul-result : goal.overflow_mul-result
overflow_mul-result c = omega (arith, c.type_inv.s (c.args.i + 1))

pub overflow_add-result-2 : goal.overflow_add-result-2
overflow_add-result-2 c = omega (arith, c.type_inv.s c.args.i, c.type_inv.s (c.args.i + 1))

pub returns : goal.returns
returns c = (refl, omega (arith, c.type_inv.s c.args.i, c.type_inv.s (c.args.i + 1)))
