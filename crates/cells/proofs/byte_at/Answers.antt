use Prim.Native.Nat.{◌/◌}
use native.Mathlib.Omega.{arith}
use Rattle.cells.proofs.Laws.{even_byte, odd_byte}
use Rattle.cells.proofs.byte_at.Goals as goal

pub overflow_cast-result : goal.overflow_cast-result
overflow_cast-result c = omega arith

pub returns-then-k-eq0 : goal.returns-then-k-eq0
returns-then-k-eq0 c = even_byte c.args.s.now c.args.k (λ i. omega (arith, c.type_inv.s i)) c.if-k-eq0.true

pub overflow_cast-result-2 : goal.overflow_cast-result-2
overflow_cast-result-2 c = omega (arith, c.type_inv.s (c.args.k / 2))

pub returns : goal.returns
returns c = odd_byte c.args.s.now c.args.k (λ i. omega (arith, c.type_inv.s i)) c.if-k-eq0.false
