use lib.ListN.{get_or-eq_default}
use native.Mathlib.Omega.{arith}
use Rattle.unbound.proofs.digit_at.Goals as goal

pub returns-then-s-p : goal.returns-then-s-p
returns-then-s-p c = let e = get_or-eq_default c.args.s.now 0 {n = c.args.p} c.if-s-p.true in omega arith
