use native.Mathlib.Omega.{arith}
use Rattle.tags.proofs.Laws.{mask_whole, mask_filled}
use Rattle.tags.proofs.mask_number.Goals as goal

pub returns-then-n-b-eq0 : goal.returns-then-n-b-eq0
returns-then-n-b-eq0 c = (mask_whole _ c.if-n-b-eq0.true, omega arith)

pub returns : goal.returns
returns c = (mask_filled _ c.if-n-b-eq0.false, omega arith)
