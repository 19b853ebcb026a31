use native.Mathlib.Omega.{arith}
use Rattle.heads.proofs.Heads.{too_few, runs_over, whole}
use Rattle.heads.proofs.head_at.Goals as goal

pub returns-then-s-at : goal.returns-then-s-at
returns-then-s-at c = too_few c.args.s.now c.args.at (omega arith)

pub returns-then-s-at-2 : goal.returns-then-s-at-2
returns-then-s-at-2 c = runs_over c.args.s.now c.args.at c.word_at-length.result (omega arith) c.word_at-length.ensures.0 c.if-s-at-2.true

pub returns : goal.returns
returns c = whole c.args.s.now c.args.at c.word_at-length.result c.word_at.result (omega arith) c.word_at-length.ensures.0 c.word_at.ensures.0 c.if-s-at-2.false
