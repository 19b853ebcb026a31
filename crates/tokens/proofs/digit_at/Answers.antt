use Rattle.tokens.proofs.Laws as laws
use Rattle.tokens.specs.Tokens.{some_below}
use mathlib.Core.Path.{sym, ap, ◌∙◌}
use Rattle.tokens.proofs.digit_at.Goals as goal

pub returns-then-s-p : goal.returns-then-s-p
returns-then-s-p c = sym (laws.digit_past c.args.s.now c.args.p c.if-s-p.true)

pub returns : goal.returns
returns c = c.digit_of.ensures ∙ ap (some_below 16) (laws.digit_in_lem c.args.s.now c.args.p c.if-s-p.false)
