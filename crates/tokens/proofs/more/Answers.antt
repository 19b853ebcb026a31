use Rattle.std.proofs.Common.{◌+◌, ◌*◌, ap, ◌∙◌}
use Rattle.tokens.proofs.Laws as laws
use Rattle.tokens.proofs.more.Goals as goal

pub returns-then-w-lt1099511627776 : goal.returns-then-w-lt1099511627776
returns-then-w-lt1099511627776 c = ap (λ x. c.args.w * 256 + x) c.from.ensures ∙ laws.more_fits c.args.w c.args.b c.if-w-lt1099511627776.true

pub returns : goal.returns
returns c = laws.more_full c.args.w c.args.b c.if-w-lt1099511627776.false
