use Rattle.unbound.proofs.Laws as laws
use Rattle.unbound.specs.Scan.{has_in}
use mathlib.Core.Path.{sym, ◌∙◌}
use Rattle.unbound.proofs.first_unbound.Goals as goal

pub loop-p-init : goal.loop-p-init
loop-p-init c = laws.passed_none (has_in c.args.bound) c.args.text.now

pub returns-then-open_at : goal.returns-then-open_at
returns-then-open_at c = laws.found_here (has_in c.args.bound) c.args.text.now c.loop-p.p c.loop-p.invariant c.loop-p-test.true (sym c.open_at.ensures ∙ c.if-open_at.true)

pub loop-p-preserved : goal.loop-p-preserved
loop-p-preserved c = laws.passed_more (has_in c.args.bound) c.args.text.now c.loop-p.p c.loop-p.invariant c.loop-p-test.true (sym c.open_at.ensures ∙ c.if-open_at.false)

pub returns : goal.returns
returns c = laws.found_none (has_in c.args.bound) c.args.text.now c.loop-p.p c.loop-p.invariant c.loop-p-test.false
