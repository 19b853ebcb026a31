use mathlib.Core.Path.{sym, ap, subst, ◌∙◌}
use Rattle.blocks.proofs.Widths.{eight_is}
use Rattle.kalyna.specs.State.{columns_of}
use Rattle.key_laws.specs.Turns.{Sized}
use Rattle.key_laws.specs.Schedule.{schedule_of}
use Rattle.keys.proofs.schedule.Goals as goal

pub schedule_for-requires : goal.schedule_for-requires
schedule_for-requires c = (c.requires.0, subst (λ d. Sized d c.args.kc) c.if-c-eq2.true c.requires.1, c.requires.2, c.requires.3, c.requires.4)

pub returns-then-c-eq2 : goal.returns-then-c-eq2
returns-then-c-eq2 c = c.schedule_for.ensures ∙ ap (λ d. schedule_of d c.args.kc c.args.r (columns_of c.args.kc c.args.key.now)) (sym c.if-c-eq2.true)

pub schedule_for-requires-then-c-eq4 : goal.schedule_for-requires-then-c-eq4
schedule_for-requires-then-c-eq4 c = (c.requires.0, subst (λ d. Sized d c.args.kc) c.if-c-eq4.true c.requires.1, c.requires.2, c.requires.3, c.requires.4)

pub returns-then-c-eq4 : goal.returns-then-c-eq4
returns-then-c-eq4 c = c.schedule_for-then-c-eq4.ensures ∙ ap (λ d. schedule_of d c.args.kc c.args.r (columns_of c.args.kc c.args.key.now)) (sym c.if-c-eq4.true)

pub schedule_for-requires-2 : goal.schedule_for-requires-2
schedule_for-requires-2 c = (c.requires.0, subst (λ d. Sized d c.args.kc) (eight_is c.args.c c.requires.1.width c.if-c-eq2.false c.if-c-eq4.false) c.requires.1, c.requires.2, c.requires.3, c.requires.4)

pub returns : goal.returns
returns c = c.schedule_for-2.ensures ∙ ap (λ d. schedule_of d c.args.kc c.args.r (columns_of c.args.kc c.args.key.now)) (sym (eight_is c.args.c c.requires.1.width c.if-c-eq2.false c.if-c-eq4.false))
