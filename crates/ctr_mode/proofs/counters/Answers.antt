use Rattle.std.proofs.Common.{◌+◌, ◌*◌, ◌≤◌, length, sym, subst}
use Rattle.blocks.proofs.Widths.{eight_is}
use Rattle.common.specs.Places.{tab}
use Rattle.stream_laws.specs.Gammas.{counted, Laid}
use Rattle.ctr_mode.proofs.counters.Goals as goal

pub counters_for-requires : goal.counters_for-requires
counters_for-requires c = subst (λ d. (4 * d ≤ length c.args.e.now) × (4 * (d * c.args.n) ≤ length c.args.s.now)) c.if-c-eq2.true (c.requires.0, c.requires.1)

pub returns-then-c-eq2 : goal.returns-then-c-eq2
returns-then-c-eq2 c = subst (λ d. Laid d c.args.n (λ i. tab d (counted c.args.e.now (i + 1))) c.args.s.now c.counters_for.new.s) (sym c.if-c-eq2.true) c.counters_for.ensures

pub counters_for-requires-then-c-eq4 : goal.counters_for-requires-then-c-eq4
counters_for-requires-then-c-eq4 c = subst (λ d. (4 * d ≤ length c.args.e.now) × (4 * (d * c.args.n) ≤ length c.args.s.now)) c.if-c-eq4.true (c.requires.0, c.requires.1)

pub returns-then-c-eq4 : goal.returns-then-c-eq4
returns-then-c-eq4 c = subst (λ d. Laid d c.args.n (λ i. tab d (counted c.args.e.now (i + 1))) c.args.s.now c.counters_for-then-c-eq4.new.s) (sym c.if-c-eq4.true) c.counters_for-then-c-eq4.ensures

pub counters_for-requires-2 : goal.counters_for-requires-2
counters_for-requires-2 c = subst (λ d. (4 * d ≤ length c.args.e.now) × (4 * (d * c.args.n) ≤ length c.args.s.now)) (eight_is c.args.c c.requires.2 c.if-c-eq2.false c.if-c-eq4.false) (c.requires.0, c.requires.1)

pub returns : goal.returns
returns c = subst (λ d. Laid d c.args.n (λ i. tab d (counted c.args.e.now (i + 1))) c.args.s.now c.counters_for-2.new.s) (sym (eight_is c.args.c c.requires.2 c.if-c-eq2.false c.if-c-eq4.false)) c.counters_for-2.ensures
