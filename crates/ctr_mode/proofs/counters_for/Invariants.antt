use Rattle.std.proofs.Common.{◌+◌}
use Rattle.common.specs.Places.{tab}
use Rattle.stream_laws.specs.Gammas.{counted, Laid}
use Rattle.ctr_mode.proofs.counters_for.Given as goal

abbrev pub invariant-loop-i : goal.invariant-loop-i
invariant-loop-i l = Laid l.c l.i (λ i. tab l.c (counted l.e (i + 1))) l.initial.s l.s
