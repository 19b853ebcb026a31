use Rattle.std.proofs.Common.{◌+◌, refl, subst, arith}
use Rattle.common.specs.Places.{tab}
use Rattle.stream_laws.specs.Gammas.{counted, Laid}
use Rattle.stream_laws.proofs.Cells as cells
use Rattle.stream_laws.proofs.Counting as counting
use Rattle.stream_laws.proofs.Widths.{next_block}
use Rattle.ctr_mode.proofs.counters_for.Goals as goal

pub loop-i-init : goal.loop-i-init
loop-i-init c = cells.laid_none c.args.c (λ i. tab c.args.c (counted c.args.e.now (i + 1))) c.args.s.now

pub count-requires : goal.count-requires
count-requires c = (c.requires.0, omega (arith, c.loop-i.invariant.long, c.requires.1, next_block c.args.c c.loop-i.i c.args.n (omega arith)))

pub overflow_mul-c : goal.overflow_mul-c
overflow_mul-c c = omega (arith, c.requires.1, c.well_formed, next_block c.args.c c.loop-i.i c.args.n (omega arith))

pub loop-i-preserved : goal.loop-i-preserved
loop-i-preserved c = cells.laid_more c.args.c c.loop-i.i (λ i. tab c.args.c (counted c.args.e.now (i + 1))) (counted c.args.e.now (c.loop-i.i + 1)) c.args.s.now c.loop-i.s c.count.new.s c.loop-i.invariant (omega (arith, c.requires.1, next_block c.args.c c.loop-i.i c.args.n (omega arith))) c.count.ensures (λ k l. counting.counted_lt c.args.e.now (c.loop-i.i + 1) k) refl

pub returns : goal.returns
returns c = subst (λ n. Laid c.args.c n (λ i. tab c.args.c (counted c.args.e.now (i + 1))) c.args.s.now c.loop-i.s) (omega arith) c.loop-i.invariant
