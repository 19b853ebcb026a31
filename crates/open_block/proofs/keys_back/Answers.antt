use Rattle.std.proofs.Common.{subst, arith}
use Rattle.open_laws.specs.Opening.{Unmixed}
use Rattle.open_laws.proofs.Cells.{unmixed_none, unmixed_more, first_key}
use Rattle.open_block.proofs.keys_back.Goals as goal

pub overflow_mul-end : goal.overflow_mul-end
overflow_mul-end c = omega (arith, c.well_formed)

pub loop-k-init : goal.loop-k-init
loop-k-init c = (omega arith, first_key c.args.c c.args.r c.requires.2, unmixed_none c.args.c c.args.ks.now)

pub bounds-ks-k : goal.bounds-ks-k
bounds-ks-k c = omega (arith, c.loop-k.invariant.2.long)

pub bounds-ks-k-in-loop-k : goal.bounds-ks-k-in-loop-k
bounds-ks-k-in-loop-k c = omega (arith, c.loop-k.invariant.2.long)

pub loop-k-preserved : goal.loop-k-preserved
loop-k-preserved c = (omega arith, omega arith, unmixed_more c.args.c c.loop-k.k c.args.t.now c.args.p.now c.args.ks.now c.loop-k.ks c.swap.result c.requires.0 c.requires.1 c.loop-k.invariant.0 (omega arith) c.loop-k.invariant.2 c.swap.ensures)

pub returns : goal.returns
returns c = subst (λ e. Unmixed c.args.c e c.args.ks.now c.loop-k.ks) (omega arith) c.loop-k.invariant.2
