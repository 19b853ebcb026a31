use mathlib.Core.Path.{refl}
use native.Mathlib.Omega.{arith}
use lib.ListN.{get_or}
use Rattle.common.proofs.Runs.{run_none, run_more}
use Rattle.handing.proofs.Giving.{put_whole}
use Rattle.handing.proofs.put.Goals as goal

pub loop-i-init : goal.loop-i-init
loop-i-init c = run_none (λ j. get_or c.args.v.now j 0) c.args.at c.args.out.now

pub overflow_add-out : goal.overflow_add-out
overflow_add-out c = omega (arith, c.loop-i.invariant.long)

pub bounds-out-at : goal.bounds-out-at
bounds-out-at c = omega (arith, c.loop-i.invariant.long, c.requires)

pub loop-i-preserved : goal.loop-i-preserved
loop-i-preserved c = run_more (λ j. get_or c.args.v.now j 0) c.args.at c.args.out.now c.loop-i.i c.loop-i.out (get_or c.args.v.now c.loop-i.i 0) c.loop-i.invariant (omega (arith, c.requires)) refl

pub returns : goal.returns
returns c = put_whole c.args.v.now c.args.out.now c.loop-i.out c.args.at c.loop-i.i (omega arith) c.loop-i.invariant
