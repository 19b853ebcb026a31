use Rattle.common.proofs.Runs.{run_none}
use native.Mathlib.Omega.{arith}
use lib.ListN.{get_or}
use Rattle.field.specs.Xor.{xor}
use Rattle.plain.proofs.Giving.{front_more, xor_whole}
use Rattle.plain.proofs.put_xor.Goals as goal

pub loop-i-init : goal.loop-i-init
loop-i-init c = run_none (λ j. xor (get_or c.args.a.now j 0) (get_or c.args.b.now j 0)) 0 c.args.out.now

pub bounds-out-i : goal.bounds-out-i
bounds-out-i c = omega (arith, c.loop-i.invariant.long, c.requires.1)

pub loop-i-preserved : goal.loop-i-preserved
loop-i-preserved c = front_more (λ j. xor (get_or c.args.a.now j 0) (get_or c.args.b.now j 0)) c.args.out.now c.loop-i.i c.loop-i.out c.x8.result c.loop-i.invariant (omega (arith, c.requires.1)) c.x8.ensures

pub returns : goal.returns
returns c = xor_whole c.args.a.now c.args.b.now c.args.out.now c.loop-i.out c.loop-i.i (omega arith) c.loop-i.invariant
