use Rattle.record_out.proofs.Put as puts
use Prim.Native.Nat.{◌/◌, ◌%◌}
use lib.ListN.{length-set}
use native.Mathlib.Omega.{arith}
use Rattle.record_out.proofs.put_head.Goals as goal

pub bounds-out-o-2 : goal.bounds-out-o-2
bounds-out-o-2 c = simp length-set (omega arith)

pub bounds-out-o-3 : goal.bounds-out-o-3
bounds-out-o-3 c = simp length-set (omega arith)

pub bounds-out-o-4 : goal.bounds-out-o-4
bounds-out-o-4 c = simp length-set (omega arith)

pub returns : goal.returns
returns c = puts.four_stores c.args.out.now c.args.o (c.args.n % 256) (c.args.n / 256) (c.args.k % 256) (c.args.k / 256) c.requires.0
