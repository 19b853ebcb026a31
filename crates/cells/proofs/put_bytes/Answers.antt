use native.Mathlib.Omega.{arith}
use lib.ListN.{length-set}
use Rattle.cells.proofs.Laws.{sets_eight}
use Rattle.cells.proofs.put_bytes.Goals as goal

pub bounds-o-at-2 : goal.bounds-o-at-2
bounds-o-at-2 c = simp length-set (omega (arith, c.requires))

pub bounds-o-at-3 : goal.bounds-o-at-3
bounds-o-at-3 c = simp length-set (omega (arith, c.requires))

pub bounds-o-at-4 : goal.bounds-o-at-4
bounds-o-at-4 c = simp length-set (omega (arith, c.requires))

pub bounds-o-at-5 : goal.bounds-o-at-5
bounds-o-at-5 c = simp length-set (omega (arith, c.requires))

pub bounds-o-at-6 : goal.bounds-o-at-6
bounds-o-at-6 c = simp length-set (omega (arith, c.requires))

pub bounds-o-at-7 : goal.bounds-o-at-7
bounds-o-at-7 c = simp length-set (omega (arith, c.requires))

pub bounds-o-at-8 : goal.bounds-o-at-8
bounds-o-at-8 c = simp length-set (omega (arith, c.requires))

pub returns : goal.returns
returns c = sets_eight c.args.o.now c.args.at c.args.w
