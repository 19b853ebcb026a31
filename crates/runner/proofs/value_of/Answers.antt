use native.Mathlib.Omega.{arith}
use mathlib.Core.Path.{sym}
use lib.ListN.{length}
use lib.Seq.{length-take-le}
use Rattle.std.proofs.lemmas.Result.{err_from_is_err_and}
use Rattle.runner.proofs.Giving.{run_ready, run_small, run_refused, run_value}
use Rattle.runner.proofs.value_of.Goals as goal

pub eval-requires : goal.eval-requires
eval-requires c = run_ready c.args.given.now.image.now c.args.given.now.list.now c.args.given.now.tables.now c.requires.0 (length c.args.work.now) c.requires.1

pub slice_bounds-hand-end : goal.slice_bounds-hand-end
slice_bounds-hand-end c = omega (arith, run_small c.args.given.now.image.now c.args.given.now.list.now c.args.given.now.tables.now c.requires.0 c.eval.result c.args.work.now _ c.eval.ensures c.in_ok-n.n c.in_ok-n.was, c.requires.1, c.eval.auto.work)

pub slice_bounds-hand-end-2 : goal.slice_bounds-hand-end-2
slice_bounds-hand-end-2 c = sym (length-take-le c.in_ok-n.n _ (omega (arith, run_small c.args.given.now.image.now c.args.given.now.list.now c.args.given.now.tables.now c.requires.0 c.eval.result c.args.work.now _ c.eval.ensures c.in_ok-n.n c.in_ok-n.was, c.requires.1, c.eval.auto.work)))

pub returns-in_err-n : goal.returns-in_err-n
returns-in_err-n c = let p = err_from_is_err_and c.from_residual.result c.from_residual.ensures.1 in rw (p.1, p.2) (run_refused c.args.given.now.image.now c.args.given.now.list.now c.args.given.now.tables.now c.requires.0 c.eval.result c.args.work.now _ c.eval.ensures _ c.args.out.now c.in_err-n.was)

pub returns : goal.returns
returns c = run_value c.args.given.now.image.now c.args.given.now.list.now c.args.given.now.tables.now c.requires.0 c.eval.result c.args.work.now _ c.eval.ensures c.in_ok-n.n c.args.out.now _ c.in_ok-n.was c.hand.ensures
