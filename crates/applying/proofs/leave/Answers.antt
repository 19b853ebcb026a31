use native.Mathlib.Omega.{arith}
use mathlib.Core.Path.{sym}
use lib.Seq.{length-take-le}
use Rattle.std.proofs.lemmas.Result.{err_from_is_err_and}
use Rattle.applying.proofs.Loading.{count_done, leaves_value, leaves_none}
use Rattle.applying.proofs.leave.Goals as goal

pub slice_bounds-put-end : goal.slice_bounds-put-end
slice_bounds-put-end c = sym (length-take-le c.in_ok-n.n c.args.out.now (omega (arith, count_done c.args.t c.in_ok-n.n c.in_ok-n.was, c.requires.0)))

pub put-requires : goal.put-requires
put-requires c = omega (arith, length-take-le c.in_ok-n.n c.args.out.now (omega (arith, count_done c.args.t c.in_ok-n.n c.in_ok-n.was, c.requires.0)), count_done c.args.t c.in_ok-n.n c.in_ok-n.was, c.requires.1)

pub returns : goal.returns
returns c = (sym c.in_ok-n.was, leaves_value c.args.t c.args.out.now c.args.work.now c.args.o c.in_ok-n.n _ c.in_ok-n.was (omega (arith, count_done c.args.t c.in_ok-n.n c.in_ok-n.was, c.requires.0)) c.put.ensures)

pub returns-in_err-n : goal.returns-in_err-n
returns-in_err-n c =
    let p = err_from_is_err_and c.from_residual.result c.from_residual.ensures.1 in
    rw (p.1, p.2) (sym c.in_err-n.was, leaves_none c.args.t c.args.out.now c.args.work.now c.args.o _ c.in_err-n.was)
