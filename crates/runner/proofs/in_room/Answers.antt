use native.Mathlib.Omega.{arith}
use mathlib.Core.Path.{sym, ◌∙◌}
use lib.Seq.{length-take-le}
use Rattle.runner.proofs.Room.{cleared_front}
use Rattle.runner.proofs.in_room.Goals as goal

pub slice_bounds-ran-end-2 : goal.slice_bounds-ran-end-2
slice_bounds-ran-end-2 c = sym (length-take-le c.args.room c.args.work.now c.requires.1)

pub ran-t-requires : goal.ran-t-requires
ran-t-requires c = omega (arith, length-take-le c.args.room c.args.work.now c.requires.1, c.requires.0)

pub returns : goal.returns
returns c = (c.ran-t.ensures, c.clear.ensures ∙ cleared_front c.args.room c.args.work.now c.ran-t.new.work (c.ran-t.auto.work ∙ length-take-le c.args.room c.args.work.now c.requires.1))
