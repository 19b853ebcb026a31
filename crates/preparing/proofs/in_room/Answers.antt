use Rattle.modes.specs.Cell.{cell_of}
use Rattle.recipe.specs.Prepare.{prepared_of}
use Rattle.preparing.proofs.Giving.{cleared_after}
use mathlib.Core.Path.{sym, ◌∙◌}
use native.Mathlib.Omega.{arith}
use lib.Seq.{length-take-le}
use Rattle.preparing.proofs.in_room.Goals as goal

pub slice_bounds-decide-end-2 : goal.slice_bounds-decide-end-2
slice_bounds-decide-end-2 c = sym (length-take-le c.args.room c.args.work.now c.requires.1)

pub decide-r-requires : goal.decide-r-requires
decide-r-requires c = let l = length-take-le c.args.room c.args.work.now c.requires.1 in let a = c.requires.0 in omega arith

pub returns : goal.returns
returns c = cleared_after (prepared_of cell_of c.args.text.now c.args.list.now) c.decide-r.result c.args.out.now c.decide-r.new.out c.decide-r.new.work c.args.work.now c.clear.new.work c.args.room c.decide-r.ensures c.clear.ensures (c.decide-r.auto.work ∙ length-take-le c.args.room c.args.work.now c.requires.1)
