use mathlib.Core.Path.{ap, sym, ◌∙◌}
use lib.Seq.{length-take-le}
use Rattle.modes.specs.Cell.{cell_of}
use Rattle.texts.specs.Reading.{read_text}
use Rattle.recipe.specs.Prepare.{after_read, prepared_of}
use Rattle.answers.specs.Told.{table, fault_number}
use Rattle.text_reader.specs.Reader.{parsed}
use Rattle.preparing.proofs.Giving.{stops}
use Rattle.preparing.proofs.Deciding.{long_text, fair_text, was_wrong, wrong_stops, was_read, read_within, same_gives}
use Rattle.preparing.proofs.decide.Goals as goal

pub returns-then-text-gt4096 : goal.returns-then-text-gt4096
unfolding table
returns-then-text-gt4096 c = rw c.from.ensures (stops (prepared_of cell_of c.args.text.now c.args.list.now) _ c.args.out.now (long_text c.args.text.now c.args.list.now c.if-text-gt4096.true))

pub slice_bounds-records-end : goal.slice_bounds-records-end
slice_bounds-records-end c = read_within c.args.text.now c.read.result c.in-Ok.n _ c.read.new.out c.read.ensures c.in-Ok.is

pub slice_bounds-after_read-end : goal.slice_bounds-after_read-end
slice_bounds-after_read-end c = sym (length-take-le c.in-Ok.n c.read.new.out (read_within c.args.text.now c.read.result c.in-Ok.n _ c.read.new.out c.read.ensures c.in-Ok.is))

pub after_read-requires : goal.after_read-requires
after_read-requires c = was_read c.args.text.now c.read.result c.in-Ok.n _ _ c.read.new.out c.read.ensures c.in-Ok.is c.if-text-gt4096.false c.requires

pub returns-in-Err : goal.returns-in-Err
unfolding fault_number
returns-in-Err c = stops (prepared_of cell_of c.args.text.now c.args.list.now) c.in-Err.fault c.args.out.now (wrong_stops c.args.text.now c.args.list.now _ c.in-Err.fault.place c.if-text-gt4096.false (was_wrong (read_text c.args.text.now) _ c.in-Err.fault.place (sym c.read.ensures.says ∙ ap parsed c.in-Err.is)))

pub returns-in-Ok : goal.returns-in-Ok
returns-in-Ok c = same_gives (prepared_of cell_of c.args.text.now c.args.list.now) (after_read cell_of c.args.text.now c.args.list.now (read_text c.args.text.now)) c.after_read.result c.args.out.now c.after_read.new.out (fair_text c.args.text.now c.args.list.now c.if-text-gt4096.false) c.after_read.ensures
