use Rattle.applying.proofs.Numbering.{three_says, lent_number}
use Rattle.applying.proofs.Dispatch.{as_three}
use Rattle.applying.proofs.call_three.Goals as goal

pub overflow_sub-f : goal.overflow_sub-f
overflow_sub-f c = (three_says c.args.k c.requires.0 c.requires.1).high

pub call-requires : goal.call-requires
call-requires c = lent_number c.args.k c.args.tables.now (three_says c.args.k c.requires.0 c.requires.1) c.requires.2

pub returns : goal.returns
returns c = as_three c.args.k c.args.a.now c.args.b.now c.args.c.now c.args.out.now _ c.requires.0 c.requires.1 c.call.ensures
