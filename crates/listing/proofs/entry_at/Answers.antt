use Rattle.listing.proofs.Entries.{at_end, at_record, at_cut}
use Rattle.listing.proofs.entry_at.Goals as goal

pub returns-then-s-at : goal.returns-then-s-at
returns-then-s-at c = at_end c.args.s.now c.args.at c.if-s-at.true

pub returns-in-Some : goal.returns-in-Some
returns-in-Some c = at_record c.args.s.now c.args.at c.in-Some.h c.head_at.result c.if-s-at.false c.head_at.ensures c.in-Some.is

pub returns-in-None : goal.returns-in-None
returns-in-None c = at_cut c.args.s.now c.args.at c.head_at.result c.if-s-at.false c.head_at.ensures c.in-None.is
