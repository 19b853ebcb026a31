use Rattle.lookup.specs.Table.{entry}
use Rattle.columns.proofs.entry_at.Goals as goal

pub returns : goal.returns
unfolding entry
returns c = c.eight_at.ensures
