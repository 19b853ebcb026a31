use Rattle.rounds.proofs.Laws.{open_place}
use Rattle.rounds.proofs.OpeningDirection.place.Goals as goal

pub returns : goal.returns
returns c = open_place c.args.c c.args.i c.args.j c.requires.1 c.requires.2
