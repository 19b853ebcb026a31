use Rattle.rounds.proofs.Laws.{seal_place}
use Rattle.rounds.proofs.SealingDirection.place.Goals as goal

pub returns : goal.returns
returns c = seal_place c.args.c c.args.i c.args.j c.requires.1 c.requires.2
