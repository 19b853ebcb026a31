use Rattle.seal_block.proofs.Laws.{round_is, last_is, zeros}
use Rattle.rounds.specs.Rounds.{key_at}
use Rattle.seal_block.proofs.last_round.Goals as goal

pub returns : goal.returns
returns g c = last_is g.row.C c.args.n (key_at g.row.C c.args.ks.now c.args.at) c.args.s.now c.walk.new.s c.add_keys.new.s c.requires.1 (round_is g.row.C c.args.n c.args.tab.now (key_at g.row.C zeros 0) c.args.s.now c.walk.new.s c.requires.0 c.walk.ensures) c.add_keys.ensures
