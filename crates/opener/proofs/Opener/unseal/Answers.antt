use Rattle.open_laws.proofs.Equal.{walk_unseal}
use Rattle.opener.proofs.Opener.unseal.Goals as goal

pub returns : goal.returns
returns c = λ k un. walk_unseal c.args.self.now.columns c.args.self.now.rounds k c.args.self.now.keys.now un c.args.n c.args.s.now _ c.open_blocks.ensures
