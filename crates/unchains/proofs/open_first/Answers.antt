use native.Mathlib.Omega.{arith}
use Rattle.blocks.specs.Blocks.{keys_of}
use Rattle.one_block.proofs.Laws.{held_open}
use Rattle.unchains.proofs.open_first.Goals as goal

pub returns : goal.returns
returns c = λ k un. held_open c.args.opener.now.columns c.args.opener.now.rounds (keys_of c.args.opener.now.columns k) c.args.s.now c.unseal.new.s (λ n. omega (arith, c.slice_known-1.given n)) (c.unseal.ensures k un)
