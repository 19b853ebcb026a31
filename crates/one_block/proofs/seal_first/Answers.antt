use native.Mathlib.Omega.{arith}
use Rattle.one_block.proofs.Laws.{held_seal}
use Rattle.blocks.specs.Blocks.{keys_of}
use Rattle.one_block.proofs.seal_first.Goals as goal

pub returns : goal.returns
returns c = held_seal c.args.sealer.now.columns c.args.sealer.now.rounds (keys_of c.args.sealer.now.columns c.args.sealer.now.keys.now) c.args.s.now c.seal.new.s (λ n. omega (arith, c.slice_known-1.given n)) c.seal.ensures
