use native.Mathlib.Omega.{arith}
use Rattle.one_block.proofs.Laws.{held_load}
use Rattle.one_block.proofs.take_in.Goals as goal

pub returns : goal.returns
returns c = held_load c.args.c c.args.at c.args.b.now (λ n. omega (arith, c.type_inv.b n)) c.requires.1 c.args.s.now c.load.new.s c.requires.0 c.load.ensures
