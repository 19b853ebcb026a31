use native.Mathlib.Omega.{arith}
use Rattle.one_block.proofs.Laws.{held_add}
use Rattle.one_block.proofs.add_in.Goals as goal

pub returns : goal.returns
returns c = held_add c.args.c c.args.at c.args.b.now (λ n. omega (arith, c.type_inv.b n)) c.requires.1 c.args.s.now c.xor_in.new.s c.requires.0 (λ n. omega (arith, c.slice_known-1.given n)) c.xor_in.ensures
