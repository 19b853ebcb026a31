use native.Mathlib.Omega.{arith}
use Rattle.runner.proofs.Giving.{sound_head, root_leaf}
use Rattle.runner.proofs.meant.Goals as goal

pub word_at-requires : goal.word_at-requires
word_at-requires c = omega (arith, sound_head c.args.image.now c.args.list.now _ c.requires.0)

pub returns-then-word_at-lt16 : goal.returns-then-word_at-lt16
returns-then-word_at-lt16 c = root_leaf c.args.image.now c.args.list.now _ c.requires.0 _ c.args.out.now (λ i. omega (arith, c.type_inv.list i)) (omega (arith, c.word_at.ensures.0, c.if-word_at-lt16.true)) c.give_leaf.ensures
