use native.Mathlib.Omega.{arith}
use mathlib.Core.Path.{refl}
use Rattle.evaluating.proofs.Meant.{leaf_at_lem}
use Prim.Native.Nat.{◌+◌}
use Rattle.evaluating.proofs.put_leaf.Goals as goal

pub returns : goal.returns
returns c = leaf_at_lem c.args.image.now c.args.list.now c.args.start c.args.end c.args.o (c.args.o + 1024) c.give_leaf.result c.args.work.now _ (λ i. omega (arith, c.type_inv.list i)) c.requires.0 refl c.requires.1 c.give_leaf.auto.out c.give_leaf.ensures
