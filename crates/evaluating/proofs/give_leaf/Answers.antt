use Rattle.evaluating.proofs.Meant.{leaf_nowhere, leaf_there}
use Rattle.evaluating.proofs.give_leaf.Goals as goal

pub returns-in_default : goal.returns-in_default
returns-in_default c = leaf_nowhere c.args.image.now c.args.list.now c.args.out.now c.place_of.result _ c.place_of.ensures c.in_default.is

pub returns : goal.returns
returns c = leaf_there c.args.image.now c.args.list.now c.args.out.now c.place_of.result _ c.place_of.ensures c.in-Some.place c.in-Some.is c.leaf.result.now _ c.leaf.ensures c.hand.ensures
