use mathlib.Core.Path.{ap, ◌∙◌}
use native.Mathlib.Omega.{arith}
use Rattle.chains.proofs.Laws.{given, take_drop_all}
use Rattle.opener.specs.Opening.{block_size, opened_by}
use Rattle.opener.proofs.Sizes.{columns_le}
use Rattle.unchains.proofs.unblk.Goals as goal

pub take_in-requires : goal.take_in-requires
take_in-requires c = (omega (arith, columns_le c.args.opener.now), omega (arith, c.requires.0))

pub open_first-requires : goal.open_first-requires
open_first-requires c = omega (arith, columns_le c.args.opener.now, c.take_in.auto.s)

pub give_out-requires : goal.give_out-requires
give_out-requires c = (omega (arith, columns_le c.args.opener.now, c.take_in.auto.s, c.open_first.auto.s), omega (arith, c.requires.1))

pub returns : goal.returns
returns c = λ k un. given (block_size c.args.opener.now) _ _ c.args.out.now _ c.give_out.ensures (c.open_first.ensures k un ∙ ap (opened_by c.args.opener.now k) (c.take_in.ensures ∙ take_drop_all (block_size c.args.opener.now) c.args.text.now c.requires.0))
