use mathlib.Core.Path.{refl}
use Rattle.common.specs.Choice.{pick}
use Rattle.lent.specs.Lent.{need_of}
use Rattle.modes.specs.Cell.{call_of}
use Rattle.katsunebyo.proofs.Told.{seen_told}
use Rattle.katsunebyo.proofs.katsu_ctr.Goals as goal

pub sealed-requires : goal.sealed-requires
unfolding need_of pick
sealed-requires c = refl

pub returns : goal.returns
unfolding call_of
returns c = seen_told c.sealed.result _ _ _ _ c.give.ensures.0 c.give.ensures.1 c.sealed.ensures
