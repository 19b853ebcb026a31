use Rattle.katsunebyo.proofs.Told.{ended_told}
use Rattle.katsunebyo.proofs.katsu_prepare.Goals as goal

pub returns : goal.returns
returns c = ended_told c.prepare-told.result _ _ _ _ _ _ c.give.ensures.0 c.give.ensures.1 c.place_in.ensures c.prepare-told.ensures
