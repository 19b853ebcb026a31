use Rattle.katsunebyo.proofs.Told.{ran_told}
use Rattle.katsunebyo.proofs.katsu_run.Goals as goal

pub returns : goal.returns
returns c = ran_told c.run.result _ _ _ _ _ c.give.ensures.0 c.give.ensures.1 c.run.ensures
