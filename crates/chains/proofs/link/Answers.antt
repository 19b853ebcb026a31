use mathlib.Core.Path.{ap, ◌∙◌}
use Rattle.sealer.specs.Sealing.{sealed_by}
use Rattle.chains.proofs.link.Goals as goal

pub returns : goal.returns
returns c = c.seal_first.ensures ∙ ap (sealed_by c.args.sealer.now) c.add_in.ensures
