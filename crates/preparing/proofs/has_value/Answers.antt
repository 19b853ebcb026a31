use mathlib.Core.Path.{ap, ◌∙◌}
use Rattle.recipe.specs.Prepare.{is_given}
use Rattle.listing.specs.Find.{stretch_of}
use Rattle.preparing.proofs.Deciding.{found_given}
use Rattle.preparing.proofs.has_value.Goals as goal

pub returns : goal.returns
returns c = c.is_some.ensures ∙ found_given c.args.list.now c.find.result ∙ ap (λ f. is_given (stretch_of c.args.list.now f)) c.find.ensures
