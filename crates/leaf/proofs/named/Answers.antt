use Rattle.std.proofs.Common.{◌∙◌}
use Rattle.leaf.proofs.Ways.{named_there, named_nowhere}
use Rattle.leaf.proofs.named.Goals as goal

pub returns-in_err-find : goal.returns-in_err-find
returns-in_err-find c = c.from_residual.ensures ∙ named_nowhere _ _ c.find.ensures c.in_err-find.was

pub returns : goal.returns
returns c = named_there _ _ c.in_ok-find.field-0 c.find.ensures c.in_ok-find.was
