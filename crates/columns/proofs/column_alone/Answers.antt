use mathlib.Core.Path.{refl, ap, ap₂, ◌∙◌}
use Rattle.field.specs.Xor.{xor}
use Rattle.field.proofs.XorLaws.{zero_l}
use Rattle.lookup.specs.Table.{turned, gather}
use Rattle.lookup.proofs.Laws.{half_ext}
use Rattle.common.proofs.Cases.{four}
use Rattle.columns.proofs.column_alone.Goals as goal

pub returns : goal.returns
unfolding gather
returns c = c.x64.ensures ∙ ap₂ xor (c.half_on.ensures ∙ zero_l _ ∙ half_ext c.args.t.now _ _ (four _ refl refl refl refl)) (c.turn.ensures ∙ ap turned (c.half_on-2.ensures ∙ zero_l _ ∙ half_ext c.args.t.now _ _ (four _ refl refl refl refl)))
