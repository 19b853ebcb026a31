use mathlib.Core.Path.{refl}
use Rattle.field.specs.Xor.{xor}
use Rattle.field.proofs.x8.Goals as goal

pub returns : goal.returns
unfolding xor
returns c = refl
