-- Document 01, section 6, f from 0 to 11: `unblk`, `uncbc` and `uncbp` open blocks, the others only seal.
use mathlib.Core.Path.{◌≡◌, refl}
use mathlib.Core.List.{[], ◌∷◌}
use Rattle.common.specs.Choice.{pick}
use Rattle.common.specs.Places.{tab}
use Rattle.lent.specs.Lent.{need_of}

pub needs : tab 12 need_of ≡ 1 ∷ 2 ∷ 1 ∷ 1 ∷ 1 ∷ 1 ∷ 1 ∷ 2 ∷ 1 ∷ 2 ∷ 1 ∷ 1 ∷ []
unfolding tab need_of pick
needs = refl
