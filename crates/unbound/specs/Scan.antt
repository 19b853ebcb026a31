-- The first `#` without a value (document 01, section 7: 25), by the definition on texts.
use Rattle.std.specs.Prelude.{Bool, true, false, List, ℕ, ◌+◌, ◌-◌, eqb, get_or, Option, Some, None}
use Rattle.common.specs.Choice.{pick}
use Rattle.texts.specs.Unbound as texts
use Rattle.texts.specs.Unbound.Place.{at, nowhere}

-- section 7: 25 where some `#` of the text has no value
unfoldable pub number_of : Option ℕ → ℕ
number_of (Some p) = 25
number_of None = 0

-- its place is the first
unfoldable pub place_of : Option ℕ → ℕ
place_of (Some p) = p
place_of None = 0

unfoldable pub place_is : texts.Place → Option ℕ
place_is (at p) = Some p
place_is nowhere = None

-- whether `#n` has a value; there is no other than `#0` to `#3`
unfoldable pub has_of : Bool → Bool → Bool → Bool → ℕ → Bool
has_of b0 b1 b2 b3 n = pick (eqb n 0) b0 (pick (eqb n 1) b1 (pick (eqb n 2) b2 (pick (eqb n 3) b3 false)))

-- the four answers together
abbrev pub has_in : List Bool → ℕ → Bool
has_in l = has_of (get_or l 0 false) (get_or l 1 false) (get_or l 2 false) (get_or l 3 false)

-- whether a `#` without a value stands at p
unfoldable pub open_at : (ℕ → Bool) → List ℕ → ℕ → Bool
open_at has s p = pick (eqb (get_or s p 0) 35) (pick (has (get_or s (p + 1) 0 - 48)) false true) false
