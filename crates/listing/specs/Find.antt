-- Where the value of a kind stands in a list (document 01, section 6).
use Rattle.std.specs.Prelude.{List, ℕ, zero, suc, ◌+◌, eqb, length, take, drop, Option, Some, None, Ok, Err}
use Rattle.common.specs.Choice.{pick}
use Rattle.tree.specs.Names.{Given}
use Rattle.tree.specs.Names.Given.{given, nothing}
use Rattle.listing.specs.Walk.{Placed, entry_at}
use Rattle.listing.specs.declared.Stretch.{Stretch}

abbrev pub At : ℕ → ℕ → Option Stretch
At start n = Some (record { start = start; length = n })

unfoldable pub if_entry : ℕ → Placed → (ℕ → Option Stretch) → Option Stretch
if_entry k (Ok (Some e)) more = pick (eqb e.kind k) (At e.start e.length) (more (e.start + e.length))
if_entry k (Ok None) more = None
if_entry k (Err c) more = None

-- from a place on, at most m records
unfoldable pub find_from : ℕ → List ℕ → ℕ → ℕ → Option Stretch
find_from zero s at k = None
find_from (suc m) s at k = if_entry k (entry_at s at) (λ to. find_from m s to k)

-- a list has fewer records than bytes
unfoldable pub find_in : List ℕ → ℕ → Option Stretch
find_in s k = find_from (length s) s 0 k

-- the stretch of the list that holds the value
unfoldable pub stretch_of : List ℕ → Option Stretch → Given
stretch_of s (Some at) = given (take at.length (drop at.start s))
stretch_of s None = nothing
