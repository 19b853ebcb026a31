-- A list walked record by record (document 01, section 6).
use Rattle.std.specs.Prelude.{Bool, true, false, List, ℕ, ◌+◌, ◌-◌, leb, ltb, length, Option, Some, None, Result, Ok, Err}
use Rattle.common.specs.Choice.{pick}
use Rattle.lists.specs.Entries.{Listed, between, preparing, running, bound_list, row_list, run_list}
use Rattle.lists.specs.Entries.Listed.{listed, bad_list}
use Rattle.heads.specs.declared.Head.{Head}
use Rattle.heads.specs.Head.{head_at}
use Rattle.listing.specs.declared.Entry.{Entry}
use Rattle.listing.specs.declared.Cut.{Cut}

-- a record there, the end, or bytes that are no whole record
abbrev pub Placed : Type 0
Placed = Result (Option Entry) Cut

abbrev pub Of : ℕ → ℕ → ℕ → Placed
Of k start n = Ok (Some (record { kind = k; start = start; length = n }))

abbrev pub End : Placed
End = Ok None

abbrev pub Bad : Placed
Bad = Err (record {})

-- a payload stands after its head of four bytes
unfoldable pub entry_of : ℕ → Option Head → Placed
entry_of at (Some h) = Of h.kind (at + 4) h.length
entry_of at None = Bad

-- what stands at a place of a list
unfoldable pub entry_at : List ℕ → ℕ → Placed
entry_at s at = pick (leb (length s) at) End (entry_of at (head_at s at))

-- the kinds that a list may have, for running and for preparing
unfoldable pub taken_in : Bool → ℕ → Bool
taken_in true = running
taken_in false = preparing

-- good, or 27
unfoldable pub is_good : Listed → Bool
is_good (listed es) = true
is_good bad_list = false

-- each kind that may stand in a list has a place below 16
unfoldable pub slot_of : Bool → ℕ → ℕ
slot_of true k = pick (between row_list (row_list + 7) k) (k - row_list) (pick (between run_list (run_list + 3) k) (k - run_list + 8) 16)
slot_of false k = pick (between bound_list (bound_list + 3) k) (k - bound_list) 16

-- 16 is no place
unfoldable pub some_low : ℕ → Option ℕ
some_low i = pick (ltb i 16) (Some i) None
