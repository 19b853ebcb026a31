-- Worked lists, good and bad (document 01, section 6).
use mathlib.Core.Path.{◌≡◌, refl}
use mathlib.Core.List.{List, [], ◌∷◌, ◌++◌}
use Prim.Native.Nat.{ℕ}
use lib.ListN.{replicate}
use Rattle.common.specs.Choice.{pick}
use Rattle.tree.specs.Names.Given.{given, nothing}
use Rattle.records.specs.Record.{record_of, front_of}
use Rattle.lists.specs.Entries.{entry, between, preparing, running, among, with_first, then_entry, walk, list_of}
use Rattle.lists.specs.Entries.Listed.{listed, bad_list}
use Rattle.lists.specs.Given.{value_of, binding_of, running_of}

abbrev one : ℕ → ℕ → ℕ → List ℕ
one low high v = 0x01 ∷ 0x00 ∷ low ∷ high ∷ v ∷ []

-- the empty list; any order
pub good :
    (list_of preparing [] ≡ listed [])
    × (list_of running [] ≡ listed [])
    × (list_of preparing (one 0x03 0x02 0x41 ++ one 0x00 0x02 0x42) ≡ listed (entry 0x0203 (0x41 ∷ []) ∷ entry 0x0200 (0x42 ∷ []) ∷ []))
    × (list_of running (one 0x03 0x04 0x41 ++ (0x00 ∷ 0x00 ∷ 0x07 ∷ 0x03 ∷ [])) ≡ listed (entry 0x0403 (0x41 ∷ []) ∷ entry 0x0307 [] ∷ []))
unfolding list_of walk then_entry with_first among front_of preparing running between pick
good = (refl, refl, refl, refl)

-- another kind; a list of the other side; a cut record; a kind twice, even with equal bytes
pub bad :
    (list_of preparing (one 0x04 0x02 0x41) ≡ bad_list)
    × (list_of preparing (one 0xFF 0x01 0x41) ≡ bad_list)
    × (list_of preparing (one 0x00 0x03 0x41) ≡ bad_list)
    × (list_of running (one 0x00 0x02 0x41) ≡ bad_list)
    × (list_of running (one 0x08 0x03 0x41) ≡ bad_list)
    × (list_of running (one 0x04 0x04 0x41) ≡ bad_list)
    × (list_of running (0x01 ∷ 0x00 ∷ 0x00 ∷ []) ≡ bad_list)
    × (list_of running (0x02 ∷ 0x00 ∷ 0x00 ∷ 0x03 ∷ 0x41 ∷ []) ≡ bad_list)
    × (list_of running (one 0x00 0x03 0x41 ++ (0x00 ∷ [])) ≡ bad_list)
    × (list_of running (one 0x00 0x03 0x41 ++ one 0x01 0x03 0x41 ++ one 0x00 0x03 0x41) ≡ bad_list)
unfolding list_of walk then_entry with_first among front_of preparing running between pick
bad = (refl, refl, refl, refl, refl, refl, refl, refl, refl, refl)

-- both sides of 1,024 bytes
pub lengths :
    (list_of running (record_of 0x0300 (replicate 1024 0x41)) ≡ listed (entry 0x0300 (replicate 1024 0x41) ∷ []))
    × (list_of running (record_of 0x0300 (replicate 1025 0x41)) ≡ bad_list)
unfolding record_of list_of walk then_entry with_first among front_of preparing running between pick
lengths = (refl, refl)

-- each name has its own kind
pub given_values :
    (binding_of (entry 0x0203 (0x41 ∷ []) ∷ entry 0x0200 (0x42 ∷ []) ∷ []) 0 ≡ given (0x42 ∷ []))
    × (binding_of (entry 0x0203 (0x41 ∷ []) ∷ entry 0x0200 (0x42 ∷ []) ∷ []) 3 ≡ given (0x41 ∷ []))
    × (binding_of (entry 0x0203 (0x41 ∷ []) ∷ entry 0x0200 (0x42 ∷ []) ∷ []) 1 ≡ nothing)
    × ((running_of (entry 0x0403 (0x41 ∷ []) ∷ entry 0x0307 [] ∷ [])).rows 7 ≡ given [])
    × ((running_of (entry 0x0403 (0x41 ∷ []) ∷ entry 0x0307 [] ∷ [])).rows 3 ≡ nothing)
    × ((running_of (entry 0x0403 (0x41 ∷ []) ∷ entry 0x0307 [] ∷ [])).runs 3 ≡ given (0x41 ∷ []))
unfolding binding_of running_of value_of entry pick
given_values = (refl, refl, refl, refl, refl, refl)
