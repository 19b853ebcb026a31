-- One record (document 01, section 6).
use Rattle.std.specs.Prelude.{List, ◌∷◌, ℕ, ◌+◌, ◌*◌, ◌-◌, ◌/◌, ◌%◌, ltb, length, get_or, take, drop}
use Rattle.common.specs.Choice.{pick}

-- length of payload (2 bytes), kind (2 bytes), payload; low byte first
unfoldable pub record_of : ℕ → List ℕ → List ℕ
record_of kind payload = length payload % 256 ∷ length payload / 256 ∷ kind % 256 ∷ kind / 256 ∷ payload

-- the two bytes at a place as a number, low byte first
abbrev pub word : List ℕ → ℕ → ℕ
word s i = get_or s i 0 + 256 * get_or s (i + 1) 0

-- the record that stands first in a list: its kind and payload; or none whole
pub data Front : Type 0 where
  front : ℕ → List ℕ → Front
  cut : Front

unfoldable pub front_of : List ℕ → Front
front_of s = pick (ltb (length s) 4) cut (pick (ltb (length s - 4) (word s 0)) cut (front (word s 2) (take (word s 0) (drop 4 s))))
