-- The head of the record that stands at a place (document 01, section 6).
use Rattle.std.specs.Prelude.{List, ℕ, length, drop, Option, Some, None}
use Rattle.records.specs.Record.{Front, front_of}
use Rattle.records.specs.Record.Front.{front, cut}
use Rattle.heads.specs.declared.Head.{Head}

-- a whole record's head: its kind, and how long its payload is
abbrev pub headed : ℕ → ℕ → Option Head
headed k n = Some (record { kind = k; length = n })

-- none where the record is cut
unfoldable pub head_of : Front → Option Head
head_of (front k p) = headed k (length p)
head_of cut = None

unfoldable pub head_at : List ℕ → ℕ → Option Head
head_at s at = head_of (front_of (drop at s))
