-- A tree as image bytes (document 01, section 6).
use Rattle.std.specs.Prelude.{List, [], ◌∷◌, ◌++◌, ℕ}
use Rattle.tree.specs.Tree.{Tree}
use Rattle.tree.specs.Tree.Tree.{literal, bound, row, run, one, two, three, four, when}
use Rattle.tree.specs.Bounds.{when_kind}
use Rattle.records.specs.Record.{record_of}

abbrev pub constant_kind : ℕ
constant_kind = 0x0001

abbrev pub row_kind : ℕ
row_kind = 0x0002

abbrev pub run_kind : ℕ
run_kind = 0x0003

-- `#` has a kind of its own while a text is prepared; no image may hold it
abbrev pub bound_kind : ℕ
bound_kind = 0x0004

-- a call's payload is its arguments' records, one after another
unfoldable pub encode : Tree → List ℕ
encode (literal v) = record_of constant_kind v
encode (bound n) = record_of bound_kind (n ∷ [])
encode (row n) = record_of row_kind (n ∷ [])
encode (run n) = record_of run_kind (n ∷ [])
encode (one k a) = record_of k (encode a)
encode (two k a b) = record_of k (encode a ++ encode b)
encode (three k a b c) = record_of k (encode a ++ (encode b ++ encode c))
encode (four k a b c d) = record_of k (encode a ++ (encode b ++ (encode c ++ encode d)))
encode (when c a b) = record_of when_kind (encode c ++ (encode a ++ encode b))
