-- A buffer after bytes were written into it from a place on: all before and after them is as it was.
use Rattle.std.specs.Prelude.{List, ◌++◌, ℕ, ◌+◌, length, take, drop}

-- l with v written from o on
unfoldable pub put : List ℕ → ℕ → List ℕ → List ℕ
put l o v = take o l ++ (v ++ drop (o + length v) l)
