-- A recipe as a tree (document 01, section 5). A call is named by its record's kind (section 6).
use Rattle.std.specs.Prelude.{ℕ}
use Rattle.common.specs.Answer.{Value}

pub data Tree : Type 0 where
  literal : Value → Tree
  bound : ℕ → Tree  -- #n, known when the recipe is prepared
  row : ℕ → Tree  -- $n, known only at a run
  run : ℕ → Tree  -- @n, known only at a run
  one : ℕ → Tree → Tree
  two : ℕ → Tree → Tree → Tree
  three : ℕ → Tree → Tree → Tree → Tree
  four : ℕ → Tree → Tree → Tree → Tree → Tree
  when : Tree → Tree → Tree → Tree
