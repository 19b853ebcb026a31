-- What reading a text gives (document 01, sections 5 and 7).
use Rattle.std.specs.Prelude.{ℕ}
use Rattle.tree.specs.Tree.{Tree}

-- the tree, or the number and the place of the refusal
pub data Read : Type 0 where
  got : Tree → Read
  wrong : ℕ → ℕ → Read
