-- Names and what is given for them (document 01, section 5).
use Rattle.std.specs.Prelude.{◌≡◌, ℕ}
use Rattle.common.specs.Answer.{Value}
use Rattle.tree.specs.Tree.{Tree}
use Rattle.tree.specs.Tree.Tree.{literal, bound, row, run, one, two, three, four, when}

-- a value, or nothing
pub data Given : Type 0 where
  given : Value → Given
  nothing : Given

-- what `#n` is given, for each n
abbrev pub Binding : Type 0
Binding = ℕ → Given

-- what `$n` and `@n` are given, for each n
pub record Running : Type 0 where
  pub rows : Binding
  pub runs : Binding

-- no name is given a value
unfoldable pub unbound : Binding
unbound n = nothing

unfoldable pub idle : Running
idle = record { rows = unbound; runs = unbound }

-- no `#` stands in the tree
unfoldable pub NoBound : Tree → Type 0
NoBound (literal v) = Unit {0}
NoBound (bound n) = ⊥
NoBound (row n) = Unit {0}
NoBound (run n) = Unit {0}
NoBound (one k a) = NoBound a
NoBound (two k a b) = NoBound a × NoBound b
NoBound (three k a b c) = NoBound a × NoBound b × NoBound c
NoBound (four k a b c d) = NoBound a × NoBound b × NoBound c × NoBound d
NoBound (when c a b) = NoBound c × NoBound a × NoBound b

-- every `#` that stands in the tree is given a value
unfoldable pub AllBound : Binding → Tree → Type 0
AllBound K (literal v) = Unit {0}
AllBound K (bound n) = (v : Value) × (K n ≡ given v)
AllBound K (row n) = Unit {0}
AllBound K (run n) = Unit {0}
AllBound K (one k a) = AllBound K a
AllBound K (two k a b) = AllBound K a × AllBound K b
AllBound K (three k a b c) = AllBound K a × AllBound K b × AllBound K c
AllBound K (four k a b c d) = AllBound K a × AllBound K b × AllBound K c × AllBound K d
AllBound K (when c a b) = AllBound K c × AllBound K a × AllBound K b
