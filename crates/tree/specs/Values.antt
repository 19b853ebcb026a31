-- Values (document 01, section 5: a value is 0 to 1,024 bytes).
use Rattle.std.specs.Prelude.{◌≡◌, ℕ, ◌≤◌, length}
use Rattle.common.specs.Answer.{Value}
use Rattle.tree.specs.Bounds.{Bytes}
use Rattle.tree.specs.Names.{Binding, Running}
use Rattle.tree.specs.Names.Given.{given}

pub record IsValue (v : Value) : Type 0 where
  pub short : length v ≤ 1024
  pub bytes : Bytes v

-- what is given is a value
abbrev pub BindingValued : Binding → Type 0
BindingValued K = (n : ℕ) (v : Value) → K n ≡ given v → IsValue v

pub record RunningValued (E : Running) : Type 0 where
  pub rows_valued : BindingValued E.rows
  pub runs_valued : BindingValued E.runs
