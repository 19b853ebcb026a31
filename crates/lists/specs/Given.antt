-- What a list gives each name (document 01, sections 5 and 6).
use Rattle.std.specs.Prelude.{List, [], ◌∷◌, ℕ, ◌+◌, eqb}
use Rattle.common.specs.Choice.{pick}
use Rattle.tree.specs.Names.{Given, Binding, Running}
use Rattle.tree.specs.Names.Given.{given, nothing}
use Rattle.lists.specs.Entries.{Entry, bound_list, row_list, run_list}

-- the value of a kind
unfoldable pub value_of : List Entry → ℕ → Given
value_of [] k = nothing
value_of (e ∷ es) k = pick (eqb e.kind k) (given e.held) (value_of es k)

-- `#n` at preparing
unfoldable pub binding_of : List Entry → Binding
binding_of es n = value_of es (bound_list + n)

-- `$n` and `@n` at a run
unfoldable pub running_of : List Entry → Running
running_of es = record { rows = λ n. value_of es (row_list + n); runs = λ n. value_of es (run_list + n) }
