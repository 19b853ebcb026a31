-- A statement that is an equation determines what it speaks of: this is all that uniqueness asks of every function whose contract is one.
use mathlib.Core.Path.{◌≡◌, sym, ◌∙◌}

pub by_equation : {A : Type 0} (x r r' : A) → r ≡ x → r' ≡ x → r ≡ r'
by_equation x r r' e e' = e ∙ sym e'
