-- The leading blocks of what chaining makes (document 003, 10.2), over a cipher E on blocks of B bytes.
use Rattle.std.specs.Prelude.{List, ℕ, ◌+◌, ◌*◌, ◌/◌, ◌%◌, get_or}
use Rattle.common.specs.Places.{tab}
use Rattle.modes.specs.Chain.{chained}

-- byte m of c_1, c_2 ..
unfoldable pub linked : ℕ → (List ℕ → List ℕ) → List ℕ → List ℕ → ℕ → ℕ
linked B E iv text m = get_or (chained B E iv text (m / B + 1)) (m % B) 0

-- c_1 to c_n, one after another
unfoldable pub links : ℕ → (List ℕ → List ℕ) → List ℕ → List ℕ → ℕ → List ℕ
links B E iv text n = tab (n * B) (linked B E iv text)
