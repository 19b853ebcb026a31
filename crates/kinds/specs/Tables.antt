-- Which lookup tables a recipe needs: 0 none, 1 the sealing one, 2 the opening one too.
use Rattle.std.specs.Prelude.{Bool, true, ℕ, zero, suc, max, ltb, Option, Some, None}
use Rattle.common.specs.Choice.{pick}
use Rattle.tree.specs.Tree.{Tree}
use Rattle.tree.specs.Tree.Tree.{literal, bound, row, run, one, two, three, four, when}
use Rattle.tree.specs.Bounds.{of_row}
use Rattle.kinds.specs.declared.Need.{Need}
use Rattle.kinds.specs.declared.Need.TheVariants.{Nothing, Sealing, Opening}

-- a number of arguments; 0, a kind that is no call's
unfoldable pub some_if : ℕ → Option ℕ
some_if zero = None
some_if (suc n) = Some (suc n)

abbrev pub need_number : Need → ℕ
need_number Nothing = 0
need_number Sealing = 1
need_number Opening = 2

-- `unblk`, `uncbc` and `uncbp` open blocks (document 01, section 6: f = 1, 7, 9)
unfoldable pub opens : ℕ → Bool
opens k = pick (of_row true 0x0110 k) true (pick (of_row true 0x0170 k) true (of_row true 0x0190 k))

-- every cipher call, 0100 + 16f + suite, makes its round keys by sealing
unfoldable pub tables_for : ℕ → ℕ
tables_for k = pick (opens k) 2 (pick (ltb 0x0100 k) 1 0)

-- what some call in the tree needs
unfoldable pub tables_of : Tree → ℕ
tables_of (literal v) = 0
tables_of (bound n) = 0
tables_of (row n) = 0
tables_of (run n) = 0
tables_of (one k a) = max (tables_for k) (tables_of a)
tables_of (two k a b) = max (tables_for k) (max (tables_of a) (tables_of b))
tables_of (three k a b c) = max (tables_for k) (max (tables_of a) (max (tables_of b) (tables_of c)))
tables_of (four k a b c d) = max (tables_for k) (max (tables_of a) (max (tables_of b) (max (tables_of c) (tables_of d))))
tables_of (when c a b) = max (tables_of c) (max (tables_of a) (tables_of b))
