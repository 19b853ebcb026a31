-- A tree as text (document 01, section 5).
use Rattle.std.specs.Prelude.{Bool, true, false, List, [], ◌∷◌, ◌++◌, ℕ, ◌+◌, ◌-◌, ◌*◌, ◌/◌, ◌%◌, ltb, length}
use Rattle.common.specs.Choice.{pick}
use Rattle.tree.specs.Tree.{Tree}
use Rattle.tree.specs.Tree.Tree.{literal, bound, row, run, one, two, three, four, when}
use Rattle.tree.specs.Calls.{Call, calls}
use Rattle.tree.specs.Bounds.{of_row, when_kind}

-- section 5: 0-9 A-F
unfoldable pub hex_digit : ℕ → ℕ
hex_digit d = pick (ltb d 10) (48 + d) (55 + d)

-- section 5: a literal's pairs, the high digit of each byte first
unfoldable pub pairs : List ℕ → List ℕ
pairs [] = []
pairs (x ∷ v) = hex_digit (x / 16) ∷ hex_digit (x % 16) ∷ pairs v

-- a row of the table of calls, or none
pub data Found : Type 0 where
  known : Call → Found
  unknown : Found

-- section 6: the row that a kind is of
unfoldable pub row_in : List Call → ℕ → Found
row_in [] k = unknown
row_in (r ∷ rs) k = let later = row_in rs k in pick (of_row r.suited r.kind k) (known r) later

-- section 5: for cipher calls a `.` and a suite digit
unfoldable pub suite_part : Bool → ℕ → List ℕ
suite_part false d = []
suite_part true d = 46 ∷ (48 + d) ∷ []

unfoldable pub name_by : Found → ℕ → List ℕ
name_by (known r) k = r.letters ++ suite_part r.suited (k - r.kind)
name_by unknown k = []

-- a call's letters, and its suite
unfoldable pub name_of : ℕ → List ℕ
name_of k = name_by (row_in calls k) k

-- section 5: `(` before the first argument, `,` before each other, `)` after the last: c is the byte before the next
unfoldable pub listed : ℕ → List (List ℕ) → List ℕ
listed c [] = 41 ∷ []
listed c (a ∷ l) = c ∷ (a ++ listed 44 l)

-- section 5: literals, names `#` `$` `@`, calls
unfoldable pub spell : Tree → List ℕ
spell (literal v) = 39 ∷ (pairs v ++ (39 ∷ []))
spell (bound n) = 35 ∷ (48 + n) ∷ []
spell (row n) = 36 ∷ (48 + n) ∷ []
spell (run n) = 64 ∷ (48 + n) ∷ []
spell (one k a) = name_of k ++ listed 40 (spell a ∷ [])
spell (two k a b) = name_of k ++ listed 40 (spell a ∷ spell b ∷ [])
spell (three k a b c) = name_of k ++ listed 40 (spell a ∷ spell b ∷ spell c ∷ [])
spell (four k a b c d) = name_of k ++ listed 40 (spell a ∷ spell b ∷ spell c ∷ spell d ∷ [])
spell (when c a b) = name_of when_kind ++ listed 40 (spell c ∷ spell a ∷ spell b ∷ [])

-- letters and suite part
unfoldable pub name_width : Found → ℕ
name_width (known r) = length r.letters + pick r.suited 2 0
name_width unknown = 0

-- what stands before the first argument: the name and `(`
unfoldable pub head_width : ℕ → ℕ
head_width k = name_width (row_in calls k) + 1

-- how many bytes of text a tree takes
unfoldable pub width : Tree → ℕ
width (literal v) = 2 + 2 * length v
width (bound n) = 2
width (row n) = 2
width (run n) = 2
width (one k a) = head_width k + width a + 1
width (two k a b) = head_width k + width a + 1 + width b + 1
width (three k a b c) = head_width k + width a + 1 + width b + 1 + width c + 1
width (four k a b c d) = head_width k + width a + 1 + width b + 1 + width c + 1 + width d + 1
width (when c a b) = head_width when_kind + width c + 1 + width a + 1 + width b + 1
