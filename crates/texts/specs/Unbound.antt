-- The place of the first unbound `#` (document 01, section 7: 25), dropped sides included.
use Rattle.std.specs.Prelude.{Bool, true, List, [], ◌∷◌, ◌≡◌, ℕ, ◌+◌, ◌-◌, eqb, get_or}
use Rattle.common.specs.Choice.{pick}
use Rattle.tree.specs.Tree.{Tree}
use Rattle.tree.specs.Tree.Tree.{literal, bound, row, run, one, two, three, four, when}
use Rattle.tree.specs.Bounds.{when_kind}
use Rattle.texts.specs.Spelling.{width, head_width}

pub data Place : Type 0 where
  at : ℕ → Place
  nowhere : Place

-- w bytes later
unfoldable pub later : ℕ → Place → Place
later w (at p) = at (w + p)
later w nowhere = nowhere

-- the first, else the second, which starts w bytes later
unfoldable pub first : Place → ℕ → Place → Place
first (at p) w y = at p
first nowhere w y = later w y

-- section 7: the first unbound `#` in text order; `has n` says whether #n has a value
unfoldable pub unbound_at : (ℕ → Bool) → Tree → Place
unbound_at has (literal v) = nowhere
unbound_at has (bound n) = pick (has n) nowhere (at 0)
unbound_at has (row n) = nowhere
unbound_at has (run n) = nowhere
unbound_at has (one k a) = later (head_width k) (unbound_at has a)
unbound_at has (two k a b) = later (head_width k) (first (unbound_at has a) (width a + 1) (unbound_at has b))
unbound_at has (three k a b c) = later (head_width k) (first (unbound_at has a) (width a + 1) (first (unbound_at has b) (width b + 1) (unbound_at has c)))
unbound_at has (four k a b c d) =
    later (head_width k) (first (unbound_at has a) (width a + 1) (first (unbound_at has b) (width b + 1) (first (unbound_at has c) (width c + 1) (unbound_at has d))))
unbound_at has (when c a b) = later (head_width when_kind) (first (unbound_at has c) (width c + 1) (first (unbound_at has a) (width a + 1) (unbound_at has b)))

-- section 7: every `#` of a tree has a value, dropped sides included
unfoldable pub AllBound : (ℕ → Bool) → Tree → Type 0
AllBound has (literal v) = Unit {0}
AllBound has (bound n) = has n ≡ true
AllBound has (row n) = Unit {0}
AllBound has (run n) = Unit {0}
AllBound has (one k a) = AllBound has a
AllBound has (two k a b) = AllBound has a × AllBound has b
AllBound has (three k a b c) = AllBound has a × AllBound has b × AllBound has c
AllBound has (four k a b c d) = AllBound has a × AllBound has b × AllBound has c × AllBound has d
AllBound has (when c a b) = AllBound has c × AllBound has a × AllBound has b

-- the same by the text alone: the first `#` whose digit has no value
unfoldable pub unbound_in : (ℕ → Bool) → List ℕ → Place
unbound_in has [] = nowhere
unbound_in has (x ∷ s) =
    let rest = later 1 (unbound_in has s) in
    pick (eqb x 35) (pick (has (get_or s 0 0 - 48)) rest (at 0)) rest
