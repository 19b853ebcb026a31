-- Folding (document 01, section 5) read from the top: what has a value with only `#` bound is that constant, a `when` on 00 or 01 is its chosen side, all else stays with folded arguments.
use Rattle.std.specs.Prelude.{List, [], ◌∷◌, ◌++◌, ℕ}
use Rattle.common.specs.Answer.{Answer}
use Rattle.common.specs.Answer.Answer.{value, refused}
use Rattle.tree.specs.Tree.{Tree}
use Rattle.tree.specs.Tree.Tree.{literal, bound, row, run, one, two, three, four, when}
use Rattle.tree.specs.Bounds.{when_kind}
use Rattle.tree.specs.Names.{Binding, idle}
use Rattle.meaning.specs.Mean.{Calls, Side, side_of, mean}
use Rattle.meaning.specs.Mean.Side.{neither}
use Rattle.meaning.specs.Fold.{side_or, fold}
use Rattle.records.specs.Encode.{constant_kind, row_kind, run_kind, bound_kind, encode}

-- the constant where there is a value
unfoldable pub value_or : Answer → Tree → Tree
value_or (value v) t = literal v
value_or (refused n) t = t

-- the side that a condition chooses
unfoldable pub choice_of : Answer → Side
choice_of (value x) = side_of x
choice_of (refused n) = neither

-- a call's arguments in their order; a leaf has none
unfoldable pub arguments : Tree → List Tree
arguments (literal v) = []
arguments (bound n) = []
arguments (row n) = []
arguments (run n) = []
arguments (one k a) = a ∷ []
arguments (two k a b) = a ∷ b ∷ []
arguments (three k a b c) = a ∷ b ∷ c ∷ []
arguments (four k a b c d) = a ∷ b ∷ c ∷ d ∷ []
arguments (when c a b) = c ∷ a ∷ b ∷ []

-- the kind of a tree's record (section 6)
unfoldable pub kind_of : Tree → ℕ
kind_of (literal v) = constant_kind
kind_of (bound n) = bound_kind
kind_of (row n) = row_kind
kind_of (run n) = run_kind
kind_of (one k a) = k
kind_of (two k a b) = k
kind_of (three k a b c) = k
kind_of (four k a b c d) = k
kind_of (when c a b) = when_kind

module _ (C : Calls) (K : Binding) where
  unfoldable pub top_down : Tree → Tree
  top_down (literal v) = literal v
  top_down (bound n) = value_or (mean C K idle (bound n)) (bound n)
  top_down (row n) = row n
  top_down (run n) = run n
  top_down (one k a) = value_or (mean C K idle (one k a)) (one k (top_down a))
  top_down (two k a b) = value_or (mean C K idle (two k a b)) (two k (top_down a) (top_down b))
  top_down (three k a b c) = value_or (mean C K idle (three k a b c)) (three k (top_down a) (top_down b) (top_down c))
  top_down (four k a b c d) = value_or (mean C K idle (four k a b c d)) (four k (top_down a) (top_down b) (top_down c) (top_down d))
  top_down (when c a b) =
      value_or (mean C K idle (when c a b))
      (side_or (choice_of (mean C K idle c)) (top_down a) (top_down b) (when (top_down c) (top_down a) (top_down b)))

  -- the records of folded trees, one after another
  unfoldable pub folded_all : List Tree → List ℕ
  folded_all [] = []
  folded_all (t ∷ ts) = encode (fold C K t) ++ folded_all ts
