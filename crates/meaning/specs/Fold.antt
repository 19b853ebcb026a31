-- Folding, bottom up (document 01, section 5).
use Rattle.std.specs.Prelude.{ℕ}
use Rattle.common.specs.Answer.{Value, Answer}
use Rattle.common.specs.Answer.Answer.{value, refused}
use Rattle.tree.specs.Tree.{Tree}
use Rattle.tree.specs.Tree.Tree.{literal, bound, row, run, one, two, three, four, when}
use Rattle.tree.specs.Names.{Given, Binding}
use Rattle.tree.specs.Names.Given.{given, nothing}
use Rattle.meaning.specs.Mean.{Calls, Side, side_of}
use Rattle.meaning.specs.Mean.Side.{first, second, neither}

-- the value of a constant
unfoldable pub constant_of : Tree → Given
constant_of (literal v) = given v
constant_of (bound n) = nothing
constant_of (row n) = nothing
constant_of (run n) = nothing
constant_of (one k a) = nothing
constant_of (two k a b) = nothing
constant_of (three k a b c) = nothing
constant_of (four k a b c d) = nothing
constant_of (when c a b) = nothing

-- one more argument that must be a constant
unfoldable pub known : Given → (Value → Given) → Given
known (given v) f = f v
known nothing f = nothing

-- the value of a call that has one
unfoldable pub gives : Answer → Given
gives (value v) = given v
gives (refused n) = nothing

-- the constant where there is a value; else the tree stays
unfoldable pub or_stays : Given → Tree → Tree
or_stays (given v) t = literal v
or_stays nothing t = t

-- the chosen side; else the tree stays
unfoldable pub side_or : Side → Tree → Tree → Tree → Tree
side_or first a b t = a
side_or second a b t = b
side_or neither a b t = t

-- `when` on constant 00 or 01 becomes its chosen side
unfoldable pub fold_when : Given → Tree → Tree → Tree → Tree
fold_when (given x) c a b = side_or (side_of x) a b (when c a b)
fold_when nothing c a b = when c a b

module _ (C : Calls) where
  -- a call whose arguments are all constants and which has a value becomes that constant; else it stays, with folded arguments
  unfoldable pub fold_one : ℕ → Tree → Tree
  fold_one k a = or_stays (known (constant_of a) (λ x. gives (C.of_one k x))) (one k a)

  unfoldable pub fold_two : ℕ → Tree → Tree → Tree
  fold_two k a b = or_stays (known (constant_of a) (λ x. known (constant_of b) (λ y. gives (C.of_two k x y)))) (two k a b)

  unfoldable pub fold_three : ℕ → Tree → Tree → Tree → Tree
  fold_three k a b c = or_stays (known (constant_of a) (λ x. known (constant_of b) (λ y. known (constant_of c) (λ z. gives (C.of_three k x y z))))) (three k a b c)

  unfoldable pub fold_four : ℕ → Tree → Tree → Tree → Tree → Tree
  fold_four k a b c d =
      or_stays (known (constant_of a) (λ x. known (constant_of b) (λ y. known (constant_of c) (λ z. known (constant_of d) (λ w. gives (C.of_four k x y z w))))))
      (four k a b c d)

  unfoldable pub fold : Binding → Tree → Tree
  fold K (literal v) = literal v
  fold K (bound n) = or_stays (K n) (bound n)
  fold K (row n) = row n
  fold K (run n) = run n
  fold K (one k a) = fold_one k (fold K a)
  fold K (two k a b) = fold_two k (fold K a) (fold K b)
  fold K (three k a b c) = fold_three k (fold K a) (fold K b) (fold K c)
  fold K (four k a b c d) = fold_four k (fold K a) (fold K b) (fold K c) (fold K d)
  fold K (when c a b) = fold_when (constant_of (fold K c)) (fold K c) (fold K a) (fold K b)
