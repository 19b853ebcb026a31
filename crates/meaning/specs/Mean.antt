-- What a recipe means (document 01, section 5), whatever its calls mean.
use Rattle.std.specs.Prelude.{[], ◌∷◌, ℕ, eqb}
use Rattle.common.specs.Choice.{pick}
use Rattle.common.specs.Answer.{Value, Answer, then}
use Rattle.common.specs.Answer.Answer.{value, refused}
use Rattle.tree.specs.Tree.{Tree}
use Rattle.tree.specs.Tree.Tree.{literal, bound, row, run, one, two, three, four, when}
use Rattle.tree.specs.Names.{Given, Binding, Running}
use Rattle.tree.specs.Names.Given.{given, nothing}

-- what the calls of one to four arguments mean, by their kind
pub record Calls : Type 0 where
  pub of_one : ℕ → Value → Answer
  pub of_two : ℕ → Value → Value → Answer
  pub of_three : ℕ → Value → Value → Value → Answer
  pub of_four : ℕ → Value → Value → Value → Value → Answer

-- a name's value; 25, a name without a value
unfoldable pub named : Given → Answer
named (given v) = value v
named nothing = refused 25

-- the side that `when` takes
pub data Side : Type 0 where
  first second neither : Side

-- 01 for the first, 00 for the second
unfoldable pub side_of : Value → Side
side_of [] = neither
side_of (c ∷ []) = pick (eqb c 0x01) first (pick (eqb c 0x00) second neither)
side_of (c ∷ (d ∷ r)) = neither

-- only the chosen side counts; 11, c not 00 or 01
unfoldable pub chosen : Side → Answer → Answer → Answer
chosen first a b = a
chosen second a b = b
chosen neither a b = refused 11

-- arguments left to right, the first refusal is the answer; then the call's own checks
unfoldable pub mean : Calls → Binding → Running → Tree → Answer
mean C K E (literal v) = value v
mean C K E (bound n) = named (K n)
mean C K E (row n) = named (E.rows n)
mean C K E (run n) = named (E.runs n)
mean C K E (one k a) = then (mean C K E a) (λ x. C.of_one k x)
mean C K E (two k a b) = then (mean C K E a) (λ x. then (mean C K E b) (λ y. C.of_two k x y))
mean C K E (three k a b c) = then (mean C K E a) (λ x. then (mean C K E b) (λ y. then (mean C K E c) (λ z. C.of_three k x y z)))
mean C K E (four k a b c d) = then (mean C K E a) (λ x. then (mean C K E b) (λ y. then (mean C K E c) (λ z. then (mean C K E d) (λ w. C.of_four k x y z w))))
mean C K E (when c a b) = then (mean C K E c) (λ x. chosen (side_of x) (mean C K E a) (mean C K E b))
