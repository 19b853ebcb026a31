-- One inversion law for each way of handing a result on.
use mathlib.Core.Path.{◌≡◌, refl, ap, sym}
use mathlib.Core.List.{[], ◌∷◌}
use mathlib.Core.Bool.{Bool, true, false}
use Prim.Native.Nat.{ℕ}
use native.Mathlib.Omega.{arith}
use lib.Dec.{eqb}
use borrow.Author.Tests.{eqb-true}
use Rattle.common.specs.Choice.{pick}
use Rattle.common.specs.Answer.{Value, Answer, then}
use Rattle.common.specs.Answer.Answer.{value, refused}
use Rattle.tree.specs.Tree.{Tree}
use Rattle.tree.specs.Tree.Tree.{literal, bound, row, run, one, two, three, four, when}
use Rattle.tree.specs.Names.{Given}
use Rattle.tree.specs.Names.Given.{given, nothing}
use Rattle.meaning.specs.Mean.{named, side_of}
use Rattle.meaning.specs.Mean.Side.{first, second, neither}
use Rattle.meaning.specs.Fold.{constant_of, known, gives}

pub no_value : {n : ℕ} {v : Value} → refused n ≡ value v → ⊥
no_value e = let z : ◌≡◌ {A = ℕ} 0 1 = cc in omega arith

pub no_given : {v : Value} → nothing ≡ given v → ⊥
no_given e = let z : ◌≡◌ {A = ℕ} 0 1 = cc in omega arith

pub same_value : {v w : Value} → value v ≡ value w → v ≡ w
same_value e = cc

pub same_given : {v w : Value} → given v ≡ given w → v ≡ w
same_given e = cc

pub same_literal : {v w : Value} → literal v ≡ literal w → v ≡ w
same_literal e = cc

pub then_value : (r : Answer) (f : Value → Answer) {v : Value} → then r f ≡ value v → (x : Value) × (r ≡ value x) × (f x ≡ value v)
unfolding then
then_value (value x) f e = (x, refl, e)
then_value (refused n) f e = absurd (no_value e)

pub known_given : (g : Given) (f : Value → Given) {v : Value} → known g f ≡ given v → (x : Value) × (g ≡ given x) × (f x ≡ given v)
unfolding known
known_given (given x) f e = (x, refl, e)
known_given nothing f e = absurd (no_given e)

pub gives_given : (r : Answer) {v : Value} → gives r ≡ given v → r ≡ value v
unfolding gives
gives_given (value x) e = ap value (same_given e)
gives_given (refused n) e = absurd (no_given e)

pub named_value : (g : Given) {v : Value} → named g ≡ value v → g ≡ given v
unfolding named
named_value (given x) e = ap given (same_value e)
named_value nothing e = absurd (no_value e)

pub constant_is : (t : Tree) {v : Value} → constant_of t ≡ given v → t ≡ literal v
unfolding constant_of
constant_is (literal x) e = ap literal (same_given e)
constant_is (bound n) e = absurd (no_given e)
constant_is (row n) e = absurd (no_given e)
constant_is (run n) e = absurd (no_given e)
constant_is (one k a) e = absurd (no_given e)
constant_is (two k a b) e = absurd (no_given e)
constant_is (three k a b c) e = absurd (no_given e)
constant_is (four k a b c d) e = absurd (no_given e)
constant_is (when c a b) e = absurd (no_given e)

-- the side that is chosen, and what chooses it
no_first : neither ≡ first → ⊥
no_first e = let z : ◌≡◌ {A = ℕ} 0 1 = cc in omega arith

no_second : neither ≡ second → ⊥
no_second e = let z : ◌≡◌ {A = ℕ} 0 1 = cc in omega arith

second_first : second ≡ first → ⊥
second_first e = let z : ◌≡◌ {A = ℕ} 0 1 = cc in omega arith

first_byte : (c : ℕ) (p q : Bool) → eqb c 0x01 ≡ p → pick p first (pick q second neither) ≡ first → c ≡ 0x01
unfolding pick
first_byte c true q e h = eqb-true c 0x01 e
first_byte c false true e h = absurd (second_first h)
first_byte c false false e h = absurd (no_first h)

second_byte : (c : ℕ) (p q : Bool) → eqb c 0x00 ≡ q → pick p first (pick q second neither) ≡ second → c ≡ 0x00
unfolding pick
second_byte c true q e h = absurd (second_first (sym h))
second_byte c false true e h = eqb-true c 0x00 e
second_byte c false false e h = absurd (no_second h)

pub side_first : (x : Value) → side_of x ≡ first → x ≡ 0x01 ∷ []
unfolding side_of
side_first [] e = absurd (no_first e)
side_first (c ∷ []) e = ap (λ n. n ∷ []) (first_byte c (eqb c 0x01) (eqb c 0x00) refl e)
side_first (c ∷ (d ∷ r)) e = absurd (no_first e)

pub side_second : (x : Value) → side_of x ≡ second → x ≡ 0x00 ∷ []
unfolding side_of
side_second [] e = absurd (no_second e)
side_second (c ∷ []) e = ap (λ n. n ∷ []) (second_byte c (eqb c 0x01) (eqb c 0x00) refl e)
side_second (c ∷ (d ∷ r)) e = absurd (no_second e)
