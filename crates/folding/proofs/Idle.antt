-- A preparing list gives nothing to `$` and `@`: with it a tree means what it means with only `#` bound.
use mathlib.Core.Path.{◌≡◌, refl, ap, ap₂, ◌∙◌}
use mathlib.Core.List.{List}
use Prim.Native.Nat.{ℕ}
use Rattle.common.specs.Answer.{Value, Answer, then}
use Rattle.common.specs.Answer.Answer.{value, refused}
use Rattle.tree.specs.Tree.{Tree}
use Rattle.tree.specs.Tree.Tree.{literal, bound, row, run, one, two, three, four, when}
use Rattle.tree.specs.Bounds.{Bytes}
use Rattle.tree.specs.Names.{Binding, Running, unbound, idle}
use Rattle.meaning.specs.Mean.{Calls, named, side_of, chosen, mean}
use Rattle.lists.specs.Entries.{Entry, preparing, list_of}
use Rattle.lists.specs.Entries.Listed.{listed}
use Rattle.lists.specs.Given.{binding_of, running_of}
use Rattle.listing.proofs.Untaken.{untaken, no_rows, no_runs}

then_same : (r q : Answer) (f g : Value → Answer) → r ≡ q → ((x : Value) → f x ≡ g x) → then r f ≡ then q g
unfolding then
then_same (value x) q f g e h = h x ∙ ap (λ r. then r g) e
then_same (refused n) q f g e h = ap (λ r. then r g) e

-- the meaning asks a run's values name by name
module _ (C : Calls) (K : Binding) (E F : Running) (rows : (n : ℕ) → E.rows n ≡ F.rows n) (runs : (n : ℕ) → E.runs n ≡ F.runs n) where
  pub mean_same : (t : Tree) → mean C K E t ≡ mean C K F t
  unfolding mean
  mean_same (literal v) = refl
  mean_same (bound n) = refl
  mean_same (row n) = ap named (rows n)
  mean_same (run n) = ap named (runs n)
  mean_same (one k a) = ap (λ r. then r (λ x. C.of_one k x)) (mean_same a)
  mean_same (two k a b) = then_same _ _ _ _ (mean_same a) (λ x. ap (λ r. then r (λ y. C.of_two k x y)) (mean_same b))
  mean_same (three k a b c) =
      then_same _ _ _ _ (mean_same a) (λ x. then_same _ _ _ _ (mean_same b) (λ y. ap (λ r. then r (λ z. C.of_three k x y z)) (mean_same c)))
  mean_same (four k a b c d) =
      then_same _ _ _ _ (mean_same a) (λ x.
      then_same _ _ _ _ (mean_same b) (λ y. then_same _ _ _ _ (mean_same c) (λ z. ap (λ r. then r (λ w. C.of_four k x y z w)) (mean_same d))))
  mean_same (when c a b) = then_same _ _ _ _ (mean_same c) (λ x. ap₂ (λ (r q : Answer). chosen (side_of x) r q) (mean_same a) (mean_same b))

pub prepared_idle : (C : Calls) (list : List ℕ) (es : List Entry) → Bytes list → list_of preparing list ≡ listed es
    → (t : Tree) → mean C (binding_of es) (running_of es) t ≡ mean C (binding_of es) idle t
unfolding running_of idle unbound
prepared_idle C list es hb el =
    mean_same C (binding_of es) (running_of es) idle (λ n. untaken preparing list es hb el _ (no_rows n)) (λ n. untaken preparing list es hb el _ (no_runs n))
