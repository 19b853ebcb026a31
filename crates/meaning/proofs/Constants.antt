-- What becomes a constant, and what never does (document 01, section 5).
use mathlib.Core.Path.{◌≡◌, refl, ap, sym, ◌∙◌}
use mathlib.Core.Logic.{◌↔◌}
use Prim.Native.Nat.{ℕ}
use Rattle.common.specs.Answer.{Value, Answer, then}
use Rattle.common.specs.Answer.Answer.{value}
use Rattle.tree.specs.Tree.{Tree}
use Rattle.tree.specs.Tree.Tree.{literal, bound, row, run, one, two, three, four, when}
use Rattle.tree.specs.Names.{Binding, Running, unbound, idle}
use Rattle.meaning.specs.Mean.{Calls, named, Side, side_of, chosen, mean}
use Rattle.meaning.specs.Mean.Side.{first, second, neither}
use Rattle.meaning.specs.Fold.{constant_of, known, gives, or_stays, side_or, fold_when, fold_one, fold_two, fold_three, fold_four, fold}
use Rattle.meaning.specs.Folded.{Needs}
use Rattle.meaning.proofs.Binds.{no_value, same_value, then_value, named_value}
use Rattle.meaning.proofs.Meaning.{fold_mean}

module _ (C : Calls) where
  -- a call of constants that has a value becomes it
  one_folds : (k : ℕ) (a : Tree) (x v : Value) → a ≡ literal x → C.of_one k x ≡ value v → fold_one C k a ≡ literal v
  unfolding fold_one constant_of known gives or_stays
  one_folds k a x v ea e = rw (ea, e)

  two_folds : (k : ℕ) (a b : Tree) (x y v : Value) → a ≡ literal x → b ≡ literal y → C.of_two k x y ≡ value v → fold_two C k a b ≡ literal v
  unfolding fold_two constant_of known gives or_stays
  two_folds k a b x y v ea eb e = rw (ea, eb, e)

  three_folds : (k : ℕ) (a b c : Tree) (x y z v : Value) → a ≡ literal x → b ≡ literal y → c ≡ literal z → C.of_three k x y z ≡ value v → fold_three C k a b c ≡ literal v
  unfolding fold_three constant_of known gives or_stays
  three_folds k a b c x y z v ea eb ec e = rw (ea, eb, ec, e)

  four_folds : (k : ℕ) (a b c d : Tree) (x y z w v : Value) → a ≡ literal x → b ≡ literal y → c ≡ literal z → d ≡ literal w → C.of_four k x y z w ≡ value v → fold_four C k a b c d ≡ literal v
  unfolding fold_four constant_of known gives or_stays
  four_folds k a b c d x y z w v ea eb ec ed e = rw (ea, eb, ec, ed, e)

side_folds : (s : Side) (a b t : Tree) (ra rb : Answer) (v : Value) → (ra ≡ value v → a ≡ literal v) → (rb ≡ value v → b ≡ literal v) → chosen s ra rb ≡ value v → side_or s a b t ≡ literal v
unfolding chosen side_or
side_folds first a b t ra rb v ha hb e = ha e
side_folds second a b t ra rb v ha hb e = hb e
side_folds neither a b t ra rb v ha hb e = absurd (no_value e)

when_folds : (c a b : Tree) (x : Value) (ra rb : Answer) (v : Value) → c ≡ literal x → (ra ≡ value v → a ≡ literal v) → (rb ≡ value v → b ≡ literal v) → chosen (side_of x) ra rb ≡ value v
    → fold_when (constant_of c) c a b ≡ literal v
unfolding fold_when constant_of
when_folds c a b x ra rb v ec ha hb e = ap (λ t. fold_when (constant_of t) t a b) ec ∙ side_folds (side_of x) a b (when (literal x) a b) ra rb v ha hb e

module _ (C : Calls) (K : Binding) where
  -- a tree that has a value when only the `#` names are bound folds to it
  pub value_folds : (t : Tree) (v : Value) → mean C K idle t ≡ value v → fold C K t ≡ literal v
  unfolding mean fold idle unbound or_stays named
  value_folds (literal w) v e = ap literal (same_value e)
  value_folds (bound n) v e = ap (λ g. or_stays g (bound n)) (named_value (K n) e)
  value_folds (row n) v e = absurd (no_value e)
  value_folds (run n) v e = absurd (no_value e)
  value_folds (one k a) v e =
      let (x, ex, e1) = then_value (mean C K idle a) (λ x. C.of_one k x) e in
      one_folds C k (fold C K a) x v (value_folds a x ex) e1
  value_folds (two k a b) v e =
      let (x, ex, e1) = then_value (mean C K idle a) (λ x. then (mean C K idle b) (λ y. C.of_two k x y)) e in
      let (y, ey, e2) = then_value (mean C K idle b) (λ y. C.of_two k x y) e1 in
      two_folds C k (fold C K a) (fold C K b) x y v (value_folds a x ex) (value_folds b y ey) e2
  value_folds (three k a b c) v e =
      let (x, ex, e1) = then_value (mean C K idle a) (λ x. then (mean C K idle b) (λ y. then (mean C K idle c) (λ z. C.of_three k x y z))) e in
      let (y, ey, e2) = then_value (mean C K idle b) (λ y. then (mean C K idle c) (λ z. C.of_three k x y z)) e1 in
      let (z, ez, e3) = then_value (mean C K idle c) (λ z. C.of_three k x y z) e2 in
      three_folds C k (fold C K a) (fold C K b) (fold C K c) x y z v (value_folds a x ex) (value_folds b y ey) (value_folds c z ez) e3
  value_folds (four k a b c d) v e =
      let (x, ex, e1) = then_value (mean C K idle a) (λ x. then (mean C K idle b) (λ y. then (mean C K idle c) (λ z. then (mean C K idle d) (λ w. C.of_four k x y z w)))) e in
      let (y, ey, e2) = then_value (mean C K idle b) (λ y. then (mean C K idle c) (λ z. then (mean C K idle d) (λ w. C.of_four k x y z w))) e1 in
      let (z, ez, e3) = then_value (mean C K idle c) (λ z. then (mean C K idle d) (λ w. C.of_four k x y z w)) e2 in
      let (w, ew, e4) = then_value (mean C K idle d) (λ w. C.of_four k x y z w) e3 in
      four_folds C k (fold C K a) (fold C K b) (fold C K c) (fold C K d) x y z w v (value_folds a x ex) (value_folds b y ey) (value_folds c z ez) (value_folds d w ew) e4
  value_folds (when c a b) v e =
      let (x, ex, e1) = then_value (mean C K idle c) (λ x. chosen (side_of x) (mean C K idle a) (mean C K idle b)) e in
      when_folds (fold C K c) (fold C K a) (fold C K b) x (mean C K idle a) (mean C K idle b) v (value_folds c x ex) (value_folds a v) (value_folds b v) e1

  -- a tree that folds to a constant has that value at every run
  pub constant_always : (t : Tree) (v : Value) → fold C K t ≡ literal v → (E : Running) → mean C K E t ≡ value v
  unfolding mean
  constant_always t v e E = sym (fold_mean C K E t) ∙ ap (mean C unbound E) e

  -- a tree folds to a constant exactly if it has that value when only the `#` names are bound
  pub constant_exactly : (t : Tree) (v : Value) → (fold C K t ≡ literal v) ↔ (mean C K idle t ≡ value v)
  constant_exactly t v = (λ e. constant_always t v e idle, value_folds t v)

  -- a row or run name is never made into a constant
  pub row_never : (n : ℕ) → fold C K (row n) ≡ row n
  unfolding fold
  row_never n = refl

  pub run_never : (n : ℕ) → fold C K (run n) ≡ run n
  unfolding fold
  run_never n = refl

  -- nor is a tree whose meaning needs one
  pub needs_never : (t : Tree) (v : Value) → Needs C K t → fold C K t ≡ literal v → ⊥
  needs_never t v n e = n.differ (constant_always t v e n.now ∙ sym (constant_always t v e n.later))
