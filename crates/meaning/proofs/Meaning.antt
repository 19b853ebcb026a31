-- Folding changes no meaning (document 01, section 5; the first half of what it owes).
use mathlib.Core.Path.{◌≡◌, refl, ap, sym, ◌∙◌}
use Prim.Native.Nat.{ℕ}
use Rattle.common.specs.Answer.{Value, Answer, then}
use Rattle.common.specs.Answer.Answer.{value}
use Rattle.tree.specs.Tree.{Tree}
use Rattle.tree.specs.Tree.Tree.{literal, bound, row, run, one, two, three, four, when}
use Rattle.tree.specs.Names.{Given, Binding, Running, unbound}
use Rattle.tree.specs.Names.Given.{given, nothing}
use Rattle.meaning.specs.Mean.{Calls, named, Side, side_of, chosen, mean}
use Rattle.meaning.specs.Mean.Side.{first, second, neither}
use Rattle.meaning.specs.Real.{Cipher, real}
use Rattle.meaning.specs.Fold.{constant_of, known, gives, or_stays, side_or, fold_when, fold_one, fold_two, fold_three, fold_four, fold}
use Rattle.meaning.proofs.Binds.{known_given, gives_given, constant_is}

-- K is what preparing gives the `#` names, K' what may still be given at the run: nothing but what K gives
module _ (C : Calls) (K K' : Binding) (E : Running) (less : (n : ℕ) → K n ≡ nothing → K' n ≡ nothing) where
  stays_mean : (g : Given) (t : Tree) (r : Answer) → ((v : Value) → g ≡ given v → r ≡ value v) → mean C K' E t ≡ r → mean C K' E (or_stays g t) ≡ r
  unfolding mean or_stays
  stays_mean (given v) t r h e = sym (h v refl)
  stays_mean nothing t r h e = e

  -- a constant hands its value on
  then_constant : (a : Tree) (x : Value) (f : Value → Answer) → constant_of a ≡ given x → then (mean C K' E a) f ≡ f x
  unfolding mean then
  then_constant a x f e = rw (constant_is a e)

  bound_mean : (n : ℕ) (g : Given) → K n ≡ g → mean C K' E (or_stays g (bound n)) ≡ named g
  unfolding mean or_stays named
  bound_mean n (given v) e = refl
  bound_mean n nothing e = rw (less n e)

  one_value : (k : ℕ) (a : Tree) (v : Value) → known (constant_of a) (λ x. gives (C.of_one k x)) ≡ given v → mean C K' E (one k a) ≡ value v
  unfolding mean
  one_value k a v e =
      let (x, ex, e1) = known_given (constant_of a) (λ x. gives (C.of_one k x)) e in
      then_constant a x _ ex ∙ gives_given (C.of_one k x) e1

  two_value : (k : ℕ) (a b : Tree) (v : Value) → known (constant_of a) (λ x. known (constant_of b) (λ y. gives (C.of_two k x y))) ≡ given v → mean C K' E (two k a b) ≡ value v
  unfolding mean
  two_value k a b v e =
      let (x, ex, e1) = known_given (constant_of a) (λ x. known (constant_of b) (λ y. gives (C.of_two k x y))) e in
      let (y, ey, e2) = known_given (constant_of b) (λ y. gives (C.of_two k x y)) e1 in
      then_constant a x _ ex ∙ then_constant b y _ ey ∙ gives_given (C.of_two k x y) e2

  three_value : (k : ℕ) (a b c : Tree) (v : Value) → known (constant_of a) (λ x. known (constant_of b) (λ y. known (constant_of c) (λ z. gives (C.of_three k x y z)))) ≡ given v
      → mean C K' E (three k a b c) ≡ value v
  unfolding mean
  three_value k a b c v e =
      let (x, ex, e1) = known_given (constant_of a) (λ x. known (constant_of b) (λ y. known (constant_of c) (λ z. gives (C.of_three k x y z)))) e in
      let (y, ey, e2) = known_given (constant_of b) (λ y. known (constant_of c) (λ z. gives (C.of_three k x y z))) e1 in
      let (z, ez, e3) = known_given (constant_of c) (λ z. gives (C.of_three k x y z)) e2 in
      then_constant a x _ ex ∙ then_constant b y _ ey ∙ then_constant c z _ ez ∙ gives_given (C.of_three k x y z) e3

  four_value : (k : ℕ) (a b c d : Tree) (v : Value) → known (constant_of a) (λ x. known (constant_of b) (λ y. known (constant_of c) (λ z. known (constant_of d) (λ w. gives (C.of_four k x y z w))))) ≡ given v
      → mean C K' E (four k a b c d) ≡ value v
  unfolding mean
  four_value k a b c d v e =
      let (x, ex, e1) = known_given (constant_of a) (λ x. known (constant_of b) (λ y. known (constant_of c) (λ z. known (constant_of d) (λ w. gives (C.of_four k x y z w))))) e in
      let (y, ey, e2) = known_given (constant_of b) (λ y. known (constant_of c) (λ z. known (constant_of d) (λ w. gives (C.of_four k x y z w)))) e1 in
      let (z, ez, e3) = known_given (constant_of c) (λ z. known (constant_of d) (λ w. gives (C.of_four k x y z w))) e2 in
      let (w, ew, e4) = known_given (constant_of d) (λ w. gives (C.of_four k x y z w)) e3 in
      then_constant a x _ ex ∙ then_constant b y _ ey ∙ then_constant c z _ ez ∙ then_constant d w _ ew ∙ gives_given (C.of_four k x y z w) e4

  one_mean : (k : ℕ) (a : Tree) → mean C K' E (fold_one C k a) ≡ mean C K' E (one k a)
  unfolding fold_one
  one_mean k a = stays_mean (known (constant_of a) (λ x. gives (C.of_one k x))) (one k a) (mean C K' E (one k a)) (one_value k a) refl

  two_mean : (k : ℕ) (a b : Tree) → mean C K' E (fold_two C k a b) ≡ mean C K' E (two k a b)
  unfolding fold_two
  two_mean k a b = stays_mean (known (constant_of a) (λ x. known (constant_of b) (λ y. gives (C.of_two k x y)))) (two k a b) (mean C K' E (two k a b)) (two_value k a b) refl

  three_mean : (k : ℕ) (a b c : Tree) → mean C K' E (fold_three C k a b c) ≡ mean C K' E (three k a b c)
  unfolding fold_three
  three_mean k a b c =
      stays_mean (known (constant_of a) (λ x. known (constant_of b) (λ y. known (constant_of c) (λ z. gives (C.of_three k x y z))))) (three k a b c) (mean C K' E (three k a b c)) (three_value k a b c) refl

  four_mean : (k : ℕ) (a b c d : Tree) → mean C K' E (fold_four C k a b c d) ≡ mean C K' E (four k a b c d)
  unfolding fold_four
  four_mean k a b c d =
      stays_mean (known (constant_of a) (λ x. known (constant_of b) (λ y. known (constant_of c) (λ z. known (constant_of d) (λ w. gives (C.of_four k x y z w)))))) (four k a b c d)
      (mean C K' E (four k a b c d)) (four_value k a b c d) refl

  side_mean : (s : Side) (c a b : Tree) (x : Value) → constant_of c ≡ given x → side_of x ≡ s → mean C K' E (side_or s a b (when c a b)) ≡ mean C K' E (when c a b)
  unfolding mean side_or chosen
  side_mean first c a b x e es = sym (then_constant c x _ e ∙ ap (λ s. chosen s (mean C K' E a) (mean C K' E b)) es)
  side_mean second c a b x e es = sym (then_constant c x _ e ∙ ap (λ s. chosen s (mean C K' E a) (mean C K' E b)) es)
  side_mean neither c a b x e es = refl

  when_mean : (c a b : Tree) (g : Given) → constant_of c ≡ g → mean C K' E (fold_when g c a b) ≡ mean C K' E (when c a b)
  unfolding fold_when
  when_mean c a b (given x) e = side_mean (side_of x) c a b x e refl
  when_mean c a b nothing e = refl

  -- the folded tree with K' and the run's values means what the tree means with K and the run's values, refusals included
  pub fold_mean_less : (t : Tree) → mean C K' E (fold C K t) ≡ mean C K E t
  unfolding mean fold
  fold_mean_less (literal v) = refl
  fold_mean_less (bound n) = bound_mean n (K n) refl
  fold_mean_less (row n) = refl
  fold_mean_less (run n) = refl
  fold_mean_less (one k a) = one_mean k (fold C K a) ∙ rw (fold_mean_less a)
  fold_mean_less (two k a b) = two_mean k (fold C K a) (fold C K b) ∙ rw (fold_mean_less a, fold_mean_less b)
  fold_mean_less (three k a b c) = three_mean k (fold C K a) (fold C K b) (fold C K c) ∙ rw (fold_mean_less a, fold_mean_less b, fold_mean_less c)
  fold_mean_less (four k a b c d) =
      four_mean k (fold C K a) (fold C K b) (fold C K c) (fold C K d) ∙ rw (fold_mean_less a, fold_mean_less b, fold_mean_less c, fold_mean_less d)
  fold_mean_less (when c a b) =
      when_mean (fold C K c) (fold C K a) (fold C K b) (constant_of (fold C K c)) refl ∙ rw (fold_mean_less c, fold_mean_less a, fold_mean_less b)

module _ (C : Calls) (K : Binding) (E : Running) (t : Tree) where
  -- with the run list alone: for every tree, every bound list and every run list, the same value or the same number
  pub fold_mean : mean C unbound E (fold C K t) ≡ mean C K E t
  unfolding unbound
  fold_mean = fold_mean_less C K unbound E (λ n e. refl) t

  -- with both lists
  pub fold_mean_both : mean C K E (fold C K t) ≡ mean C K E t
  fold_mean_both = fold_mean_less C K K E (λ n e. e) t

-- the same for the calls of section 5, whatever the cipher calls mean
pub real_fold_mean : (cipher : Cipher) (K : Binding) (E : Running) (t : Tree) → mean (real cipher) unbound E (fold (real cipher) K t) ≡ mean (real cipher) K E t
real_fold_mean cipher = fold_mean (real cipher)
