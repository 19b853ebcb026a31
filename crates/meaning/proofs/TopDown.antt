-- Folding read from the top: what has a value is that constant; else a call stays with its folded arguments, in their places.
use mathlib.Core.Path.{◌≡◌, refl, ap, ◌∙◌}
use Prim.Native.Nat.{ℕ}
use Rattle.common.specs.Answer.{Value}
use Rattle.common.specs.Answer.Answer.{value}
use Rattle.tree.specs.Tree.{Tree}
use Rattle.tree.specs.Tree.Tree.{one, two, three, four, when}
use Rattle.tree.specs.Names.{Given, Binding, idle}
use Rattle.tree.specs.Names.Given.{given, nothing}
use Rattle.meaning.specs.Mean.{Calls, side_of, mean}
use Rattle.meaning.specs.Mean.Side.{first, second, neither}
use Rattle.meaning.specs.Fold.{constant_of, or_stays, side_or, fold_when, fold_one, fold_two, fold_three, fold_four, fold}
use Rattle.meaning.specs.Folded.{NoValue}
use Rattle.meaning.proofs.Binds.{constant_is}
use Rattle.meaning.proofs.Constants.{value_folds, constant_always}

module _ (C : Calls) (K : Binding) where
  keeps : (g : Given) (t t' : Tree) → fold C K t ≡ or_stays g t' → NoValue (mean C K idle t) → fold C K t ≡ t'
  unfolding or_stays
  keeps (given v) t t' e n = absurd (n v (constant_always C K t v e idle))
  keeps nothing t t' e n = e

  -- a call that has no value with only `#` bound stays
  pub one_stays : (k : ℕ) (a : Tree) → NoValue (mean C K idle (one k a)) → fold C K (one k a) ≡ one k (fold C K a)
  unfolding fold fold_one
  one_stays k a n = keeps _ (one k a) (one k (fold C K a)) refl n

  pub two_stays : (k : ℕ) (a b : Tree) → NoValue (mean C K idle (two k a b)) → fold C K (two k a b) ≡ two k (fold C K a) (fold C K b)
  unfolding fold fold_two
  two_stays k a b n = keeps _ (two k a b) (two k (fold C K a) (fold C K b)) refl n

  pub three_stays : (k : ℕ) (a b c : Tree) → NoValue (mean C K idle (three k a b c)) → fold C K (three k a b c) ≡ three k (fold C K a) (fold C K b) (fold C K c)
  unfolding fold fold_three
  three_stays k a b c n = keeps _ (three k a b c) (three k (fold C K a) (fold C K b) (fold C K c)) refl n

  pub four_stays : (k : ℕ) (a b c d : Tree) → NoValue (mean C K idle (four k a b c d)) → fold C K (four k a b c d) ≡ four k (fold C K a) (fold C K b) (fold C K c) (fold C K d)
  unfolding fold fold_four
  four_stays k a b c d n = keeps _ (four k a b c d) (four k (fold C K a) (fold C K b) (fold C K c) (fold C K d)) refl n

  -- a condition that has a value chooses
  chooses : (c a b : Tree) (x : Value) → mean C K idle c ≡ value x → fold C K (when c a b) ≡ side_or (side_of x) (fold C K a) (fold C K b) (when (fold C K c) (fold C K a) (fold C K b))
  unfolding fold fold_when constant_of
  chooses c a b x e =
      ap (λ t. fold_when (constant_of t) (fold C K c) (fold C K a) (fold C K b)) (value_folds C K c x e)

  pub when_first : (c a b : Tree) (x : Value) → mean C K idle c ≡ value x → side_of x ≡ first → fold C K (when c a b) ≡ fold C K a
  unfolding side_or
  when_first c a b x e s = chooses c a b x e ∙ ap (λ s. side_or s (fold C K a) (fold C K b) (when (fold C K c) (fold C K a) (fold C K b))) s

  pub when_second : (c a b : Tree) (x : Value) → mean C K idle c ≡ value x → side_of x ≡ second → fold C K (when c a b) ≡ fold C K b
  unfolding side_or
  when_second c a b x e s = chooses c a b x e ∙ ap (λ s. side_or s (fold C K a) (fold C K b) (when (fold C K c) (fold C K a) (fold C K b))) s

  pub when_neither : (c a b : Tree) (x : Value) → mean C K idle c ≡ value x → side_of x ≡ neither → fold C K (when c a b) ≡ when (fold C K c) (fold C K a) (fold C K b)
  unfolding side_or
  when_neither c a b x e s = chooses c a b x e ∙ ap (λ s. side_or s (fold C K a) (fold C K b) (when (fold C K c) (fold C K a) (fold C K b))) s

  open-when : (c a b : Tree) (g : Given) → constant_of (fold C K c) ≡ g → NoValue (mean C K idle c) → fold_when g (fold C K c) (fold C K a) (fold C K b) ≡ when (fold C K c) (fold C K a) (fold C K b)
  unfolding fold_when
  open-when c a b (given x) e n = absurd (n x (constant_always C K c x (constant_is (fold C K c) e) idle))
  open-when c a b nothing e n = refl

  -- a condition that has no value with only `#` bound leaves both sides
  pub when_open : (c a b : Tree) → NoValue (mean C K idle c) → fold C K (when c a b) ≡ when (fold C K c) (fold C K a) (fold C K b)
  unfolding fold
  when_open c a b n = open-when c a b (constant_of (fold C K c)) refl n
