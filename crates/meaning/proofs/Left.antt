-- What is left after folding (document 01, sections 5 and 9): no `#`, nothing that could be folded, and every call that stays in its place.
use mathlib.Core.Path.{◌≡◌, refl, ap, sym, ◌∙◌}
use mathlib.Core.List.{[], ◌∷◌}
use Prim.Native.Nat.{ℕ}
use native.Mathlib.Omega.{arith}
use Rattle.common.specs.Choice.{pick}
use Rattle.common.specs.Answer.{Value}
use Rattle.tree.specs.Tree.{Tree}
use Rattle.tree.specs.Tree.Tree.{literal, bound, row, run, one, two, three, four, when}
use Rattle.tree.specs.Names.{Given, Binding, idle, NoBound, AllBound}
use Rattle.tree.specs.Names.Given.{given, nothing}
use Rattle.meaning.specs.Mean.{Calls, Side, side_of, mean}
use Rattle.meaning.specs.Mean.Side.{first, second, neither}
use Rattle.meaning.specs.Fold.{constant_of, known, gives, or_stays, side_or, fold_when, fold_one, fold_two, fold_three, fold_four, fold}
use Rattle.meaning.specs.Folded.{Folded, Becomes, NoValue}
use Rattle.meaning.specs.Folded.Becomes.{constant, bound_stays, row_stays, run_stays, one_stays, two_stays, three_stays, four_stays, when_stays, when_first, when_second}
use Rattle.meaning.proofs.Binds.{no_given, same_given, constant_is, side_first, side_second}
use Rattle.meaning.proofs.Constants.{constant_always}

-- what holds of every constant and of the tree holds of what it becomes
stays_all : (P : Tree → Type 0) (g : Given) (t : Tree) → ((v : Value) → P (literal v)) → (g ≡ nothing → P t) → P (or_stays g t)
unfolding or_stays
stays_all P (given v) t l h = l v
stays_all P nothing t l h = h refl

side_all : (P : Tree → Type 0) (s : Side) (a b t : Tree) → P a → P b → (s ≡ neither → P t) → P (side_or s a b t)
unfolding side_or
side_all P first a b t ha hb ht = ha
side_all P second a b t ha hb ht = hb
side_all P neither a b t ha hb ht = ht refl

when_all : (P : Tree → Type 0) (g : Given) (c a b : Tree) → P a → P b → ((x : Value) → g ≡ given x → side_of x ≡ neither → P (when c a b)) → (g ≡ nothing → P (when c a b)) → P (fold_when g c a b)
unfolding fold_when
when_all P (given x) c a b ha hb hn h = side_all P (side_of x) a b (when c a b) ha hb (hn x refl)
when_all P nothing c a b ha hb hn h = h refl

-- a condition that is no constant, or one that chooses no side, is neither 00 nor 01
open-condition : (c : Tree) (x : Value) → constant_of c ≡ nothing → c ≡ literal x → ⊥
unfolding constant_of
open-condition c x e h = no_given (sym e ∙ ap constant_of h)

first_neither : first ≡ neither → ⊥
first_neither e = let z : ◌≡◌ {A = ℕ} 0 1 = cc in omega arith

second_neither : second ≡ neither → ⊥
second_neither e = let z : ◌≡◌ {A = ℕ} 0 1 = cc in omega arith

not_01 : (c : Tree) (x : Value) → constant_of c ≡ given x → side_of x ≡ neither → c ≡ literal (0x01 ∷ []) → ⊥
unfolding constant_of side_of pick
not_01 c x e s h = first_neither (ap side_of (same_given (sym (ap constant_of h) ∙ e)) ∙ s)

not_00 : (c : Tree) (x : Value) → constant_of c ≡ given x → side_of x ≡ neither → c ≡ literal (0x00 ∷ []) → ⊥
unfolding constant_of side_of pick
not_00 c x e s h = second_neither (ap side_of (same_given (sym (ap constant_of h) ∙ e)) ∙ s)

module _ (C : Calls) (K : Binding) where
  -- no `#` is left where all are bound
  pub no_bound_left : (t : Tree) → AllBound K t → NoBound (fold C K t)
  unfolding fold AllBound NoBound fold_one fold_two fold_three fold_four
  no_bound_left (literal v) h = tt
  no_bound_left (bound n) h = stays_all NoBound (K n) (bound n) (λ v. tt) (λ e. no_given (sym e ∙ h.1))
  no_bound_left (row n) h = tt
  no_bound_left (run n) h = tt
  no_bound_left (one k a) h = stays_all NoBound _ _ (λ v. tt) (λ e. no_bound_left a h)
  no_bound_left (two k a b) h = stays_all NoBound _ _ (λ v. tt) (λ e. (no_bound_left a h.0, no_bound_left b h.1))
  no_bound_left (three k a b c) h = stays_all NoBound _ _ (λ v. tt) (λ e. (no_bound_left a h.0, no_bound_left b h.1, no_bound_left c h.2))
  no_bound_left (four k a b c d) h =
      stays_all NoBound _ _ (λ v. tt) (λ e. (no_bound_left a h.0, no_bound_left b h.1, no_bound_left c h.2, no_bound_left d h.3))
  no_bound_left (when c a b) h =
      let all : NoBound (when (fold C K c) (fold C K a) (fold C K b)) = (no_bound_left c h.0, no_bound_left a h.1, no_bound_left b h.2) in
      when_all NoBound (constant_of (fold C K c)) (fold C K c) (fold C K a) (fold C K b) all.1 all.2 (λ x e s. all) (λ e. all)

  -- constants of which the call has a value do not stay
  one_none : (k : ℕ) (a : Tree) → known (constant_of a) (λ x. gives (C.of_one k x)) ≡ nothing → (x : Value) → a ≡ literal x → NoValue (C.of_one k x)
  unfolding known gives constant_of
  one_none k a e x ea v ev = let g : nothing ≡ given v = sym e ∙ rw (ea, ev) in no_given g

  two_none : (k : ℕ) (a b : Tree) → known (constant_of a) (λ x. known (constant_of b) (λ y. gives (C.of_two k x y))) ≡ nothing → (x y : Value) → a ≡ literal x → b ≡ literal y → NoValue (C.of_two k x y)
  unfolding known gives constant_of
  two_none k a b e x y ea eb v ev = let g : nothing ≡ given v = sym e ∙ rw (ea, eb, ev) in no_given g

  three_none : (k : ℕ) (a b c : Tree) → known (constant_of a) (λ x. known (constant_of b) (λ y. known (constant_of c) (λ z. gives (C.of_three k x y z)))) ≡ nothing
      → (x y z : Value) → a ≡ literal x → b ≡ literal y → c ≡ literal z → NoValue (C.of_three k x y z)
  unfolding known gives constant_of
  three_none k a b c e x y z ea eb ec v ev = let g : nothing ≡ given v = sym e ∙ rw (ea, eb, ec, ev) in no_given g

  four_none : (k : ℕ) (a b c d : Tree) → known (constant_of a) (λ x. known (constant_of b) (λ y. known (constant_of c) (λ z. known (constant_of d) (λ w. gives (C.of_four k x y z w))))) ≡ nothing
      → (x y z w : Value) → a ≡ literal x → b ≡ literal y → c ≡ literal z → d ≡ literal w → NoValue (C.of_four k x y z w)
  unfolding known gives constant_of
  four_none k a b c d e x y z w ea eb ec ed v ev = let g : nothing ≡ given v = sym e ∙ rw (ea, eb, ec, ed, ev) in no_given g

  -- fully folded
  pub all_folded : (t : Tree) → Folded C K (fold C K t)
  unfolding fold Folded fold_one fold_two fold_three fold_four
  all_folded (literal v) = tt
  all_folded (bound n) = stays_all (Folded C K) (K n) (bound n) (λ v. tt) (λ e. e)
  all_folded (row n) = tt
  all_folded (run n) = tt
  all_folded (one k a) = stays_all (Folded C K) _ _ (λ v. tt) (λ e. (all_folded a, one_none k (fold C K a) e))
  all_folded (two k a b) = stays_all (Folded C K) _ _ (λ v. tt) (λ e. (all_folded a, all_folded b, two_none k (fold C K a) (fold C K b) e))
  all_folded (three k a b c) =
      stays_all (Folded C K) _ _ (λ v. tt) (λ e. (all_folded a, all_folded b, all_folded c, three_none k (fold C K a) (fold C K b) (fold C K c) e))
  all_folded (four k a b c d) =
      stays_all (Folded C K) _ _ (λ v. tt) (λ e. (all_folded a, all_folded b, all_folded c, all_folded d, four_none k (fold C K a) (fold C K b) (fold C K c) (fold C K d) e))
  all_folded (when c a b) =
      when_all (Folded C K) (constant_of (fold C K c)) (fold C K c) (fold C K a) (fold C K b) (all_folded a) (all_folded b)
      (λ x e s. (all_folded c, all_folded a, all_folded b, not_01 (fold C K c) x e s, not_00 (fold C K c) x e s))
      (λ e. (all_folded c, all_folded a, all_folded b, open-condition (fold C K c) (0x01 ∷ []) e, open-condition (fold C K c) (0x00 ∷ []) e))

  -- a constant only for what has that value with only `#` bound; what stays, stays in its place
  becomes_or : (t t' : Tree) (g : Given) → fold C K t ≡ or_stays g t' → Becomes C K t t' → Becomes C K t (or_stays g t')
  unfolding or_stays
  becomes_or t t' (given v) e h = constant t v (constant_always C K t v e idle)
  becomes_or t t' nothing e h = h

  becomes_side : (s : Side) (x : Value) (c a b a' b' t : Tree) → side_of x ≡ s → Becomes C K c (literal x) → Becomes C K a a' → Becomes C K b b' → Becomes C K (when c a b) t
      → Becomes C K (when c a b) (side_or s a' b' t)
  unfolding side_or
  becomes_side first x c a b a' b' t e hc ha hb ht = when_first (rw (side_first x e) at hc) ha
  becomes_side second x c a b a' b' t e hc ha hb ht = when_second (rw (side_second x e) at hc) hb
  becomes_side neither x c a b a' b' t e hc ha hb ht = ht

  becomes_when : (g : Given) (c a b c' a' b' : Tree) → constant_of c' ≡ g → Becomes C K c c' → Becomes C K a a' → Becomes C K b b' → Becomes C K (when c a b) (fold_when g c' a' b')
  unfolding fold_when
  becomes_when (given x) c a b c' a' b' e hc ha hb =
      becomes_side (side_of x) x c a b a' b' (when c' a' b') refl (rw (constant_is c' e) at hc) ha hb (when_stays hc ha hb)
  becomes_when nothing c a b c' a' b' e hc ha hb = when_stays hc ha hb

  becomes_bound : (n : ℕ) (g : Given) → K n ≡ g → Becomes C K (bound n) (or_stays g (bound n))
  unfolding or_stays fold
  becomes_bound n (given v) e = constant (bound n) v (constant_always C K (bound n) v (ap (λ g. or_stays g (bound n)) e) idle)
  becomes_bound n nothing e = bound_stays n e

  pub in_place : (t : Tree) → Becomes C K t (fold C K t)
  unfolding fold fold_one fold_two fold_three fold_four mean
  in_place (literal v) = constant (literal v) v refl
  in_place (bound n) = becomes_bound n (K n) refl
  in_place (row n) = row_stays n
  in_place (run n) = run_stays n
  in_place (one k a) = becomes_or (one k a) (one k (fold C K a)) _ refl (one_stays k (in_place a))
  in_place (two k a b) = becomes_or (two k a b) (two k (fold C K a) (fold C K b)) _ refl (two_stays k (in_place a) (in_place b))
  in_place (three k a b c) =
      becomes_or (three k a b c) (three k (fold C K a) (fold C K b) (fold C K c)) _ refl (three_stays k (in_place a) (in_place b) (in_place c))
  in_place (four k a b c d) =
      becomes_or (four k a b c d) (four k (fold C K a) (fold C K b) (fold C K c) (fold C K d)) _ refl (four_stays k (in_place a) (in_place b) (in_place c) (in_place d))
  in_place (when c a b) = becomes_when (constant_of (fold C K c)) c a b (fold C K c) (fold C K a) (fold C K b) refl (in_place c) (in_place a) (in_place b)
