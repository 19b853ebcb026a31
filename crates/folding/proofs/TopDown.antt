-- Folding read from the top is folding; and what a record folds to, by the answers of its meaning with only `#` bound.
use mathlib.Core.Path.{◌≡◌, refl, ap, ap₂, sym, ◌∙◌}
use mathlib.Core.List.{List, [], ◌∷◌, ◌++◌}
use Prim.Native.Nat.{ℕ}
use native.Mathlib.Omega.{arith}
use Rattle.common.specs.Answer.{Value, Answer}
use Rattle.common.specs.Answer.Answer.{value, refused}
use Rattle.tree.specs.Tree.{Tree}
use Rattle.tree.specs.Tree.Tree.{literal, bound, row, run, one, two, three, four, when}
use Rattle.tree.specs.Bounds.{when_kind}
use Rattle.tree.specs.Names.{Given, Binding, idle}
use Rattle.tree.specs.Names.Given.{given, nothing}
use Rattle.meaning.specs.Mean.{Calls, named, Side, side_of, mean}
use Rattle.meaning.specs.Mean.Side.{first, second, neither}
use Rattle.meaning.specs.Fold.{or_stays, side_or, fold}
use Rattle.meaning.specs.Folded.{NoValue}
use Rattle.meaning.proofs.Binds.{no_value}
use Rattle.meaning.proofs.Constants.{value_folds}
use Rattle.meaning.proofs.TopDown as down
use Rattle.records.specs.Record.{record_of}
use Rattle.records.specs.Encode.{constant_kind, encode}
use Rattle.folding.specs.TopDown.{value_or, choice_of, arguments, kind_of, top_down, folded_all}

pub append_none : (l : List ℕ) → l ++ [] ≡ l
append_none [] = refl
append_none (x ∷ l) = ap (λ k. x ∷ k) (append_none l)

-- a refusal is no value
pub refusal_none : (r : Answer) (n : ℕ) → r ≡ refused n → NoValue r
refusal_none r n e v q = no_value (sym e ∙ q)

module _ (C : Calls) (K : Binding) where
  -- one constructor: its value, or it stays
  value_else : (t t' : Tree) (r : Answer) → mean C K idle t ≡ r → (NoValue (mean C K idle t) → fold C K t ≡ t') → fold C K t ≡ value_or r t'
  unfolding value_or
  value_else t t' (value v) e h = value_folds C K t v e
  value_else t t' (refused n) e h = h (refusal_none (mean C K idle t) n e)

  -- `when` by its condition
  when_side : (c a b : Tree) (x : Value) (s : Side) → mean C K idle c ≡ value x → side_of x ≡ s
      → fold C K (when c a b) ≡ side_or s (fold C K a) (fold C K b) (when (fold C K c) (fold C K a) (fold C K b))
  unfolding side_or
  when_side c a b x first e q = down.when_first C K c a b x e q
  when_side c a b x second e q = down.when_second C K c a b x e q
  when_side c a b x neither e q = down.when_neither C K c a b x e q

  pub when_choice : (c a b : Tree) (r : Answer) → mean C K idle c ≡ r
      → fold C K (when c a b) ≡ side_or (choice_of r) (fold C K a) (fold C K b) (when (fold C K c) (fold C K a) (fold C K b))
  unfolding choice_of side_or
  when_choice c a b (value x) e = when_side c a b x (side_of x) e refl
  when_choice c a b (refused n) e = down.when_open C K c a b (refusal_none (mean C K idle c) n e)

  bound_else : (n : ℕ) (g : Given) → or_stays g (bound n) ≡ value_or (named g) (bound n)
  unfolding or_stays value_or named
  bound_else n (given v) = refl
  bound_else n nothing = refl

  -- folding from the top is folding bottom up, as section 5 says it
  pub top_down_lem : (t : Tree) → top_down C K t ≡ fold C K t
  unfolding top_down
  top_down_lem (literal v) = unfold fold in refl
  top_down_lem (bound n) = unfold fold mean in sym (bound_else n (K n))
  top_down_lem (row n) = unfold fold in refl
  top_down_lem (run n) = unfold fold in refl
  top_down_lem (one k a) =
      ap (λ x. value_or (mean C K idle (one k a)) (one k x)) (top_down_lem a) ∙ sym (value_else (one k a) _ (mean C K idle (one k a)) refl (down.one_stays C K k a))
  top_down_lem (two k a b) =
      ap₂ (λ (x y : Tree). value_or (mean C K idle (two k a b)) (two k x y)) (top_down_lem a) (top_down_lem b)
      ∙ sym (value_else (two k a b) _ (mean C K idle (two k a b)) refl (down.two_stays C K k a b))
  top_down_lem (three k a b c) =
      ap₂ (λ (x y : Tree). value_or (mean C K idle (three k a b c)) (three k x y (top_down C K c))) (top_down_lem a) (top_down_lem b)
      ∙ ap (λ z. value_or (mean C K idle (three k a b c)) (three k (fold C K a) (fold C K b) z)) (top_down_lem c)
      ∙ sym (value_else (three k a b c) _ (mean C K idle (three k a b c)) refl (down.three_stays C K k a b c))
  top_down_lem (four k a b c d) =
      ap₂ (λ (x y : Tree). value_or (mean C K idle (four k a b c d)) (four k x y (top_down C K c) (top_down C K d))) (top_down_lem a) (top_down_lem b)
      ∙ ap₂ (λ (x y : Tree). value_or (mean C K idle (four k a b c d)) (four k (fold C K a) (fold C K b) x y)) (top_down_lem c) (top_down_lem d)
      ∙ sym (value_else (four k a b c d) _ (mean C K idle (four k a b c d)) refl (down.four_stays C K k a b c d))
  top_down_lem (when c a b) =
      ap₂ (λ (x y : Tree). value_or (mean C K idle (when c a b)) (side_or (choice_of (mean C K idle c)) x y (when (top_down C K c) x y))) (top_down_lem a) (top_down_lem b)
      ∙ ap (λ z. value_or (mean C K idle (when c a b)) (side_or (choice_of (mean C K idle c)) (fold C K a) (fold C K b) (when z (fold C K a) (fold C K b)))) (top_down_lem c)
      ∙ sym (value_else (when c a b) _ (mean C K idle (when c a b)) refl (λ n. when_choice c a b (mean C K idle c) refl))

  -- a value's bytes
  pub constant_bytes : (t : Tree) (v : Value) → mean C K idle t ≡ value v → encode (fold C K t) ≡ record_of constant_kind v
  unfolding encode
  constant_bytes t v e = ap encode (value_folds C K t v e)

  named_none : (g : Given) → NoValue (named g) → g ≡ nothing
  unfolding named
  named_none (given v) n = absurd (n v refl)
  named_none nothing n = refl

  no_cons : (t : Tree) (ts : List Tree) → t ∷ ts ≡ [] → ⊥
  no_cons t ts e = let z : ◌≡◌ {A = ℕ} 0 1 = cc in omega arith

  -- a leaf without a value stays
  pub leaf_stays : (t : Tree) → arguments t ≡ [] → NoValue (mean C K idle t) → fold C K t ≡ t
  unfolding arguments mean fold or_stays
  leaf_stays (literal v) e n = absurd (n v refl)
  leaf_stays (bound k) e n = ap (λ g. or_stays g (bound k)) (named_none (K k) n)
  leaf_stays (row k) e n = refl
  leaf_stays (run k) e n = refl
  leaf_stays (one k a) e n = absurd (no_cons a [] e)
  leaf_stays (two k a b) e n = absurd (no_cons a _ e)
  leaf_stays (three k a b c) e n = absurd (no_cons a _ e)
  leaf_stays (four k a b c d) e n = absurd (no_cons a _ e)
  leaf_stays (when c a b) e n = absurd (no_cons c _ e)

  -- a `when` whose condition chooses neither side
  unfoldable pub Open : Tree → Type 0
  Open (literal v) = Unit {0}
  Open (bound n) = Unit {0}
  Open (row n) = Unit {0}
  Open (run n) = Unit {0}
  Open (one k a) = Unit {0}
  Open (two k a b) = Unit {0}
  Open (three k a b c) = Unit {0}
  Open (four k a b c d) = Unit {0}
  Open (when c a b) = choice_of (mean C K idle c) ≡ neither

  -- a call without a value stays: its head and its folded arguments
  pub call_bytes : (t : Tree) → (arguments t ≡ [] → ⊥) → NoValue (mean C K idle t) → Open t → encode (fold C K t) ≡ record_of (kind_of t) (folded_all C K (arguments t))
  unfolding arguments kind_of folded_all encode Open side_or
  call_bytes (literal v) s n o = absurd (s refl)
  call_bytes (bound k) s n o = absurd (s refl)
  call_bytes (row k) s n o = absurd (s refl)
  call_bytes (run k) s n o = absurd (s refl)
  call_bytes (one k a) s n o = ap encode (down.one_stays C K k a n) ∙ ap (record_of k) (sym (append_none (encode (fold C K a))))
  call_bytes (two k a b) s n o =
      ap encode (down.two_stays C K k a b n) ∙ ap (λ x. record_of k (encode (fold C K a) ++ x)) (sym (append_none (encode (fold C K b))))
  call_bytes (three k a b c) s n o =
      ap encode (down.three_stays C K k a b c n) ∙ ap (λ x. record_of k (encode (fold C K a) ++ (encode (fold C K b) ++ x))) (sym (append_none (encode (fold C K c))))
  call_bytes (four k a b c d) s n o =
      ap encode (down.four_stays C K k a b c d n)
      ∙ ap (λ x. record_of k (encode (fold C K a) ++ (encode (fold C K b) ++ (encode (fold C K c) ++ x)))) (sym (append_none (encode (fold C K d))))
  call_bytes (when c a b) s n o =
      ap encode (when_choice c a b (mean C K idle c) refl ∙ ap (λ s. side_or s (fold C K a) (fold C K b) (when (fold C K c) (fold C K a) (fold C K b))) o)
      ∙ ap (λ x. record_of when_kind (encode (fold C K c) ++ (encode (fold C K a) ++ x))) (sym (append_none (encode (fold C K b))))

  -- a chosen side alone is left
  pub first_side : (c a b : Tree) → choice_of (mean C K idle c) ≡ first → fold C K (when c a b) ≡ fold C K a
  unfolding side_or
  first_side c a b e = when_choice c a b (mean C K idle c) refl ∙ ap (λ s. side_or s (fold C K a) (fold C K b) (when (fold C K c) (fold C K a) (fold C K b))) e

  pub second_side : (c a b : Tree) → choice_of (mean C K idle c) ≡ second → fold C K (when c a b) ≡ fold C K b
  unfolding side_or
  second_side c a b e = when_choice c a b (mean C K idle c) refl ∙ ap (λ s. side_or s (fold C K a) (fold C K b) (when (fold C K c) (fold C K a) (fold C K b))) e
