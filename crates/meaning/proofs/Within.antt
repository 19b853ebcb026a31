-- Folding keeps the bounds of document 01, section 5.
use mathlib.Core.Path.{◌≡◌, refl, subst}
use Prim.Native.Nat.{ℕ, ◌≤◌}
use native.Mathlib.Omega.{arith}
use native.Mathlib.Nat.{le_trans}
use Rattle.common.specs.Answer.{Value, Answer, then}
use Rattle.common.specs.Answer.Answer.{value, refused}
use Rattle.tree.specs.Tree.{Tree}
use Rattle.tree.specs.Tree.Tree.{literal, bound, row, run, one, two, three, four, when}
use Rattle.tree.specs.Bounds.{depth, nodes, Proper, Small, Within}
use Rattle.tree.specs.Names.{Given, Binding, Running, unbound, idle}
use Rattle.tree.specs.Names.Given.{given, nothing}
use Rattle.meaning.specs.Mean.{Calls, named, Side, side_of, chosen, mean}
use Rattle.meaning.specs.Mean.Side.{first, second, neither}
use Rattle.meaning.specs.Fold.{constant_of, or_stays, side_or, fold_when, fold_one, fold_two, fold_three, fold_four, fold}
use Rattle.tree.specs.Values.{IsValue, BindingValued, RunningValued}
use Rattle.meaning.specs.Values.{Valued, CallsValued}
use Rattle.meaning.proofs.Binds.{no_value, no_given, same_value, named_value}
use Rattle.meaning.proofs.Constants.{constant_always}

-- each node is one node at least, each tree one level at least
pub one_node : (t : Tree) → 1 ≤ nodes t
unfolding nodes
one_node (literal v) = omega arith
one_node (bound n) = omega arith
one_node (row n) = omega arith
one_node (run n) = omega arith
one_node (one k a) = omega arith
one_node (two k a b) = omega arith
one_node (three k a b c) = omega arith
one_node (four k a b c d) = omega arith
one_node (when c a b) = omega arith

pub one_level : (t : Tree) → 1 ≤ depth t
unfolding depth
one_level (literal v) = omega arith
one_level (bound n) = omega arith
one_level (row n) = omega arith
one_level (run n) = omega arith
one_level (one k a) = omega arith
one_level (two k a b) = omega arith
one_level (three k a b c) = omega arith
one_level (four k a b c d) = omega arith
one_level (when c a b) = omega arith

-- a count that is 1 at each constant only falls
stays_le : (f : Tree → ℕ) (g : Given) (t : Tree) (n : ℕ) → ((v : Value) → f (literal v) ≡ 1) → 1 ≤ n → f t ≤ n → f (or_stays g t) ≤ n
unfolding or_stays
stays_le f (given v) t n l h e = omega (arith, l v)
stays_le f nothing t n l h e = e

side_le : (f : Tree → ℕ) (s : Side) (a b t : Tree) (n : ℕ) → f a ≤ n → f b ≤ n → f t ≤ n → f (side_or s a b t) ≤ n
unfolding side_or
side_le f first a b t n ha hb ht = ha
side_le f second a b t n ha hb ht = hb
side_le f neither a b t n ha hb ht = ht

when_le : (f : Tree → ℕ) (g : Given) (c a b : Tree) (n : ℕ) → f a ≤ n → f b ≤ n → f (when c a b) ≤ n → f (fold_when g c a b) ≤ n
unfolding fold_when
when_le f (given x) c a b n ha hb ht = side_le f (side_of x) a b (when c a b) n ha hb ht
when_le f nothing c a b n ha hb ht = ht

module _ (C : Calls) (K : Binding) where
  pub fold_depth : (t : Tree) → depth (fold C K t) ≤ depth t
  unfolding fold fold_one fold_two fold_three fold_four depth
  fold_depth (literal v) = omega arith
  fold_depth (bound n) = stays_le depth (K n) (bound n) 1 (λ v. refl) (omega arith) (omega arith)
  fold_depth (row n) = omega arith
  fold_depth (run n) = omega arith
  fold_depth (one k a) = stays_le depth _ _ _ (λ v. refl) (omega arith) (let i = fold_depth a in omega arith)
  fold_depth (two k a b) = stays_le depth _ _ _ (λ v. refl) (omega arith) (let i = fold_depth a in let j = fold_depth b in omega arith)
  fold_depth (three k a b c) =
      stays_le depth _ _ _ (λ v. refl) (omega arith) (let i = fold_depth a in let j = fold_depth b in let l = fold_depth c in omega arith)
  fold_depth (four k a b c d) =
      stays_le depth _ _ _ (λ v. refl) (omega arith)
      (let i = fold_depth a in let j = fold_depth b in let l = fold_depth c in let m = fold_depth d in omega arith)
  fold_depth (when c a b) =
      let i = fold_depth c in
      let j = fold_depth a in
      let l = fold_depth b in
      when_le depth (constant_of (fold C K c)) (fold C K c) (fold C K a) (fold C K b) _ (omega arith) (omega arith) (omega arith)

  pub fold_nodes : (t : Tree) → nodes (fold C K t) ≤ nodes t
  unfolding fold fold_one fold_two fold_three fold_four nodes
  fold_nodes (literal v) = omega arith
  fold_nodes (bound n) = stays_le nodes (K n) (bound n) 1 (λ v. refl) (omega arith) (omega arith)
  fold_nodes (row n) = omega arith
  fold_nodes (run n) = omega arith
  fold_nodes (one k a) = stays_le nodes _ _ _ (λ v. refl) (omega arith) (let i = fold_nodes a in omega arith)
  fold_nodes (two k a b) = stays_le nodes _ _ _ (λ v. refl) (omega arith) (let i = fold_nodes a in let j = fold_nodes b in omega arith)
  fold_nodes (three k a b c) =
      stays_le nodes _ _ _ (λ v. refl) (omega arith) (let i = fold_nodes a in let j = fold_nodes b in let l = fold_nodes c in omega arith)
  fold_nodes (four k a b c d) =
      stays_le nodes _ _ _ (λ v. refl) (omega arith)
      (let i = fold_nodes a in let j = fold_nodes b in let l = fold_nodes c in let m = fold_nodes d in omega arith)
  fold_nodes (when c a b) =
      let i = fold_nodes c in
      let j = fold_nodes a in
      let l = fold_nodes b in
      when_le nodes (constant_of (fold C K c)) (fold C K c) (fold C K a) (fold C K b) _ (omega arith) (omega arith) (omega arith)

-- of values a recipe makes values
module _ (C : Calls) (K : Binding) (E : Running) (hC : CallsValued C) (hK : BindingValued K) (hE : RunningValued E) where
  named_valued : (g : Given) → ((v : Value) → g ≡ given v → IsValue v) → Valued (named g)
  named_valued g h v e = h v (named_value g e)

  chosen_valued : (s : Side) (a b : Answer) → Valued a → Valued b → Valued (chosen s a b)
  unfolding chosen
  chosen_valued first a b ha hb v e = ha v e
  chosen_valued second a b ha hb v e = hb v e
  chosen_valued neither a b ha hb v e = absurd (no_value e)

  then_valued : (r : Answer) (f : Value → Answer) → Valued r → ((x : Value) → IsValue x → Valued (f x)) → Valued (then r f)
  unfolding then
  then_valued (value x) f hr hf v e = hf x (hr x refl) v e
  then_valued (refused n) f hr hf v e = absurd (no_value e)

  pub mean_valued : (t : Tree) → Proper t → Small t → Valued (mean C K E t)
  unfolding mean Proper Small
  mean_valued (literal w) p s = λ v e. subst IsValue (same_value e) (record { short = s; bytes = p })
  mean_valued (bound n) p s = named_valued (K n) (hK n)
  mean_valued (row n) p s = named_valued (E.rows n) (hE.rows_valued n)
  mean_valued (run n) p s = named_valued (E.runs n) (hE.runs_valued n)
  mean_valued (one k a) p s = then_valued (mean C K E a) _ (mean_valued a p.1 s) (hC.one_valued k)
  mean_valued (two k a b) p s =
      then_valued (mean C K E a) _ (mean_valued a p.1 s.0) λ x hx.
      then_valued (mean C K E b) _ (mean_valued b p.2 s.1) λ y hy. hC.two_valued k x y hx hy
  mean_valued (three k a b c) p s =
      then_valued (mean C K E a) _ (mean_valued a p.2 s.0) λ x hx.
      then_valued (mean C K E b) _ (mean_valued b p.3 s.1) λ y hy.
      then_valued (mean C K E c) _ (mean_valued c p.4 s.2) λ z hz. hC.three_valued k x y z hx hy hz
  mean_valued (four k a b c d) p s =
      then_valued (mean C K E a) _ (mean_valued a p.1 s.0) λ x hx.
      then_valued (mean C K E b) _ (mean_valued b p.2 s.1) λ y hy.
      then_valued (mean C K E c) _ (mean_valued c p.3 s.2) λ z hz.
      then_valued (mean C K E d) _ (mean_valued d p.4 s.3) λ w hw. hC.four_valued k x y z w hx hy hz hw
  mean_valued (when c a b) p s =
      then_valued (mean C K E c) _ (mean_valued c p.0 s.0) λ x hx.
      chosen_valued (side_of x) (mean C K E a) (mean C K E b) (mean_valued a p.1 s.1) (mean_valued b p.2 s.2)

-- folding keeps trees of section 5, and each constant is a value
pub record Fit (t : Tree) : Type 0 where
  pub proper : Proper t
  pub small : Small t

module _ (C : Calls) (K : Binding) (hC : CallsValued C) (hK : BindingValued K) where
  idle_valued : RunningValued idle
  unfolding idle unbound
  idle_valued = record { rows_valued = λ n v e. absurd (no_given e); runs_valued = λ n v e. absurd (no_given e) }

  stays_fit : (g : Given) (t t' : Tree) → fold C K t ≡ or_stays g t' → Proper t → Small t → Fit t' → Fit (or_stays g t')
  unfolding or_stays Proper Small
  stays_fit (given v) t t' e p s h =
      let i : IsValue v = mean_valued C K idle hC hK idle_valued t p s v (constant_always C K t v e idle) in
      record { proper = i.bytes; small = i.short }
  stays_fit nothing t t' e p s h = h

  side_fit : (s : Side) (a b t : Tree) → Fit a → Fit b → Fit t → Fit (side_or s a b t)
  unfolding side_or
  side_fit first a b t ha hb ht = ha
  side_fit second a b t ha hb ht = hb
  side_fit neither a b t ha hb ht = ht

  when_fit : (g : Given) (c a b : Tree) → Fit c → Fit a → Fit b → Fit (fold_when g c a b)
  unfolding fold_when Proper Small
  when_fit (given x) c a b hc ha hb =
      side_fit (side_of x) a b (when c a b) ha hb (record { proper = (hc.proper, ha.proper, hb.proper); small = (hc.small, ha.small, hb.small) })
  when_fit nothing c a b hc ha hb = record { proper = (hc.proper, ha.proper, hb.proper); small = (hc.small, ha.small, hb.small) }

  pub fold_fit : (t : Tree) → Proper t → Small t → Fit (fold C K t)
  unfolding fold fold_one fold_two fold_three fold_four Proper Small
  fold_fit (literal v) p s = record { proper = p; small = s }
  fold_fit (bound n) p s = stays_fit (K n) (bound n) (bound n) refl p s (record { proper = p; small = s })
  fold_fit (row n) p s = record { proper = p; small = s }
  fold_fit (run n) p s = record { proper = p; small = s }
  fold_fit (one k a) p s =
      let i = fold_fit a p.1 s in
      stays_fit _ (one k a) (one k (fold C K a)) refl p s (record { proper = (p.0, i.proper); small = i.small })
  fold_fit (two k a b) p s =
      let i = fold_fit a p.1 s.0 in
      let j = fold_fit b p.2 s.1 in
      stays_fit _ (two k a b) (two k (fold C K a) (fold C K b)) refl p s (record { proper = (p.0, i.proper, j.proper); small = (i.small, j.small) })
  fold_fit (three k a b c) p s =
      let i = fold_fit a p.2 s.0 in
      let j = fold_fit b p.3 s.1 in
      let l = fold_fit c p.4 s.2 in
      stays_fit _ (three k a b c) (three k (fold C K a) (fold C K b) (fold C K c)) refl p s
      (record { proper = (p.0, p.1, i.proper, j.proper, l.proper); small = (i.small, j.small, l.small) })
  fold_fit (four k a b c d) p s =
      let i = fold_fit a p.1 s.0 in
      let j = fold_fit b p.2 s.1 in
      let l = fold_fit c p.3 s.2 in
      let m = fold_fit d p.4 s.3 in
      stays_fit _ (four k a b c d) (four k (fold C K a) (fold C K b) (fold C K c) (fold C K d)) refl p s
      (record { proper = (p.0, i.proper, j.proper, l.proper, m.proper); small = (i.small, j.small, l.small, m.small) })
  fold_fit (when c a b) p s =
      when_fit (constant_of (fold C K c)) (fold C K c) (fold C K a) (fold C K b) (fold_fit c p.0 s.0) (fold_fit a p.1 s.1) (fold_fit b p.2 s.2)

  -- a tree within the bounds stays within them
  pub fold_within : (t : Tree) → Within t → Within (fold C K t)
  fold_within t h =
      let f : Fit (fold C K t) = fold_fit t h.proper h.small in
      record {
        proper = f.proper;
        small = f.small;
        shallow = le_trans (fold_depth C K t) h.shallow;
        few = le_trans (fold_nodes C K t) h.few;
      }
