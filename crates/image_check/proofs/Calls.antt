-- A call's arguments counted one after another are those that its shape reads.
use mathlib.Core.Path.{◌≡◌, refl, ap, sym, ◌∙◌, subst}
use mathlib.Core.Bool.{Bool, true, false}
use mathlib.Core.List.{List}
use Prim.Native.Nat.{ℕ, zero, suc, ◌+◌, ◌≤◌, max}
use native.Mathlib.Omega.{arith}
use lib.Dec.{eqb}
use lib.ListN.{length, drop}
use borrow.Author.Tests.{eqb-true, eqb-false, ne_eqb}
use Rattle.common.specs.Choice.{pick}
use Rattle.common.proofs.Choices.{pick_false}
use Rattle.tree.specs.Tree.{Tree}
use Rattle.tree.specs.Tree.Tree.{one, two, three, when}
use Rattle.tree.specs.Bounds.{nodes, arguments_of, when_kind}
use Rattle.tree.proofs.Table.{when_arguments}
use Rattle.records.specs.Decode.{call_shape, shape_of, Item, then_item, filled, one_in, two_in, three_in, by_shape}
use Rattle.records.specs.Decode.Shape.{no_shape}
use Rattle.records.specs.Decode.Item.{item, no_item}
use Rattle.records.proofs.Shapes.{leaf_shapes, call_shape_lem}
use Rattle.kinds.specs.Tables.{opens, tables_for, tables_of}
use Rattle.kinds.proofs.Quick.{arguments_few}
use Rattle.tree.specs.Bounds.{of_row}
use Rattle.image_check.specs.Check.Counted.{Fits, Fails}
use Rattle.image_check.specs.Check.{check_of, then_fits, several_from, call_of}

zero_max : (a : ℕ) → max 0 a ≡ a
zero_max a = omega arith

max_assoc : (a b c : ℕ) → max (max a b) c ≡ max a (max b c)
max_assoc a b c = omega arith

max_three : (k a b c : ℕ) → max k (max (max (max 0 a) b) c) ≡ max k (max a (max b c))
max_three k a b c = ap (max k) (ap (λ z. max (max z b) c) (zero_max a) ∙ max_assoc a b c)

module _ (k : ℕ) (p : List ℕ) where
  filled_either : (b : Bool) (m x : ℕ) (t : Tree) → m + 1 ≡ nodes t → max (tables_for k) x ≡ tables_of t
      → pick b (Fits (4 + length p) (m + 1) (max (tables_for k) x)) Fails ≡ check_of (pick b (item t (4 + length p)) no_item)
  unfolding pick check_of
  filled_either true m x t en et = ap (λ n. Fits (4 + length p) n (max (tables_for k) x)) en ∙ ap (Fits (4 + length p) (nodes t)) et
  filled_either false m x t en et = refl

  -- after the last argument
  filled_call : (u used m x : ℕ) (t : Tree) → u ≡ used → m + 1 ≡ nodes t → max (tables_for k) x ≡ tables_of t → call_of k p (Fits u m x) ≡ check_of (filled used p t)
  unfolding call_of filled
  filled_call u used m x t eu en et =
      ap (λ u. pick (eqb u (length p)) (Fits (4 + length p) (m + 1) (max (tables_for k) x)) Fails) eu ∙ filled_either (eqb used (length p)) m x t en et

  module _ (sub : List ℕ → Item) where
    -- one argument more
    more : (n u m x : ℕ) (i : Item) (f : Tree → ℕ → Item) → sub (drop u p) ≡ i
        → ((a : Tree) (v : ℕ) → call_of k p (several_from sub p n (u + v) (m + nodes a) (max x (tables_of a))) ≡ check_of (f a v))
        → call_of k p (several_from sub p (suc n) u m x) ≡ check_of (then_item i f)
    unfolding several_from then_fits then_item check_of call_of
    more n u m x (item a v) f e g = ap (λ j. call_of k p (then_fits (check_of j) (λ v l y. several_from sub p n (u + v) (m + l) (max x y)))) e ∙ g a v
    more n u m x no_item f e g = ap (λ j. call_of k p (then_fits (check_of j) (λ v l y. several_from sub p n (u + v) (m + l) (max x y)))) e

    at : (i j : ℕ) → i ≡ j → sub (drop i p) ≡ sub (drop j p)
    at i j e = ap (λ i. sub (drop i p)) e

    one_several : (call : Tree → Tree) → ((a : Tree) → nodes (call a) ≡ suc (nodes a)) → ((a : Tree) → tables_of (call a) ≡ max (tables_for k) (tables_of a))
        → call_of k p (several_from sub p 1 0 0 0) ≡ check_of (one_in sub call p)
    unfolding one_in several_from
    one_several call hn ht =
        more 0 0 0 0 (sub p) _ refl λ a u.
        filled_call (0 + u) u (0 + nodes a) (max 0 (tables_of a)) (call a) (omega arith) (omega (arith, hn a)) (omega (arith, ht a))

    two_several : (call : Tree → Tree → Tree) → ((a b : Tree) → nodes (call a b) ≡ suc (nodes a + nodes b))
        → ((a b : Tree) → tables_of (call a b) ≡ max (tables_for k) (max (tables_of a) (tables_of b)))
        → call_of k p (several_from sub p 2 0 0 0) ≡ check_of (two_in sub call p)
    unfolding two_in several_from
    two_several call hn ht =
        more 1 0 0 0 (sub p) _ refl λ a u.
        more 0 (0 + u) (0 + nodes a) (max 0 (tables_of a)) (sub (drop u p)) _ (at (0 + u) u (omega arith)) λ b v.
        filled_call (0 + u + v) (u + v) (0 + nodes a + nodes b) (max (max 0 (tables_of a)) (tables_of b)) (call a b) (omega arith) (omega (arith, hn a b)) (omega (arith, ht a b))

    three_several : (call : Tree → Tree → Tree → Tree) → ((a b c : Tree) → nodes (call a b c) ≡ suc (nodes a + nodes b + nodes c))
        → ((a b c : Tree) → tables_of (call a b c) ≡ max (tables_for k) (max (tables_of a) (max (tables_of b) (tables_of c))))
        → call_of k p (several_from sub p 3 0 0 0) ≡ check_of (three_in sub call p)
    unfolding three_in several_from
    three_several call hn ht =
        more 2 0 0 0 (sub p) _ refl λ a u.
        more 1 (0 + u) (0 + nodes a) (max 0 (tables_of a)) (sub (drop u p)) _ (at (0 + u) u (omega arith)) λ b v.
        more 0 (0 + u + v) (0 + nodes a + nodes b) (max (max 0 (tables_of a)) (tables_of b)) (sub (drop (u + v) p)) _ (at (0 + u + v) (u + v) (omega arith)) λ c w.
        filled_call (0 + u + v + w) (u + v + w) (0 + nodes a + nodes b + nodes c) (max (max (max 0 (tables_of a)) (tables_of b)) (tables_of c)) (call a b c)
        (omega arith) (omega (arith, hn a b c)) (max_three (tables_for k) (tables_of a) (tables_of b) (tables_of c) ∙ sym (ht a b c))

when_none : tables_for when_kind ≡ 0
unfolding tables_for opens of_row pick
when_none = refl

bool_cases : (P : Type 0) (b : Bool) → (b ≡ true → P) → (b ≡ false → P) → P
bool_cases P true f g = f refl
bool_cases P false f g = g refl

none_shape : call_shape 0 ≡ no_shape
unfolding call_shape pick
none_shape = refl

module _ (sub : List ℕ → Item) (inner : Bool) (p : List ℕ) where
  when_several : call_of when_kind p (several_from sub p (arguments_of when_kind) 0 0 0) ≡ check_of (by_shape sub (shape_of inner when_kind) when_kind p)
  unfolding by_shape nodes tables_of
  when_several =
      ap (λ n. call_of when_kind p (several_from sub p n 0 0 0)) when_arguments
      ∙ three_several when_kind p sub when (λ a b c. refl) (λ a b c. omega (arith, when_none))
      ∙ ap (λ s. check_of (by_shape sub s when_kind p)) (sym (leaf_shapes inner).3)

  by_count : (k n : ℕ) → arguments_of k ≡ suc n → suc n ≤ 3 → (k ≡ when_kind → ⊥) → call_of k p (several_from sub p (suc n) 0 0 0) ≡ check_of (by_shape sub (call_shape (suc n)) k p)
  unfolding by_shape nodes tables_of call_shape pick
  by_count k zero e h w = one_several k p sub (one k) (λ a. refl) (λ a. refl)
  by_count k (suc zero) e h w = two_several k p sub (two k) (λ a b. refl) (λ a b. refl)
  by_count k (suc (suc zero)) e h w = three_several k p sub (three k) (λ a b c. refl) (λ a b c. refl)
  by_count k (suc (suc (suc n))) e h w = absurd (omega arith)

  other_several : (k n : ℕ) → arguments_of k ≡ n → (n ≡ 0 → ⊥) → (k ≡ when_kind → ⊥) → call_of k p (several_from sub p n 0 0 0) ≡ check_of (by_shape sub (shape_of inner k) k p)
  other_several k zero e z w = absurd (z refl)
  other_several k (suc n) e z w =
      let few = arguments_few k in
      by_count k n e (omega arith) w ∙ ap (λ s. check_of (by_shape sub s k p)) (sym (call_shape_lem inner k n e w))

  -- a call, whichever
  pub call_several : (k n : ℕ) → n ≡ arguments_of k → (n ≡ 0 → ⊥) → call_of k p (several_from sub p n 0 0 0) ≡ check_of (by_shape sub (shape_of inner k) k p)
  call_several k n e z =
      bool_cases _ (eqb k when_kind)
      (λ t. let q : k ≡ when_kind = eqb-true k when_kind t in
      ap (λ n. call_of k p (several_from sub p n 0 0 0)) e
      ∙ subst_when k (sym q))
      (λ f. other_several k n (sym e) z (eqb-false k when_kind f))
    where
      subst_when : (k : ℕ) → when_kind ≡ k → call_of k p (several_from sub p (arguments_of k) 0 0 0) ≡ check_of (by_shape sub (shape_of inner k) k p)
      subst_when k q = subst (λ k. call_of k p (several_from sub p (arguments_of k) 0 0 0) ≡ check_of (by_shape sub (shape_of inner k) k p)) q when_several

  -- no kind of the table
  pub no_call : (k : ℕ) → (k ≡ 1 → ⊥) → (k ≡ 2 → ⊥) → (k ≡ 3 → ⊥) → (k ≡ 4 → ⊥) → arguments_of k ≡ 0 → Fails ≡ check_of (by_shape sub (shape_of inner k) k p)
  unfolding shape_of by_shape check_of
  no_call k a b c d e =
      let w : k ≡ when_kind → ⊥ = λ q. let r : ◌≡◌ {A = ℕ} 0 3 = sym e ∙ ap arguments_of q ∙ when_arguments in omega arith in
      ap (λ s. check_of (by_shape sub s k p)) (sym (
      pick_false _ _ _ (ne_eqb k 1 a) ∙ pick_false _ _ _ (ne_eqb k 2 b) ∙ pick_false _ _ _ (ne_eqb k 3 c) ∙ pick_false _ _ _ (ne_eqb k 4 d) ∙ pick_false _ _ _ (ne_eqb k when_kind w)
      ∙ ap call_shape e ∙ none_shape))
