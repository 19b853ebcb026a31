-- How much a decoded tree can take: at most the bytes there, and four at least for each node.
use mathlib.Core.Path.{◌≡◌, refl, ap, sym, ◌∙◌}
use mathlib.Core.Bool.{Bool}
use mathlib.Core.List.{List}
use Prim.Native.Nat.{ℕ, zero, suc, ◌+◌, ◌*◌, ◌≤◌}
use native.Mathlib.Omega.{arith}
use lib.Dec.{eqb, leb, ltb}
use lib.ListN.{length, get_or, drop}
use borrow.Author.Tests.{eqb-true}
use Rattle.common.specs.Choice.{pick}
use Rattle.tree.specs.Tree.{Tree}
use Rattle.tree.specs.Tree.Tree.{literal, bound, row, run, one, two, three, four, when}
use Rattle.tree.specs.Bounds.{nodes}
use Rattle.records.specs.Record.{front_of}
use Rattle.records.specs.Decode.{Shape, shape_of, Item, constant_in, digit_in, by_shape, decode}
use Rattle.records.specs.Decode.Shape.{aConstant, aBound, aRow, aRun, aWhen, aOne, aTwo, aThree, aFour, no_shape}
use Rattle.records.specs.Decode.Item.{item, no_item}
use Rattle.records.proofs.Back.{no_item_lem, pick_item, then_front_lem}
use Rattle.records.proofs.Descend.{OnePart, TwoParts, ThreeParts, FourParts, one_part, two_parts, three_parts, four_parts}
use Rattle.heads.proofs.Heads.{front_whole}

pub record Counts (n : ℕ) (t : Tree) (u : ℕ) : Type 0 where
  pub many : 4 * nodes t ≤ u
  pub most : u ≤ n

abbrev Sub : (List ℕ → Item) → Type 0
Sub sub = (s : List ℕ) (t : Tree) (u : ℕ) → sub s ≡ item t u → Counts (length s) t u

leaf_counts : (a t : Tree) (m n u : ℕ) → nodes a ≡ 1 → 4 ≤ m → m ≤ n → item a m ≡ item t u → Counts n t u
leaf_counts a t m n u single least most e =
    let et : a ≡ t = cc in
    let eu : m ≡ u = cc in
    let en : nodes t ≡ 1 = sym (ap nodes et) ∙ single in
    record { many = omega arith; most = omega arith }

digit_counts : (top : ℕ) (name : ℕ → Tree) (p : List ℕ) (t : Tree) (u : ℕ) → ((x : ℕ) → nodes (name x) ≡ 1) → digit_in top name p ≡ item t u → Counts (4 + length p) t u
unfolding digit_in
digit_counts top name p t u h e =
    let (a, e1) = pick_item (eqb (length p) 1) (pick (ltb (get_or p 0 0) top) (item (name (get_or p 0 0)) 5) no_item) e in
    let (b, e2) = pick_item (ltb (get_or p 0 0) top) (item (name (get_or p 0 0)) 5) e1 in
    let l : length p ≡ 1 = eqb-true (length p) 1 a in
    leaf_counts (name (get_or p 0 0)) t 5 (4 + length p) u (h (get_or p 0 0)) (omega arith) (omega arith) e2

constant_counts : (p : List ℕ) (t : Tree) (u : ℕ) → constant_in p ≡ item t u → Counts (4 + length p) t u
unfolding constant_in nodes
constant_counts p t u e =
    leaf_counts (literal p) t (4 + length p) (4 + length p) u refl (omega arith) (omega arith) (pick_item (leb (length p) 1024) (item (literal p) (4 + length p)) e).1

module _ (sub : List ℕ → Item) (ih : Sub sub) (p : List ℕ) (t : Tree) (u : ℕ) where
  one_counts : (call : Tree → Tree) → ((a : Tree) → nodes (call a) ≡ suc (nodes a)) → OnePart sub p t u call → Counts (4 + length p) t u
  one_counts call h P =
      let en : nodes t ≡ suc (nodes P.a) = sym (ap nodes P.tree) ∙ h P.a in
      let wa = (ih p P.a P.u P.at_a).many in
      record { many = omega (arith, P.fill, P.takes); most = omega (arith, P.takes) }

  two_counts : (call : Tree → Tree → Tree) → ((a b : Tree) → nodes (call a b) ≡ suc (nodes a + nodes b)) → TwoParts sub p t u call → Counts (4 + length p) t u
  two_counts call h P =
      let en : nodes t ≡ suc (nodes P.a + nodes P.b) = sym (ap nodes P.tree) ∙ h P.a P.b in
      let wa = (ih p P.a P.u P.at_a).many in
      let wb = (ih (drop P.u p) P.b P.v P.at_b).many in
      record { many = omega (arith, P.fill, P.takes); most = omega (arith, P.takes) }

  three_counts : (call : Tree → Tree → Tree → Tree) → ((a b c : Tree) → nodes (call a b c) ≡ suc (nodes a + nodes b + nodes c)) → ThreeParts sub p t u call → Counts (4 + length p) t u
  three_counts call h P =
      let en : nodes t ≡ suc (nodes P.a + nodes P.b + nodes P.c) = sym (ap nodes P.tree) ∙ h P.a P.b P.c in
      let wa = (ih p P.a P.u P.at_a).many in
      let wb = (ih (drop P.u p) P.b P.v P.at_b).many in
      let wc = (ih (drop (P.u + P.v) p) P.c P.w P.at_c_lem).many in
      record { many = omega (arith, P.fill, P.takes); most = omega (arith, P.takes) }

  four_counts : (call : Tree → Tree → Tree → Tree → Tree) → ((a b c d : Tree) → nodes (call a b c d) ≡ suc (nodes a + nodes b + nodes c + nodes d)) → FourParts sub p t u call
      → Counts (4 + length p) t u
  four_counts call h P =
      let en : nodes t ≡ suc (nodes P.a + nodes P.b + nodes P.c + nodes P.e) = sym (ap nodes P.tree) ∙ h P.a P.b P.c P.e in
      let wa = (ih p P.a P.u P.at_a).many in
      let wb = (ih (drop P.u p) P.b P.v P.at_b).many in
      let wc = (ih (drop (P.u + P.v) p) P.c P.w P.at_c_lem).many in
      let we = (ih (drop (P.u + P.v + P.w) p) P.e P.x P.at_e).many in
      record { many = omega (arith, P.fill, P.takes); most = omega (arith, P.takes) }

  shape_counts : (sh : Shape) (k : ℕ) → by_shape sub sh k p ≡ item t u → Counts (4 + length p) t u
  unfolding by_shape nodes
  shape_counts aConstant k e = constant_counts p t u e
  shape_counts aBound k e = digit_counts 4 bound p t u (λ x. refl) e
  shape_counts aRow k e = digit_counts 8 row p t u (λ x. refl) e
  shape_counts aRun k e = digit_counts 4 run p t u (λ x. refl) e
  shape_counts aWhen k e = three_counts when (λ a b c. refl) (three_parts sub p t u when e)
  shape_counts aOne k e = one_counts (one k) (λ a. refl) (one_part sub p t u (one k) e)
  shape_counts aTwo k e = two_counts (two k) (λ a b. refl) (two_parts sub p t u (two k) e)
  shape_counts aThree k e = three_counts (three k) (λ a b c. refl) (three_parts sub p t u (three k) e)
  shape_counts aFour k e = four_counts (four k) (λ a b c d. refl) (four_parts sub p t u (four k) e)
  shape_counts no_shape k e = absurd (no_item_lem e)

within_more : (n m : ℕ) (t : Tree) (u : ℕ) → n ≤ m → Counts n t u → Counts m t u
within_more n m t u h C = record { many = C.many; most = omega (arith, C.most) }

pub decode_counts : (inner : Bool) (d : ℕ) (s : List ℕ) (t : Tree) (u : ℕ) → decode inner d s ≡ item t u → Counts (length s) t u
unfolding decode
decode_counts inner zero s t u e = absurd (no_item_lem e)
decode_counts inner (suc d) s t u e =
    let (k, p, ef, e1) = then_front_lem (front_of s) (λ k p. by_shape (decode inner d) (shape_of inner k) k p) e in
    within_more (4 + length p) (length s) t u (front_whole s k p ef).room (shape_counts (decode inner d) (decode_counts inner d) p t u (shape_of inner k) k e1)
