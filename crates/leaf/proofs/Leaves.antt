-- The stretch that a leaf hands up holds its value: a constant's payload, or what the list gives its name.
use mathlib.Core.Path.{◌≡◌, refl, ap, sym, ◌∙◌, subst}
use mathlib.Core.Bool.{Bool}
use mathlib.Core.List.{List}
use Rattle.std.specs.Prelude.{Option, Some, None}
use Prim.Native.Nat.{ℕ, zero, suc, ◌+◌}
use native.Mathlib.Omega.{arith}
use lib.Dec.{eqb, leb, ltb}
use lib.ListN.{length, get_or, take, drop}
use lib.Seq.{get_or-take, get_or-drop, drop-drop}
use borrow.Author.Tests.{eqb-true}
use Rattle.common.specs.Choice.{pick}
use Rattle.tree.specs.Tree.{Tree}
use Rattle.tree.specs.Tree.Tree.{literal, bound, row, run, one, two, three, four, when}
use Rattle.tree.specs.Bounds.{Bytes}
use Rattle.tree.specs.Names.{Given}
use Rattle.tree.specs.Names.Given.{given}
use Rattle.records.specs.Record.{front_of}
use Rattle.records.specs.Record.Front.{front}
use Rattle.records.specs.Encode.{constant_kind, row_kind, run_kind, bound_kind}
use Rattle.records.specs.Decode.{Shape, shape_of, Item, constant_in, digit_in, by_shape, decode}
use Rattle.records.specs.Decode.Shape.{aConstant, aBound, aRow, aRun, aWhen, aOne, aTwo, aThree, aFour, no_shape}
use Rattle.records.specs.Decode.Item.{item, no_item}
use Rattle.records.proofs.Shapes.{Says, shape_says}
use Rattle.records.proofs.Back.{no_item_lem, pick_item, then_front_lem}
use Rattle.records.proofs.Descend.{one_part, two_parts, three_parts, four_parts}
use Rattle.records.proofs.Sizes.{same_item}
use Rattle.lists.specs.Entries.{Entry, bound_list, row_list, run_list, list_of}
use Rattle.lists.specs.Entries.Listed.{listed}
use Rattle.lists.specs.Given.{value_of}
use Rattle.heads.specs.Head.{headed, head_of, head_at}
use Rattle.heads.proofs.Heads.{Whole, front_whole}
use Rattle.listing.specs.declared.Stretch.{Stretch}
use Rattle.listing.specs.Find.{find_in, stretch_of}
use Rattle.listing.proofs.Finding.{found_value}
use Rattle.leaf.specs.Place.{place_in, place_of, placed, leaf_in}
use Rattle.leaf.proofs.Ways.{place_image, place_row, place_run, place_bound}

-- what a leaf says of its record
unfoldable pub Says-leaf : ℕ → List ℕ → Tree → Type 0
Says-leaf k p (literal v) = (k ≡ constant_kind) × (p ≡ v)
Says-leaf k p (bound n) = (k ≡ bound_kind) × (length p ≡ 1) × (get_or p 0 0 ≡ n)
Says-leaf k p (row n) = (k ≡ row_kind) × (length p ≡ 1) × (get_or p 0 0 ≡ n)
Says-leaf k p (run n) = (k ≡ run_kind) × (length p ≡ 1) × (get_or p 0 0 ≡ n)
Says-leaf k p (one j a) = Unit {0}
Says-leaf k p (two j a b) = Unit {0}
Says-leaf k p (three j a b c) = Unit {0}
Says-leaf k p (four j a b c d) = Unit {0}
Says-leaf k p (when c a b) = Unit {0}

digit_says : (top : ℕ) (name : ℕ → Tree) (k : ℕ) (p : List ℕ) (t : Tree) (u : ℕ) → ((n : ℕ) → length p ≡ 1 → get_or p 0 0 ≡ n → Says-leaf k p (name n)) → digit_in top name p ≡ item t u → Says-leaf k p t
unfolding digit_in
digit_says top name k p t u h e =
    let (a, e1) = pick_item (eqb (length p) 1) (pick (ltb (get_or p 0 0) top) (item (name (get_or p 0 0)) 5) no_item) e in
    let (b, e2) = pick_item (ltb (get_or p 0 0) top) (item (name (get_or p 0 0)) 5) e1 in
    subst (Says-leaf k p) (same_item e2) (h (get_or p 0 0) (eqb-true (length p) 1 a) refl)

module _ (sub : List ℕ → Item) (inner : Bool) (k : ℕ) (p : List ℕ) (t : Tree) (u : ℕ) where
  shape_leaf : (s : Shape) → Says inner k s → by_shape sub s k p ≡ item t u → Says-leaf k p t
  unfolding by_shape Says Says-leaf constant_in
  shape_leaf aConstant q e = subst (Says-leaf k p) (same_item (pick_item (leb (length p) 1024) (item (literal p) (4 + length p)) e).1) (q, refl)
  shape_leaf aBound q e = digit_says 4 bound k p t u (λ n l d. (q.0, l, d)) e
  shape_leaf aRow q e = digit_says 8 row k p t u (λ n l d. (q, l, d)) e
  shape_leaf aRun q e = digit_says 4 run k p t u (λ n l d. (q, l, d)) e
  shape_leaf aWhen q e = subst (Says-leaf k p) (three_parts sub p t u when e).tree tt
  shape_leaf aOne q e = subst (Says-leaf k p) (one_part sub p t u (one k) e).tree tt
  shape_leaf aTwo q e = subst (Says-leaf k p) (two_parts sub p t u (two k) e).tree tt
  shape_leaf aThree q e = subst (Says-leaf k p) (three_parts sub p t u (three k) e).tree tt
  shape_leaf aFour q e = subst (Says-leaf k p) (four_parts sub p t u (four k) e).tree tt
  shape_leaf no_shape q e = absurd (no_item_lem e)

-- a name that is found is where its stretch stands
placed_found : (image list : List ℕ) (f : Option Stretch) → placed image list (place_in f) ≡ stretch_of list f
unfolding placed place_in stretch_of
placed_found image list (Some at) = refl
placed_found image list None = refl

-- a leaf, and no call
unfoldable pub IsLeaf : Tree → Type 0
IsLeaf (literal v) = Unit {0}
IsLeaf (bound n) = Unit {0}
IsLeaf (row n) = Unit {0}
IsLeaf (run n) = Unit {0}
IsLeaf (one k a) = ⊥
IsLeaf (two k a b) = ⊥
IsLeaf (three k a b c) = ⊥
IsLeaf (four k a b c d) = ⊥
IsLeaf (when c a b) = ⊥

head_front : (s : List ℕ) (at k : ℕ) (p : List ℕ) → front_of (drop at s) ≡ front k p → headed k (length p) ≡ head_at s at
unfolding head_at head_of
head_front s at k p e = sym (ap head_of e)

module _ (image : List ℕ) (at : ℕ) (list : List ℕ) (k : ℕ) (p : List ℕ) (e : front_of (drop at image) ≡ front k p) where
  -- its digit stands after the head
  digit_at_lem : length p ≡ 1 → get_or image (at + 4) 0 ≡ get_or p 0 0
  digit_at_lem l =
      let W : Whole (drop at image) p = front_whole (drop at image) k p e in
      sym (ap (λ q. get_or q 0 0) W.payload ∙ get_or-take (length p) (drop 4 (drop at image)) 0 0 (omega arith) ∙ get_or-drop 4 (drop at image) 0 0 ∙ get_or-drop at image 4 0)

  constant_at : take (length p) (drop (at + 4) image) ≡ p
  constant_at = sym ((front_whole (drop at image) k p e).payload ∙ ap (take (length p)) (drop-drop 4 at image))

  abbrev f : ℕ → Given
  f j = stretch_of list (find_in list j)

  -- a name of the list's kind `base` and its digit
  name_placed : (base n : ℕ) → length p ≡ 1 → get_or p 0 0 ≡ n → place_in (find_in list (base + get_or image (at + 4) 0)) ≡ place_of image at list → placed image list (place_of image at list) ≡ f (base + n)
  name_placed base n l d q = sym (ap (placed image list) q) ∙ placed_found image list (find_in list (base + get_or image (at + 4) 0)) ∙ ap (λ m. f (base + m)) (digit_at_lem l ∙ d)

  leaf_place : (t : Tree) → IsLeaf t → Says-leaf k p t → placed image list (place_of image at list) ≡ leaf_in f t
  unfolding IsLeaf Says-leaf leaf_in placed
  leaf_place (literal v) l s =
      sym (ap (placed image list) (place_image image at list (headed k (length p)) (head_front image at k p e) k (length p) refl s.0))
      ∙ ap given (constant_at ∙ s.1)
  leaf_place (bound n) l s =
      name_placed bound_list n s.1 s.2
      (place_bound image at list (headed k (length p)) (head_front image at k p e) k (length p) refl (λ q. omega (arith, s.0)) s.1 (λ q. omega (arith, s.0)) (λ q. omega (arith, s.0)) _ s.0 refl)
  leaf_place (row n) l s =
      name_placed row_list n s.1 s.2
      (place_row image at list (headed k (length p)) (head_front image at k p e) k (length p) refl (λ q. omega (arith, s.0)) s.1 _ s.0 refl)
  leaf_place (run n) l s =
      name_placed run_list n s.1 s.2
      (place_run image at list (headed k (length p)) (head_front image at k p e) k (length p) refl (λ q. omega (arith, s.0)) s.1 (λ q. omega (arith, s.0)) _ s.0 refl)
  leaf_place (one j a) l s = absurd l
  leaf_place (two j a b) l s = absurd l
  leaf_place (three j a b c) l s = absurd l
  leaf_place (four j a b c d) l s = absurd l
  leaf_place (when c a b) l s = absurd l

-- the place of a leaf that was decoded holds the leaf's value
pub leaf_placed : (inner : Bool) (d : ℕ) (image : List ℕ) (at : ℕ) (list : List ℕ) (t : Tree) (u : ℕ) → decode inner d (drop at image) ≡ item t u → IsLeaf t
    → placed image list (place_of image at list) ≡ leaf_in (λ j. stretch_of list (find_in list j)) t
unfolding decode
leaf_placed inner zero image at list t u e l = absurd (no_item_lem e)
leaf_placed inner (suc d) image at list t u e l =
    let (k, p, ef, e1) = then_front_lem (front_of (drop at image)) (λ k p. by_shape (decode inner d) (shape_of inner k) k p) e in
    leaf_place image at list k p ef t l (shape_leaf (decode inner d) inner k p t u (shape_of inner k) (shape_says inner k) e1)

leaf_same : (f g : ℕ → Given) → ((j : ℕ) → f j ≡ g j) → (t : Tree) → leaf_in f t ≡ leaf_in g t
unfolding leaf_in
leaf_same f g h (literal v) = refl
leaf_same f g h (bound n) = h _
leaf_same f g h (row n) = h _
leaf_same f g h (run n) = h _
leaf_same f g h (one k a) = refl
leaf_same f g h (two k a b) = refl
leaf_same f g h (three k a b c) = refl
leaf_same f g h (four k a b c d) = refl
leaf_same f g h (when c a b) = refl

-- with a good list, it is what the list's entries give
pub leaf_given : (taken : ℕ → Bool) (inner : Bool) (d : ℕ) (image : List ℕ) (at : ℕ) (list : List ℕ) (es : List Entry) (t : Tree) (u : ℕ) → Bytes list → list_of taken list ≡ listed es
    → decode inner d (drop at image) ≡ item t u → IsLeaf t → placed image list (place_of image at list) ≡ leaf_in (value_of es) t
leaf_given taken inner d image at list es t u hs el e l = leaf_placed inner d image at list t u e l ∙ leaf_same _ (value_of es) (found_value taken list es hs el) t
