-- What a record that was decoded holds: a leaf, or a call whose arguments' records fill its payload.
use mathlib.Core.Path.{◌≡◌, refl, ap, sym, ◌∙◌, subst}
use mathlib.Core.Bool.{Bool}
use mathlib.Core.List.{List, [], ◌∷◌}
use Prim.Native.Nat.{ℕ, zero, suc, ◌+◌, ◌-◌, ◌≤◌, ◌<◌}
use native.Mathlib.Nat.{zero-add}
use native.Mathlib.Omega.{arith}
use lib.Dec.{eqb, leb, ltb}
use lib.ListN.{length, get_or, drop}
use borrow.Author.Tests.{eqb-true}
use Rattle.common.specs.Choice.{pick}
use Rattle.tree.specs.Tree.{Tree}
use Rattle.tree.specs.Tree.Tree.{literal, bound, row, run, one, two, three, four, when}
use Rattle.tree.specs.Bounds.{arguments_of}
use Rattle.tree.proofs.Table.{when_arguments}
use Rattle.records.specs.Record.{front_of}
use Rattle.records.specs.Record.Front.{front, cut}
use Rattle.records.specs.Decode.{Shape, shape_of, Item, then_front, constant_in, digit_in, by_shape, decode}
use Rattle.records.specs.Decode.Shape.{aConstant, aBound, aRow, aRun, aWhen, aOne, aTwo, aThree, aFour, no_shape}
use Rattle.records.specs.Decode.Item.{item}
use Rattle.records.specs.Encode.{constant_kind, row_kind, run_kind, bound_kind}
use Rattle.records.proofs.Shapes.{Says, shape_says}
use Rattle.records.proofs.Back.{no_item_lem, pick_item}
use Rattle.records.proofs.Descend.{one_part, two_parts, three_parts, four_parts, opened}
use Rattle.kinds.proofs.Quick.{low_none}
use Rattle.std.specs.Prelude.{None}
use Rattle.heads.specs.Head.{headed, head_at}
use Rattle.heads.proofs.Heads.{Stands, head_stands, head_none}
use Rattle.folding.specs.TopDown.{arguments, kind_of}
use Rattle.folding.specs.Parts.{Parts}

-- one after another, from the start of the payload
module _ (sub : List ℕ → Item) (p : List ℕ) where
  one_made : (a : Tree) (u : ℕ) → sub p ≡ item a u → u ≡ length p → Parts sub p 0 (a ∷ [])
  unfolding Parts
  one_made a u ea f = (u, ea, zero-add u ∙ f)

  two_made : (a b : Tree) (u v : ℕ) → sub p ≡ item a u → sub (drop u p) ≡ item b v → u + v ≡ length p → Parts sub p 0 (a ∷ b ∷ [])
  unfolding Parts
  two_made a b u v ea eb f = (u, ea, (v, ap (λ n. sub (drop n p)) (zero-add u) ∙ eb, ap (λ n. n + v) (zero-add u) ∙ f))

  three_made : (a b c : Tree) (u v w : ℕ) → sub p ≡ item a u → sub (drop u p) ≡ item b v → sub (drop (u + v) p) ≡ item c w → u + v + w ≡ length p
      → Parts sub p 0 (a ∷ b ∷ c ∷ [])
  unfolding Parts
  three_made a b c u v w ea eb ec f =
      (u, ea, (v, ap (λ n. sub (drop n p)) (zero-add u) ∙ eb, (w, ap (λ n. sub (drop (n + v) p)) (zero-add u) ∙ ec, ap (λ n. n + v + w) (zero-add u) ∙ f)))

  four_made : (a b c d : Tree) (u v w x : ℕ) → sub p ≡ item a u → sub (drop u p) ≡ item b v → sub (drop (u + v) p) ≡ item c w
      → sub (drop (u + v + w) p) ≡ item d x → u + v + w + x ≡ length p → Parts sub p 0 (a ∷ b ∷ c ∷ d ∷ [])
  unfolding Parts
  four_made a b c d u v w x ea eb ec ed f = (
    u,
    ea,
    (
      v,
      ap (λ n. sub (drop n p)) (zero-add u) ∙ eb,
      (
        w,
        ap (λ n. sub (drop (n + v) p)) (zero-add u) ∙ ec,
        (
          x,
          ap (λ n. sub (drop (n + v + w) p)) (zero-add u) ∙ ed,
          ap (λ n. n + v + w + x) (zero-add u) ∙ f,
        ),
      ),
    ),
  )

-- what stands in a record of kind k with payload p
pub record Held (sub : List ℕ → Item) (k : ℕ) (p : List ℕ) (t : Tree) (n : ℕ) : Type 0 where
  pub kind : kind_of t ≡ k
  pub count : length (arguments t) ≡ arguments_of k
  pub parts : (arguments t ≡ [] → ⊥) → Parts sub p 0 (arguments t)
  pub takes : 4 + length p ≡ n

module _ (sub : List ℕ → Item) (k : ℕ) (p : List ℕ) (t : Tree) (n : ℕ) where
  -- a tree that is x holds what x holds
  same_held : (x : Tree) → x ≡ t → kind_of x ≡ k → length (arguments x) ≡ arguments_of k → ((arguments x ≡ [] → ⊥) → Parts sub p 0 (arguments x)) → 4 + length p ≡ n → Held sub k p t n
  same_held x e ek ec ps h = subst (λ x. Held sub k p x n) e (record { kind = ek; count = ec; parts = ps; takes = h })

  leaf_held : (x : Tree) (j : ℕ) → x ≡ t → k ≡ j → j < 16 → kind_of x ≡ j → arguments x ≡ [] → 4 + length p ≡ n → Held sub k p t n
  leaf_held x j e ek h kx a hn =
      let low : k < 16 = omega arith in
      same_held x e (kx ∙ sym ek) (ap length a ∙ low_none k low) (λ z. absurd (z a)) hn

  constant_held : k ≡ constant_kind → constant_in p ≡ item t n → Held sub k p t n
  unfolding constant_in kind_of arguments
  constant_held ek e =
      let h : (leb (length p) 1024 ≡ _) × (item (literal p) (4 + length p) ≡ item t n) = pick_item (leb (length p) 1024) (item (literal p) (4 + length p)) e in
      let i : item (literal p) (4 + length p) ≡ item t n = h.1 in
      leaf_held (literal p) constant_kind (cc) ek (omega arith) refl refl (cc)

  digit_held : (top j : ℕ) (name : ℕ → Tree) → k ≡ j → j < 16 → ((d : ℕ) → kind_of (name d) ≡ j) → ((d : ℕ) → arguments (name d) ≡ []) → digit_in top name p ≡ item t n → Held sub k p t n
  unfolding digit_in
  digit_held top j name ek h kn an e =
      let (e1, e2) = pick_item (eqb (length p) 1) (pick (ltb (get_or p 0 0) top) (item (name (get_or p 0 0)) 5) _) e in
      let (e3, e4) = pick_item (ltb (get_or p 0 0) top) (item (name (get_or p 0 0)) 5) e2 in
      go (eqb-true (length p) 1 e1) e4
    where
      go : length p ≡ 1 → item (name (get_or p 0 0)) 5 ≡ item t n → Held sub k p t n
      go l i =
          let five : 5 ≡ n = cc in
          leaf_held (name (get_or p 0 0)) j (cc) ek h (kn (get_or p 0 0)) (an (get_or p 0 0)) (omega arith)

  shape_held : (inner : Bool) (s : Shape) → Says inner k s → by_shape sub s k p ≡ item t n → Held sub k p t n
  unfolding Says by_shape kind_of arguments
  shape_held inner aConstant h e = constant_held h e
  shape_held inner aBound h e = digit_held 4 bound_kind bound h.0 (omega arith) (λ d. refl) (λ d. refl) e
  shape_held inner aRow h e = digit_held 8 row_kind row h (omega arith) (λ d. refl) (λ d. refl) e
  shape_held inner aRun h e = digit_held 4 run_kind run h (omega arith) (λ d. refl) (λ d. refl) e
  shape_held inner aWhen h e =
      let P = three_parts sub p t n when e in
      same_held (when P.a P.b P.c) P.tree (sym h) (sym (ap arguments_of h ∙ when_arguments))
      (λ z. three_made sub p P.a P.b P.c P.u P.v P.w P.at_a P.at_b P.at_c_lem P.fill) P.takes
  shape_held inner aOne h e =
      let P = one_part sub p t n (one k) e in
      same_held (one k P.a) P.tree refl (sym h) (λ z. one_made sub p P.a P.u P.at_a P.fill) P.takes
  shape_held inner aTwo h e =
      let P = two_parts sub p t n (two k) e in
      same_held (two k P.a P.b) P.tree refl (sym h) (λ z. two_made sub p P.a P.b P.u P.v P.at_a P.at_b P.fill) P.takes
  shape_held inner aThree h e =
      let P = three_parts sub p t n (three k) e in
      same_held (three k P.a P.b P.c) P.tree refl (sym h.0)
      (λ z. three_made sub p P.a P.b P.c P.u P.v P.w P.at_a P.at_b P.at_c_lem P.fill) P.takes
  shape_held inner aFour h e =
      let P = four_parts sub p t n (four k) e in
      same_held (four k P.a P.b P.c P.e) P.tree refl (sym h)
      (λ z. four_made sub p P.a P.b P.c P.e P.u P.v P.w P.x P.at_a P.at_b P.at_c_lem P.at_e P.fill) P.takes
  shape_held inner no_shape h e = absurd (no_item_lem e)

-- a record that was decoded, by the head that stands first
pub decoded_held : (inner : Bool) (d : ℕ) (s : List ℕ) (k : ℕ) (p : List ℕ) (t : Tree) (n : ℕ) → front_of s ≡ front k p → decode inner d s ≡ item t n → Held (decode inner (d - 1)) k p t n
decoded_held inner zero s k p t n ef e = unfold decode in absurd (no_item_lem e)
decoded_held inner (suc d) s k p t n ef e =
    subst (λ m. Held (decode inner m) k p t n) (sym (less d)) (shape_held (decode inner d) k p t n inner (shape_of inner k) (shape_says inner k) (opened inner d s k p (item t n) ef e))
  where
    less : (d : ℕ) → suc d - 1 ≡ d
    less d = omega arith

pub head_held : (inner : Bool) (d : ℕ) (s : List ℕ) (k m : ℕ) (t : Tree) (n : ℕ) → head_at s 0 ≡ headed k m → decode inner d s ≡ item t n
    → (p : List ℕ) × (length p ≡ m) × (front_of s ≡ front k p) × Held (decode inner (d - 1)) k p t n
head_held inner d s k m t n eh e =
    let S : Stands s 0 k m = head_stands s 0 k m eh in
    (S.held, S.size, S.is, decoded_held inner d s k S.held t n S.is e)

-- one level at least, and a whole record
pub decoded_level : (inner : Bool) (d : ℕ) (s : List ℕ) (t : Tree) (n : ℕ) → decode inner d s ≡ item t n → 1 ≤ d
decoded_level inner zero s t n e = unfold decode in absurd (no_item_lem e)
decoded_level inner (suc d) s t n e = omega arith

cut_none : (inner : Bool) (d : ℕ) (s : List ℕ) (t : Tree) (n : ℕ) → front_of s ≡ cut → decode inner d s ≡ item t n → ⊥
unfolding decode then_front
cut_none inner zero s t n ef e = no_item_lem e
cut_none inner (suc d) s t n ef e = no_item_lem (sym (ap (λ f. then_front f (λ k p. by_shape (decode inner d) (shape_of inner k) k p)) ef) ∙ e)

pub head_there : (inner : Bool) (d : ℕ) (s : List ℕ) (t : Tree) (n : ℕ) → head_at s 0 ≡ None → decode inner d s ≡ item t n → ⊥
head_there inner d s t n eh e = cut_none inner d s t n (head_none s 0 eh) e
