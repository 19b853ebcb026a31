-- What is decoded is what stands there (document 01, section 6).
use mathlib.Core.Path.{◌≡◌, refl, ap, ap₂, sym, ◌∙◌, subst}
use mathlib.Core.Bool.{Bool, true, false}
use mathlib.Core.List.{List, [], ◌∷◌, ◌++◌, append-nil}
use mathlib.Core.Logic.{◌↔◌}
use Prim.Native.Nat.{ℕ, zero, suc, ◌+◌, ◌*◌, ◌-◌, ◌/◌, ◌%◌, ◌≤◌, ◌<◌}
use native.Mathlib.Omega.{arith}
use lib.Dec.{eqb, leb, ltb}
use lib.ListN.{length, get_or, take, drop, take-append-drop}
use lib.Seq.{length-take-le, drop-drop, drop-length}
use borrow.Author.Tests.{leb-true, ltb-true, ltb-false, eqb-true}
use Rattle.common.specs.Choice.{pick}
use Rattle.tree.specs.Tree.{Tree}
use Rattle.tree.specs.Tree.Tree.{literal, bound, row, run, one, two, three, four, when}
use Rattle.tree.specs.Bounds.{depth, nodes, arguments_of, when_kind, Bytes, Proper, Small, Within}
use Rattle.tree.specs.Names.{NoBound}
use Rattle.tree.proofs.Bytes.{bytes_take, bytes_drop}
use Rattle.records.specs.Record.{record_of, word, Front, front_of}
use Rattle.records.specs.Record.Front.{front, cut}
use Rattle.records.specs.Encode.{constant_kind, row_kind, run_kind, bound_kind, encode}
use Rattle.records.specs.Decode.{Shape, shape_of, Item, then_item, then_front, filled, constant_in, digit_in, one_in, two_in, three_in, four_in, by_shape, decode, Image, whole_of, image_with}
use Rattle.records.specs.Decode.Shape.{aConstant, aBound, aRow, aRun, aWhen, aOne, aTwo, aThree, aFour, no_shape}
use Rattle.records.specs.Decode.Item.{item, no_item}
use Rattle.records.specs.Decode.Image.{image, no_image}
use Rattle.records.proofs.Shapes.{Says, shape_says}
use Rattle.records.proofs.There.{length_record, image_encode}

pub no_item_lem : {t : Tree} {u : ℕ} → no_item ≡ item t u → ⊥
no_item_lem e = let z : ◌≡◌ {A = ℕ} 0 1 = cc in omega arith

no_front : {k : ℕ} {p : List ℕ} → cut ≡ front k p → ⊥
no_front e = let z : ◌≡◌ {A = ℕ} 0 1 = cc in omega arith

pub no_image_lem : {t : Tree} → no_image ≡ image t → ⊥
no_image_lem e = let z : ◌≡◌ {A = ℕ} 0 1 = cc in omega arith

pub pick_item : (b : Bool) (i : Item) {t : Tree} {u : ℕ} → pick b i no_item ≡ item t u → (b ≡ true) × (i ≡ item t u)
unfolding pick
pick_item true i e = (refl, e)
pick_item false i e = absurd (no_item_lem e)

pick_front : (b : Bool) (i : Front) {k : ℕ} {p : List ℕ} → pick b cut i ≡ front k p → (b ≡ false) × (i ≡ front k p)
unfolding pick
pick_front true i e = absurd (no_front e)
pick_front false i e = (refl, e)

pick_image : (b : Bool) (i : Image) {t : Tree} → pick b i no_image ≡ image t → (b ≡ true) × (i ≡ image t)
unfolding pick
pick_image true i e = (refl, e)
pick_image false i e = absurd (no_image_lem e)

pub then_item_lem : (m : Item) (f : Tree → ℕ → Item) {t : Tree} {n : ℕ} → then_item m f ≡ item t n → (a : Tree) × (u : ℕ) × (m ≡ item a u) × (f a u ≡ item t n)
unfolding then_item
then_item_lem (item a u) f e = (a, u, refl, e)
then_item_lem no_item f e = absurd (no_item_lem e)

pub then_front_lem : (m : Front) (f : ℕ → List ℕ → Item) {t : Tree} {n : ℕ} → then_front m f ≡ item t n → (k : ℕ) × (p : List ℕ) × (m ≡ front k p) × (f k p ≡ item t n)
unfolding then_front
then_front_lem (front k p) f e = (k, p, refl, e)
then_front_lem cut f e = absurd (no_item_lem e)

-- a payload filled exactly
pub fills : (used : ℕ) (p : List ℕ) (a t : Tree) (n : ℕ) → filled used p a ≡ item t n → (used ≡ length p) × (a ≡ t) × (4 + length p ≡ n)
unfolding filled
fills used p a t n e =
    let h : (eqb used (length p) ≡ true) × (item a (4 + length p) ≡ item t n) = pick_item (eqb used (length p)) (item a (4 + length p)) e in
    let i : item a (4 + length p) ≡ item t n = h.1 in
    (eqb-true used (length p) h.0, cc, cc)

-- the four bytes of a head, and what follows them
head_back : (a b c d k : ℕ) (q p : List ℕ) → a < 256 → b < 256 → c < 256 → d < 256 → a + 256 * b ≤ length q → c + 256 * d ≡ k → take (a + 256 * b) q ≡ p
    → a ∷ b ∷ c ∷ d ∷ q ≡ record_of k p ++ drop (length p) q
unfolding record_of
head_back a b c d k q p ha hb hc hd fits ek ep =
    let len : length p ≡ a + 256 * b = ap length (sym ep) ∙ length-take-le (a + 256 * b) q fits in
    let pq : q ≡ p ++ drop (length p) q = sym (take-append-drop (length p) q) ∙ ap (λ l. l ++ drop (length p) q) (ap (λ n. take n q) len ∙ ep) in
    let e0 : a ≡ length p % 256 = omega arith in
    let e1 : b ≡ length p / 256 = omega arith in
    let e2 : c ≡ k % 256 = omega arith in
    let e3 : d ≡ k / 256 = omega arith in
    cc

-- the record read first is the record that stands first
pub front_back : (s : List ℕ) (k : ℕ) (p : List ℕ) → Bytes s → front_of s ≡ front k p → s ≡ record_of k p ++ drop (4 + length p) s
unfolding front_of pick
front_back [] k p h e = absurd (no_front e)
front_back (a ∷ []) k p h e = absurd (no_front e)
front_back (a ∷ (b ∷ [])) k p h e = absurd (no_front e)
front_back (a ∷ (b ∷ (c ∷ []))) k p h e = absurd (no_front e)
front_back (a ∷ (b ∷ (c ∷ (d ∷ q)))) k p h e =
    let s : List ℕ = a ∷ b ∷ c ∷ d ∷ q in
    let got : Front = front (c + 256 * d) (take (a + 256 * b) q) in
    let e1 : (ltb (length s) 4 ≡ false) × (pick (ltb (length s - 4) (a + 256 * b)) cut got ≡ front k p) =
    pick_front (ltb (length s) 4) (pick (ltb (length s - 4) (a + 256 * b)) cut got) e
    in
    let e2 : (ltb (length s - 4) (a + 256 * b) ≡ false) × (got ≡ front k p) = pick_front (ltb (length s - 4) (a + 256 * b)) got e1.1 in
    let fits : a + 256 * b ≤ length q = omega (arith, ltb-false (length s - 4) (a + 256 * b) e2.0) in
    let is : got ≡ front k p = e2.1 in
    head_back a b c d k q p (h 0) (h 1) (h 2) (h 3) fits (cc) (cc) ∙ ap (λ l. record_of k p ++ l) (drop-drop (length p) 4 s)

pub front_bytes : (s : List ℕ) (k : ℕ) (p : List ℕ) → Bytes s → front_of s ≡ front k p → Bytes p
unfolding front_of
front_bytes s k p h e =
    let got : Front = front (word s 2) (take (word s 0) (drop 4 s)) in
    let e1 : (ltb (length s) 4 ≡ false) × (pick (ltb (length s - 4) (word s 0)) cut got ≡ front k p) =
    pick_front (ltb (length s) 4) (pick (ltb (length s - 4) (word s 0)) cut got) e
    in
    let e2 : (ltb (length s - 4) (word s 0) ≡ false) × (got ≡ front k p) = pick_front (ltb (length s - 4) (word s 0)) got e1.1 in
    let is : got ≡ front k p = e2.1 in
    let ep : take (word s 0) (drop 4 s) ≡ p = cc in
    subst (λ (l : List ℕ). Bytes l) ep (bytes_take (word s 0) (drop 4 s) (bytes_drop 4 s h))

-- what is known of a tree that was decoded: the bounds, and no `#` but where it may stand
pub record Fine (inner : Bool) (d : ℕ) (t : Tree) : Type 0 where
  pub proper : Proper t
  pub small : Small t
  pub deep : depth t ≤ d
  pub free : inner ≡ false → NoBound t

-- it stands first in the list, and takes u bytes
pub record Stands (inner : Bool) (d : ℕ) (s : List ℕ) (t : Tree) (u : ℕ) : Type 0 where
  pub same : s ≡ encode t ++ drop u s
  pub used : length (encode t) ≡ u
  pub fine : Fine inner d t

abbrev Sub : Bool → ℕ → (List ℕ → Item) → Type 0
Sub inner d sub = (s : List ℕ) (t : Tree) (u : ℕ) → Bytes s → sub s ≡ item t u → Stands inner d s t u

-- a record with its payload is the tree's
pub record Made (inner : Bool) (d k : ℕ) (p : List ℕ) (t : Tree) (n : ℕ) : Type 0 where
  pub is : record_of k p ≡ encode t
  pub takes : 4 + length p ≡ n
  pub fine : Fine inner d t

constant_back : (inner : Bool) (d k : ℕ) (p : List ℕ) (t : Tree) (n : ℕ) → k ≡ constant_kind → Bytes p → constant_in p ≡ item t n → Made inner (suc d) k p t n
unfolding constant_in encode Proper Small depth NoBound
constant_back inner d k p t n ek hp e =
    let h : (leb (length p) 1024 ≡ true) × (item (literal p) (4 + length p) ≡ item t n) = pick_item (leb (length p) 1024) (item (literal p) (4 + length p)) e in
    let i : item (literal p) (4 + length p) ≡ item t n = h.1 in
    let et : literal p ≡ t = cc in
    let en : 4 + length p ≡ n = cc in
    let le : length p ≤ 1024 = leb-true (length p) 1024 h.0 in
    subst (λ t. Made inner (suc d) k p t n) et
    (record { is = ap (λ k. record_of k p) ek; takes = en; fine = record { proper = hp; small = le; deep = omega arith; free = λ e. tt } })

-- a payload of one byte
one_byte : (p : List ℕ) → length p ≡ 1 → p ≡ get_or p 0 0 ∷ []
one_byte [] e = absurd (omega arith)
one_byte (x ∷ []) e = refl
one_byte (x ∷ (y ∷ r)) e = absurd (omega arith)

digit_in_lem : (top : ℕ) (name : ℕ → Tree) (p : List ℕ) (t : Tree) (n : ℕ) → digit_in top name p ≡ item t n → (length p ≡ 1) × (get_or p 0 0 < top) × (name (get_or p 0 0) ≡ t) × (5 ≡ n)
unfolding digit_in
digit_in_lem top name p t n e =
    let h : (eqb (length p) 1 ≡ true) × (pick (ltb (get_or p 0 0) top) (item (name (get_or p 0 0)) 5) no_item ≡ item t n) =
    pick_item (eqb (length p) 1) (pick (ltb (get_or p 0 0) top) (item (name (get_or p 0 0)) 5) no_item) e
    in
    let g : (ltb (get_or p 0 0) top ≡ true) × (item (name (get_or p 0 0)) 5 ≡ item t n) = pick_item (ltb (get_or p 0 0) top) (item (name (get_or p 0 0)) 5) h.1 in
    let i : item (name (get_or p 0 0)) 5 ≡ item t n = g.1 in
    (eqb-true (length p) 1 h.0, ltb-true (get_or p 0 0) top g.0, cc, cc)

digit_made : (inner : Bool) (d kind k x top : ℕ) (name : ℕ → Tree) (p : List ℕ) (t : Tree) (n : ℕ) → ((x : ℕ) → encode (name x) ≡ record_of kind (x ∷ [])) → (x < top → Fine inner (suc d) (name x))
    → k ≡ kind → length p ≡ 1 → p ≡ x ∷ [] → x < top → name x ≡ t → 5 ≡ n → Made inner (suc d) k p t n
digit_made inner d kind k x top name p t n en fine ek el ep lt et e5 =
    subst (λ t. Made inner (suc d) k p t n) et
    (record { is = ap₂ record_of ek ep ∙ sym (en x); takes = omega arith; fine = fine lt })

digit_back : (inner : Bool) (d kind k top : ℕ) (name : ℕ → Tree) (p : List ℕ) (t : Tree) (n : ℕ) → ((x : ℕ) → encode (name x) ≡ record_of kind (x ∷ [])) → ((x : ℕ) → x < top → Fine inner (suc d) (name x))
    → k ≡ kind → digit_in top name p ≡ item t n → Made inner (suc d) k p t n
digit_back inner d kind k top name p t n en fine ek e =
    let (el, lt, et, e5) = digit_in_lem top name p t n e in
    digit_made inner d kind k (get_or p 0 0) top name p t n en (fine (get_or p 0 0)) ek el (one_byte p el) lt et e5

-- after the last argument nothing is left
at_end : (u : ℕ) (p : List ℕ) → u ≡ length p → drop u p ≡ []
at_end u p e = ap (λ n. drop n p) e ∙ drop-length p

one_joined : (p ea : List ℕ) (u : ℕ) → p ≡ ea ++ drop u p → u ≡ length p → p ≡ ea
one_joined p ea u sa e = sa ∙ ap (λ l. ea ++ l) (at_end u p e) ∙ append-nil ea

two_joined : (p ea eb : List ℕ) (u v : ℕ) → p ≡ ea ++ drop u p → drop u p ≡ eb ++ drop v (drop u p) → u + v ≡ length p → p ≡ ea ++ eb
two_joined p ea eb u v sa sb e = sa ∙ ap (λ l. ea ++ l) (sb ∙ ap (λ l. eb ++ l) (drop-drop v u p ∙ at_end (u + v) p e) ∙ append-nil eb)

three_joined : (p ea eb ec : List ℕ) (u v w : ℕ) → p ≡ ea ++ drop u p → drop u p ≡ eb ++ drop v (drop u p) → drop (u + v) p ≡ ec ++ drop w (drop (u + v) p) → u + v + w ≡ length p
    → p ≡ ea ++ (eb ++ ec)
three_joined p ea eb ec u v w sa sb sc e =
    sa ∙ ap (λ l. ea ++ l) (sb ∙ ap (λ l. eb ++ l) (drop-drop v u p ∙ sc ∙ ap (λ l. ec ++ l) (drop-drop w (u + v) p ∙ at_end (u + v + w) p e) ∙ append-nil ec))

four_joined : (p ea eb ec ed : List ℕ) (u v w x : ℕ) → p ≡ ea ++ drop u p → drop u p ≡ eb ++ drop v (drop u p) → drop (u + v) p ≡ ec ++ drop w (drop (u + v) p)
    → drop (u + v + w) p ≡ ed ++ drop x (drop (u + v + w) p) → u + v + w + x ≡ length p → p ≡ ea ++ (eb ++ (ec ++ ed))
four_joined p ea eb ec ed u v w x sa sb sc sd e =
    sa
    ∙ ap (λ l. ea ++ l)
    (sb
    ∙ ap (λ l. eb ++ l)
    (drop-drop v u p ∙ sc ∙ ap (λ l. ec ++ l) (drop-drop w (u + v) p ∙ sd ∙ ap (λ l. ed ++ l) (drop-drop x (u + v + w) p ∙ at_end (u + v + w + x) p e) ∙ append-nil ed)))

-- what a payload of one to four arguments holds
record One (inner : Bool) (d : ℕ) (call : Tree → Tree) (p : List ℕ) (t : Tree) (n : ℕ) : Type 0 where
  a : Tree
  joined : p ≡ encode a
  tree : call a ≡ t
  takes : 4 + length p ≡ n
  fine_a : Fine inner d a

record Two (inner : Bool) (d : ℕ) (call : Tree → Tree → Tree) (p : List ℕ) (t : Tree) (n : ℕ) : Type 0 where
  a : Tree
  b : Tree
  joined : p ≡ encode a ++ encode b
  tree : call a b ≡ t
  takes : 4 + length p ≡ n
  fine_a : Fine inner d a
  fine_b : Fine inner d b

record Three (inner : Bool) (d : ℕ) (call : Tree → Tree → Tree → Tree) (p : List ℕ) (t : Tree) (n : ℕ) : Type 0 where
  a : Tree
  b : Tree
  c : Tree
  joined : p ≡ encode a ++ (encode b ++ encode c)
  tree : call a b c ≡ t
  takes : 4 + length p ≡ n
  fine_a : Fine inner d a
  fine_b : Fine inner d b
  fine_c : Fine inner d c

record Four (inner : Bool) (d : ℕ) (call : Tree → Tree → Tree → Tree → Tree) (p : List ℕ) (t : Tree) (n : ℕ) : Type 0 where
  a : Tree
  b : Tree
  c : Tree
  e : Tree
  joined : p ≡ encode a ++ (encode b ++ (encode c ++ encode e))
  tree : call a b c e ≡ t
  takes : 4 + length p ≡ n
  fine_a : Fine inner d a
  fine_b : Fine inner d b
  fine_c : Fine inner d c
  fine_e : Fine inner d e

module _ (inner : Bool) (d : ℕ) (sub : List ℕ → Item) (ih : Sub inner d sub) (p : List ℕ) (hp : Bytes p) (t : Tree) (n : ℕ) where
  one_in_lem : (call : Tree → Tree) → one_in sub call p ≡ item t n → One inner d call p t n
  unfolding one_in
  one_in_lem call e =
      let (a, u, ea, e1) = then_item_lem (sub p) (λ a u. filled u p (call a)) e in
      let (eu, et, en) = fills u p (call a) t n e1 in
      let A = ih p a u hp ea in
      record { a = a; joined = one_joined p (encode a) u A.same eu; tree = et; takes = en; fine_a = A.fine }

  two_in_lem : (call : Tree → Tree → Tree) → two_in sub call p ≡ item t n → Two inner d call p t n
  unfolding two_in
  two_in_lem call e =
      let (a, u, ea, e1) = then_item_lem (sub p) (λ a u. then_item (sub (drop u p)) (λ b v. filled (u + v) p (call a b))) e in
      let (b, v, eb, e2) = then_item_lem (sub (drop u p)) (λ b v. filled (u + v) p (call a b)) e1 in
      let (eu, et, en) = fills (u + v) p (call a b) t n e2 in
      let A = ih p a u hp ea in
      let B = ih (drop u p) b v (bytes_drop u p hp) eb in
      record { a = a; b = b; joined = two_joined p (encode a) (encode b) u v A.same B.same eu; tree = et; takes = en; fine_a = A.fine; fine_b = B.fine }

  three_in_lem : (call : Tree → Tree → Tree → Tree) → three_in sub call p ≡ item t n → Three inner d call p t n
  unfolding three_in
  three_in_lem call e =
      let (a, u, ea, e1) =
      then_item_lem (sub p) (λ a u. then_item (sub (drop u p)) (λ b v. then_item (sub (drop (u + v) p)) (λ c w. filled (u + v + w) p (call a b c)))) e
      in
      let (b, v, eb, e2) = then_item_lem (sub (drop u p)) (λ b v. then_item (sub (drop (u + v) p)) (λ c w. filled (u + v + w) p (call a b c))) e1 in
      let (c, w, ec, e3) = then_item_lem (sub (drop (u + v) p)) (λ c w. filled (u + v + w) p (call a b c)) e2 in
      let (eu, et, en) = fills (u + v + w) p (call a b c) t n e3 in
      let A = ih p a u hp ea in
      let B = ih (drop u p) b v (bytes_drop u p hp) eb in
      let D = ih (drop (u + v) p) c w (bytes_drop (u + v) p hp) ec in
      record {
        a = a;
        b = b;
        c = c;
        joined = three_joined p (encode a) (encode b) (encode c) u v w A.same B.same D.same eu;
        tree = et;
        takes = en;
        fine_a = A.fine;
        fine_b = B.fine;
        fine_c = D.fine;
      }

  four_in_lem : (call : Tree → Tree → Tree → Tree → Tree) → four_in sub call p ≡ item t n → Four inner d call p t n
  unfolding four_in
  four_in_lem call e =
      let (a, u, ea, e1) =
      then_item_lem (sub p) (λ a u. then_item (sub (drop u p)) (λ b v. then_item (sub (drop (u + v) p)) (λ c w.
      then_item (sub (drop (u + v + w) p)) (λ d x. filled (u + v + w + x) p (call a b c d))))) e
      in
      let (b, v, eb, e2) =
      then_item_lem (sub (drop u p)) (λ b v. then_item (sub (drop (u + v) p)) (λ c w. then_item (sub (drop (u + v + w) p)) (λ d x. filled (u + v + w + x) p (call a b c d)))) e1
      in
      let (c, w, ec, e3) = then_item_lem (sub (drop (u + v) p)) (λ c w. then_item (sub (drop (u + v + w) p)) (λ d x. filled (u + v + w + x) p (call a b c d))) e2 in
      let (g, x, eg, e4) = then_item_lem (sub (drop (u + v + w) p)) (λ d x. filled (u + v + w + x) p (call a b c d)) e3 in
      let (eu, et, en) = fills (u + v + w + x) p (call a b c g) t n e4 in
      let A = ih p a u hp ea in
      let B = ih (drop u p) b v (bytes_drop u p hp) eb in
      let D = ih (drop (u + v) p) c w (bytes_drop (u + v) p hp) ec in
      let G = ih (drop (u + v + w) p) g x (bytes_drop (u + v + w) p hp) eg in
      record {
        a = a;
        b = b;
        c = c;
        e = g;
        joined = four_joined p (encode a) (encode b) (encode c) (encode g) u v w x A.same B.same D.same G.same eu;
        tree = et;
        takes = en;
        fine_a = A.fine;
        fine_b = B.fine;
        fine_c = D.fine;
        fine_e = G.fine;
      }

-- a call one level above its arguments
module _ (inner : Bool) (d k : ℕ) (p : List ℕ) (t : Tree) (n : ℕ) where
  one_made : arguments_of k ≡ 1 → One inner d (one k) p t n → Made inner (suc d) k p t n
  unfolding encode Proper Small depth NoBound
  one_made h T =
      let da = T.fine_a.deep in
      let f : Fine inner (suc d) (one k T.a) =
      record { proper = (h, T.fine_a.proper); small = T.fine_a.small; deep = omega arith; free = λ e. T.fine_a.free e }
      in
      subst (λ t. Made inner (suc d) k p t n) T.tree (record { is = ap (record_of k) T.joined; takes = T.takes; fine = f })

  two_made : arguments_of k ≡ 2 → Two inner d (two k) p t n → Made inner (suc d) k p t n
  unfolding encode Proper Small depth NoBound
  two_made h T =
      let da = T.fine_a.deep in
      let db = T.fine_b.deep in
      let f : Fine inner (suc d) (two k T.a T.b) =
      record {
        proper = (h, T.fine_a.proper, T.fine_b.proper);
        small = (T.fine_a.small, T.fine_b.small);
        deep = omega arith;
        free = λ e. (T.fine_a.free e, T.fine_b.free e);
      }
      in
      subst (λ t. Made inner (suc d) k p t n) T.tree (record { is = ap (record_of k) T.joined; takes = T.takes; fine = f })

  three_made : arguments_of k ≡ 3 → (k ≡ when_kind → ⊥) → Three inner d (three k) p t n → Made inner (suc d) k p t n
  unfolding encode Proper Small depth NoBound
  three_made h w T =
      let da = T.fine_a.deep in
      let db = T.fine_b.deep in
      let dc = T.fine_c.deep in
      let f : Fine inner (suc d) (three k T.a T.b T.c) =
      record {
        proper = (h, w, T.fine_a.proper, T.fine_b.proper, T.fine_c.proper);
        small = (T.fine_a.small, T.fine_b.small, T.fine_c.small);
        deep = omega arith;
        free = λ e. (T.fine_a.free e, T.fine_b.free e, T.fine_c.free e);
      }
      in
      subst (λ t. Made inner (suc d) k p t n) T.tree (record { is = ap (record_of k) T.joined; takes = T.takes; fine = f })

  when_made : k ≡ when_kind → Three inner d when p t n → Made inner (suc d) k p t n
  unfolding encode Proper Small depth NoBound
  when_made w T =
      let da = T.fine_a.deep in
      let db = T.fine_b.deep in
      let dc = T.fine_c.deep in
      let f : Fine inner (suc d) (when T.a T.b T.c) =
      record {
        proper = (T.fine_a.proper, T.fine_b.proper, T.fine_c.proper);
        small = (T.fine_a.small, T.fine_b.small, T.fine_c.small);
        deep = omega arith;
        free = λ e. (T.fine_a.free e, T.fine_b.free e, T.fine_c.free e);
      }
      in
      subst (λ t. Made inner (suc d) k p t n) T.tree (record { is = ap₂ record_of w T.joined; takes = T.takes; fine = f })

  four_made : arguments_of k ≡ 4 → Four inner d (four k) p t n → Made inner (suc d) k p t n
  unfolding encode Proper Small depth NoBound
  four_made h T =
      let da = T.fine_a.deep in
      let db = T.fine_b.deep in
      let dc = T.fine_c.deep in
      let de = T.fine_e.deep in
      let f : Fine inner (suc d) (four k T.a T.b T.c T.e) =
      record {
        proper = (h, T.fine_a.proper, T.fine_b.proper, T.fine_c.proper, T.fine_e.proper);
        small = (T.fine_a.small, T.fine_b.small, T.fine_c.small, T.fine_e.small);
        deep = omega arith;
        free = λ i. (T.fine_a.free i, T.fine_b.free i, T.fine_c.free i, T.fine_e.free i);
      }
      in
      subst (λ t. Made inner (suc d) k p t n) T.tree (record { is = ap (record_of k) T.joined; takes = T.takes; fine = f })

  bound_fine : inner ≡ true → (x : ℕ) → x < 4 → Fine inner (suc d) (bound x)
  unfolding Proper Small depth NoBound
  bound_fine e x h = record { proper = h; small = tt; deep = omega arith; free = λ f. true_false (sym e ∙ f) }
    where
      true_false : true ≡ false → ⊥
      true_false e = let z : ◌≡◌ {A = ℕ} 0 1 = cc in omega arith

  row_fine : (x : ℕ) → x < 8 → Fine inner (suc d) (row x)
  unfolding Proper Small depth NoBound
  row_fine x h = record { proper = h; small = tt; deep = omega arith; free = λ f. tt }

  run_fine : (x : ℕ) → x < 4 → Fine inner (suc d) (run x)
  unfolding Proper Small depth NoBound
  run_fine x h = record { proper = h; small = tt; deep = omega arith; free = λ f. tt }

  shape_back : (sub : List ℕ → Item) → Sub inner d sub → Bytes p → (sh : Shape) → Says inner k sh → by_shape sub sh k p ≡ item t n → Made inner (suc d) k p t n
  unfolding by_shape Says encode
  shape_back sub ih hp aConstant s e = constant_back inner d k p t n s hp e
  shape_back sub ih hp aBound s e = digit_back inner d bound_kind k 4 bound p t n (λ x. refl) (bound_fine s.1) s.0 e
  shape_back sub ih hp aRow s e = digit_back inner d row_kind k 8 row p t n (λ x. refl) row_fine s e
  shape_back sub ih hp aRun s e = digit_back inner d run_kind k 4 run p t n (λ x. refl) run_fine s e
  shape_back sub ih hp aWhen s e = when_made s (three_in_lem inner d sub ih p hp t n when e)
  shape_back sub ih hp aOne s e = one_made s (one_in_lem inner d sub ih p hp t n (one k) e)
  shape_back sub ih hp aTwo s e = two_made s (two_in_lem inner d sub ih p hp t n (two k) e)
  shape_back sub ih hp aThree s e = three_made s.0 s.1 (three_in_lem inner d sub ih p hp t n (three k) e)
  shape_back sub ih hp aFour s e = four_made s (four_in_lem inner d sub ih p hp t n (four k) e)
  shape_back sub ih hp no_shape s e = absurd (no_item_lem e)

stands : (inner : Bool) (d k : ℕ) (p s : List ℕ) (t : Tree) (n : ℕ) → s ≡ record_of k p ++ drop (4 + length p) s → Made inner d k p t n → Stands inner d s t n
stands inner d k p s t n e M =
    record {
      same = e ∙ ap₂ (λ (l : List ℕ) (m : ℕ). l ++ drop m s) M.is M.takes;
      used = ap length (sym M.is) ∙ length_record k p ∙ M.takes;
      fine = M.fine;
    }

-- what is decoded stands there, within the bounds
pub decode_back : (inner : Bool) (d : ℕ) → Sub inner d (decode inner d)
unfolding decode
decode_back inner zero s t n hs e = absurd (no_item_lem e)
decode_back inner (suc d) s t n hs e =
    let (k, p, ef, e1) = then_front_lem (front_of s) (λ k p. by_shape (decode inner d) (shape_of inner k) k p) e in
    stands inner (suc d) k p s t n (front_back s k p hs ef)
    (shape_back inner d k p t n (decode inner d) (decode_back inner d) (front_bytes s k p hs ef) (shape_of inner k) (shape_says inner k) e1)

-- the bytes of an image are the encoding of a tree within the bounds
pub record IsImage (inner : Bool) (s : List ℕ) (t : Tree) : Type 0 where
  pub is : s ≡ encode t
  pub within : Within t
  pub free : inner ≡ false → NoBound t
  pub size : length s ≤ 16384

whole_back : (s : List ℕ) (i : Item) (t : Tree) → whole_of s i ≡ image t → (i ≡ item t (length s)) × (nodes t ≤ 128)
unfolding whole_of
whole_back s (item a u) t e =
    let h : (eqb u (length s) ≡ true) × (pick (leb (nodes a) 128) (image a) no_image ≡ image t) = pick_image (eqb u (length s)) (pick (leb (nodes a) 128) (image a) no_image) e in
    let g : (leb (nodes a) 128 ≡ true) × (image a ≡ image t) = pick_image (leb (nodes a) 128) (image a) h.1 in
    let i : image a ≡ image t = g.1 in
    let ea : a ≡ t = cc in
    let eu : u ≡ length s = eqb-true u (length s) h.0 in
    (ap₂ item ea eu, rw ea at (leb-true (nodes a) 128 g.0))
whole_back s no_item t e = absurd (no_image_lem e)

image_is : (inner : Bool) (s : List ℕ) (t : Tree) → length s ≤ 16384 → nodes t ≤ 128 → Stands inner 16 s t (length s) → IsImage inner s t
image_is inner s t h few S =
    record {
      is = S.same ∙ ap (λ l. encode t ++ l) (drop-length s) ∙ append-nil (encode t);
      within = record { proper = S.fine.proper; small = S.fine.small; shallow = S.fine.deep; few = few };
      free = S.fine.free;
      size = h;
    }

pub image_back : (inner : Bool) (s : List ℕ) (t : Tree) → Bytes s → image_with inner s ≡ image t → IsImage inner s t
unfolding image_with
image_back inner s t hs e =
    let h : (leb (length s) 16384 ≡ true) × (whole_of s (decode inner 16 s) ≡ image t) = pick_image (leb (length s) 16384) (whole_of s (decode inner 16 s)) e in
    let (ei, few) = whole_back s (decode inner 16 s) t h.1 in
    image_is inner s t (leb-true (length s) 16384 h.0) few (decode_back inner 16 s t (length s) hs ei)

-- bytes are an image exactly if they are the encoding of a tree within the bounds, without `#`, and no longer than 16,384 bytes
pub image_exactly : (inner : Bool) (s : List ℕ) (t : Tree) → Bytes s → (image_with inner s ≡ image t) ↔ IsImage inner s t
image_exactly inner s t hs = (image_back inner s t hs, λ I. subst (λ l. image_with inner l ≡ image t) (sym I.is) (image_encode inner t I.within I.free (subst (λ l. length l ≤ 16384) I.is I.size)))
