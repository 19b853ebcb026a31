-- The image check's answers, way by way.
use mathlib.Core.Path.{◌≡◌, refl, ap, sym, ◌∙◌}
use mathlib.Core.Bool.{Bool, true, false}
use mathlib.Core.List.{List}
use Rattle.std.specs.Prelude.{Option, Some, None}
use Prim.Native.Nat.{ℕ, zero, suc, ◌+◌, ◌*◌, ◌-◌, ◌<◌, ◌≤◌, max}
use native.Mathlib.Omega.{arith}
use lib.Dec.{eqb, leb, ltb}
use lib.ListN.{length, get_or, take, drop, length-drop}
use lib.Seq.{take_all}
use borrow.Author.Tests.{eq-eqb, ne_eqb, le-leb, lt-leb, lt-ltb, le-ltb}
use Rattle.common.specs.Choice.{pick}
use Rattle.common.proofs.Choices.{pick_true, pick_false}
use Rattle.tree.specs.Tree.{Tree}
use Rattle.tree.specs.Tree.Tree.{bound, row, run}
use Rattle.tree.specs.Bounds.{nodes, arguments_of}
use Rattle.kinds.specs.declared.Need.{Need}
use Rattle.kinds.proofs.Needs.{one_need}
use Rattle.records.specs.Decode.{Image, Shape, shape_of, Item, then_front, constant_in, digit_in, by_shape, decode, whole_of, image_with}
use Rattle.records.specs.Decode.Shape.{aConstant, aBound, aRow, aRun, no_shape}
use Rattle.records.specs.Decode.Item.{item, no_item}
use Rattle.records.specs.Decode.Image.{image, no_image}
use Rattle.records.proofs.Shapes.{leaf_shapes, bound_shape}
use Rattle.heads.specs.declared.Head.{Head}
use Rattle.heads.specs.Head.{headed, head_at}
use Rattle.heads.proofs.Heads.{Stands, head_stands, head_none}
use Rattle.kinds.specs.Tables.{tables_for, tables_of}
use Rattle.image_check.specs.Check.Counted.{Fits, Fails}
use Rattle.image_check.specs.Check.{Counted, check_of, digit_of, then_fits, several_from, call_of, needed, verdict_of}
use Rattle.image_check.proofs.Bounds.{Counts, decode_counts}
use Rattle.image_check.proofs.Calls.{call_several}

no_fits : {u m x : ℕ} → Fails ≡ Fits u m x → ⊥
no_fits e = let z : ◌≡◌ {A = ℕ} 0 1 = cc in omega arith

-- `constant_in` and `digit_in`
pub constant_fits : (p : List ℕ) → length p ≤ 1024 → Fits (4 + length p) 1 0 ≡ check_of (constant_in p)
unfolding constant_in check_of nodes tables_of
constant_fits p h = sym (ap check_of (pick_true _ _ _ (le-leb (length p) 1024 h)))

pub constant_fails : (p : List ℕ) → 1024 < length p → Fails ≡ check_of (constant_in p)
unfolding constant_in check_of
constant_fails p h = sym (ap check_of (pick_false _ _ _ (lt-leb (length p) 1024 h)))

module _ (top : ℕ) (p : List ℕ) where
  pub digit_fits : length p ≡ 1 → get_or p 0 0 < top → Fits 5 1 0 ≡ digit_of top p
  unfolding digit_of
  digit_fits a b = sym (pick_true _ _ _ (eq-eqb (length p) 1 a) ∙ pick_true _ _ _ (lt-ltb (get_or p 0 0) top b))

  pub digit_high : length p ≡ 1 → top ≤ get_or p 0 0 → Fails ≡ digit_of top p
  unfolding digit_of
  digit_high a b = sym (pick_true _ _ _ (eq-eqb (length p) 1 a) ∙ pick_false _ _ _ (le-ltb (get_or p 0 0) top b))

  pub digit_size : (length p ≡ 1 → ⊥) → Fails ≡ digit_of top p
  unfolding digit_of
  digit_size a = sym (pick_false _ _ _ (ne_eqb (length p) 1 a))

-- a name's digit, whichever name
either_check : (a b : Bool) (t : Tree) → nodes t ≡ 1 → tables_of t ≡ 0 → pick a (pick b (Fits 5 1 0) Fails) Fails ≡ check_of (pick a (pick b (item t 5) no_item) no_item)
unfolding pick check_of
either_check true true t n x = sym (ap (λ m. Fits 5 m (tables_of t)) n ∙ ap (Fits 5 1) x)
either_check true false t n x = refl
either_check false b t n x = refl

digit_check : (top : ℕ) (name : ℕ → Tree) (p : List ℕ) → ((x : ℕ) → nodes (name x) ≡ 1) → ((x : ℕ) → tables_of (name x) ≡ 0) → digit_of top p ≡ check_of (digit_in top name p)
unfolding digit_of digit_in
digit_check top name p n x = either_check (eqb (length p) 1) (ltb (get_or p 0 0) top) (name (get_or p 0 0)) (n (get_or p 0 0)) (x (get_or p 0 0))

-- `by_kind`
module _ (sub : List ℕ → Item) (inner : Bool) (k : ℕ) (p : List ℕ) (r : Counted) where
  by_shape_lem : (j : ℕ) (s : Shape) → k ≡ j → shape_of inner j ≡ s → r ≡ check_of (by_shape sub s k p) → r ≡ check_of (by_shape sub (shape_of inner k) k p)
  by_shape_lem j s e f h = h ∙ ap (λ s. check_of (by_shape sub s k p)) (sym (ap (shape_of inner) e ∙ f))

  pub as_constant : k ≡ 1 → r ≡ check_of (constant_in p) → r ≡ check_of (by_shape sub (shape_of inner k) k p)
  unfolding by_shape
  as_constant e h = by_shape_lem 1 aConstant e (leaf_shapes inner).0 h

  pub as_row : k ≡ 2 → r ≡ digit_of 8 p → r ≡ check_of (by_shape sub (shape_of inner k) k p)
  unfolding by_shape nodes tables_of
  as_row e h = by_shape_lem 2 aRow e (leaf_shapes inner).1 (h ∙ digit_check 8 row p (λ x. refl) (λ x. refl))

  pub as_run : k ≡ 3 → r ≡ digit_of 4 p → r ≡ check_of (by_shape sub (shape_of inner k) k p)
  unfolding by_shape nodes tables_of
  as_run e h = by_shape_lem 3 aRun e (leaf_shapes inner).2 (h ∙ digit_check 4 run p (λ x. refl) (λ x. refl))

  pub as_bound : k ≡ 4 → inner ≡ true → r ≡ digit_of 4 p → r ≡ check_of (by_shape sub (shape_of inner k) k p)
  unfolding by_shape nodes tables_of
  as_bound e t h = by_shape_lem 4 aBound e (ap (λ b. shape_of b 4) t ∙ bound_shape) (h ∙ digit_check 4 bound p (λ x. refl) (λ x. refl))

no_bound : shape_of false 4 ≡ no_shape
unfolding shape_of pick
no_bound = refl

pub not_bound : (sub : List ℕ → Item) (inner : Bool) (k : ℕ) (p : List ℕ) → k ≡ 4 → inner ≡ false → Fails ≡ check_of (by_shape sub (shape_of inner k) k p)
unfolding by_shape check_of
not_bound sub inner k p e f = by_shape_lem sub inner k p Fails 4 no_shape e (ap (λ b. shape_of b 4) f ∙ no_bound) refl

-- a call, by the count of its arguments
module _ (sub : List ℕ → Item) (inner : Bool) (k n : ℕ) (p : List ℕ) (a : Counted) (en : n ≡ arguments_of k) (z : n ≡ 0 → ⊥) (ea : a ≡ several_from sub p n 0 0 0) where
  as_call : call_of k p a ≡ check_of (by_shape sub (shape_of inner k) k p)
  as_call = ap (call_of k p) ea ∙ call_several sub inner p k n en z

  pub call_fails : a ≡ Fails → Fails ≡ check_of (by_shape sub (shape_of inner k) k p)
  unfolding call_of
  call_fails e = sym (ap (call_of k p) e) ∙ as_call

  module _ (u m x : ℕ) (e : a ≡ Fits u m x) where
    pub call_fits : u ≡ length p → (y z : ℕ) → y ≡ tables_for k → z ≡ max y x → Fits (4 + length p) (m + 1) z ≡ check_of (by_shape sub (shape_of inner k) k p)
    unfolding call_of
    call_fits h y z ey ez =
        ap (Fits (4 + length p) (m + 1)) (ez ∙ ap (λ y. max y x) ey) ∙ sym (ap (call_of k p) e ∙ pick_true _ _ _ (eq-eqb u (length p) h)) ∙ as_call

    pub call_unfilled : (u ≡ length p → ⊥) → Fails ≡ check_of (by_shape sub (shape_of inner k) k p)
    unfolding call_of
    call_unfilled h = sym (ap (call_of k p) e ∙ pick_false _ _ _ (ne_eqb u (length p) h)) ∙ as_call

-- `several`
-- the list of a part from u on
part_drop : (u : ℕ) (p : List ℕ) → take (length p - u) (drop u p) ≡ drop u p
part_drop u p = take_all (length p - u) (drop u p) (let l = length-drop u p in omega arith)

module _ (inner : Bool) (d : ℕ) (p : List ℕ) (left u m x : ℕ) where
  pub several_none : left ≡ 0 → Fits u m x ≡ several_from (decode inner d) p left u m x
  unfolding several_from
  several_none e = sym (ap (λ n. several_from (decode inner d) p n u m x) e)

  module _ (z : left ≡ 0 → ⊥) (a : Counted) (ea : a ≡ check_of (decode inner d (take (length p - u) (drop u p)))) where
    at_place : a ≡ check_of (decode inner d (drop u p))
    at_place = ea ∙ ap (λ q. check_of (decode inner d q)) (part_drop u p)

    one_more : several_from (decode inner d) p left u m x ≡ then_fits a (λ v l y. several_from (decode inner d) p (left - 1) (u + v) (m + l) (max x y))
    unfolding several_from
    one_more =
        ap (λ n. several_from (decode inner d) p n u m x) (suc_left left z)
        ∙ sym (ap (λ a. then_fits a (λ v l y. several_from (decode inner d) p (left - 1) (u + v) (m + l) (max x y))) at_place)
      where
        suc_left : (n : ℕ) → (n ≡ 0 → ⊥) → n ≡ suc (n - 1)
        suc_left n z = omega arith

    pub several_fails : a ≡ Fails → Fails ≡ several_from (decode inner d) p left u m x
    unfolding then_fits
    several_fails e = sym (one_more ∙ ap (λ a. then_fits a (λ v l y. several_from (decode inner d) p (left - 1) (u + v) (m + l) (max x y))) e)

    pub several_more : (v l y w : ℕ) (r : Counted) → a ≡ Fits v l y → w ≡ max x y → r ≡ several_from (decode inner d) p (left - 1) (u + v) (m + l) w
        → r ≡ several_from (decode inner d) p left u m x
    unfolding then_fits
    several_more v l y w r e ew er =
        er ∙ ap (several_from (decode inner d) p (left - 1) (u + v) (m + l)) ew
        ∙ sym (one_more ∙ ap (λ a. then_fits a (λ v l y. several_from (decode inner d) p (left - 1) (u + v) (m + l) (max x y))) e)

-- what an answer says of what was read
fits_item : (i : Item) (r : Counted) (u m x : ℕ) → r ≡ check_of i → r ≡ Fits u m x → (t : Tree) × (i ≡ item t u) × (nodes t ≡ m)
unfolding check_of
fits_item (item t v) r u m x e f =
    let g : Fits v (nodes t) (tables_of t) ≡ Fits u m x = sym e ∙ f in
    let ev : v ≡ u = cc in
    let em : nodes t ≡ m = cc in
    (t, ap (item t) ev, em)
fits_item no_item r u m x e f = absurd (no_fits (sym e ∙ f))

pub fits_within : (inner : Bool) (d : ℕ) (s : List ℕ) (r : Counted) (u m x : ℕ) → r ≡ check_of (decode inner d s) → r ≡ Fits u m x → (4 * m ≤ u) × (u ≤ length s)
fits_within inner d s r u m x e f =
    let (t, et, em) = fits_item (decode inner d s) r u m x e f in
    let C : Counts (length s) t u = decode_counts inner d s t u et in
    let a = C.many in
    let b = C.most in
    (omega arith, omega arith)

-- the same of an argument at place u
pub part_within : (inner : Bool) (d : ℕ) (p : List ℕ) (w : ℕ) (r : Counted) (u m x : ℕ) → w ≤ length p → r ≡ check_of (decode inner d (take (length p - w) (drop w p))) → r ≡ Fits u m x
    → (4 * m ≤ u) × (w + u ≤ length p)
part_within inner d p w r u m x h e f =
    let (a, b) = fits_within inner d (drop w p) r u m x (e ∙ ap (λ q. check_of (decode inner d q)) (part_drop w p)) f in
    let l = length-drop w p in
    (a, omega arith)

same_fits : {u v m n x y : ℕ} → Fits u m x ≡ Fits v n y → (u ≡ v) × (m ≡ n)
same_fits e = (cc, cc)

bounds_step : (inner : Bool) (d : ℕ) (p : List ℕ) (u m v n y : ℕ) (f : ℕ → ℕ → ℕ → Counted) (a : Counted) → u ≤ length p → 4 * m ≤ u → a ≡ check_of (decode inner d (drop u p))
    → ((w l z : ℕ) → u + w ≤ length p → 4 * (m + l) ≤ u + w → f w l z ≡ Fits v n y → (v ≤ length p) × (4 * n ≤ v)) → then_fits a f ≡ Fits v n y → (v ≤ length p) × (4 * n ≤ v)
unfolding then_fits
bounds_step inner d p u m v n y f (Fits w l z) h g q ih e =
    let (a, b) = fits_within inner d (drop u p) (Fits w l z) w l z q refl in
    let c = length-drop u p in
    ih w l z (omega arith) (omega arith) e
bounds_step inner d p u m v n y f Fails h g q ih e = absurd (no_fits e)

several_bounds : (inner : Bool) (d : ℕ) (p : List ℕ) (left u m x : ℕ) (v n y : ℕ) → u ≤ length p → 4 * m ≤ u → several_from (decode inner d) p left u m x ≡ Fits v n y → (v ≤ length p) × (4 * n ≤ v)
unfolding several_from
several_bounds inner d p zero u m x v n y h g e = let (a, b) = same_fits e in (omega arith, omega arith)
several_bounds inner d p (suc left) u m x v n y h g e =
    bounds_step inner d p u m v n y _ (check_of (decode inner d (drop u p))) h g refl (λ w l z a b f. several_bounds inner d p left (u + w) (m + l) (max x z) v n y a b f) e

pub several_within : (inner : Bool) (d : ℕ) (p : List ℕ) (left : ℕ) (r : Counted) (v n y : ℕ) → r ≡ several_from (decode inner d) p left 0 0 0 → r ≡ Fits v n y → (v ≤ length p) × (4 * n ≤ v)
several_within inner d p left r v n y e f = several_bounds inner d p left 0 0 0 v n y (omega arith) (omega arith) (sym e ∙ f)

-- `record_in`
suc_of : (n : ℕ) → (n ≡ 0 → ⊥) → n ≡ suc (n - 1)
suc_of n z = omega arith

module _ (inner : Bool) (d : ℕ) (s : List ℕ) where
  pub no_levels : d ≡ 0 → Fails ≡ check_of (decode inner d s)
  unfolding decode check_of
  no_levels e = sym (ap (λ n. check_of (decode inner n s)) e)

  module _ (z : d ≡ 0 → ⊥) (h : Option Head) (eh : h ≡ head_at s 0) where
    pub record_cut : h ≡ None → Fails ≡ check_of (decode inner d s)
    unfolding decode then_front check_of
    record_cut e =
        sym (ap (λ n. check_of (decode inner n s)) (suc_of d z)
        ∙ ap (λ f. check_of (then_front f (λ k p. by_shape (decode inner (d - 1)) (shape_of inner k) k p))) (head_none s 0 (sym eh ∙ e)))

    pub record_room : (k n : ℕ) → h ≡ headed k n → 4 + n ≤ length s
    record_room k n e = let S = head_stands s 0 k n (sym eh ∙ e) in omega (arith, S.room)

    pub record_opened : (k n : ℕ) (r : Counted) → h ≡ headed k n → r ≡ check_of (by_shape (decode inner (d - 1)) (shape_of inner k) k (take (4 + n - 4) (drop 4 s))) → r ≡ check_of (decode inner d s)
    unfolding decode then_front
    record_opened k n r e f =
        let S : Stands s 0 k n = head_stands s 0 k n (sym eh ∙ e) in
        let m : 4 + n - 4 ≡ n = omega arith in
        f
        ∙ ap (λ i. check_of (by_shape (decode inner (d - 1)) (shape_of inner k) k (take i (drop 4 s)))) m
        ∙ ap (λ p. check_of (by_shape (decode inner (d - 1)) (shape_of inner k) k p)) (sym S.stretch)
        ∙ sym (ap (λ n. check_of (decode inner n s)) (suc_of d z)
        ∙ ap (λ f. check_of (then_front f (λ k p. by_shape (decode inner (d - 1)) (shape_of inner k) k p))) S.is)

-- `check`
unfoldable judged : List ℕ → Counted → Option ℕ
judged s (Fits u m x) = pick (eqb u (length s)) (pick (leb m 128) (Some x) None) None
judged s Fails = None

judge_either : (a b : Bool) (t : Tree) → verdict_of (pick a (pick b (image t) no_image) no_image) ≡ pick a (pick b (Some (tables_of t)) None) None
unfolding pick verdict_of
judge_either true true t = refl
judge_either true false t = refl
judge_either false b t = refl

whole_judged : (s : List ℕ) (i : Item) → verdict_of (whole_of s i) ≡ judged s (check_of i)
unfolding whole_of check_of judged verdict_of
whole_judged s (item t u) = judge_either (eqb u (length s)) (leb (nodes t) 128) t
whole_judged s no_item = refl

module _ (inner : Bool) (s : List ℕ) where
  pub over_long : 16384 < length s → None ≡ verdict_of (image_with inner s)
  unfolding image_with verdict_of
  over_long h = sym (ap verdict_of (pick_false _ _ _ (lt-leb (length s) 16384 h)))

  module _ (h : length s ≤ 16384) (r : Counted) (er : r ≡ check_of (decode inner 16 s)) where
    judging : judged s r ≡ verdict_of (image_with inner s)
    unfolding image_with
    judging = ap (judged s) er ∙ sym (ap verdict_of (pick_true _ _ _ (le-leb (length s) 16384 h)) ∙ whole_judged s (decode inner 16 s))

    pub no_record : r ≡ Fails → None ≡ verdict_of (image_with inner s)
    unfolding judged
    no_record e = sym (ap (judged s) e) ∙ judging

    module _ (u m x : ℕ) (e : r ≡ Fits u m x) where
      pub image_good : u ≡ length s → m ≤ 128 → Some x ≡ verdict_of (image_with inner s)
      unfolding judged
      image_good a b = sym (ap (judged s) e ∙ pick_true _ _ _ (eq-eqb u (length s) a) ∙ pick_true _ _ _ (le-leb m 128 b)) ∙ judging

      pub image_many : u ≡ length s → 128 < m → None ≡ verdict_of (image_with inner s)
      unfolding judged
      image_many a b = sym (ap (judged s) e ∙ pick_true _ _ _ (eq-eqb u (length s) a) ∙ pick_false _ _ _ (lt-leb m 128 b)) ∙ judging

      pub image_trails : (u ≡ length s → ⊥) → None ≡ verdict_of (image_with inner s)
      unfolding judged
      image_trails a = sym (ap (judged s) e ∙ pick_false _ _ _ (ne_eqb u (length s) a)) ∙ judging

-- two answers that meet the contract of `check` are equal
pub unique : (i : Image) (r q : Option Need) → needed r ≡ verdict_of i → needed q ≡ verdict_of i → r ≡ q
unique i r q e f = same r q (e ∙ sym f)
  where
    of_some : {m n : ℕ} → Some m ≡ Some n → m ≡ n
    of_some e = cc

    same : (r q : Option Need) → needed r ≡ needed q → r ≡ q
    same (Some m) (Some n) e = ap Some (one_need m n (of_some e))
    same (Some m) None e = cc
    same None (Some n) e = cc
    same None None e = refl
