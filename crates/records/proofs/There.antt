-- What is encoded is decoded (document 01, section 6).
use mathlib.Core.Path.{◌≡◌, refl, ap, ap₂, sym, ◌∙◌}
use mathlib.Core.Bool.{Bool, true, false}
use mathlib.Core.List.{List, [], ◌∷◌, ◌++◌, append-nil}
use Prim.Native.Nat.{ℕ, zero, suc, ◌+◌, ◌*◌, ◌-◌, ◌≤◌, ◌<◌}
use native.Mathlib.Omega.{arith}
use lib.ListN.{length, take, drop, length-append}
use lib.Seq.{take-append_seam, drop-append_seam, drop-append-add}
use borrow.Author.Tests.{le-leb, le-ltb, lt-ltb, eq-eqb}
use Rattle.common.specs.Choice.{pick}
use Rattle.common.proofs.Choices.{pick_true, pick_false}
use Rattle.tree.specs.Tree.{Tree}
use Rattle.tree.specs.Tree.Tree.{literal, bound, row, run, one, two, three, four, when}
use Rattle.tree.specs.Bounds.{depth, nodes, when_kind, Proper, Small, Within}
use Rattle.tree.specs.Names.{NoBound}
use Rattle.records.specs.Record.{record_of, front_of}
use Rattle.records.specs.Record.Front.{front}
use Rattle.records.specs.Encode.{constant_kind, row_kind, run_kind, bound_kind, encode}
use Rattle.records.specs.Decode.{Shape, shape_of, Item, then_item, then_front, filled, constant_in, digit_in, one_in, two_in, three_in, four_in, by_shape, decode, whole_of, image_with}
use Rattle.records.specs.Decode.Shape.{aConstant, aRow, aRun, aWhen, aOne, aTwo, aThree, aFour}
use Rattle.records.specs.Decode.Item.{item}
use Rattle.records.specs.Decode.Image.{image}
use Rattle.records.proofs.Shapes.{leaf_shapes, bound_shape, call_shape_lem, not_when, call_shapes}

pub length_record : (k : ℕ) (p : List ℕ) → length (record_of k p) ≡ 4 + length p
unfolding record_of
length_record k p = omega arith

-- a head whose two words are n and k
front_cons : (a b c d n k : ℕ) (q : List ℕ) → a + 256 * b ≡ n → c + 256 * d ≡ k → n ≤ length q → front_of (a ∷ b ∷ c ∷ d ∷ q) ≡ front k (take n q)
unfolding front_of
front_cons a b c d n k q en ek h =
    let four : 4 ≤ length (a ∷ b ∷ c ∷ d ∷ q) = omega arith in
    let fits : a + 256 * b ≤ length (a ∷ b ∷ c ∷ d ∷ q) - 4 = omega arith in
    pick_false _ _ _ (le-ltb _ _ four) ∙ pick_false _ _ _ (le-ltb _ _ fits) ∙ ap₂ (λ (m l : ℕ). front m (take l q)) ek en

-- a record that stands first is read back
pub front_record : (k : ℕ) (p r : List ℕ) → front_of (record_of k p ++ r) ≡ front k p
unfolding record_of
front_record k p r =
    let h : length p ≤ length (p ++ r) = simp length-append (omega arith) in
    front_cons _ _ _ _ (length p) k (p ++ r) (omega arith) (omega arith) h ∙ rw take-append_seam

fill : (u : ℕ) (p : List ℕ) (t : Tree) → u ≡ length p → filled u p t ≡ item t (4 + length p)
unfolding filled
fill u p t e = pick_true _ _ _ (eq-eqb _ _ e)

digit_there : (top : ℕ) (name : ℕ → Tree) (n : ℕ) → n < top → digit_in top name (n ∷ []) ≡ item (name n) 5
unfolding digit_in pick
digit_there top name n h = rw (lt-ltb n top h)

constant_there : (v : List ℕ) → length v ≤ 1024 → constant_in v ≡ item (literal v) (4 + length v)
unfolding constant_in
constant_there v h = pick_true _ _ _ (le-leb _ _ h)

module _ (sub : List ℕ → Item) where
  one_there : (call : Tree → Tree) (a : Tree) (p : List ℕ) → sub p ≡ item a (length p) → one_in sub call p ≡ item (call a) (4 + length p)
  unfolding one_in then_item
  one_there call a p ea = rw ea (fill (length p) p (call a) refl)

  two_there : (call : Tree → Tree → Tree) (a b : Tree) (p q : List ℕ) → sub (p ++ q) ≡ item a (length p) → sub q ≡ item b (length q) → two_in sub call (p ++ q) ≡ item (call a b) (4 + length (p ++ q))
  unfolding two_in then_item
  two_there call a b p q ea eb = rw (ea, drop-append_seam p q, eb) (fill _ (p ++ q) (call a b) (sym (length-append p q)))

  three_there : (call : Tree → Tree → Tree → Tree) (a b c : Tree) (p q r : List ℕ) → sub (p ++ (q ++ r)) ≡ item a (length p) → sub (q ++ r) ≡ item b (length q) → sub r ≡ item c (length r)
      → three_in sub call (p ++ (q ++ r)) ≡ item (call a b c) (4 + length (p ++ (q ++ r)))
  unfolding three_in then_item
  three_there call a b c p q r ea eb ec =
      rw (ea, drop-append_seam p (q ++ r), eb, drop-append-add p (q ++ r) (length q), drop-append_seam q r, ec)
      (fill _ (p ++ (q ++ r)) (call a b c) (simp length-append (omega arith)))

  four_there : (call : Tree → Tree → Tree → Tree → Tree) (a b c d : Tree) (p q r s : List ℕ) → sub (p ++ (q ++ (r ++ s))) ≡ item a (length p) → sub (q ++ (r ++ s)) ≡ item b (length q)
      → sub (r ++ s) ≡ item c (length r) → sub s ≡ item d (length s) → four_in sub call (p ++ (q ++ (r ++ s))) ≡ item (call a b c d) (4 + length (p ++ (q ++ (r ++ s))))
  unfolding four_in then_item
  four_there call a b c d p q r s ea eb ec ed =
      let sum : length p + length q + length r ≡ length p + (length q + length r) = omega arith in
      let reach : drop (length p + length q + length r) (p ++ (q ++ (r ++ s))) ≡ s =
      ap (λ n. drop n (p ++ (q ++ (r ++ s)))) sum ∙ drop-append-add p (q ++ (r ++ s)) (length q + length r) ∙ drop-append-add q (r ++ s) (length r) ∙ drop-append_seam r s
      in
      rw (ea, drop-append_seam p (q ++ (r ++ s)), eb, drop-append-add p (q ++ (r ++ s)) (length q), drop-append_seam q (r ++ s), ec, reach, ed)
      (fill _ (p ++ (q ++ (r ++ s))) (call a b c d) (simp length-append (omega arith)))

module _ (inner : Bool) where
  by_kind : (d k : ℕ) (p r : List ℕ) (sh : Shape) (t : Tree) → shape_of inner k ≡ sh → by_shape (decode inner d) sh k p ≡ item t (4 + length p)
      → decode inner (suc d) (record_of k p ++ r) ≡ item t (length (record_of k p))
  unfolding decode then_front
  by_kind d k p r sh t es e = rw (front_record k p r, es, length_record k p) e

  bound_there : (b : Bool) (n : ℕ) (sub : List ℕ → Item) → inner ≡ b → n < 4 → (inner ≡ false → ⊥) → by_shape sub (shape_of inner bound_kind) bound_kind (n ∷ []) ≡ item (bound n) 5
  unfolding by_shape
  bound_there true n sub e h f = rw (e, bound_shape) (digit_there 4 bound n h)
  bound_there false n sub e h f = absurd (f e)

  -- what follows last is nothing
  ends : (d : ℕ) (t : Tree) → decode inner d (encode t ++ []) ≡ item t (length (encode t)) → decode inner d (encode t) ≡ item t (length (encode t))
  ends d t e = rw append-nil at e

  pub decode_encode : (t : Tree) (d : ℕ) (r : List ℕ) → Proper t → Small t → (inner ≡ false → NoBound t) → depth t ≤ d → decode inner d (encode t ++ r) ≡ item t (length (encode t))
  unfolding encode depth Proper Small NoBound by_shape
  decode_encode (literal v) zero r p s f h = absurd (omega arith)
  decode_encode (literal v) (suc d) r p s f h = by_kind d constant_kind v r aConstant (literal v) (leaf_shapes inner).0 (constant_there v s)
  decode_encode (bound n) zero r p s f h = absurd (omega arith)
  decode_encode (bound n) (suc d) r p s f h = by_kind d bound_kind (n ∷ []) r (shape_of inner bound_kind) (bound n) refl (bound_there inner n (decode inner d) refl p f)
  decode_encode (row n) zero r p s f h = absurd (omega arith)
  decode_encode (row n) (suc d) r p s f h = by_kind d row_kind (n ∷ []) r aRow (row n) (leaf_shapes inner).1 (digit_there 8 row n p)
  decode_encode (run n) zero r p s f h = absurd (omega arith)
  decode_encode (run n) (suc d) r p s f h = by_kind d run_kind (n ∷ []) r aRun (run n) (leaf_shapes inner).2 (digit_there 4 run n p)
  decode_encode (one k a) zero r p s f h = absurd (omega arith)
  decode_encode (one k a) (suc d) r p s f h =
      let ha : depth a ≤ d = omega arith in
      by_kind d k (encode a) r aOne (one k a) (call_shape_lem inner k 0 p.0 (not_when k 1 p.0 (omega arith)) ∙ call_shapes.0)
      (one_there (decode inner d) (one k) a (encode a) (ends d a (decode_encode a d [] p.1 s f ha)))
  decode_encode (two k a b) zero r p s f h = absurd (omega arith)
  decode_encode (two k a b) (suc d) r p s f h =
      let ha : depth a ≤ d = omega arith in
      let hb : depth b ≤ d = omega arith in
      by_kind d k (encode a ++ encode b) r aTwo (two k a b) (call_shape_lem inner k 1 p.0 (not_when k 2 p.0 (omega arith)) ∙ call_shapes.1)
      (two_there (decode inner d) (two k) a b (encode a) (encode b)
      (decode_encode a d (encode b) p.1 s.0 (λ e. (f e).0) ha)
      (ends d b (decode_encode b d [] p.2 s.1 (λ e. (f e).1) hb)))
  decode_encode (three k a b c) zero r p s f h = absurd (omega arith)
  decode_encode (three k a b c) (suc d) r p s f h =
      let ha : depth a ≤ d = omega arith in
      let hb : depth b ≤ d = omega arith in
      let hc : depth c ≤ d = omega arith in
      by_kind d k (encode a ++ (encode b ++ encode c)) r aThree (three k a b c) (call_shape_lem inner k 2 p.0 p.1 ∙ call_shapes.2)
      (three_there (decode inner d) (three k) a b c (encode a) (encode b) (encode c)
      (decode_encode a d (encode b ++ encode c) p.2 s.0 (λ e. (f e).0) ha)
      (decode_encode b d (encode c) p.3 s.1 (λ e. (f e).1) hb)
      (ends d c (decode_encode c d [] p.4 s.2 (λ e. (f e).2) hc)))
  decode_encode (four k a b c e) zero r p s f h = absurd (omega arith)
  decode_encode (four k a b c e) (suc d) r p s f h =
      let ha : depth a ≤ d = omega arith in
      let hb : depth b ≤ d = omega arith in
      let hc : depth c ≤ d = omega arith in
      let he : depth e ≤ d = omega arith in
      by_kind d k (encode a ++ (encode b ++ (encode c ++ encode e))) r aFour (four k a b c e)
      (call_shape_lem inner k 3 p.0 (not_when k 4 p.0 (omega arith)) ∙ call_shapes.3)
      (four_there (decode inner d) (four k) a b c e (encode a) (encode b) (encode c) (encode e)
      (decode_encode a d (encode b ++ (encode c ++ encode e)) p.1 s.0 (λ i. (f i).0) ha)
      (decode_encode b d (encode c ++ encode e) p.2 s.1 (λ i. (f i).1) hb)
      (decode_encode c d (encode e) p.3 s.2 (λ i. (f i).2) hc)
      (ends d e (decode_encode e d [] p.4 s.3 (λ i. (f i).3) he)))
  decode_encode (when c a b) zero r p s f h = absurd (omega arith)
  decode_encode (when c a b) (suc d) r p s f h =
      let hc : depth c ≤ d = omega arith in
      let ha : depth a ≤ d = omega arith in
      let hb : depth b ≤ d = omega arith in
      by_kind d when_kind (encode c ++ (encode a ++ encode b)) r aWhen (when c a b) (leaf_shapes inner).3
      (three_there (decode inner d) when c a b (encode c) (encode a) (encode b)
      (decode_encode c d (encode a ++ encode b) p.0 s.0 (λ e. (f e).0) hc)
      (decode_encode a d (encode b) p.1 s.1 (λ e. (f e).1) ha)
      (ends d b (decode_encode b d [] p.2 s.2 (λ e. (f e).2) hb)))

  whole_there : (s : List ℕ) (t : Tree) (u : ℕ) → u ≡ length s → nodes t ≤ 128 → whole_of s (item t u) ≡ image t
  unfolding whole_of pick
  whole_there s t u e h = rw (eq-eqb u (length s) e, le-leb (nodes t) 128 h)

  -- a tree within the bounds whose encoding is no longer than 16,384 bytes is the image that its encoding is
  pub image_encode : (t : Tree) → Within t → (inner ≡ false → NoBound t) → length (encode t) ≤ 16384 → image_with inner (encode t) ≡ image t
  unfolding image_with whole_of
  image_encode t w f h =
      pick_true _ _ _ (le-leb _ _ h)
      ∙ ap (whole_of (encode t)) (ends 16 t (decode_encode t 16 [] w.proper w.small f w.shallow))
      ∙ whole_there (encode t) t (length (encode t)) refl w.few
