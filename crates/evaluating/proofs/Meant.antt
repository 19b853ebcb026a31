-- What stands in the slots is what the tree means.
use mathlib.Core.Path.{◌≡◌, refl, ap, ap₂, sym, ◌∙◌, subst}
use mathlib.Core.Bool.{Bool, true, false}
use mathlib.Core.List.{List, [], ◌∷◌, ◌++◌}
use Prim.Native.Nat.{ℕ, ◌+◌, ◌-◌, ◌≤◌, ◌<◌}
use native.Mathlib.Omega.{arith}
use lib.Dec.{eqb}
use lib.ListN.{length, get_or, take, drop, length-drop, take-append-drop}
use lib.Seq.{length-take-le, get_or-take, get_or-drop}
use borrow.Author.Tests.{eq-eqb, ne_eqb}
use borrow.Rule.Slice.PartMut.{mid_of, put_mid}
use Rattle.std.specs.Prelude.{Option, Some, None, Result, Ok, Err}
use Rattle.common.specs.Choice.{pick}
use Rattle.common.specs.Answer.{Value, Answer, Delivered, then, deliver}
use Rattle.common.specs.Answer as answer
use Rattle.common.specs.Answer.Answer.{value}
use Rattle.common.proofs.Choices.{pick_true, pick_false}
use Rattle.tree.specs.Tree.{Tree}
use Rattle.tree.specs.Tree.Tree.{literal, bound, row, run, one, two, three, four, when}
use Rattle.tree.specs.Bounds.{Bytes, depth, Proper, Small}
use Rattle.meaning.specs.Mean.{Calls, named, mean, side_of, chosen}
use Rattle.meaning.specs.Mean.Side.{first, second, neither}
use Rattle.meaning.specs.Real.{real}
use Rattle.meaning.specs.Values.{Valued}
use Rattle.meaning.specs.Numbers.{Numbered}
use Rattle.meaning.proofs.Plain.{real_valued}
use Rattle.meaning.proofs.Refusals.{mean_numbered, real_numbered}
use Rattle.meaning.proofs.Within.{mean_valued}
use Rattle.records.specs.Record.{word}
use Rattle.records.specs.Encode.{encode}
use Rattle.records.specs.Decode.{decode}
use Rattle.records.proofs.There.{decode_encode}
use Rattle.lists.specs.Entries.{Entry, list_of}
use Rattle.lists.specs.Entries.Listed.{listed}
use Rattle.lists.specs.Given.{value_of, binding_of, running_of}
use Rattle.lists.proofs.Values.{binding_valued, running_valued}
use Rattle.leaf.specs.declared.Place.{Place}
use Rattle.leaf.specs.declared.Place.TheVariants.{Image, List as InList}
use Rattle.leaf.specs.Place.{place_of, placed, bytes_of, leaf_in}
use Rattle.leaf.proofs.Leaves.{IsLeaf, leaf_given}
use Rattle.modes.specs.Cell.{cell_of}
use Rattle.demands.proofs.Real.{cell_valued, numbered}
use Rattle.answers.specs.declared.Refusal.{Refusal}
use Rattle.answers.specs.declared.Refusal.TheVariants as refusal
use Rattle.answers.specs.Told.{table, number_by, number_of, count_of, told_of}
use Rattle.slots.specs.Slots.{At}
use Rattle.slots.proofs.Settling.{at_slot}
use Rattle.slots.proofs.Standing.{Has, has_of, refused_of, at_refused, kept_down, has_kept, at_earlier}
use Rattle.evaluating.specs.Stretch.{Stretch, Means, side_by}
use Rattle.evaluating.proofs.Shaped.{leaf_of}
use Rattle.evaluating.proofs.Readied.{head_kind}

-- ---- `give_leaf`

there_named : (image list : List ℕ) (x : Place) → named (placed image list (Some x)) ≡ value (bytes_of (placed image list (Some x)))
unfolding placed bytes_of named
there_named image list (Image p) = refl
there_named image list (InList p) = refl

module _ (image list out : List ℕ) (q p : Option Place) (e : q ≡ p) where
  pub leaf_nowhere : q ≡ None → told_of (Err refusal.Absent) out ≡ deliver (named (placed image list p)) out
  unfolding placed named told_of number_of number_by table count_of deliver answer.refusal
  leaf_nowhere f = sym (ap (λ q. deliver (named (placed image list q)) out) (sym e ∙ f))

  pub leaf_there : (x : Place) → q ≡ Some x → (v : List ℕ) (d : Delivered) → v ≡ bytes_of (placed image list (Some x)) → d ≡ deliver (value v) out → d ≡ deliver (named (placed image list p)) out
  leaf_there x f v d g h =
      h ∙ ap (λ x. deliver (value x) out) g ∙ sym (ap (λ x. deliver x out) (there_named image list x)) ∙ ap (λ q. deliver (named (placed image list q)) out) (sym f ∙ e)

-- ---- `side`

one_byte : (v : List ℕ) → length v ≡ 1 → side_of v ≡ pick (eqb (get_or v 0 0) 0x01) first (pick (eqb (get_or v 0 0) 0x00) second neither)
unfolding side_of
one_byte [] h = absurd (omega arith)
one_byte (x ∷ []) h = refl
one_byte (x ∷ (y ∷ r)) h = absurd (omega arith)

not_one_byte : (v : List ℕ) → (length v ≡ 1 → ⊥) → side_of v ≡ neither
unfolding side_of
not_one_byte [] h = refl
not_one_byte (x ∷ []) h = absurd (h refl)
not_one_byte (x ∷ (y ∷ r)) h = refl

module _ (w : List ℕ) (o n : ℕ) (h : o + n ≤ length w) where
  slot_length : length (take n (drop o w)) ≡ n
  slot_length = length-take-le n (drop o w) (let l = length-drop o w in omega arith)

  pub side_none : (n ≡ 1 → ⊥) → side_by None ≡ side_of (take n (drop o w))
  unfolding side_by
  side_none e = sym (not_one_byte (take n (drop o w)) (λ q. e (sym slot_length ∙ q)))

  module _ (e : n ≡ 1) where
    the_byte : side_of (take n (drop o w)) ≡ pick (eqb (get_or w o 0) 0x01) first (pick (eqb (get_or w o 0) 0x00) second neither)
    the_byte =
        one_byte (take n (drop o w)) (slot_length ∙ e)
        ∙ ap (λ x. pick (eqb x 0x01) first (pick (eqb x 0x00) second neither)) (get_or-take n (drop o w) 0 0 (omega arith) ∙ get_or-drop o w 0 0 ∙ ap (λ i. get_or w i 0) (omega arith))

    pub side_first : get_or w o 0 ≡ 0x01 → side_by (Some true) ≡ side_of (take n (drop o w))
    unfolding side_by
    side_first q = sym (the_byte ∙ pick_true _ _ _ (eq-eqb (get_or w o 0) 0x01 q))

    pub side_second : (get_or w o 0 ≡ 0x01 → ⊥) → get_or w o 0 ≡ 0x00 → side_by (Some false) ≡ side_of (take n (drop o w))
    unfolding side_by
    side_second p q = sym (the_byte ∙ pick_false _ _ _ (ne_eqb (get_or w o 0) 0x01 p) ∙ pick_true _ _ _ (eq-eqb (get_or w o 0) 0x00 q))

    pub side_other : (get_or w o 0 ≡ 0x01 → ⊥) → (get_or w o 0 ≡ 0x00 → ⊥) → side_by None ≡ side_of (take n (drop o w))
    unfolding side_by
    side_other p q = sym (the_byte ∙ pick_false _ _ _ (ne_eqb (get_or w o 0) 0x01 p) ∙ pick_false _ _ _ (ne_eqb (get_or w o 0) 0x00 q))

-- ---- a leaf in its slot

module _ (taken : ℕ → Bool) (list : List ℕ) (es : List Entry) (hl : Bytes list) (el : list_of taken list ≡ listed es) where
  abbrev C : Calls
  C = real cell_of

  leaf_named : (t : Tree) → IsLeaf t → named (leaf_in (value_of es) t) ≡ mean C (binding_of es) (running_of es) t
  unfolding IsLeaf leaf_in mean named binding_of running_of
  leaf_named (literal v) l = refl
  leaf_named (bound n) l = refl
  leaf_named (row n) l = refl
  leaf_named (run n) l = refl
  leaf_named (one k a) l = absurd l
  leaf_named (two k a b) l = absurd l
  leaf_named (three k a b c) l = absurd l
  leaf_named (four k a b c d) l = absurd l
  leaf_named (when c a b) l = absurd l

  no_false : true ≡ false → ⊥
  no_false e = let z : ◌≡◌ {A = ℕ} 0 1 = cc in omega arith

  -- a leaf's bytes, wherever it stands, are what it means
  pub leaf_means : (image : List ℕ) (start end : ℕ) (t : Tree) → Stretch image start end t → word image (start + 2) < 0x0010
      → named (placed image list (place_of image start list)) ≡ mean C (binding_of es) (running_of es) t
  leaf_means image start end t S k =
      let i : IsLeaf t = leaf_of t S.proper (let q = head_kind image start end t S in omega arith) in
      let r : take (end - start) (drop start image) ++ drop (end - start) (drop start image) ≡ drop start image = take-append-drop (end - start) (drop start image) in
      let e : drop start image ≡ encode t ++ drop (end - start) (drop start image) = sym r ∙ ap (λ x. x ++ drop (end - start) (drop start image)) S.is in
      ap named (leaf_given taken true (depth t) image start list es t (length (encode t)) hl el
      (ap (decode true (depth t)) e ∙ decode_encode true t (depth t) (drop (end - start) (drop start image)) S.proper S.small (λ f. absurd (no_false f)) (omega arith)) i)
      ∙ leaf_named t i

  pub means_valued : (t : Tree) → Proper t → Small t → Valued (mean C (binding_of es) (running_of es) t)
  means_valued = mean_valued C (binding_of es) (running_of es) (real_valued cell_of cell_valued) (binding_valued taken list es hl el) (running_valued taken list es hl el)

  pub means_numbered : (t : Tree) → Numbered (mean C (binding_of es) (running_of es) t)
  means_numbered = mean_numbered C (binding_of es) (running_of es) (real_numbered cell_of numbered)

pub leaf_at_lem : (image list : List ℕ) (start end o e : ℕ) (r : Result ℕ Refusal) (w ys : List ℕ) → Bytes list → word image (start + 2) < 0x0010 → e ≡ o + 1024 → e ≤ length w
    → length ys ≡ length (mid_of o (e - o) w) → told_of r ys ≡ deliver (named (placed image list (place_of image start list))) (mid_of o (e - o) w)
    → Means image list start end o r w (put_mid o (e - o) w ys)
unfolding Means
leaf_at_lem image list start end o e r w ys hl k he hw ly d taken es t el S =
    (at_slot (mean (real cell_of) (binding_of es) (running_of es) t) o e r w ys he hw ly
    (means_valued taken list es hl el t S.proper S.small) (means_numbered taken list es hl el t)
    (d ∙ ap (λ x. deliver x (mid_of o (e - o) w)) (leaf_means taken list es hl el image start end t S k)))

-- ---- arguments left to right, over whatever they answer

module _ (xa xb : Answer) (f : Value → Value → Answer) (o : ℕ) (w w1 : List ℕ) (r1 : Result ℕ Refusal) (A1 : At xa o r1 w w1) where
  abbrev pair : Answer
  pair = then xa (λ x. then xb (λ y. f x y))

  pub pair_first : (n : Refusal) → r1 ≡ Err n → At pair o (Err n) w w1
  unfolding then
  pair_first n e = at_refused n o pair w w1 (ap (λ x. then x (λ x. then xb (λ y. f x y))) (refused_of xa o n r1 w w1 A1 e)) A1.kept

  module _ (la : ℕ) (e1 : r1 ≡ Ok la) (w2 : List ℕ) (r2 : Result ℕ Refusal) (A2 : At xb (o + 1024) r2 w1 w2) where
    pair_kept : take o w2 ≡ take o w
    pair_kept = kept_down o (o + 1024) w2 w1 (omega arith) A2.kept ∙ A1.kept

    abbrev H1 : Has xa la o w1
    H1 = has_of xa o la r1 w w1 A1 e1

    pub pair_second : (n : Refusal) → r2 ≡ Err n → At pair o (Err n) w w2
    unfolding then
    pair_second n e =
        at_refused n o pair w w2 (ap (λ x. then x (λ x. then xb (λ y. f x y))) H1.is ∙ ap (λ x. then x (λ y. f H1.v y)) (refused_of xb (o + 1024) n r2 w1 w2 A2 e)) pair_kept

    pub pair_both : (lb : ℕ) → r2 ≡ Ok lb → o ≤ length w1 → o ≤ length w2 → (w3 : List ℕ) (r3 : Result ℕ Refusal)
        → At (f (take la (drop o w2)) (take lb (drop (o + 1024) w2))) o r3 w2 w3 → At pair o r3 w w3
    unfolding then
    pair_both lb e2 l1 l2 w3 r3 A3 =
        let H2 : Has xb lb (o + 1024) w2 = has_of xb (o + 1024) lb r2 w1 w2 A2 e2 in
        let K1 : Has xa la o w2 = has_kept xa la o 1024 w1 w2 H1 H1.small l1 l2 A2.kept in
        let m : f (take la (drop o w2)) (take lb (drop (o + 1024) w2)) ≡ pair =
        sym (ap (λ x. then x (λ x. then xb (λ y. f x y))) K1.is ∙ ap (λ x. then x (λ y. f K1.v y)) H2.is ∙ ap₂ f (sym K1.bytes) (sym H2.bytes)) in
        subst (λ x. At x o r3 w w3) m (at_earlier _ o r3 w w2 w3 pair_kept A3)

module _ (xa xb xc : Answer) (f : Value → Value → Value → Answer) (o : ℕ) (w w1 : List ℕ) (r1 : Result ℕ Refusal) (A1 : At xa o r1 w w1) where
  abbrev triple : Answer
  triple = then xa (λ x. then xb (λ y. then xc (λ z. f x y z)))

  pub triple_first : (n : Refusal) → r1 ≡ Err n → At triple o (Err n) w w1
  unfolding then
  triple_first n e = at_refused n o triple w w1 (ap (λ x. then x (λ x. then xb (λ y. then xc (λ z. f x y z)))) (refused_of xa o n r1 w w1 A1 e)) A1.kept

  module _ (la : ℕ) (e1 : r1 ≡ Ok la) (w2 : List ℕ) (r2 : Result ℕ Refusal) (A2 : At xb (o + 1024) r2 w1 w2) where
    kept_2 : take o w2 ≡ take o w
    kept_2 = kept_down o (o + 1024) w2 w1 (omega arith) A2.kept ∙ A1.kept

    abbrev G1 : Has xa la o w1
    G1 = has_of xa o la r1 w w1 A1 e1

    pub triple_second : (n : Refusal) → r2 ≡ Err n → At triple o (Err n) w w2
    unfolding then
    triple_second n e =
        at_refused n o triple w w2
        (ap (λ x. then x (λ x. then xb (λ y. then xc (λ z. f x y z)))) G1.is ∙ ap (λ x. then x (λ y. then xc (λ z. f G1.v y z))) (refused_of xb (o + 1024) n r2 w1 w2 A2 e)) kept_2

    module _ (lb : ℕ) (e2 : r2 ≡ Ok lb) (w3 : List ℕ) (r3 : Result ℕ Refusal) (A3 : At xc (o + 2048) r3 w2 w3) where
      kept_3 : take o w3 ≡ take o w
      kept_3 = kept_down o (o + 2048) w3 w2 (omega arith) A3.kept ∙ kept_2

      abbrev G2 : Has xb lb (o + 1024) w2
      G2 = has_of xb (o + 1024) lb r2 w1 w2 A2 e2

      pub triple_third : (n : Refusal) → r3 ≡ Err n → At triple o (Err n) w w3
      unfolding then
      triple_third n e =
          at_refused n o triple w w3
          (ap (λ x. then x (λ x. then xb (λ y. then xc (λ z. f x y z)))) G1.is ∙ ap (λ x. then x (λ y. then xc (λ z. f G1.v y z))) G2.is
          ∙ ap (λ x. then x (λ z. f G1.v G2.v z)) (refused_of xc (o + 2048) n r3 w2 w3 A3 e)) kept_3

      pub triple_all : (lc : ℕ) → r3 ≡ Ok lc → o ≤ length w1 → o + 1024 ≤ length w2 → o + 1024 ≤ length w3 → (w4 : List ℕ) (r4 : Result ℕ Refusal)
          → At (f (take la (drop o w3)) (take lb (drop (o + 1024) w3)) (take lc (drop (o + 2048) w3))) o r4 w3 w4 → At triple o r4 w w4
      unfolding then
      triple_all lc e3 l1 l2 l3 w4 r4 A4 =
          let q : o + 1024 + 1024 ≡ o + 2048 = omega arith in
          let a3 : take (o + 1024 + 1024) w3 ≡ take (o + 1024 + 1024) w2 = ap (λ n. take n w3) q ∙ A3.kept ∙ sym (ap (λ n. take n w2) q) in
          let H3 : Has xc lc (o + 2048) w3 = has_of xc (o + 2048) lc r3 w2 w3 A3 e3 in
          let K2 : Has xb lb (o + 1024) w3 = has_kept xb lb (o + 1024) 1024 w2 w3 G2 G2.small l2 l3 a3 in
          let k1 : Has xa la o w2 = has_kept xa la o 1024 w1 w2 G1 G1.small l1 (omega arith) A2.kept in
          let K1 : Has xa la o w3 = has_kept xa la o 1024 w2 w3 k1 G1.small (omega arith) (omega arith) (kept_down (o + 1024) (o + 2048) w3 w2 (omega arith) A3.kept) in
          let m : f (take la (drop o w3)) (take lb (drop (o + 1024) w3)) (take lc (drop (o + 2048) w3)) ≡ triple =
          sym (ap (λ x. then x (λ x. then xb (λ y. then xc (λ z. f x y z)))) K1.is ∙ ap (λ x. then x (λ y. then xc (λ z. f K1.v y z))) K2.is
          ∙ ap (λ x. then x (λ z. f K1.v K2.v z)) H3.is ∙ ap (λ x. f x K2.v H3.v) (sym K1.bytes) ∙ ap (λ y. f (take la (drop o w3)) y H3.v) (sym K2.bytes)
          ∙ ap (f (take la (drop o w3)) (take lb (drop (o + 1024) w3))) (sym H3.bytes)) in
          subst (λ x. At x o r4 w w4) m (at_earlier _ o r4 w w3 w4 kept_3 A4)

-- only the chosen side counts
module _ (xc xa xb : Answer) (o : ℕ) (w w1 : List ℕ) (r1 : Result ℕ Refusal) (A1 : At xc o r1 w w1) where
  abbrev choice : Answer
  choice = then xc (λ x. chosen (side_of x) xa xb)

  pub choice_refused : (n : Refusal) → r1 ≡ Err n → At choice o (Err n) w w1
  unfolding then
  choice_refused n e = at_refused n o choice w w1 (ap (λ x. then x (λ x. chosen (side_of x) xa xb)) (refused_of xc o n r1 w w1 A1 e)) A1.kept

  module _ (n : ℕ) (s : Option Bool) (e1 : r1 ≡ Ok n) (es : side_by s ≡ side_of (take n (drop o w1))) where
    abbrev HC : Has xc n o w1
    HC = has_of xc o n r1 w w1 A1 e1

    by_side : choice ≡ chosen (side_by s) xa xb
    unfolding then
    by_side = ap (λ x. then x (λ x. chosen (side_of x) xa xb)) HC.is ∙ ap (λ q. chosen q xa xb) (sym (es ∙ ap side_of HC.bytes))

    pub choice_first : s ≡ Some true → (w2 : List ℕ) (r2 : Result ℕ Refusal) → At xa o r2 w1 w2 → At choice o r2 w w2
    unfolding chosen side_by
    choice_first q w2 r2 A2 =
        subst (λ x. At x o r2 w w2) (sym (by_side ∙ ap (λ z. chosen (side_by z) xa xb) q)) (at_earlier xa o r2 w w1 w2 A1.kept A2)

    pub choice_second : s ≡ Some false → (w2 : List ℕ) (r2 : Result ℕ Refusal) → At xb o r2 w1 w2 → At choice o r2 w w2
    unfolding chosen side_by
    choice_second q w2 r2 A2 =
        subst (λ x. At x o r2 w w2) (sym (by_side ∙ ap (λ z. chosen (side_by z) xa xb) q)) (at_earlier xb o r2 w w1 w2 A1.kept A2)

    pub choice_neither : s ≡ None → At choice o (Err refusal.Choice) w w1
    unfolding chosen side_by table
    choice_neither q = at_refused refusal.Choice o choice w w1 (by_side ∙ ap (λ z. chosen (side_by z) xa xb) q) A1.kept
