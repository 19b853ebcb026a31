-- What the checks found, and what they refuse.
use mathlib.Core.Path.{◌≡◌, refl, ap, ap₂, sym, ◌∙◌}
use mathlib.Core.Bool.{true, false}
use mathlib.Core.List.{List}
use Prim.Native.Nat.{ℕ}
use native.Mathlib.Omega.{arith}
use Rattle.common.specs.Answer.{then, deliver}
use Rattle.tree.specs.Tree.{Tree}
use Rattle.tree.specs.Bounds.{Bytes}
use Rattle.tree.specs.Tree.Tree.{literal, bound, row, run, one, two, three, four, when}
use Rattle.tree.specs.Names.{Binding, Running, unbound, NoBound}
use Rattle.meaning.specs.Mean.{Calls, mean, chosen, side_of}
use Rattle.meaning.specs.Real.{real}
use Rattle.records.specs.Decode.{Image, image_with, image_of}
use Rattle.records.specs.Decode.Image.{image, no_image}
use Rattle.records.proofs.Back.{image_back}
use Rattle.lists.specs.Entries.{Entry, running, list_of}
use Rattle.lists.specs.Entries.Listed.{listed}
use Rattle.lists.specs.Given.{binding_of, running_of}
use Rattle.recipe.specs.Run.{ran_of}
use Rattle.recipe.proofs.Orders.{run_28, run_27, run_means}
use Rattle.kinds.specs.Tables.{need_number, tables_of}
use Rattle.listing.specs.Walk.{taken_in, is_good}
use Rattle.listing.proofs.Walking.{found_list, found_bad}
use Rattle.kinds.specs.declared.Need.{Need}
use Rattle.image_check.specs.Check.{needed, verdict_of}
use Rattle.modes.specs.Cell.{cell_of}
use Rattle.answers.specs.declared.Refusal.TheVariants as refusal
use Rattle.std.specs.Prelude.{Option, Some, None, Err}
use Rattle.answers.specs.Told.{table, told_of}
use Rattle.handing.proofs.Giving.{refuses}
use Rattle.runner.specs.Sound.{Sound}

same_need : {n m : ℕ} → ◌≡◌ {A = Option ℕ} (Some n) (Some m) → n ≡ m
same_need e = cc

no_need : {n : ℕ} → ◌≡◌ {A = Option ℕ} None (Some n) → ⊥
no_need e = let z : ◌≡◌ {A = ℕ} 0 1 = cc in omega arith

-- the tree that a verdict speaks of
found_tree : (i : Image) (n : ℕ) → verdict_of i ≡ Some n → (t : Tree) × (i ≡ image t) × (n ≡ tables_of t)
unfolding verdict_of
found_tree (image t) n e = (t, refl, sym (same_need e))
found_tree no_image n e = absurd (no_need e)

found_none : (i : Image) → verdict_of i ≡ None → i ≡ no_image
unfolding verdict_of
found_none (image t) e = absurd (no_need (sym e))
found_none no_image e = refl

-- a tree with no `#` means the same whatever `#` is given
module _ (K L : Binding) (E : Running) where
  abbrev C : Calls
  C = real cell_of

  free : (t : Tree) → NoBound t → mean C K E t ≡ mean C L E t
  unfolding NoBound mean
  free (literal v) h = refl
  free (bound n) h = absurd h
  free (row n) h = refl
  free (run n) h = refl
  free (one k a) h = ap (λ x. then x (λ x. C.of_one k x)) (free a h)
  free (two k a b) h = ap₂ (λ x y. then x (λ x. then y (λ y. C.of_two k x y))) (free a h.0) (free b h.1)
  free (three k a b c) h =
      ap₂ (λ x y. then x (λ x. then y (λ y. then (mean C K E c) (λ z. C.of_three k x y z)))) (free a h.0) (free b h.1)
      ∙ ap (λ z. then (mean C L E a) (λ x. then (mean C L E b) (λ y. then z (λ z. C.of_three k x y z)))) (free c h.2)
  free (four k a b c d) h =
      ap₂ (λ x y. then x (λ x. then y (λ y. then (mean C K E c) (λ z. then (mean C K E d) (λ w. C.of_four k x y z w))))) (free a h.0) (free b h.1)
      ∙ ap₂ (λ z w. then (mean C L E a) (λ x. then (mean C L E b) (λ y. then z (λ z. then w (λ w. C.of_four k x y z w))))) (free c h.2) (free d h.3)
  free (when c a b) h =
      ap (λ x. then x (λ x. chosen (side_of x) (mean C K E a) (mean C K E b))) (free c h.0)
      ∙ ap₂ (λ y z. then (mean C L E c) (λ x. chosen (side_of x) y z)) (free a h.1) (free b h.2)

module _ (bytes list : List ℕ) (v : Option Need) (ev : needed v ≡ verdict_of (image_with false bytes)) where
  -- 28
  pub refuses_28 : (out : List ℕ) → v ≡ None → told_of (Err refusal.Form) out ≡ deliver (ran_of cell_of bytes list) out
  unfolding image_of table
  refuses_28 out e = refuses refusal.Form out ∙ sym (ap (λ x. deliver x out) (run_28 cell_of bytes list (found_none (image_with false bytes) (sym ev ∙ ap needed e))))

  module _ (need : Need) (e : v ≡ Some need) where
    -- 27
    pub refuses_27 : (out : List ℕ) → is_good (list_of (taken_in true) list) ≡ false → told_of (Err refusal.List) out ≡ deliver (ran_of cell_of bytes list) out
    unfolding image_of taken_in table
    refuses_27 out g =
        let (t, et, en) = found_tree (image_with false bytes) (need_number need) (sym ev ∙ ap needed e) in
        refuses refusal.List out ∙ sym (ap (λ x. deliver x out) (run_27 cell_of bytes list t et (found_bad (list_of running list) g)))

    sound_with : (t : Tree) (es : List Entry) → Bytes bytes → image_with false bytes ≡ image t → need_number need ≡ tables_of t → list_of running list ≡ listed es → Sound bytes list (need_number need)
    unfolding image_of
    sound_with t es hb et en el =
        let I = image_back false bytes t hb et in
        record {
          tree = t;
          within = I.within;
          whole = I.is;
          tables = en;
          entries = es;
          good = el;
          means = run_means cell_of bytes list t et es el ∙ free unbound (binding_of es) (running_of es) t (I.free refl);
        }

    pub is_sound : Bytes bytes → is_good (list_of (taken_in true) list) ≡ true → Sound bytes list (need_number need)
    unfolding taken_in
    is_sound hb g =
        let (t, et, en) = found_tree (image_with false bytes) (need_number need) (sym ev ∙ ap needed e) in
        let (es, el) = found_list (list_of running list) g in
        sound_with t es hb et en el
