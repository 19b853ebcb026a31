-- Where a leaf's value stands, way by way.
use mathlib.Core.Path.{◌≡◌, ap, sym, ◌∙◌}
use mathlib.Core.List.{List, []}
use Rattle.std.specs.Prelude.{Option, Some, None}
use Prim.Native.Nat.{ℕ, ◌+◌, ◌≤◌}
use lib.ListN.{length, get_or, take, drop}
use borrow.Author.Tests.{eq-eqb, ne_eqb}
use Rattle.common.proofs.Choices.{pick_true, pick_false}
use Rattle.heads.specs.declared.Head.{Head}
use Rattle.heads.specs.Head.{headed, head_at}
use Rattle.heads.proofs.Heads.{head_stands}
use Rattle.listing.specs.declared.Stretch.{Stretch}
use Rattle.listing.specs.Find.{find_in}
use Rattle.leaf.specs.declared.Place.{Place}
use Rattle.leaf.specs.declared.Place.TheVariants.{Image, List as InList}
use Rattle.leaf.specs.Place.{place_in, name_in, place_of_head, place_of, placed, bytes_of}

-- `named`
pub named_there : (f g : Option Stretch) (at : Stretch) → f ≡ g → f ≡ Some at → Some (InList at) ≡ place_in g
unfolding place_in
named_there f g at e h = sym (ap place_in (sym e ∙ h))

pub named_nowhere : (f g : Option Stretch) → f ≡ g → f ≡ None → None ≡ place_in g
unfolding place_in
named_nowhere f g e h = sym (ap place_in (sym e ∙ h))

-- `leaf`
module _ (image list r : List ℕ) (place : Option Place) where
  pub from_image : (f : Place) (at : Stretch) → place ≡ Some f → f ≡ Image at → r ≡ take at.length (drop at.start image) → r ≡ bytes_of (placed image list place)
  unfolding placed bytes_of
  from_image f at e g h = h ∙ sym (ap (λ p. bytes_of (placed image list p)) (e ∙ ap Some g))

  pub from_list : (f : Place) (at : Stretch) → place ≡ Some f → f ≡ InList at → r ≡ take at.length (drop at.start list) → r ≡ bytes_of (placed image list place)
  unfolding placed bytes_of
  from_list f at e g h = h ∙ sym (ap (λ p. bytes_of (placed image list p)) (e ∙ ap Some g))

pub from_nowhere : (image list : List ℕ) (place : Option Place) → place ≡ None → [] ≡ bytes_of (placed image list place)
unfolding placed bytes_of
from_nowhere image list place e = sym (ap (λ p. bytes_of (placed image list p)) e)

-- `place_of`
module _ (image : List ℕ) (at : ℕ) (list : List ℕ) (h : Option Head) (eh : h ≡ head_at image at) where
  by_head : (g : Option Head) → h ≡ g → place_of_head image at list g ≡ place_of image at list
  unfolding place_of
  by_head g e = ap (place_of_head image at list) (sym e ∙ eh)

  pub place_cut : h ≡ None → None ≡ place_of image at list
  unfolding place_of_head
  place_cut e = by_head None e

  module _ (k n : ℕ) (e : h ≡ headed k n) where
    pub place_room : at + 4 + n ≤ length image
    place_room = (head_stands image at k n (sym eh ∙ e)).room

    pub place_image : k ≡ 1 → Some (Image (record { start = at + 4; length = n })) ≡ place_of image at list
    unfolding place_of_head
    place_image q = sym (pick_true _ _ _ (eq-eqb k 1 q)) ∙ by_head (headed k n) e

    module _ (a : k ≡ 1 → ⊥) where
      pub place_wide : (n ≡ 1 → ⊥) → None ≡ place_of image at list
      unfolding place_of_head
      place_wide q = sym (pick_false _ _ _ (ne_eqb k 1 a) ∙ pick_false _ _ _ (ne_eqb n 1 q)) ∙ by_head (headed k n) e

      module _ (b : n ≡ 1) where
        by_name : name_in list k (get_or image (at + 4) 0) ≡ place_of image at list
        unfolding place_of_head
        by_name = sym (pick_false _ _ _ (ne_eqb k 1 a) ∙ pick_true _ _ _ (eq-eqb n 1 b)) ∙ by_head (headed k n) e

        pub place_row : (r : Option Place) → k ≡ 2 → r ≡ place_in (find_in list (0x0300 + get_or image (at + 4) 0)) → r ≡ place_of image at list
        unfolding name_in
        place_row r q er = er ∙ sym (pick_true _ _ _ (eq-eqb k 2 q)) ∙ by_name

        module _ (c : k ≡ 2 → ⊥) where
          pub place_run : (r : Option Place) → k ≡ 3 → r ≡ place_in (find_in list (0x0400 + get_or image (at + 4) 0)) → r ≡ place_of image at list
          unfolding name_in
          place_run r q er = er ∙ sym (pick_false _ _ _ (ne_eqb k 2 c) ∙ pick_true _ _ _ (eq-eqb k 3 q)) ∙ by_name

          module _ (d : k ≡ 3 → ⊥) where
            pub place_bound : (r : Option Place) → k ≡ 4 → r ≡ place_in (find_in list (0x0200 + get_or image (at + 4) 0)) → r ≡ place_of image at list
            unfolding name_in
            place_bound r q er = er ∙ sym (pick_false _ _ _ (ne_eqb k 2 c) ∙ pick_false _ _ _ (ne_eqb k 3 d) ∙ pick_true _ _ _ (eq-eqb k 4 q)) ∙ by_name

            pub place_other : (k ≡ 4 → ⊥) → None ≡ place_of image at list
            unfolding name_in
            place_other q = sym (pick_false _ _ _ (ne_eqb k 2 c) ∙ pick_false _ _ _ (ne_eqb k 3 d) ∙ pick_false _ _ _ (ne_eqb k 4 q)) ∙ by_name
