-- The scan for an unbound `#` finds none exactly if all are bound.
use mathlib.Core.Path.{◌≡◌, refl, ap, sym, ◌∙◌}
use mathlib.Core.Logic.{◌↔◌}
use Prim.Native.Nat.{ℕ, ◌+◌}
use native.Mathlib.Omega.{arith}
use Rattle.common.specs.Choice.{pick}
use Rattle.common.specs.Answer.{Value}
use Rattle.tree.specs.Tree.{Tree}
use Rattle.tree.specs.Tree.Tree.{literal, bound, row, run, one, two, three, four, when}
use Rattle.tree.specs.Names.{Given, Binding, AllBound}
use Rattle.tree.specs.Names.Given.{given, nothing}
use Rattle.texts.specs.Spelling.{spell, width}
use Rattle.texts.specs.Unbound.{first, unbound_at, unbound_in}
use Rattle.texts.specs.Unbound.Place.{at, nowhere}
use Rattle.texts.proofs.Unbound.{unbound_scan, later_nowhere, none_later, first_none, none_first}
use Rattle.recipe.specs.Prepare.{is_given, has}

some_place : {p : ℕ} → at p ≡ nowhere → ⊥
some_place e = let z : ◌≡◌ {A = ℕ} 0 1 = cc in omega arith

is_given_lem : (g : Given) → pick (is_given g) nowhere (at 0) ≡ nowhere → (v : Value) × (g ≡ given v)
unfolding is_given pick
is_given_lem (given v) e = (v, refl)
is_given_lem nothing e = absurd (some_place e)

module _ (K : Binding) where
  all_bound : (t : Tree) → unbound_at (has K) t ≡ nowhere → AllBound K t
  unfolding unbound_at AllBound has
  all_bound (literal v) e = tt
  all_bound (bound n) e = is_given_lem (K n) e
  all_bound (row n) e = tt
  all_bound (run n) e = tt
  all_bound (one k a) e = all_bound a (later_nowhere _ _ e)
  all_bound (two k a b) e =
      let (x, y) = first_none (unbound_at (has K) a) (width a + 1) (unbound_at (has K) b) (later_nowhere _ _ e) in
      (all_bound a x, all_bound b y)
  all_bound (three k a b c) e =
      let (x, r) = first_none (unbound_at (has K) a) (width a + 1) (first (unbound_at (has K) b) (width b + 1) (unbound_at (has K) c)) (later_nowhere _ _ e) in
      let (y, z) = first_none (unbound_at (has K) b) (width b + 1) (unbound_at (has K) c) r in
      (all_bound a x, all_bound b y, all_bound c z)
  all_bound (four k a b c d) e =
      let (x, r) =
      first_none (unbound_at (has K) a) (width a + 1) (first (unbound_at (has K) b) (width b + 1) (first (unbound_at (has K) c) (width c + 1) (unbound_at (has K) d))) (later_nowhere _ _ e)
      in
      let (y, s) = first_none (unbound_at (has K) b) (width b + 1) (first (unbound_at (has K) c) (width c + 1) (unbound_at (has K) d)) r in
      let (z, w) = first_none (unbound_at (has K) c) (width c + 1) (unbound_at (has K) d) s in
      (all_bound a x, all_bound b y, all_bound c z, all_bound d w)
  all_bound (when c a b) e =
      let (x, r) = first_none (unbound_at (has K) c) (width c + 1) (first (unbound_at (has K) a) (width a + 1) (unbound_at (has K) b)) (later_nowhere _ _ e) in
      let (y, z) = first_none (unbound_at (has K) a) (width a + 1) (unbound_at (has K) b) r in
      (all_bound c x, all_bound a y, all_bound b z)

  none_unbound : (t : Tree) → AllBound K t → unbound_at (has K) t ≡ nowhere
  unfolding unbound_at AllBound has is_given pick
  none_unbound (literal v) h = refl
  none_unbound (bound n) h = ap (λ g. pick (is_given g) nowhere (at 0)) h.1
  none_unbound (row n) h = refl
  none_unbound (run n) h = refl
  none_unbound (one k a) h = none_later _ _ (none_unbound a h)
  none_unbound (two k a b) h = none_later _ _ (none_first _ _ _ (none_unbound a h.0) (none_unbound b h.1))
  none_unbound (three k a b c) h =
      none_later _ _ (none_first _ _ _ (none_unbound a h.0) (none_first _ _ _ (none_unbound b h.1) (none_unbound c h.2)))
  none_unbound (four k a b c d) h =
      none_later _ _
      (none_first _ _ _ (none_unbound a h.0) (none_first _ _ _ (none_unbound b h.1) (none_first _ _ _ (none_unbound c h.2) (none_unbound d h.3))))
  none_unbound (when c a b) h =
      none_later _ _ (none_first _ _ _ (none_unbound c h.0) (none_first _ _ _ (none_unbound a h.1) (none_unbound b h.2)))

  -- so 25 is given exactly if some `#` of the text has no value
  pub scan_exactly : (t : Tree) → (unbound_in (has K) (spell t) ≡ nowhere) ↔ AllBound K t
  scan_exactly t = (λ e. all_bound t (unbound_scan (has K) t ∙ e), λ h. sym (unbound_scan (has K) t) ∙ none_unbound t h)
