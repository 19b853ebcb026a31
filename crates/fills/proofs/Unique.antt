-- What `marked` makes of a place determines the place: two ends of a text that meet the statement are equal.
use mathlib.Core.Path.{◌≡◌, refl, sym, ap, ◌∙◌}
use Prim.Native.Nat.{ℕ, ◌≤◌}
use native.Mathlib.Decide.{ℕ_discrete}
use lib.ListN.{length, take}
use lib.Seq.{length-take-le}
use borrow.Author.Tests.{eq-eqb, ne_eqb}
use Rattle.common.specs.Answer.{Value, Answer}
use Rattle.common.specs.Answer.Answer.{value, refused}
use Rattle.common.proofs.Choices.{pick_true, pick_false}
use Rattle.modes.specs.Fill.{marked}
use Rattle.modes.proofs.Fill.{not_both}
use Rattle.fills.specs.Ended.{ended}
use Rattle.std.specs.Prelude.{Option, Some, None, IfSome}

none : (m : ℕ) (p : Value) → m ≡ 0 → marked m p ≡ refused 8
unfolding marked
none m p e = pick_true _ _ _ (eq-eqb m 0 e)

some : (m : ℕ) (p : Value) → (m ≡ 0 → ⊥) → marked m p ≡ value (take m p)
unfolding marked
some m p e = pick_false _ _ _ (ne_eqb m 0 e)

same_value : {v u : Value} → value v ≡ value u → v ≡ u
same_value e = cc

pub end_unique : (y : Answer) (p : Value) (r q : ℕ) → r ≤ length p → q ≤ length p → y ≡ marked r p → y ≡ marked q p → r ≡ q
end_unique y p r q lr lq er eq = go (ℕ_discrete r 0) (ℕ_discrete q 0)
  where
    go : Dec (r ≡ 0) → Dec (q ≡ 0) → r ≡ q
    go (yes a) (yes b) = a ∙ sym b
    go (yes a) (no b) = absurd (not_both 8 _ (sym (none r p a) ∙ sym er ∙ eq ∙ some q p b))
    go (no a) (yes b) = absurd (not_both 8 _ (sym (none q p b) ∙ sym eq ∙ er ∙ some r p a))
    go (no a) (no b) = sym (length-take-le r p lr) ∙ ap length (same_value (sym (some r p a) ∙ sym er ∙ eq ∙ some q p b)) ∙ length-take-le q p lq

-- and so does what is answered at an end, or at none
pub found_unique : (y : Answer) (p : Value) (r q : Option ℕ) → IfSome r (λ m. m ≤ length p) → IfSome q (λ m. m ≤ length p) → y ≡ ended r p → y ≡ ended q p → r ≡ q
unfolding ended
found_unique y p None None lr lq er eq = refl
found_unique y p None (Some m) lr lq er eq = absurd (not_both 8 _ (sym er ∙ eq))
found_unique y p (Some n) None lr lq er eq = absurd (not_both 8 _ (sym eq ∙ er))
found_unique y p (Some n) (Some m) lr lq er eq = ap Some (sym (length-take-le n p lr) ∙ ap length (same_value (sym er ∙ eq)) ∙ length-take-le m p lq)
