-- The ways through a call.
use mathlib.Core.Bool.{Bool, true, false}
use mathlib.Core.Logic.{◌⊎◌, ⊎_elim}
use mathlib.Core.Path.{◌≡◌, refl, sym, ap, ◌∙◌, subst}
use mathlib.Core.List.{List}
use Prim.Native.Nat.{ℕ}
use borrow.Author.Tests.{ne_eqb}
use lib.Dec.{eqb}
use lib.ListN.{length}
use Rattle.common.specs.Choice.{pick}
use Rattle.common.specs.Answer.{Value, Delivered, deliver, refusal}
use Rattle.std.proofs.Common.{Result, Ok, Err}
use Rattle.std.proofs.lemmas.Bool.{eqb-true, eq-eqb}
use Rattle.answers.specs.Told.{number_by, number_of, count_of, told_of}
use Rattle.answers.specs.declared.Refusal.{Refusal}
use Rattle.common.proofs.Choices.{false_true}
use Rattle.lent.specs.Lent.{Serves, need_of}
use Rattle.lent.specs.declared.Tables.{Tables}
use Rattle.suites.specs.Suites.{block_bytes}
use Rattle.suites.specs.declared.Suite.{Suite}
use Rattle.modes.specs.Cell.{Call, made, sealing, opening, cell}
use Rattle.judging.specs.Order.{judged_of}
use Rattle.judging.specs.Cleared.{Cleared}
use Rattle.judging.proofs.Joins.{judged_refused, judged_fine, cleared_cell}

-- ---- the need

pub opens_2 : (f : ℕ) → (f ≡ 1) ⊎ ((f ≡ 7) ⊎ (f ≡ 9)) → true ≡ eqb (need_of f) 2
unfolding need_of pick
opens_2 f h = ⊎_elim (λ e. sym (ap at e)) (λ h. ⊎_elim (λ e. sym (ap at e)) (λ e. sym (ap at e)) h) h
  where
    at : ℕ → Bool
    at f = eqb (need_of f) 2

pub opens_1 : (f : ℕ) → (f ≡ 1 → ⊥) → (f ≡ 7 → ⊥) → (f ≡ 9 → ⊥) → false ≡ eqb (need_of f) 2
unfolding need_of pick
opens_1 f h1 h7 h9 = rw (ne_eqb f 1 h1, ne_eqb f 7 h7, ne_eqb f 9 h9)

need_either : (f : ℕ) → (need_of f ≡ 2 → ⊥) → need_of f ≡ 1
unfolding need_of pick
need_either f = go (eqb f 1) (eqb f 7) (eqb f 9)
  where
    of : Bool → Bool → Bool → ℕ
    of a b d = pick a 2 (pick b 2 (pick d 2 1))

    go : (a b d : Bool) → (of a b d ≡ 2 → ⊥) → of a b d ≡ 1
    go true b d h = absurd (h refl)
    go false true d h = absurd (h refl)
    go false false true h = absurd (h refl)
    go false false false h = refl

-- what a test of the need tells
pub need_2 : (f : ℕ) (t : Bool) → t ≡ eqb (need_of f) 2 → t ≡ true → need_of f ≡ 2
need_2 f t e h = eqb-true (need_of f) 2 (sym e ∙ h)

pub need_1 : (f : ℕ) (t : Bool) → t ≡ eqb (need_of f) 2 → t ≡ false → need_of f ≡ 1
need_1 f t e h = need_either f (λ q. false_true (sym h ∙ e ∙ eq-eqb (need_of f) 2 q))

-- what serves a call serves its need
pub serves : (f m : ℕ) (t : Tables) → need_of f ≡ m → Serves (need_of f) t → Serves m t
serves f m t e l = subst (λ n. Serves n t) e l

-- ---- the answer

module _ (f : Call) (n : ℕ) (key side text : Value) (out : List ℕ) (j : Result Suite Refusal) (e : j ≡ judged_of f n (length key) (length side) (length text) (length out)) where
  pub told_refused : (r : Refusal) (x : Result ℕ Refusal) → j ≡ Err r → x ≡ Err r → told_of x out ≡ deliver (cell f n key side text) out
  unfolding told_of number_of number_by count_of refusal
  told_refused r x q w = ap (λ y. told_of y out) w ∙ sym (judged_refused f n key side text out r (sym e ∙ q))

  pub cleared : (s : Suite) → j ≡ Ok s → Cleared f s (length key) (length side) (length text) (length out)
  cleared s q = (judged_fine f n s key side text out (sym e ∙ q)).1

  pub told_made : (s : Suite) (d : Delivered) → j ≡ Ok s → d ≡ deliver (made f (block_bytes s) (sealing s key) (opening s key) side text) out → d ≡ deliver (cell f n key side text) out
  told_made s d q w = w ∙ sym (ap (λ a. deliver a out) (cleared_cell f n s key side text out (judged_fine f n s key side text out (sym e ∙ q)).0 (cleared s q)))
