-- What a host sees is what was told.
use mathlib.Core.Path.{◌≡◌, refl, ap, ap₂, ◌∙◌}
use mathlib.Core.List.{List}
use Prim.Native.Nat.{ℕ}
use Rattle.std.proofs.Common.{Result}
use Rattle.common.specs.Answer.{Delivered}
use Rattle.answers.specs.Told.{table, fault_number, number_by, number_of, count_of, told_of}
use Rattle.answers.specs.declared.Refusal.{Refusal}
use Rattle.answers.specs.declared.Fault.{Fault}
use Rattle.recipe.specs.Outcome.{Outcome, outcome}
use Rattle.entries.specs.Seen.{seen}
use Rattle.preparing.specs.Ended as ended
use Rattle.preparing.specs.Ended.{place_of, outcome_of}

pub seen_told : (t : Result ℕ Refusal) (r l : ℕ) (out : List ℕ) (d : Delivered) → r ≡ number_by table t → l ≡ count_of t → told_of t out ≡ d → seen r l out ≡ d
unfolding seen told_of number_of
seen_told t r l out d er el e = ap₂ (λ (n m : ℕ). seen n m out) er el ∙ e

-- with the work room too
pub ran_told : (t : Result ℕ Refusal) (r l : ℕ) (out work : List ℕ) (o : Outcome) → r ≡ number_by table t → l ≡ count_of t → outcome (told_of t out) 0 work ≡ o → outcome (seen r l out) 0 work ≡ o
ran_told t r l out work o er el e = ap (λ d. outcome d 0 work) (seen_told t r l out (told_of t out) er el refl) ∙ e

-- what preparing ended with
pub ended_told : (t : Result ℕ Fault) (r l p : ℕ) (out work : List ℕ) (o : Outcome) → r ≡ number_by fault_number t → l ≡ count_of t → p ≡ place_of t → outcome_of t out work ≡ o
    → outcome (seen r l out) p work ≡ o
unfolding outcome_of ended.number_of outcome seen
ended_told t r l p out work o er el ep e = ap₂ (λ (n m : ℕ). outcome (seen n m out) p work) er el ∙ ap (λ q. outcome (seen (number_by fault_number t) (count_of t) out) q work) ep ∙ e
