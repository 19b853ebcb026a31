-- Two results that meet the statement of `prepare` are equal: the answer, every output byte, every work byte.
use mathlib.Core.Path.{◌≡◌, ap, ap₂, sym, ◌∙◌}
use mathlib.Core.List.{List, []}
use Prim.Native.Nat.{ℕ}
use lib.ListN.{take}
use Rattle.common.specs.Choice.{pick}
use Rattle.tree.specs.Tree.{Tree}
use Rattle.tree.specs.Bounds.{Bytes}
use Rattle.modes.specs.Cell.{cell_of}
use Rattle.records.specs.Record.{front_of}
use Rattle.records.specs.Decode.{decode, then_front, whole_of, image_with, image_of}
use Rattle.records.specs.Decode.Image.{image}
use Rattle.records.proofs.Back.{no_image_lem}
use Rattle.recipe.specs.Outcome.{Outcome}
use Rattle.recipe.specs.Prepare.{prepare_of}
use Rattle.recipe.specs.Keeps.{Keeps}
use Rattle.demands.proofs.Real.{demand_3}
use Rattle.std.specs.Prelude.{Result, Ok, Err}
use Rattle.answers.specs.declared.Refusal.{Refusal}
use Rattle.answers.specs.declared.Fault.{Fault}
use Rattle.answers.specs.Told.{fault_number, number_by, count_of}
use Rattle.answers.proofs.Cases.{one_refusal}
use Rattle.preparing.specs.Ended.{number_of, place_of, outcome_of}

-- no image has no byte
none_no_image : (t : Tree) → image_of [] ≡ image t → ⊥
unfolding image_of image_with whole_of decode then_front front_of pick
none_no_image t e = no_image_lem e

same_fault : (p q : Fault) → p.refusal ≡ q.refusal → p.place ≡ q.place → p ≡ q
same_fault p q a b = ap₂ (λ (r : Refusal) (n : ℕ). record { refusal = r; place = n }) a b

module _ (text list out work : List ℕ) (hl : Bytes list) where
  unfoldable x : Outcome
  x = prepare_of cell_of text list out work

  -- done means some bytes
  done_some : x.number ≡ 0 → x.count ≡ 0 → ⊥
  unfolding x
  done_some n c =
      let P : Keeps cell_of text list (take x.count x.out) = demand_3 text list out work hl n in
      none_no_image P.left (sym (ap (λ k. image_of (take k x.out)) c) ∙ P.is_image)

  same_answer : (r s : Result ℕ Fault) → number_of r ≡ x.number → count_of r ≡ x.count → place_of r ≡ x.place → number_of s ≡ x.number → count_of s ≡ x.count → place_of s ≡ x.place → r ≡ s
  unfolding number_of number_by fault_number count_of place_of
  same_answer (Ok n) (Ok m) a b c d e f = ap Ok (b ∙ sym e)
  same_answer (Ok n) (Err q) a b c d e f = absurd (done_some (sym a) (sym e))
  same_answer (Err p) (Ok n) a b c d e f = absurd (done_some (sym d) (sym b))
  same_answer (Err p) (Err q) a b c d e f = ap Err (same_fault p q (one_refusal p.refusal q.refusal (a ∙ sym d)) (c ∙ sym f))

  pub unique : (r s : Result ℕ Fault) (o o' w w' : List ℕ) → outcome_of r o w ≡ prepare_of cell_of text list out work → outcome_of s o' w' ≡ prepare_of cell_of text list out work
      → (r ≡ s) × (o ≡ o') × (w ≡ w')
  unfolding outcome_of x
  unique r s o o' w w' e f = (
    same_answer r s (ap (λ (y : Outcome). y.number) e) (ap (λ (y : Outcome). y.count) e) (ap (λ (y : Outcome). y.place) e)
        (ap (λ (y : Outcome). y.number) f) (ap (λ (y : Outcome). y.count) f) (ap (λ (y : Outcome). y.place) f),
    ap (λ (y : Outcome). y.out) (e ∙ sym f),
    ap (λ (y : Outcome). y.work) (e ∙ sym f),
  )
