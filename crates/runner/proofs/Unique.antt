-- Two results of a run that meet its statement are equal: number, length, every output byte, every work byte.
use mathlib.Core.Path.{◌≡◌, ap, sym, ◌∙◌}
use mathlib.Core.List.{List}
use Prim.Native.Nat.{ℕ}
use Rattle.recipe.specs.Outcome.{Outcome, outcome}
use Rattle.recipe.specs.Run.{run_of}
use Rattle.modes.specs.Cell.{cell_of}
use Rattle.answers.specs.declared.Refusal.{Refusal}
use Rattle.std.specs.Prelude.{Result}
use Rattle.answers.specs.Told.{number_of, count_of, told_of}

pub unique : (image list out work : List ℕ) (r q : Result ℕ Refusal) (o p w v : List ℕ) → outcome (told_of r o) 0 w ≡ run_of cell_of image list out work → outcome (told_of q p) 0 v ≡ run_of cell_of image list out work
    → (number_of r ≡ number_of q) × (count_of r ≡ count_of q) × (o ≡ p) × (w ≡ v)
unfolding outcome told_of
unique image list out work r q o p w v a b =
    let e : outcome (told_of r o) 0 w ≡ outcome (told_of q p) 0 v = a ∙ sym b in
    (ap (λ (x : Outcome). x.number) e, ap (λ (x : Outcome). x.count) e, ap (λ (x : Outcome). x.out) e, ap (λ (x : Outcome). x.work) e)
