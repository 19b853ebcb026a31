-- Wrong preparers (document 01, section 9) fail the statement of `prepare` at these inputs.
use mathlib.Core.Path.{◌≡◌, refl, ap, ◌∙◌}
use mathlib.Core.List.{List, [], ◌∷◌}
use Prim.Native.Nat.{ℕ, ◌≤◌}
use native.Mathlib.Omega.{arith}
use lib.ListN.{length, get_or}
use Rattle.modes.specs.Cell.{cell_of}
use Rattle.texts.proofs.Examples.{text}
use Rattle.recipe.specs.Outcome.{Outcome}
use Rattle.recipe.specs.Prepare.{prepared_of, prepare_of}
use Rattle.recipe.specs.Prepare.Prepared.{made}
use Rattle.recipe.proofs.Computing.{prepares}
use Rattle.prepared_runs.proofs.P8.{made_outcome, with42, at_p8}
use Rattle.std.specs.Prelude.{Ok}
use Rattle.answers.specs.Told.{count_of}
use Rattle.preparing.specs.Ended.{outcome_of}

-- a number, a length and a place of any size, with what is left in the output and in the work room
abbrev ended : ℕ → ℕ → ℕ → List ℕ → List ℕ → Outcome
ended n c p o w = record { number = n; count = c; place = p; out = o; work = w }

-- any output room of 16 bytes at least, any work room that is large enough
module _ (out work : List ℕ) (ho : 16 ≤ length out) (hw : 65536 ≤ length work) where
  -- one that always refuses, whatever number and place it gives
  pub always_refuses : (m p : ℕ) (o w : List ℕ) → ended m 0 p o w ≡ prepare_of cell_of (text "cat('41',#0)") with42 out work → ⊥
  always_refuses m p o w e = let c : ◌≡◌ {A = ℕ} 0 6 = ap (λ (x : Outcome). x.count) (e ∙ at_p8 out work ho hw) in omega arith

  -- a made-up length: only 6 is the image's
  pub made_up_length : (n : ℕ) (o w : List ℕ) → outcome_of (Ok n) o w ≡ prepare_of cell_of (text "cat('41',#0)") with42 out work → n ≡ 6
  unfolding outcome_of count_of
  made_up_length n o w e = ap (λ (x : Outcome). x.count) (e ∙ at_p8 out work ho hw)

  -- one that folds nothing answers the call over both constants, 14 bytes
  pub folds_nothing : (o w : List ℕ) → outcome_of (Ok 14) o w ≡ prepare_of cell_of (text "cat('41',#0)") with42 out work → ⊥
  folds_nothing o w e = let c : ◌≡◌ {A = ℕ} 14 6 = made_up_length 14 o w e in omega arith

  -- one that touches nothing
  pub touches_nothing : (m n p : ℕ) (w : List ℕ) → get_or out 0 0 ≡ 0 → ended m n p out w ≡ prepare_of cell_of (text "cat('41',#0)") with42 out work → ⊥
  touches_nothing m n p w z e =
      let b : get_or out 0 0 ≡ 2 = ap (λ (x : Outcome). get_or x.out 0 0) (e ∙ at_p8 out work ho hw) in
      omega arith

  of_41 : prepared_of cell_of (text "'41'") [] ≡ made (0x01 ∷ 0x00 ∷ 0x01 ∷ 0x00 ∷ 0x41 ∷ [])
  unfolding text prepares
  of_41 = refl

  of_42 : prepared_of cell_of (text "'42'") [] ≡ made (0x01 ∷ 0x00 ∷ 0x01 ∷ 0x00 ∷ 0x42 ∷ [])
  unfolding text prepares
  of_42 = refl

  -- one that answers the same image for these two texts
  pub same_image : (m n p : ℕ) (o w v : List ℕ) → ended m n p o w ≡ prepare_of cell_of (text "'41'") [] out work → ended m n p o v ≡ prepare_of cell_of (text "'42'") [] out work → ⊥
  same_image m n p o w v e f =
      let a : get_or o 4 0 ≡ 0x41 = ap (λ (x : Outcome). get_or x.out 4 0) (e ∙ made_outcome (text "'41'") [] out work _ of_41 hw (omega arith)) in
      let b : get_or o 4 0 ≡ 0x42 = ap (λ (x : Outcome). get_or x.out 4 0) (f ∙ made_outcome (text "'42'") [] out work _ of_42 hw (omega arith)) in
      omega arith

  of_name : prepared_of cell_of (text "@0") [] ≡ made (0x01 ∷ 0x00 ∷ 0x03 ∷ 0x00 ∷ 0x00 ∷ [])
  unfolding text prepares
  of_name = refl

  -- one that puts a constant for a run name: the name's own record stays
  pub run_name_stays : (n : ℕ) (o w : List ℕ) → outcome_of (Ok n) o w ≡ prepare_of cell_of (text "@0") [] out work → (n ≡ 5) × (get_or o 2 0 ≡ 0x03)
  unfolding outcome_of count_of
  run_name_stays n o w e =
      let m = made_outcome (text "@0") [] out work (0x01 ∷ 0x00 ∷ 0x03 ∷ 0x00 ∷ 0x00 ∷ []) of_name hw (omega arith) in
      (ap (λ (x : Outcome). x.count) (e ∙ m), ap (λ (x : Outcome). get_or x.out 2 0) (e ∙ m))
