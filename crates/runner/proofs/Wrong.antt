-- Wrong runners (document 01, section 9): each fails the statement of a run at inputs that are named here, whatever the work room holds.
use mathlib.Core.Path.{◌≡◌, refl, ap, sym, ◌∙◌}
use mathlib.Core.List.{List, [], ◌∷◌}
use Prim.Native.Nat.{ℕ, ◌≤◌}
use native.Mathlib.Omega.{arith}
use lib.ListN.{length, get_or}
use Rattle.common.specs.Answer.{Delivered}
use Rattle.common.specs.Answer.Answer.{value, refused}
use Rattle.recipe.specs.Outcome.{Outcome, outcome}
use Rattle.recipe.specs.Run.{ran_of, run_of}
use Rattle.recipe.proofs.Computing.{runs}
use Rattle.recipe.proofs.Orders.{run_done, run_refuses}
use Rattle.modes.specs.Cell.{cell_of}
use Rattle.answers.specs.declared.Refusal.TheVariants as refusal
use Rattle.std.specs.Prelude.{Ok, Err}
use Rattle.answers.specs.Told.{table, number_by, number_of, told_of}

-- `cat('41',$0)`, `xor('41','4142')`, `head('02','41')`, `$0`
abbrev cat_image : List ℕ
cat_image = 0x0A ∷ 0x00 ∷ 0x10 ∷ 0x00 ∷ 0x01 ∷ 0x00 ∷ 0x01 ∷ 0x00 ∷ 0x41 ∷ 0x01 ∷ 0x00 ∷ 0x02 ∷ 0x00 ∷ 0x00 ∷ []

abbrev xor_image : List ℕ
xor_image = 0x0B ∷ 0x00 ∷ 0x11 ∷ 0x00 ∷ 0x01 ∷ 0x00 ∷ 0x01 ∷ 0x00 ∷ 0x41 ∷ 0x02 ∷ 0x00 ∷ 0x01 ∷ 0x00 ∷ 0x41 ∷ 0x42 ∷ []

abbrev head_image : List ℕ
head_image = 0x0A ∷ 0x00 ∷ 0x13 ∷ 0x00 ∷ 0x01 ∷ 0x00 ∷ 0x01 ∷ 0x00 ∷ 0x02 ∷ 0x01 ∷ 0x00 ∷ 0x01 ∷ 0x00 ∷ 0x41 ∷ []

abbrev row_image : List ℕ
row_image = 0x01 ∷ 0x00 ∷ 0x02 ∷ 0x00 ∷ 0x00 ∷ []

-- lists that give `$0` one byte
abbrev row42 : List ℕ
row42 = 0x01 ∷ 0x00 ∷ 0x00 ∷ 0x03 ∷ 0x42 ∷ []

abbrev row43 : List ℕ
row43 = 0x01 ∷ 0x00 ∷ 0x00 ∷ 0x03 ∷ 0x43 ∷ []

-- an output room of three bytes
abbrev room : List ℕ
room = 0x07 ∷ 0x08 ∷ 0x09 ∷ []

-- a number and a length of any size, with what is left in the output
abbrev answered : ℕ → ℕ → List ℕ → Delivered
answered n c o = record { number = n; count = c; out = o }

cat_42 : ran_of cell_of cat_image row42 ≡ value (0x41 ∷ 0x42 ∷ [])
unfolding runs
cat_42 = refl

cat_43 : ran_of cell_of cat_image row43 ≡ value (0x41 ∷ 0x43 ∷ [])
unfolding runs
cat_43 = refl

xor_10 : ran_of cell_of xor_image [] ≡ refused 10
unfolding runs
xor_10 = refl

head_12 : ran_of cell_of head_image [] ≡ refused 12
unfolding runs
head_12 = refl

row_25 : ran_of cell_of row_image [] ≡ refused 25
unfolding runs
row_25 = refl

module _ (work : List ℕ) (h : 65536 ≤ length work) where
  -- one that always refuses, with whatever number
  pub always_refuses : (n : ℕ) (o w : List ℕ) → outcome (answered n 0 o) 0 w ≡ run_of cell_of cat_image row42 room work → ⊥
  unfolding outcome
  always_refuses n o w e =
      let q : ◌≡◌ {A = ℕ} 0 2 = ap (λ (x : Outcome). x.count) (e ∙ run_done cell_of cat_image row42 room work h (0x41 ∷ 0x42 ∷ []) cat_42 (omega arith)) in
      omega arith

  -- one that answers the same bytes whatever `$0` is
  pub always_the_same : (n m : ℕ) (o w v : List ℕ) → outcome (answered n m o) 0 w ≡ run_of cell_of cat_image row42 room work → outcome (answered n m o) 0 v ≡ run_of cell_of cat_image row43 room work → ⊥
  unfolding outcome
  always_the_same n m o w v a b =
      let p : o ≡ 0x41 ∷ 0x42 ∷ 0x09 ∷ [] = ap (λ (x : Outcome). x.out) (a ∙ run_done cell_of cat_image row42 room work h (0x41 ∷ 0x42 ∷ []) cat_42 (omega arith)) in
      let q : o ≡ 0x41 ∷ 0x43 ∷ 0x09 ∷ [] = ap (λ (x : Outcome). x.out) (b ∙ run_done cell_of cat_image row43 room work h (0x41 ∷ 0x43 ∷ []) cat_43 (omega arith)) in
      let z : ◌≡◌ {A = ℕ} 0x42 0x43 = ap (λ (x : List ℕ). get_or x 1 0) (sym p ∙ q) in
      omega arith

  -- one that touches nothing
  pub touches_nothing : (n m : ℕ) (w : List ℕ) → outcome (answered n m room) 0 w ≡ run_of cell_of cat_image row42 room work → ⊥
  unfolding outcome
  touches_nothing n m w e =
      let p : room ≡ 0x41 ∷ 0x42 ∷ 0x09 ∷ [] = ap (λ (x : Outcome). x.out) (e ∙ run_done cell_of cat_image row42 room work h (0x41 ∷ 0x42 ∷ []) cat_42 (omega arith)) in
      let z : ◌≡◌ {A = ℕ} 0x07 0x41 = ap (λ (x : List ℕ). get_or x 0 0) p in
      omega arith

  -- one that changes an output byte before it refuses
  pub touched_before : (n m : ℕ) (w : List ℕ) → outcome (answered n m (0x41 ∷ 0x08 ∷ 0x09 ∷ [])) 0 w ≡ run_of cell_of xor_image [] room work → ⊥
  unfolding outcome
  touched_before n m w e =
      let z : ◌≡◌ {A = ℕ} 0x41 0x07 = ap (λ (x : Outcome). get_or x.out 0 0) (e ∙ run_refuses cell_of xor_image [] room work h 10 xor_10) in
      omega arith

  -- one that judges 9 before the meaning
  pub nine_first : (o w : List ℕ) → outcome (told_of (Err refusal.Room) o) 0 w ≡ run_of cell_of xor_image [] [] work → ⊥
  unfolding outcome told_of number_of number_by table
  nine_first o w e =
      let z : ◌≡◌ {A = ℕ} 9 10 = ap (λ (x : Outcome). x.number) (e ∙ run_refuses cell_of xor_image [] [] work h 10 xor_10) in
      omega arith

  -- one whose `head` cuts off
  pub head_cuts_off : (o w : List ℕ) → outcome (told_of (Ok 1) o) 0 w ≡ run_of cell_of head_image [] room work → ⊥
  unfolding outcome told_of number_of number_by table
  head_cuts_off o w e =
      let z : ◌≡◌ {A = ℕ} 0 12 = ap (λ (x : Outcome). x.number) (e ∙ run_refuses cell_of head_image [] room work h 12 head_12) in
      omega arith

  -- one that takes an absent name for an empty value
  pub absent_is_empty : (o w : List ℕ) → outcome (told_of (Ok 0) o) 0 w ≡ run_of cell_of row_image [] room work → ⊥
  unfolding outcome told_of number_of number_by table
  absent_is_empty o w e =
      let z : ◌≡◌ {A = ℕ} 0 25 = ap (λ (x : Outcome). x.number) (e ∙ run_refuses cell_of row_image [] room work h 25 row_25) in
      omega arith
