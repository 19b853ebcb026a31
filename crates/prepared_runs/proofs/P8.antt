-- What `prepare` answers for point P8, as one outcome.
use mathlib.Core.Path.{◌≡◌, ap, ◌∙◌}
use mathlib.Core.List.{List, [], ◌∷◌, ◌++◌}
use Prim.Native.Nat.{ℕ, ◌≤◌}
use native.Mathlib.Omega.{arith}
use lib.ListN.{length, drop}
use borrow.Author.Tests.{le-leb, le-ltb}
use Rattle.common.specs.Answer.{deliver}
use Rattle.common.proofs.Choices.{pick_true, pick_false}
use Rattle.modes.specs.Cell.{cell_of}
use Rattle.texts.proofs.Examples.{text}
use Rattle.recipe.specs.Outcome.{outcome, cleared, in_room}
use Rattle.recipe.specs.Prepare.{answer_of, place_of, prepared_of, prepare_of}
use Rattle.recipe.specs.Prepare.Prepared.{made}
use Rattle.recipe.proofs.Points.{p8}

-- an image that fits the output, in a work room that is large enough
pub made_outcome : (s list out work v : List ℕ) → prepared_of cell_of s list ≡ made v → 65536 ≤ length work → length v ≤ length out
    → prepare_of cell_of s list out work ≡ record { number = 0; count = length v; place = 0; out = v ++ drop (length v) out; work = cleared work }
unfolding prepare_of in_room outcome answer_of place_of deliver
made_outcome s list out work v e h g =
    pick_false _ _ _ (le-ltb (length work) 65536 h)
    ∙ ap (λ P. outcome (deliver (answer_of P) out) (place_of P) (cleared work)) e
    ∙ ap (λ d. outcome d 0 (cleared work)) (pick_true _ _ _ (le-leb (length v) (length out) g))

-- the list that gives `#0` = 42
abbrev pub with42 : List ℕ
with42 = 0x01 ∷ 0x00 ∷ 0x00 ∷ 0x02 ∷ 0x42 ∷ []

-- any output room of 16 bytes at least, any work room that is large enough
module _ (out work : List ℕ) (ho : 16 ≤ length out) (hw : 65536 ≤ length work) where
  pub at_p8 : prepare_of cell_of (text "cat('41',#0)") with42 out work ≡ record { number = 0; count = 6; place = 0; out = (0x02 ∷ 0x00 ∷ 0x01 ∷ 0x00 ∷ 0x41 ∷ 0x42 ∷ []) ++ drop 6 out; work = cleared work }
  at_p8 = made_outcome (text "cat('41',#0)") with42 out work (0x02 ∷ 0x00 ∷ 0x01 ∷ 0x00 ∷ 0x41 ∷ 0x42 ∷ []) (p8 cell_of) hw (omega arith)
