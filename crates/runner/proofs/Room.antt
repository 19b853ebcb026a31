-- The work room afterwards, and the whole outcome.
use mathlib.Core.Path.{◌≡◌, ap, ap₂, sym, ◌∙◌}
use mathlib.Core.List.{List, ◌++◌}
use Prim.Native.Nat.{ℕ, ◌≤◌, ◌<◌}
use lib.ListN.{length, drop, replicate}
use lib.Seq.{drop_at}
use borrow.Author.Tests.{lt-ltb, le-ltb}
use Rattle.common.specs.Answer.{Delivered, refusal, deliver}
use Rattle.common.proofs.Choices.{pick_true, pick_false}
use Rattle.recipe.specs.Outcome.{zeroed, cleared, outcome, in_room}
use Rattle.recipe.specs.Run.{ran_of, run_of}
use Rattle.modes.specs.Cell.{cell_of}
use Rattle.answers.specs.declared.Refusal.TheVariants as refusal
use Rattle.std.specs.Prelude.{Err}
use Rattle.answers.specs.Told.{table, number_by, number_of, count_of, told_of}

-- cleared after its front was written, it is what would be cleared before
pub cleared_front : (n : ℕ) (w ys : List ℕ) → length ys ≡ n → zeroed n (ys ++ drop n w) ≡ zeroed n w
unfolding zeroed
cleared_front n w ys e = ap (λ x. replicate n 0 ++ x) (drop_at ys (drop n w) n e)

-- `run`
module _ (image list out work : List ℕ) where
  pub no_room : length work < 65536 → outcome (told_of (Err refusal.Work) out) 0 work ≡ run_of cell_of image list out work
  unfolding told_of number_of number_by table count_of run_of in_room refusal
  no_room h = sym (pick_true _ _ _ (lt-ltb (length work) 65536 h))

  pub had_room : (d : Delivered) (w : List ℕ) (room : ℕ) → room ≡ 65536 → 65536 ≤ length work → d ≡ deliver (ran_of cell_of image list) out → w ≡ zeroed room work → outcome d 0 w ≡ run_of cell_of image list out work
  unfolding run_of in_room cleared
  had_room d w room e h a b =
      ap₂ (λ x y. outcome x 0 y) a (b ∙ ap (λ n. zeroed n work) e) ∙ sym (pick_false _ _ _ (le-ltb (length work) 65536 h))
