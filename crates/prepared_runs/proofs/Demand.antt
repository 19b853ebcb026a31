-- Demand 3 of the code: whatever `prepare` wrote, `run` on it answers what the text means with both lists. By the statements of the two functions alone.
use mathlib.Core.Path.{◌≡◌, ap, ap₂, sym, ◌∙◌, subst}
use mathlib.Core.List.{List}
use Prim.Native.Nat.{ℕ, ◌≤◌}
use lib.ListN.{length, take}
use Rattle.std.specs.Prelude.{Some, Result}
use Rattle.common.specs.Answer.{deliver}
use Rattle.tree.specs.Tree.{Tree}
use Rattle.tree.specs.Bounds.{Bytes}
use Rattle.tree.specs.Names.{NoBound}
use Rattle.tree.specs.Reading.Read.{got}
use Rattle.meaning.specs.Mean.{mean}
use Rattle.meaning.specs.Real.{real}
use Rattle.meaning.specs.Folded.{Folded}
use Rattle.modes.specs.Cell.{cell_of}
use Rattle.records.specs.Decode.{image_of}
use Rattle.lists.specs.Entries.{Entry, preparing, running, list_of}
use Rattle.lists.specs.Entries.Listed.{listed}
use Rattle.lists.specs.Given.{binding_of, running_of}
use Rattle.lists.proofs.Exactly.{same_list}
use Rattle.texts.specs.Reading.{read_text}
use Rattle.recipe.specs.Outcome.{Outcome, outcome, cleared}
use Rattle.recipe.specs.Prepare.{prepare_of}
use Rattle.recipe.specs.Run.{run_of}
use Rattle.recipe.specs.Keeps.{Keeps}
use Rattle.demands.proofs.Real.{demand_3}
use Rattle.kinds.specs.Tables.{tables_of}
use Rattle.image_check.specs.Check.{verdict_of}
use Rattle.answers.specs.declared.Refusal.{Refusal}
use Rattle.answers.specs.declared.Fault.{Fault}
use Rattle.answers.specs.Told.{count_of, told_of}
use Rattle.preparing.specs.Ended.{number_of, outcome_of}

same_tree : {t r : Tree} → got t ≡ got r → t ≡ r
same_tree e = cc

-- `prepare` answered done
module _ (text list out work : List ℕ) (hl : Bytes list) (r : Result ℕ Fault) (out' work' : List ℕ)
    (prepared : outcome_of r out' work' ≡ prepare_of cell_of text list out work) (done : number_of r ≡ 0) where
  -- the bytes that it wrote keep what the text says
  pub kept : Keeps cell_of text list (take (count_of r) out')
  unfolding outcome_of
  kept =
      subst (λ (x : Outcome). Keeps cell_of text list (take x.count x.out)) (sym prepared)
      (demand_3 text list out work hl (sym (ap (λ (x : Outcome). x.number) prepared) ∙ done))

  -- they pass the image check, no `#` is left in them, and nothing that can be folded
  pub checked : verdict_of (image_of (take (count_of r) out')) ≡ Some (tables_of kept.left)
  unfolding verdict_of
  checked = ap verdict_of kept.is_image

  pub nothing_left : Folded (real cell_of) (binding_of kept.entries) kept.left × NoBound kept.left
  nothing_left = (kept.folded, kept.free)

  -- `run` on them with a good run list answers what the text's tree means with both lists: number, length, every byte of output and work room
  pub runs : (t : Tree) (bound es : List Entry) (rows room work₂ : List ℕ) (told : Result ℕ Refusal) (room' work₂' : List ℕ)
      → read_text text ≡ got t → list_of preparing list ≡ listed bound → list_of running rows ≡ listed es → 65536 ≤ length work₂
      → outcome (told_of told room') 0 work₂' ≡ run_of cell_of (take (count_of r) out') rows room work₂
      → outcome (told_of told room') 0 work₂' ≡ outcome (deliver (mean (real cell_of) (binding_of bound) (running_of es) t) room) 0 (cleared work₂)
  runs t bound es rows room work₂ told room' work₂' et eb es-good h met =
      met ∙ kept.keeps rows es es-good room work₂ h
      ∙ ap₂ (λ (b : List Entry) (t : Tree). outcome (deliver (mean (real cell_of) (binding_of b) (running_of es) t) room) 0 (cleared work₂))
      (same_list (sym kept.is_list ∙ eb)) (same_tree (sym kept.is_tree ∙ et))
