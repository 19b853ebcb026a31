-- What joins preparing and running: a run of what was prepared means the text.
use Rattle.std.specs.Prelude.{◌≡◌, List, ℕ, ◌≤◌, length}
use Rattle.common.specs.Answer.{deliver}
use Rattle.tree.specs.Tree.{Tree}
use Rattle.tree.specs.Names.{NoBound}
use Rattle.tree.specs.Reading.Read.{got}
use Rattle.texts.specs.Reading.{read_text}
use Rattle.meaning.specs.Mean.{mean}
use Rattle.meaning.specs.Real.{Cipher, real}
use Rattle.meaning.specs.Folded.{Folded}
use Rattle.records.specs.Decode.{image_of}
use Rattle.records.specs.Decode.Image.{image}
use Rattle.lists.specs.Entries.{Entry, preparing, running, list_of}
use Rattle.lists.specs.Entries.Listed.{listed}
use Rattle.lists.specs.Given.{binding_of, running_of}
use Rattle.recipe.specs.Outcome.{outcome, cleared}
use Rattle.recipe.specs.Run.{run_of}

-- the bytes keep what the text says with the bound list, for every run to come
pub record Keeps (cipher : Cipher) (text list bytes : List ℕ) : Type 0 where
  pub tree : Tree
  pub is_tree : read_text text ≡ got tree
  pub entries : List Entry
  pub is_list : list_of preparing list ≡ listed entries
  -- every good run list, output room and work room of 65,536 or more: the number, length and bytes that the text's tree means with both lists
  pub keeps :
      (rows : List ℕ) (es : List Entry) → list_of running rows ≡ listed es → (out work : List ℕ) → 65536 ≤ length work
      → run_of cipher bytes rows out work ≡ outcome (deliver (mean (real cipher) (binding_of entries) (running_of es) tree) out) 0 (cleared work)
  -- and nothing is left to fold
  pub left : Tree
  pub is_image : image_of bytes ≡ image left
  pub folded : Folded (real cipher) (binding_of entries) left
  pub free : NoBound left
