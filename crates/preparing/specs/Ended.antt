-- How preparing ends (document 01, section 7), and what its steps ask and give.
use Rattle.std.specs.Prelude.{◌≡◌, true, List, ℕ, ◌≤◌, Result, Ok, Err, length}
use Rattle.common.specs.Answer.{deliver}
use Rattle.tree.specs.Tree.{Tree}
use Rattle.tree.specs.Reading.Read.{got}
use Rattle.records.specs.Encode.{encode}
use Rattle.records.specs.Decode.{decode}
use Rattle.records.specs.Decode.Item.{item}
use Rattle.lists.specs.Entries.{Entry, preparing, list_of}
use Rattle.lists.specs.Entries.Listed.{listed}
use Rattle.kinds.specs.Tables.{tables_of}
use Rattle.texts.specs.Reading.{read_text}
use Rattle.recipe.specs.Outcome.{Outcome, outcome}
use Rattle.recipe.specs.Prepare.{Prepared, answer_of}
use Rattle.recipe.specs.Prepare as prepare
use Rattle.answers.specs.declared.Fault.{Fault}
use Rattle.answers.specs.Told.{fault_number, number_by, count_of}

-- the number of a fault is its refusal's
unfoldable pub number_of : Result ℕ Fault → ℕ
number_of r = number_by fault_number r

-- all other places are 0
unfoldable pub place_of : Result ℕ Fault → ℕ
place_of (Ok n) = 0
place_of (Err f) = f.place

-- with every byte of the output and of the work room all that a caller sees
unfoldable pub outcome_of : Result ℕ Fault → List ℕ → List ℕ → Outcome
outcome_of r out work = record { number = number_of r; count = count_of r; place = place_of r; out = out; work = work }

-- what was prepared is delivered, whatever is left in the work room
unfoldable pub Gives : Prepared → Result ℕ Fault → List ℕ → List ℕ → Type 0
Gives P r out out' = (work : List ℕ) → outcome_of r out' work ≡ outcome (deliver (answer_of P) out) (prepare.place_of P) work

-- a tree in records with a good list, the tables that its calls need, and slots for the evaluator
pub record Folding (records list : List ℕ) (need room : ℕ) : Type 0 where
  pub tree : Tree
  pub used : ℕ
  pub is : decode true 16 records ≡ item tree used
  pub entries : List Entry
  pub is_list : list_of preparing list ≡ listed entries
  pub enough : tables_of tree ≤ need
  pub slots : 47104 ≤ room
  pub short : length records ≤ 12288

-- a text of at most 4,096 bytes that was read to these records
pub record WasRead (text records : List ℕ) (room : ℕ) : Type 0 where
  pub tree : Tree
  pub is_tree : read_text text ≡ got tree
  pub is : records ≡ encode tree
  pub long : length text ≤ 4096
  pub slots : 47104 ≤ room
