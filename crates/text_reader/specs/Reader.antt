-- A text's tree in records, or a number and its place (document 01, sections 5 to 7).
use Rattle.std.specs.Prelude.{Result, Ok, Err, List, [], ◌∷◌, ◌++◌, ◌≡◌, ℕ, ◌+◌, ◌-◌, length, drop, get_or, replicate}
use Rattle.tree.specs.Tree.{Tree}
use Rattle.tree.specs.Reading as tree
use Rattle.tree.specs.Reading.Read.{got, wrong}
use Rattle.records.specs.Record.{record_of}
use Rattle.records.specs.Encode.{encode}
use Rattle.record_out.specs.Put.{put}
use Rattle.texts.specs.Reading.{Part, due_at, if_due}
use Rattle.texts.specs.Reading.Part.{part, bad}
use Rattle.answers.specs.declared.Refusal.{Refusal}
use Rattle.answers.specs.declared.Fault.{Fault}
use Rattle.answers.specs.Told.{fault_number}
use Rattle.text_reader.specs.declared.Step.{Step}

-- the place after what was read, the nodes so far, the end of its records; or a number and its place
pub data Told : Type 0 where
  Read : ℕ → ℕ → ℕ → Told
  NotRead : ℕ → ℕ → Told

abbrev pub told : Result Step Fault → Told
told (Ok s) = Read s.place s.nodes s.end
told (Err f) = NotRead (fault_number f) f.place

abbrev pub fault_at : Refusal → ℕ → Result Step Fault
fault_at r p = Err (record { refusal = r; place = p })

-- the length of the records, or a number and its place
pub data Parsed : Type 0 where
  Fine : ℕ → Parsed
  No : ℕ → ℕ → Parsed

abbrev pub parsed : Result ℕ Fault → Parsed
parsed (Ok n) = Fine n
parsed (Err f) = No (fault_number f) f.place

-- section 7: the number of each answer; 0 is done
unfoldable pub number_of : Parsed → ℕ
number_of (Fine n) = 0
number_of (No k p) = k

-- a refusal has length 0
unfoldable pub length_of : Parsed → ℕ
length_of (Fine n) = n
length_of (No k p) = 0

-- all other places are 0
unfoldable pub place_of : Parsed → ℕ
place_of (Fine n) = 0
place_of (No k p) = p

-- what reading gives, as the answer
unfoldable pub parsed_of : tree.Read → Parsed
parsed_of (got t) = Fine (length (encode t))
parsed_of (wrong k p) = No k p

-- every byte zero
unfoldable pub cleared : List ℕ → List ℕ
cleared out = replicate (length out) 0

-- the records in front and later bytes unchanged; a refusal leaves zeros
unfoldable pub out_of : tree.Read → List ℕ → List ℕ
out_of (got t) out = encode t ++ drop (length (encode t)) out
out_of (wrong k p) out = cleared out

-- the whole of what `read` owes: its answer and every byte of the buffer
pub record Answers (i : tree.Read) (r : Parsed) (before after : List ℕ) : Type 0 where
  pub says : r ≡ parsed_of i
  pub wrote : after ≡ out_of i before

-- the same before the buffer of a refused text is cleared
unfoldable pub Holds : tree.Read → List ℕ → List ℕ → Type 0
Holds (got t) before after = after ≡ out_of (got t) before
Holds (wrong k p) before after = Unit {0}

pub record Whole (i : tree.Read) (r : Parsed) (before after : List ℕ) : Type 0 where
  pub says : r ≡ parsed_of i
  pub holds : Holds i before after

-- arguments' records, one after another
unfoldable pub encodes : List Tree → List ℕ
encodes [] = []
encodes (a ∷ l) = encode a ++ encodes l

-- what was read, as records
unfoldable pub in_records : {A : Type 0} → (A → List ℕ) → Part A → Part (List ℕ)
in_records f (part a p n) = part (f a) p n
in_records f (bad k p) = bad k p

-- the record of a name, whose digit, up to the byte hi, is due after its sign at p
unfoldable pub leaf_at : ℕ → ℕ → List ℕ → ℕ → ℕ → Part (List ℕ)
leaf_at k hi s p n = if_due (due_at s 48 hi (p + 1)) (part (record_of k ((get_or s (p + 1) 0 - 48) ∷ [])) (p + 2) (n + 1))

-- the records at o: the place after, the nodes so far, the end of the records
unfoldable pub step_of : ℕ → Part (List ℕ) → Told
step_of o (part v p n) = Read p n (o + length v)
step_of o (bad k p) = NotRead k p

unfoldable pub Written : ℕ → Part (List ℕ) → List ℕ → List ℕ → Type 0
Written o (part v p n) before after = after ≡ put before o v
Written o (bad k p) before after = Unit {0}

-- nothing is said of the buffer where reading is refused
pub record Reads (o : ℕ) (i : Part (List ℕ)) (r : Told) (before after : List ℕ) : Type 0 where
  pub says : r ≡ step_of o i
  pub wrote : Written o i before after
