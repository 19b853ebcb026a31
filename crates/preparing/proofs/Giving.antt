-- How preparing ends, case by case.
use mathlib.Core.Path.{◌≡◌, ap, ap₂, sym, ◌∙◌}
use mathlib.Core.List.{List, ◌++◌}
use Prim.Native.Nat.{ℕ, ◌≤◌, ◌<◌}
use native.Mathlib.Nat.{zero-add}
use native.Mathlib.Omega.{arith}
use lib.ListN.{length, drop}
use lib.Seq.{drop_at}
use borrow.Author.Tests.{le-leb, lt-leb, le-ltb, lt-ltb}
use Rattle.common.specs.Choice.{pick}
use Rattle.common.specs.Answer.{deliver}
use Rattle.common.specs.Answer as answer
use Rattle.common.proofs.Choices.{pick_true, pick_false}
use Rattle.kinds.specs.Tables.{tables_of}
use Rattle.substitutions.specs.Tables.{substitutions, unsubstitutions}
use Rattle.lookup.specs.Table.{seal_table, open_table}
use Rattle.lent.specs.declared.Tables.{Tables}
use Rattle.lent.specs.Lent.{Serves}
use Rattle.record_out.specs.Put.{put}
use Rattle.recipe.specs.Outcome.{Outcome, outcome, zeroed, cleared, in_room}
use Rattle.recipe.specs.Prepare.{Prepared, answer_of, sized, prepared_of, prepare_of}
use Rattle.recipe.specs.Prepare as prepare
use Rattle.recipe.specs.Prepare.Prepared.{made, stopped}
use Rattle.meaning.specs.Real.{Cipher}
use Rattle.ways.specs.Ways.{Ready}
use Rattle.ways.proofs.Taken.{rooms_longer}
use Rattle.fold_size.proofs.Sizing.{lent_less}
use Rattle.fold_out.specs.Written.{Fitting, Written}
use Rattle.work_room.proofs.Zeros.{zeroed_same}
use Rattle.std.specs.Prelude.{Result, Ok, Err}
use Rattle.answers.specs.declared.Refusal.{Refusal}
use Rattle.answers.specs.declared.Refusal.TheVariants as refusal
use Rattle.answers.specs.declared.Fault.{Fault}
use Rattle.answers.specs.Told.{table, fault_number, number_by, count_of}
use Rattle.preparing.specs.Ended.{number_of, place_of, outcome_of, Gives, Folding}

-- a refusal
pub stops : (P : Prepared) (f : Fault) (out : List ℕ) → P ≡ stopped (table f.refusal) f.place → Gives P (Err f) out out
unfolding Gives answer_of prepare.place_of deliver answer.refusal outcome outcome_of number_of number_by fault_number count_of place_of
stops P f out e work = sym (ap (λ P. outcome (deliver (answer_of P) out) (prepare.place_of P) work) e)

-- an image that fits
pub makes : (P : Prepared) (v : List ℕ) (m : ℕ) (out out' : List ℕ) → P ≡ made v → length v ≤ length out → m ≡ length v → out' ≡ v ++ drop (length v) out → Gives P (Ok m) out out'
unfolding Gives answer_of prepare.place_of deliver outcome outcome_of number_of number_by count_of place_of pick
makes P v m out out' e h em eo work =
    ap₂ (λ (m : ℕ) (o : List ℕ). outcome_of (Ok m) o work) em eo
    ∙ sym (ap (λ P. outcome (deliver (answer_of P) out) (prepare.place_of P) work) e ∙ rw (le-leb (length v) (length out) h))

-- a refusal that has no place
abbrev pub placeless : Refusal → Fault
placeless r = record { refusal = r; place = 0 }

-- 9, and one that does not
pub lacks_room : (P : Prepared) (v out : List ℕ) → P ≡ made v → length out < length v → Gives P (Err (placeless refusal.Room)) out out
unfolding Gives answer_of prepare.place_of deliver answer.refusal outcome outcome_of number_of number_by fault_number table count_of place_of pick
lacks_room P v out e h work = sym (ap (λ P. outcome (deliver (answer_of P) out) (prepare.place_of P) work) e ∙ rw (lt-leb (length v) (length out) h))

sized_made : (v : List ℕ) → length v ≤ 16384 → sized v ≡ made v
unfolding sized
sized_made v h = pick_true _ _ _ (le-leb (length v) 16384 h)

sized_stopped : (v : List ℕ) → 16384 < length v → sized v ≡ stopped 26 0
unfolding sized
sized_stopped v h = pick_false _ _ _ (lt-leb (length v) 16384 h)

-- 26, then 9, then the bytes
module _ (v out : List ℕ) (n : ℕ) (en : n ≡ length v) where
  pub gives_long : 16384 < n → Gives (sized v) (Err (placeless refusal.Image)) out out
  unfolding table
  gives_long h = stops (sized v) (placeless refusal.Image) out (sized_stopped v (omega arith))

  pub gives_room : n ≤ 16384 → length out < n → Gives (sized v) (Err (placeless refusal.Room)) out out
  gives_room h g = lacks_room (sized v) v out (sized_made v (omega arith)) (omega arith)

  pub made_fitting : n ≤ 16384 → n ≤ length out → Fitting 0 v out
  made_fitting h g = record { fits = omega arith; few = omega arith }

  pub gives_made : n ≤ 16384 → n ≤ length out → (r : ℕ) (out' : List ℕ) → Written 0 v r out out' → Gives (sized v) (Ok r) out out'
  unfolding put
  gives_made h g r out' W =
      let m = W.next in
      makes (sized v) v r out out' (sized_made v (omega arith)) (omega arith) (omega arith) (W.wrote ∙ ap (λ i. v ++ drop i out) (zero-add (length v)))

-- the tables that are made
pub lent_ready : (records list : List ℕ) (tables : Tables) (need room : ℕ) → Folding records list need room → Serves need tables → Ready records list tables room
lent_ready records list tables need room F L =
    record {
      tree = F.tree;
      used = F.used;
      is = F.is;
      rooms = record { entries = F.entries; is_list = F.is_list; lent = lent_less need (tables_of F.tree) tables F.enough L; slots = F.slots };
      short = F.short;
    }

-- 14, or the work room cleared
module _ (cipher : Cipher) (text list out work : List ℕ) where
  pub short_room : length work < 65536 → outcome_of (Err (placeless refusal.Work)) out work ≡ prepare_of cipher text list out work
  unfolding prepare_of in_room outcome_of number_of number_by fault_number table count_of place_of outcome answer.refusal
  short_room h = sym (pick_true _ _ _ (lt-ltb (length work) 65536 h))

  pub whole_room : (x : Outcome) → 65536 ≤ length work → x ≡ outcome (deliver (answer_of (prepared_of cipher text list)) out) (prepare.place_of (prepared_of cipher text list)) (zeroed 65536 work)
      → x ≡ prepare_of cipher text list out work
  unfolding prepare_of in_room cleared
  whole_room x h e = e ∙ sym (pick_false _ _ _ (le-ltb (length work) 65536 h))

pub serves_none : (t : Tables) → Serves 0 t
serves_none t = record { sealing = λ g. absurd (omega arith); opening = λ g. absurd (omega arith); forward = λ g. absurd (omega arith); backward = λ g. absurd (omega arith) }

pub serves_sealing : (t : Tables) → t.seal.now ≡ seal_table → Serves 1 t
serves_sealing t e = record { sealing = λ g. e; opening = λ g. absurd (omega arith); forward = λ g. absurd (omega arith); backward = λ g. absurd (omega arith) }

pub serves_all : (n : ℕ) (t : Tables) → t.seal.now ≡ seal_table → t.unseal.now ≡ open_table → t.forward.now ≡ substitutions → t.backward.now ≡ unsubstitutions → Serves n t
serves_all n t a b c d = record { sealing = λ g. a; opening = λ g. b; forward = λ g. c; backward = λ g. d }

-- a room of the same length
pub ready_longer : (records list : List ℕ) (tables : Tables) (room room' : ℕ) → Ready records list tables room → room ≤ room' → Ready records list tables room'
ready_longer records list tables room room' R h =
    record { tree = R.tree; used = R.used; is = R.is; rooms = rooms_longer (tables_of R.tree) list tables room room' h R.rooms; short = R.short }

-- whatever the work left in the room's first bytes
pub cleared_after : (P : Prepared) (r : Result ℕ Fault) (out out' part work w : List ℕ) (room : ℕ) → Gives P r out out' → w ≡ zeroed room (part ++ drop room work) → length part ≡ room
    → outcome_of r out' w ≡ outcome (deliver (answer_of P) out) (prepare.place_of P) (zeroed room work)
unfolding Gives
cleared_after P r out out' part work w room g e l =
    g w ∙ ap (outcome (deliver (answer_of P) out) (prepare.place_of P)) (e ∙ zeroed_same room (part ++ drop room work) work (drop_at part (drop room work) room l))
