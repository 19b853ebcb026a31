-- The whole text, and that its answer is the only one.
use mathlib.Core.List.{List, ◌++◌}
use mathlib.Core.Path.{◌≡◌, refl, ap, sym, ◌∙◌}
use Prim.Native.Nat.{ℕ, ◌+◌, ◌≤◌, ◌<◌}
use native.Mathlib.Nat.{zero-add}
use native.Mathlib.Omega.{arith}
use lib.ListN.{length, drop, replicate}
use borrow.Author.Tests.{le-leb, lt-leb}
use Rattle.common.specs.Choice.{pick}
use Rattle.tree.specs.Tree.{Tree}
use Rattle.tree.specs.Reading as tree
use Rattle.tree.specs.Reading.Read.{got, wrong}
use Rattle.records.specs.Encode.{encode}
use Rattle.texts.specs.Reading.{expr_at, end_at, read_text}
use Rattle.texts.specs.Reading.Part.{bad}
use Rattle.std.specs.Prelude.{Result, Ok, Err}
use Rattle.answers.specs.declared.Fault.{Fault}
use Rattle.answers.specs.Told.{fault_number}
use Rattle.answers.proofs.Cases.{one_refusal}
use Rattle.text_reader.specs.Reader.Parsed.{Fine, No}
use Rattle.record_out.specs.Put.{put}
use Rattle.text_reader.specs.Reader.{Parsed, parsed, parsed_of, cleared, out_of, Holds, Whole, Answers}
use Rattle.text_reader.proofs.Steps.{Got}

same_number : (f g : Fault) → fault_number f ≡ fault_number g → f.place ≡ g.place → f ≡ g
unfolding fault_number
same_number f g e h = ap (λ r. record { refusal = r; place = f.place }) (one_refusal f.refusal g.refusal e) ∙ ap (λ p. record { refusal = g.refusal; place = p }) h

-- what is told leaves no choice of the answer
pub same_parsed : (r q : Result ℕ Fault) → parsed r ≡ parsed q → r ≡ q
same_parsed (Ok n) (Ok m) e = let h : n ≡ m = cc in ap Ok h
same_parsed (Ok n) (Err g) e = cc
same_parsed (Err f) (Ok m) e = cc
same_parsed (Err f) (Err g) e = let k : fault_number f ≡ fault_number g = cc in let h : f.place ≡ g.place = cc in ap Err (same_number f g k h)

-- two results that meet the contract are equal
pub unique : (i : tree.Read) (r q : Result ℕ Fault) (before a b : List ℕ) → Answers i (parsed r) before a → Answers i (parsed q) before b → (r ≡ q) × (a ≡ b)
unique i r q before a b x y = (same_parsed r q (x.says ∙ sym y.says), x.wrote ∙ sym y.wrote)

whole_wrong : (i : tree.Read) (k w : ℕ) (b a : List ℕ) → i ≡ wrong k w → Whole i (No k w) b a
unfolding parsed_of Holds
whole_wrong i k w b a e = rw e (record { says = refl; holds = tt })

module _ (s : List ℕ) (b a : List ℕ) where
  pub whole_bad : (k w : ℕ) → expr_at 16 s 0 0 ≡ bad k w → Whole (read_text s) (No k w) b a
  unfolding read_text end_at
  whole_bad k w e = whole_wrong (read_text s) k w b a (ap (end_at s) e)

  -- after the root only the end
  pub whole_more : (q m e : ℕ) → Got encode 0 (expr_at 16 s 0 0) q m e b a → q < length s → Whole (read_text s) (No 20 q) b a
  unfolding read_text end_at pick
  whole_more q m e G h = whole_wrong (read_text s) 20 q b a (ap (end_at s) G.is ∙ rw (lt-leb (length s) q h))

  fine : (i : tree.Read) (t : Tree) (e : ℕ) → i ≡ got t → e ≡ 0 + length (encode t) → a ≡ put b 0 (encode t) → Whole i (Fine e) b a
  unfolding parsed_of Holds out_of put
  fine i t e ei ee ea =
      rw ei
      (record { says = ap Fine (ee ∙ zero-add (length (encode t))); holds = ea ∙ ap (λ (n : ℕ). encode t ++ drop n b) (zero-add (length (encode t))) })

  pub whole_fine : (q m e : ℕ) → Got encode 0 (expr_at 16 s 0 0) q m e b a → length s ≤ q → Whole (read_text s) (Fine e) b a
  unfolding read_text end_at pick
  whole_fine q m e G h = fine (read_text s) G.tree e (ap (end_at s) G.is ∙ rw (le-leb (length s) q h)) G.end G.wrote

pub fine_no : {n k w : ℕ} → Fine n ≡ No k w → ⊥
fine_no e = let z : ◌≡◌ {A = ℕ} 0 1 = cc in omega arith

-- the buffer of a text that was read, and of one that was refused
pub answers_fine : (i : tree.Read) (r : Parsed) (n : ℕ) (b a : List ℕ) → Whole i r b a → r ≡ Fine n → Answers i (Fine n) b a
unfolding parsed_of Holds
answers_fine (got t) r n b a h e = record { says = sym e ∙ h.says; wrote = h.holds }
answers_fine (wrong k w) r n b a h e = absurd (fine_no (sym e ∙ h.says))

pub answers_no : (i : tree.Read) (r : Parsed) (k w : ℕ) (b a c : List ℕ) → Whole i r b a → r ≡ No k w → length a ≡ length b → c ≡ cleared a → Answers i (No k w) b c
unfolding parsed_of out_of cleared
answers_no (got t) r k w b a c h e l z = absurd (fine_no (sym h.says ∙ e))
answers_no (wrong j v) r k w b a c h e l z = record { says = sym e ∙ h.says; wrote = z ∙ ap (λ (n : ℕ). replicate n 0) l }
