-- What an answer says of what was read, and what was read of the answer.
use mathlib.Core.List.{List, [], ◌∷◌}
use mathlib.Core.Path.{◌≡◌, refl, ap, sym, ◌∙◌, subst}
use Rattle.std.specs.Prelude.{Result, Err}
use Rattle.answers.specs.declared.Fault.{Fault}
use Rattle.answers.specs.Told.{table, fault_number}
use Rattle.tokens.specs.Tokens.{syntax_at, due_is}
use Rattle.tokens.proofs.Laws.{due_missed}
use Rattle.text_reader.specs.declared.Step.{Step}
use Prim.Native.Nat.{ℕ, ◌+◌, ◌-◌, ◌≤◌}
use native.Mathlib.Nat.{add-zero}
use native.Mathlib.Omega.{arith}
use lib.ListN.{length, length-append, get_or}
use Rattle.tree.specs.Tree.{Tree}
use Rattle.records.specs.Record.{record_of}
use Rattle.records.specs.Encode.{encode}
use Rattle.texts.specs.Reading as reading
use Rattle.texts.specs.Reading.{Part, then_part, due_at, if_due, name_at}
use Rattle.texts.specs.Reading.Part.{part, bad}
use Rattle.texts.specs.Reading.Due.{stands, missing}
use Rattle.text_reader.specs.Reader.{Told}
use Rattle.text_reader.specs.Reader.Told.{Read, NotRead as No}
use Rattle.record_out.specs.Put.{put}
use Rattle.text_reader.specs.Reader.{told, encodes, in_records, leaf_at, step_of, Written, Reads}
use Rattle.record_out.proofs.Put.{put_after, put_none}

no_read : {k w q m e : ℕ} → No k w ≡ Read q m e → ⊥
no_read x = let z : ◌≡◌ {A = ℕ} 0 1 = cc in omega arith

-- a refusal
pub reads_bad : {A : Type 0} (f : A → List ℕ) (o : ℕ) (i : Part A) (k w : ℕ) (b a : List ℕ) → i ≡ bad k w → Reads o (in_records f i) (No k w) b a
unfolding in_records step_of Written
reads_bad f o i k w b a e = rw e (record { says = refl; wrote = tt })

pub reads_part : {A : Type 0} (f : A → List ℕ) (o : ℕ) (i : Part A) (x : A) (q m e : ℕ) (b a : List ℕ) → i ≡ part x q m → e ≡ o + length (f x) → a ≡ put b o (f x)
    → Reads o (in_records f i) (Read q m e) b a
unfolding in_records step_of Written
reads_part f o i x q m e b a ei ee ea = rw ei (record { says = ap (λ (n : ℕ). Read q m n) ee; wrote = ea })

pub reads_as : (o : ℕ) (i j : Part (List ℕ)) (r : Told) (b a : List ℕ) → i ≡ j → Reads o j r b a → Reads o i r b a
reads_as o i j r b a e h = rw e h

-- what was read by an answer that it was
pub record Got {A : Type 0} (f : A → List ℕ) (o : ℕ) (i : Part A) (q m e : ℕ) (before after : List ℕ) : Type 0 where
  pub tree : A
  pub is : i ≡ part tree q m
  pub end : e ≡ o + length (f tree)
  pub wrote : after ≡ put before o (f tree)

pub got_of : {A : Type 0} (f : A → List ℕ) (o : ℕ) (i : Part A) (r : Told) (q m e : ℕ) (b a : List ℕ) → Reads o (in_records f i) r b a → r ≡ Read q m e → Got f o i q m e b a
unfolding in_records step_of Written
got_of f o (part x p n) r q m e b a h er =
    let s = h.says in
    let both : Read p n (o + length (f x)) ≡ Read q m e = sym s ∙ er in
    let ep : p ≡ q = cc in
    let en : n ≡ m = cc in
    let ee : e ≡ o + length (f x) = cc in
    record { tree = x; is = cc; end = ee; wrote = h.wrote }
got_of f o (bad k w) r q m e b a h er = absurd (no_read (sym h.says ∙ er))

pub bad_of : {A : Type 0} (f : A → List ℕ) (o : ℕ) (i : Part A) (r : Told) (k w : ℕ) (b a : List ℕ) → Reads o (in_records f i) r b a → r ≡ No k w → i ≡ bad k w
unfolding in_records step_of Written
bad_of f o (part x p n) r k w b a h er = absurd (no_read (sym er ∙ h.says))
bad_of f o (bad j v) r k w b a h er =
    let both : No j v ≡ No k w = sym h.says ∙ er in
    let ej : j ≡ k = cc in
    let ev : v ≡ w = cc in
    cc

-- an answer that passes a fault on
pub reads_err : {A : Type 0} (f : A → List ℕ) (o : ℕ) (i : Part A) (r : Result Step Fault) (g : Fault) (b a : List ℕ) → r ≡ Err g → i ≡ bad (fault_number g) g.place → Reads o (in_records f i) (told r) b a
reads_err f o i r g b a er ei = subst (λ r. Reads o (in_records f i) (told r) b a) (sym er) (reads_bad f o i (fault_number g) g.place b a ei)

-- a refusal told at its place
pub reads_told : (o : ℕ) (i : Part (List ℕ)) (r : Result Step Fault) (g : Fault) (b a : List ℕ) → r ≡ Err g → Reads o i (told (Err g)) b a → Reads o i (told r) b a
reads_told o i r g b a e h = subst (λ r. Reads o i (told r) b a) (sym e) h

syntax_number : (w : ℕ) → fault_number (syntax_at w) ≡ 20
unfolding fault_number table
syntax_number w = refl

pub bad_syntax : {A : Type 0} (i : Part A) (g : Fault) → g ≡ syntax_at g.place → i ≡ bad 20 g.place → i ≡ bad (fault_number g) g.place
bad_syntax i g e h = h ∙ ap (λ n. bad n g.place) (sym (ap fault_number e ∙ syntax_number g.place))

-- what `due_at` refuses
pub due_bad : {A : Type 0} (s : List ℕ) (lo hi p : ℕ) (i : Part A) (g : Fault) → due_is (due_at s lo hi p) ≡ Err g → ((w : ℕ) → due_at s lo hi p ≡ missing w → i ≡ bad 20 w) → i ≡ bad (fault_number g) g.place
due_bad s lo hi p i g e h = let (m, q) = due_missed _ g e in bad_syntax i g q (h g.place m)

-- names
module _ (k hi : ℕ) (s : List ℕ) (p n : ℕ) where
  leaf_bad : (w : ℕ) → due_at s 48 hi (p + 1) ≡ missing w → leaf_at k hi s p n ≡ bad 20 w
  unfolding leaf_at if_due
  leaf_bad w e = rw e

  pub leaf_missing : (o : ℕ) (r : Result Step Fault) (g : Fault) (b a : List ℕ) → r ≡ Err g → due_is (due_at s 48 hi (p + 1)) ≡ Err g → Reads o (leaf_at k hi s p n) (told r) b a
  unfolding step_of Written
  leaf_missing o r g b a er e =
      subst (λ r. Reads o (leaf_at k hi s p n) (told r) b a) (sym er)
      (rw (due_bad s 48 hi (p + 1) (leaf_at k hi s p n) g e leaf_bad) (record { says = refl; wrote = tt }))

  pub leaf_done : (o : ℕ) (b a : List ℕ) → due_at s 48 hi (p + 1) ≡ stands → a ≡ put b o (record_of k ((get_or s (p + 1) 0 - 48) ∷ [])) → Reads o (leaf_at k hi s p n) (Read (p + 2) (n + 1) (o + 5)) b a
  unfolding leaf_at if_due step_of Written record_of
  leaf_done o b a e w = rw e (record { says = refl; wrote = w })

  by_due : (name : ℕ → Tree) (d : reading.Due) → ((x : ℕ) → encode (name x) ≡ record_of k (x ∷ []))
      → in_records encode (if_due d (part (name (get_or s (p + 1) 0 - 48)) (p + 2) (n + 1))) ≡ if_due d (part (record_of k ((get_or s (p + 1) 0 - 48) ∷ [])) (p + 2) (n + 1))
  unfolding if_due in_records
  by_due name stands h = ap (λ (v : List ℕ). part v (p + 2) (n + 1)) (h (get_or s (p + 1) 0 - 48))
  by_due name (missing w) h = refl

  -- a name's record by its kind
  pub leaf_is : (name : ℕ → Tree) → ((x : ℕ) → encode (name x) ≡ record_of k (x ∷ [])) → in_records encode (name_at name hi s p n) ≡ leaf_at k hi s p n
  unfolding name_at leaf_at
  leaf_is name h = by_due name (due_at s 48 hi (p + 1)) h

-- one argument and those after it
pub args_join : (o e : ℕ) (x : Tree) (y : Part (List Tree)) (r : Told) (b mid a : List ℕ) → e ≡ o + length (encode x) → o + length (encode x) ≤ length b → mid ≡ put b o (encode x)
    → Reads e (in_records encodes y) r mid a → Reads o (in_records encodes (then_part y (λ l u k. part (x ∷ l) u k))) r b a
unfolding in_records step_of Written encodes then_part
args_join o e x (part l u k) r b mid a ee fits em h =
    record {
      says = h.says ∙ ap (λ (i : ℕ). Read u k i) (ap (λ (i : ℕ). i + length (encodes l)) ee ∙ sum o (length (encode x)) (length (encodes l)) (length-append (encode x) (encodes l)));
      wrote = h.wrote ∙ ap (λ (z : List ℕ). put z e (encodes l)) em ∙ put_after b o (encode x) (encodes l) e fits ee;
    }
  where
    sum : (o n m : ℕ) {t : ℕ} → t ≡ n + m → o + n + m ≡ o + t
    sum o n m h = omega arith
args_join o e x (bad k w) r b mid a ee fits em h = record { says = h.says; wrote = tt }

-- no argument left
pub args_none : (o : ℕ) (i : Part (List Tree)) (q m : ℕ) (b : List ℕ) → i ≡ part [] q m → Reads o (in_records encodes i) (Read q m o) b b
unfolding encodes
args_none o i q m b e = reads_part encodes o i [] q m o b b e (sym (add-zero o)) (put_none b o)
