-- What an entry at a place says of the list.
use mathlib.Core.Path.{◌≡◌, refl, ap, sym, ◌∙◌}
use mathlib.Core.Bool.{Bool, true, false}
use mathlib.Core.List.{List}
use Rattle.std.specs.Prelude.{Option, Some, None, Ok, Err}
use Rattle.std.specs.Result.{result_ok}
use Prim.Native.Nat.{ℕ, ◌+◌, ◌<◌, ◌≤◌}
use lib.Dec.{leb}
use lib.ListN.{length, drop}
use borrow.Author.Tests.{le-leb, lt-leb, leb-true, leb-false}
use Rattle.common.specs.Choice.{pick}
use Rattle.common.proofs.Choices.{pick_true, pick_false}
use Rattle.records.specs.Record.{front_of}
use Rattle.records.specs.Record.Front.{cut}
use Rattle.heads.specs.declared.Head.{Head}
use Rattle.heads.specs.Head.{head_at}
use Rattle.heads.proofs.Heads.{headed_as, Stands, head_stands, head_none}
use Rattle.listing.specs.Walk.{Placed, Of, End, Bad, entry_of, entry_at}
use Rattle.listing.specs.declared.Entry.{Entry}

-- the three ways of `entry_at`
pub at_end : (s : List ℕ) (at : ℕ) → length s ≤ at → End ≡ entry_at s at
unfolding entry_at
at_end s at h = sym (pick_true _ _ _ (le-leb _ _ h))

pub at_record : (s : List ℕ) (at : ℕ) (g : Head) (h : Option Head) → at < length s → h ≡ head_at s at → h ≡ Some g → Of g.kind (at + 4) g.length ≡ entry_at s at
unfolding entry_at entry_of
at_record s at g h l e f = sym (pick_false _ _ _ (lt-leb _ _ l) ∙ ap (entry_of at) (sym e ∙ f))

pub at_cut : (s : List ℕ) (at : ℕ) (h : Option Head) → at < length s → h ≡ head_at s at → h ≡ None → Bad ≡ entry_at s at
unfolding entry_at entry_of
at_cut s at h l e f = sym (pick_false _ _ _ (lt-leb _ _ l) ∙ ap (entry_of at) (sym e ∙ f))

-- an answer by what `ok` makes of it
pub ok_some : (r : Placed) (o : Option (Option Entry)) (f : Option Entry) → o ≡ result_ok r → o ≡ Some f → r ≡ Ok f
ok_some (Ok g) o f e h = cc
ok_some (Err c) o f e h = cc

pub ok_none : (r : Placed) (o : Option (Option Entry)) → o ≡ result_ok r → o ≡ None → r ≡ Bad
ok_none (Ok g) o e h = cc
ok_none (Err c) o e h = refl

of_entry : {a b : Entry} → ◌≡◌ {A = Placed} (Ok (Some a)) (Ok (Some b)) → a ≡ b
of_entry e = cc

same_entry : (k i n j l m : ℕ) → Of k i n ≡ Of j l m → (k ≡ j) × (i ≡ l) × (n ≡ m)
same_entry k i n j l m e = let q = of_entry e in (ap (λ (x : Entry). x.kind) q, ap (λ (x : Entry). x.start) q, ap (λ (x : Entry). x.length) q)

-- a record that an entry tells of
pub record Holds (s : List ℕ) (at k start n : ℕ) : Type 0 where
  pub stands : Stands s at k n
  pub begins : start ≡ at + 4

head_entry : (s : List ℕ) (at k start n : ℕ) (h : Option Head) → head_at s at ≡ h → entry_of at h ≡ Of k start n → Holds s at k start n
unfolding entry_of
head_entry s at k start n (Some h) e f =
    let (ek, ei, en) = same_entry h.kind (at + 4) h.length k start n f in
    record { stands = head_stands s at k n (e ∙ headed_as h k n ek en); begins = sym ei }
head_entry s at k start n None e f = cc

by_end : (b : Bool) (s : List ℕ) (at k start n : ℕ) → pick b End (entry_of at (head_at s at)) ≡ Of k start n → Holds s at k start n
unfolding pick
by_end true s at k start n e = cc
by_end false s at k start n e = head_entry s at k start n (head_at s at) refl e

pub entry_holds : (s : List ℕ) (at k start n : ℕ) → entry_at s at ≡ Of k start n → Holds s at k start n
unfolding entry_at
entry_holds s at k start n e = by_end (leb (length s) at) s at k start n e

head_end : (at : ℕ) (h : Option Head) → entry_of at h ≡ End → ⊥
unfolding entry_of
head_end at (Some h) e = cc
head_end at None e = cc

ended : (b : Bool) (s : List ℕ) (at : ℕ) → leb (length s) at ≡ b → pick b End (entry_of at (head_at s at)) ≡ End → length s ≤ at
unfolding pick
ended true s at q e = leb-true _ _ q
ended false s at q e = absurd (head_end at (head_at s at) e)

pub entry_end : (s : List ℕ) (at : ℕ) → entry_at s at ≡ End → length s ≤ at
unfolding entry_at
entry_end s at e = ended (leb (length s) at) s at refl e

pub record Cuts (s : List ℕ) (at : ℕ) : Type 0 where
  pub inside : at < length s
  pub none : front_of (drop at s) ≡ cut

head_bad : (s : List ℕ) (at : ℕ) (h : Option Head) → head_at s at ≡ h → entry_of at h ≡ Bad → front_of (drop at s) ≡ cut
unfolding entry_of
head_bad s at (Some h) e f = cc
head_bad s at None e f = head_none s at e

cuts : (b : Bool) (s : List ℕ) (at : ℕ) → leb (length s) at ≡ b → pick b End (entry_of at (head_at s at)) ≡ Bad → Cuts s at
unfolding pick
cuts true s at q e = cc
cuts false s at q e = record { inside = leb-false (length s) at q; none = head_bad s at (head_at s at) refl e }

pub entry_cuts : (s : List ℕ) (at : ℕ) → entry_at s at ≡ Bad → Cuts s at
unfolding entry_at
entry_cuts s at e = cuts (leb (length s) at) s at refl e
