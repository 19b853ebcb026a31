-- Where a value stands: the walk that finds it, and that its stretch is what the list gives.
use mathlib.Core.Path.{◌≡◌, refl, ap, sym, ◌∙◌}
use mathlib.Core.Bool.{Bool, true, false}
use mathlib.Core.List.{List}
use Rattle.std.specs.Prelude.{Option, Some, None, Ok, Err}
use Prim.Native.Nat.{ℕ, zero, suc, ◌+◌, ◌-◌, ◌≤◌}
use native.Mathlib.Omega.{arith}
use lib.Dec.{eqb}
use lib.ListN.{length, take, drop, length-drop}
use lib.Seq.{drop-drop}
use borrow.Author.Tests.{eq-eqb, ne_eqb, lt-ltb}
use Rattle.common.specs.Choice.{pick}
use Rattle.common.proofs.Choices.{pick_true, pick_false}
use Rattle.tree.specs.Bounds.{Bytes}
use Rattle.tree.specs.Names.Given.{given, nothing}
use Rattle.records.specs.Record.{front_of}
use Rattle.records.specs.Record.Front.{cut}
use Rattle.lists.specs.Entries.{list_of}
use Rattle.lists.specs.Entries.Listed.{listed}
use Rattle.lists.specs.Given.{value_of}
use Rattle.lists.specs.Seek.{if_kind, seek}
use Rattle.lists.proofs.Seek.{seek_value}
use Rattle.heads.proofs.Heads.{Stands}
use Rattle.listing.specs.Walk.{Placed, Of, End, Bad, entry_at}
use Rattle.listing.specs.Find.{At, if_entry, find_from, find_in, stretch_of}
use Rattle.listing.specs.declared.Stretch.{Stretch}
use Rattle.listing.proofs.Entries.{Holds, entry_holds, entry_cuts, entry_end}

-- what holds before each record of the search
pub record Sought (s : List ℕ) (k at : ℕ) : Type 0 where
  pub left : ℕ
  pub enough : length s ≤ at + left
  pub same : find_in s k ≡ find_from left s at k

pub sought_starts : (s : List ℕ) (k : ℕ) → Sought s k 0
unfolding find_in
sought_starts s k = record { left = length s; enough = omega arith; same = refl }

one_more : (n m : ℕ) (s : List ℕ) (at k : ℕ) (e : Placed) → n ≡ suc m → entry_at s at ≡ e → find_from n s at k ≡ if_entry k e (λ to. find_from m s to k)
unfolding find_from
one_more n m s at k e h q = ap (λ n. find_from n s at k) h ∙ ap (λ e. if_entry k e (λ to. find_from m s to k)) q

none_here : (n : ℕ) (s : List ℕ) (at k : ℕ) (e : Placed) → entry_at s at ≡ e → ((more : ℕ → Option Stretch) → if_entry k e more ≡ None) → find_from n s at k ≡ None
unfolding find_from
none_here zero s at k e q f = refl
none_here (suc n) s at k e q f = ap (λ e. if_entry k e (λ to. find_from n s to k)) q ∙ f _

module _ (s : List ℕ) (k at : ℕ) (S : Sought s k at) where
  -- the ways of `find`
  pub found_none : (e : Placed) → e ≡ entry_at s at → e ≡ End → None ≡ find_in s k
  unfolding if_entry
  found_none e q f = sym (S.same ∙ none_here S.left s at k End (sym q ∙ f) (λ more. refl))

  pub found_bad : (e : Placed) → e ≡ entry_at s at → e ≡ Bad → None ≡ find_in s k
  unfolding if_entry
  found_bad e q f = sym (S.same ∙ none_here S.left s at k Bad (sym q ∙ f) (λ more. refl))

  module _ (j start n : ℕ) (q : entry_at s at ≡ Of j start n) where
    left_some : S.left ≡ suc (S.left - 1)
    left_some = let H = entry_holds s at j start n q in omega (arith, S.enough, H.stands.room)

    pub found_here : j ≡ k → At start n ≡ find_in s k
    unfolding if_entry
    found_here e = sym (S.same ∙ one_more S.left (S.left - 1) s at k (Of j start n) left_some q ∙ pick_true _ _ _ (eq-eqb j k e))

    pub found_later : (j ≡ k → ⊥) → Sought s k (start + n)
    unfolding if_entry
    found_later e =
        let H = entry_holds s at j start n q in
        record {
          left = S.left - 1;
          enough = omega (arith, S.enough, H.begins, H.stands.room);
          same = S.same ∙ one_more S.left (S.left - 1) s at k (Of j start n) left_some q ∙ pick_false _ _ _ (ne_eqb j k e);
        }

-- the stretch that is found holds what walking the bytes finds
pick_stretch : (b : Bool) (s : List ℕ) (x y : Option Stretch) → stretch_of s (pick b x y) ≡ pick b (stretch_of s x) (stretch_of s y)
unfolding pick
pick_stretch true s x y = refl
pick_stretch false s x y = refl

nothing_left : (r : List ℕ) → length r ≡ 0 → front_of r ≡ cut
unfolding front_of
nothing_left r e = pick_true _ _ _ (lt-ltb (length r) 4 (omega arith))

module _ (m : ℕ) (s : List ℕ) (at k : ℕ) (ih : (to : ℕ) → stretch_of s (find_from m s to k) ≡ seek m (drop to s) k) where
  cut_step : front_of (drop at s) ≡ cut → nothing ≡ seek (suc m) (drop at s) k
  unfolding seek if_kind
  cut_step e = sym (ap (λ f. if_kind k f (λ v. seek m (drop (4 + length v) (drop at s)) k)) e)

  record_step : (j start n : ℕ) → Holds s at j start n → stretch_of s (pick (eqb j k) (At start n) (find_from m s (start + n) k)) ≡ seek (suc m) (drop at s) k
  unfolding seek if_kind stretch_of
  record_step j start n H =
      let S : Stands s at j n = H.stands in
      let to : at + (4 + length S.held) ≡ start + n = omega (arith, S.size, H.begins) in
      let v : take n (drop start s) ≡ S.held = ap (λ i. take n (drop i s)) H.begins ∙ sym S.stretch in
      pick_stretch (eqb j k) s (At start n) (find_from m s (start + n) k)
      ∙ ap (λ w. pick (eqb j k) (given w) (stretch_of s (find_from m s (start + n) k))) v
      ∙ ap (pick (eqb j k) (given S.held)) (ih (start + n) ∙ sym (ap (λ r. seek m r k) (drop-drop (4 + length S.held) at s ∙ ap (λ i. drop i s) to)))
      ∙ sym (ap (λ f. if_kind k f (λ v. seek m (drop (4 + length v) (drop at s)) k)) S.is)

  entry_step : (e : Placed) → entry_at s at ≡ e → stretch_of s (if_entry k e (λ to. find_from m s to k)) ≡ seek (suc m) (drop at s) k
  unfolding if_entry stretch_of
  entry_step (Ok (Some e)) q = record_step e.kind e.start e.length (entry_holds s at e.kind e.start e.length q)
  entry_step (Ok None) q = let d = length-drop at s in let l = entry_end s at q in cut_step (nothing_left (drop at s) (omega arith))
  entry_step (Err c) q = cut_step (entry_cuts s at q).none

pub found_sought : (n : ℕ) (s : List ℕ) (at k : ℕ) → stretch_of s (find_from n s at k) ≡ seek n (drop at s) k
unfolding find_from seek stretch_of
found_sought zero s at k = refl
found_sought (suc n) s at k = entry_step n s at k (λ to. found_sought n s to k) (entry_at s at) refl

-- in a good list, the stretch that is found holds what the list gives
pub found_value : (taken : ℕ → Bool) (s : List ℕ) (es : List _) → Bytes s → list_of taken s ≡ listed es → (k : ℕ) → stretch_of s (find_in s k) ≡ value_of es k
unfolding find_in
found_value taken s es hs e k = found_sought (length s) s 0 k ∙ seek_value taken s es hs e (length s) k (omega arith)

-- a stretch that is found lies in the list
unfoldable pub Inside : List ℕ → Option Stretch → Type 0
Inside s (Some at) = at.start + at.length ≤ length s
Inside s None = Unit {0}

inside-either : (b : Bool) (s : List ℕ) (x y : Option Stretch) → Inside s x → Inside s y → Inside s (pick b x y)
unfolding pick
inside-either true s x y f g = f
inside-either false s x y f g = g

inside-record : (s : List ℕ) (at j start n : ℕ) → Holds s at j start n → Inside s (At start n)
unfolding Inside
inside-record s at j start n H = omega (arith, H.begins, H.stands.room)

inside-step : (s : List ℕ) (at k : ℕ) (more : ℕ → Option Stretch) (e : Placed) → entry_at s at ≡ e → ((to : ℕ) → Inside s (more to)) → Inside s (if_entry k e more)
unfolding if_entry Inside
inside-step s at k more (Ok (Some e)) q ih = inside-either (eqb e.kind k) s _ _ (inside-record s at e.kind e.start e.length (entry_holds s at e.kind e.start e.length q)) (ih (e.start + e.length))
inside-step s at k more (Ok None) q ih = tt
inside-step s at k more (Err c) q ih = tt

pub found_inside : (n : ℕ) (s : List ℕ) (at k : ℕ) → Inside s (find_from n s at k)
unfolding find_from Inside
found_inside zero s at k = tt
found_inside (suc n) s at k = inside-step s at k (λ to. find_from n s to k) (entry_at s at) refl (λ to. found_inside n s to k)
