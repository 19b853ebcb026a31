-- The walk that tells a good list: what holds before each record.
use mathlib.Core.Path.{◌≡◌, refl, ap, sym, ◌∙◌}
use mathlib.Core.Bool.{Bool, true, false}
use mathlib.Core.List.{List, [], ◌∷◌}
use Prim.Native.Nat.{ℕ, zero, suc, ◌+◌, ◌-◌, ◌<◌, ◌≤◌}
use native.Mathlib.Omega.{arith}
use lib.Dec.{eqb}
use lib.ListN.{length, get_or, set, drop, replicate, length-drop, length-set}
use lib.Seq.{drop-drop, get_or-set_same, get_or-set_other}
use borrow.Author.Tests.{eq-eqb, ne_eqb, eqb-true, eqb-false, le-leb, lt-leb}
use Rattle.common.specs.Choice.{pick}
use Rattle.common.specs.Answer.{Value}
use Rattle.common.proofs.Choices.{false_true, true_false, pick_true, pick_false, bool_cases}
use Rattle.records.specs.Record.{Front, front_of}
use Rattle.records.specs.Record.Front.{front, cut}
use Rattle.lists.specs.Entries.{Entry, entry, Listed, among, with_first, then_entry, walk, list_of}
use Rattle.lists.specs.Entries.Listed.{listed, bad_list}
use Rattle.heads.proofs.Heads.{Stands}
use Rattle.listing.specs.Walk.{taken_in, is_good, slot_of}
use Rattle.listing.proofs.Slots.{slot_taken, slot_none, slot_own}
use Rattle.listing.proofs.Entries.{Holds, Cuts}

-- `met` are the kinds before the place, at most `left` records are to come
pub record Before (run : Bool) (s : List ℕ) (seen : List Bool) (at : ℕ) : Type 0 where
  pub met : List ℕ
  pub left : ℕ
  pub enough : length s ≤ at + left
  pub sized : length seen ≡ 16
  pub marks : (k : ℕ) → taken_in run k ≡ true → get_or seen (slot_of run k) false ≡ among met k
  pub same : is_good (list_of (taken_in run) s) ≡ is_good (walk (taken_in run) left met (drop at s))

none_marked : (n i : ℕ) → get_or (replicate n false) i false ≡ false
none_marked zero i = refl
none_marked (suc n) zero = refl
none_marked (suc n) (suc i) = none_marked n i

pub walking_starts : (run : Bool) (s : List ℕ) → Before run s (replicate 16 false) 0
unfolding list_of among
walking_starts run s =
    record { met = []; left = length s; enough = omega arith; sized = refl; marks = λ k e. none_marked 16 (slot_of run k); same = refl }

with_good : (e : _) (l : Listed) → is_good (with_first e l) ≡ is_good l
unfolding with_first is_good
with_good e (listed es) = refl
with_good e bad_list = refl

pub found_list : (l : Listed) → is_good l ≡ true → (es : List Entry) × (l ≡ listed es)
unfolding is_good
found_list (listed es) e = (es, refl)
found_list bad_list e = absurd (false_true e)

pub found_bad : (l : Listed) → is_good l ≡ false → l ≡ bad_list
unfolding is_good
found_bad (listed es) e = absurd (true_false e)
found_bad bad_list e = refl

-- one step of the walk over the bytes
module _ (taken : ℕ → Bool) (n : ℕ) (met r : List ℕ) where
  empty_good : length r ≡ 0 → is_good (walk taken n met r) ≡ true
  unfolding walk is_good
  empty_good e = by_count n
    where
      by_count : (n : ℕ) → is_good (walk taken n met r) ≡ true
      by_count zero = ap is_good (pick_true _ _ _ (eq-eqb _ _ e))
      by_count (suc n) = ap is_good (pick_true _ _ _ (eq-eqb _ _ e))

  abbrev next : ℕ → Value → Listed
  next k v = with_first (entry k v) (walk taken n (k ∷ met) (drop (4 + length v) r))

  walk_some : (m : Front) → front_of r ≡ m → (length r ≡ 0 → ⊥) → walk taken (suc n) met r ≡ then_entry taken met m next
  unfolding walk
  walk_some m e h = pick_false _ _ _ (ne_eqb _ _ h) ∙ ap (λ m. then_entry taken met m next) e

  cut_bad : front_of r ≡ cut → (length r ≡ 0 → ⊥) → is_good (walk taken (suc n) met r) ≡ false
  unfolding then_entry is_good
  cut_bad e h = ap is_good (walk_some cut e h)

  module _ (k : ℕ) (v : Value) (e : front_of r ≡ front k v) (h : length r ≡ 0 → ⊥) where
    other_bad : taken k ≡ false → is_good (walk taken (suc n) met r) ≡ false
    unfolding then_entry is_good
    other_bad a = ap is_good (walk_some (front k v) e h ∙ pick_false _ _ _ a)

    twice_bad : taken k ≡ true → among met k ≡ true → is_good (walk taken (suc n) met r) ≡ false
    unfolding then_entry is_good
    twice_bad a b = ap is_good (walk_some (front k v) e h ∙ pick_true _ _ _ a ∙ pick_true _ _ _ b)

    long_bad : taken k ≡ true → among met k ≡ false → 1024 < length v → is_good (walk taken (suc n) met r) ≡ false
    unfolding then_entry is_good
    long_bad a b c = ap is_good (walk_some (front k v) e h ∙ pick_true _ _ _ a ∙ pick_false _ _ _ b ∙ pick_false _ _ _ (lt-leb _ _ c))

    fits_good : taken k ≡ true → among met k ≡ false → length v ≤ 1024 → is_good (walk taken (suc n) met r) ≡ is_good (walk taken n (k ∷ met) (drop (4 + length v) r))
    unfolding then_entry
    fits_good a b c = ap is_good (walk_some (front k v) e h ∙ pick_true _ _ _ a ∙ pick_false _ _ _ b ∙ pick_true _ _ _ (le-leb _ _ c)) ∙ with_good (entry k v) _

module _ (run : Bool) (s : List ℕ) (seen : List Bool) (at : ℕ) (W : Before run s seen at) where
  -- the list's end
  pub good_end : length s ≤ at → true ≡ is_good (list_of (taken_in run) s)
  good_end h = sym (W.same ∙ empty_good (taken_in run) W.left W.met (drop at s) (length-drop at s ∙ omega arith))

  -- records are left
  more : at < length s → W.left ≡ suc (W.left - 1)
  more h = omega (arith, W.enough)

  same_more : at < length s → is_good (list_of (taken_in run) s) ≡ is_good (walk (taken_in run) (suc (W.left - 1)) W.met (drop at s))
  same_more h = W.same ∙ ap (λ n. is_good (walk (taken_in run) n W.met (drop at s))) (more h)

  some_left : at < length s → length (drop at s) ≡ 0 → ⊥
  some_left h e = let d = length-drop at s in omega arith

  -- no whole record
  pub good_cut : Cuts s at → false ≡ is_good (list_of (taken_in run) s)
  good_cut C = sym (same_more C.inside ∙ cut_bad (taken_in run) (W.left - 1) W.met (drop at s) C.none (some_left C.inside))

  module _ (k start n : ℕ) (H : Holds s at k start n) where
    abbrev S : Stands s at k n
    S = H.stands

    inside : at < length s
    inside = omega (arith, S.room)

    -- a kind that is not taken
    pub good_other : 16 ≤ slot_of run k → false ≡ is_good (list_of (taken_in run) s)
    good_other h =
        sym (same_more inside ∙ other_bad (taken_in run) (W.left - 1) W.met (drop at s) k S.held S.is (some_left inside) (slot_none run k h))

    module _ (i : ℕ) (ei : i ≡ slot_of run k) (low : i < 16) where
      taken : taken_in run k ≡ true
      taken = slot_taken run k (omega arith)

      seen_met : get_or seen i false ≡ among W.met k
      seen_met = ap (λ j. get_or seen j false) ei ∙ W.marks k (taken)

      -- a kind met before
      pub good_twice : get_or seen i false ≡ true → false ≡ is_good (list_of (taken_in run) s)
      good_twice e =
          sym (same_more inside ∙ twice_bad (taken_in run) (W.left - 1) W.met (drop at s) k S.held S.is (some_left inside) (taken) (sym (seen_met) ∙ e))

      fresh : get_or seen i false ≡ false → among W.met k ≡ false
      fresh e = sym (seen_met) ∙ e

      -- a value over 1,024 bytes
      pub good_long : get_or seen i false ≡ false → 1024 < n → false ≡ is_good (list_of (taken_in run) s)
      good_long e l =
          sym (same_more inside ∙ long_bad (taken_in run) (W.left - 1) W.met (drop at s) k S.held S.is (some_left inside) (taken) (fresh e) (omega (arith, S.size)))

      marks_more : (j : ℕ) → taken_in run j ≡ true → get_or (set seen i true) (slot_of run j) false ≡ among (k ∷ W.met) j
      unfolding among
      marks_more j t =
          bool_cases (λ b. get_or (set seen i true) (slot_of run j) false ≡ pick b true (among W.met j)) (eqb k j) (λ e. same_slot (eqb-true k j e)) (λ e. other_slot (eqb-false k j e))
        where
          same_slot : k ≡ j → get_or (set seen i true) (slot_of run j) false ≡ pick (eqb k j) true (among W.met j)
          same_slot q =
              ap (λ m. get_or (set seen i true) m false) (sym (ei ∙ ap (slot_of run) q)) ∙ get_or-set_same seen i true false (omega (arith, W.sized)) ∙ sym (pick_true _ _ _ (eq-eqb k j q))

          other_slot : (k ≡ j → ⊥) → get_or (set seen i true) (slot_of run j) false ≡ pick (eqb k j) true (among W.met j)
          other_slot q =
              get_or-set_other seen i (slot_of run j) true false (λ e. q (slot_own run k j (taken) t (sym ei ∙ sym e))) ∙ W.marks j t ∙ sym (pick_false _ _ _ (ne_eqb k j q))

      -- the walk goes on after the record
      pub good_step : get_or seen i false ≡ false → n ≤ 1024 → Before run s (set seen i true) (start + n)
      good_step e l =
          let to : at + (4 + length S.held) ≡ start + n = omega (arith, S.size, H.begins) in
          record {
            met = k ∷ W.met;
            left = W.left - 1;
            enough = omega (arith, W.enough, H.begins, inside);
            sized = length-set seen i true ∙ W.sized;
            marks = marks_more;
            same =
                same_more inside
                ∙ fits_good (taken_in run) (W.left - 1) W.met (drop at s) k S.held S.is (some_left inside) (taken) (fresh e) (omega (arith, S.size))
                ∙ ap (λ r. is_good (walk (taken_in run) (W.left - 1) (k ∷ W.met) r)) (drop-drop (4 + length S.held) at s ∙ ap (λ m. drop m s) to);
          }

-- the place after a record is still in the list
pub goes_on : (s : List ℕ) (at k start n : ℕ) → Holds s at k start n → (at < start + n) × (start + n ≤ length s)
goes_on s at k start n H = (omega (arith, H.begins), omega (arith, H.begins, H.stands.room))
