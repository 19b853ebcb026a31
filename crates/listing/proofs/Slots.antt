-- Each kind that may stand in a list has a place of its own below 16.
use mathlib.Core.Path.{◌≡◌, refl, ap, sym, ◌∙◌}
use mathlib.Core.Bool.{Bool, true, false}
use Prim.Native.Nat.{ℕ, ◌+◌, ◌-◌, ◌<◌, ◌≤◌}
use native.Mathlib.Omega.{arith}
use Rattle.std.specs.Prelude.{Option, Some, None}
use lib.Dec.{leb, ltb}
use borrow.Author.Tests.{leb-true, le-leb, lt-leb, lt-ltb, le-ltb, ltb-true, ltb-false}
use Rattle.common.specs.Choice.{pick}
use Rattle.common.proofs.Choices.{pick_true, pick_false, false_true, true_false, pick_both, bool_cases}
use Rattle.lists.specs.Entries.{between, preparing, running, bound_list, row_list, run_list}
use Rattle.listing.specs.Walk.{taken_in, slot_of, some_low}

pub in_between : (lo hi k : ℕ) → between lo hi k ≡ true → (lo ≤ k) × (k ≤ hi)
unfolding between
in_between lo hi k e =
    let (a, b) = pick_both (leb lo k) (leb k hi) e in
    (leb-true lo k a, leb-true k hi b)

between_in : (lo hi k : ℕ) → lo ≤ k → k ≤ hi → between lo hi k ≡ true
unfolding between
between_in lo hi k g h = pick_true _ _ _ (le-leb lo k g) ∙ le-leb k hi h

between_out : (lo hi k : ℕ) → (lo ≤ k → hi < k) → between lo hi k ≡ false
unfolding between
between_out lo hi k f = bool_cases (λ b. pick b (leb k hi) false ≡ false) (leb lo k) (λ e. pick_true _ _ _ e ∙ lt-leb k hi (f (leb-true lo k e))) (λ e. pick_false _ _ _ e)

-- the kind that has a place
unfoldable kind_at : Bool → ℕ → ℕ
kind_at true i = pick (leb i 7) (row_list + i) (run_list + (i - 8))
kind_at false i = bound_list + i

-- of a kind that is taken, its place is below 16 and gives it back; another has none
record Placed (run : Bool) (k : ℕ) (taken : Bool) (i : ℕ) : Type 0 where
  low : taken ≡ true → i < 16
  back : taken ≡ true → kind_at run i ≡ k
  none : taken ≡ false → i ≡ 16

run_placed : (b c : Bool) (k : ℕ) → between row_list (row_list + 7) k ≡ b → between run_list (run_list + 3) k ≡ c
    → Placed true k (pick b true c) (pick b (k - row_list) (pick c (k - run_list + 8) 16))
unfolding pick kind_at
run_placed true c k e f =
    let (a, b) = in_between row_list (row_list + 7) k e in
    record { low = λ q. omega arith; back = λ q. pick_true (leb (k - row_list) 7) (row_list + (k - row_list)) (run_list + (k - row_list - 8)) (le-leb (k - row_list) 7 (omega arith)) ∙ omega arith; none = λ q. absurd (true_false q) }
run_placed false true k e f =
    let (a, b) = in_between run_list (run_list + 3) k f in
    record { low = λ q. omega arith; back = λ q. pick_false (leb (k - run_list + 8) 7) (row_list + (k - run_list + 8)) (run_list + (k - run_list + 8 - 8)) (lt-leb (k - run_list + 8) 7 (omega arith)) ∙ omega arith; none = λ q. absurd (true_false q) }
run_placed false false k e f = record { low = λ q. absurd (false_true q); back = λ q. absurd (false_true q); none = λ q. refl }

bound_placed : (b : Bool) (k : ℕ) → between bound_list (bound_list + 3) k ≡ b → Placed false k b (pick b (k - bound_list) 16)
unfolding pick kind_at
bound_placed true k e =
    let (a, b) = in_between bound_list (bound_list + 3) k e in
    record { low = λ q. omega arith; back = λ q. omega arith; none = λ q. absurd (true_false q) }
bound_placed false k e = record { low = λ q. absurd (false_true q); back = λ q. absurd (false_true q); none = λ q. refl }

placed : (run : Bool) (k : ℕ) → Placed run k (taken_in run k) (slot_of run k)
unfolding taken_in slot_of running preparing
placed true k = run_placed (between row_list (row_list + 7) k) (between run_list (run_list + 3) k) k refl refl
placed false k = bound_placed (between bound_list (bound_list + 3) k) k refl

pub slot_taken : (run : Bool) (k : ℕ) → slot_of run k < 16 → taken_in run k ≡ true
slot_taken run k h = bool_cases (λ b. b ≡ true) (taken_in run k) (λ e. e) (λ e. let n = (placed run k).none e in absurd (omega arith))

pub slot_none : (run : Bool) (k : ℕ) → 16 ≤ slot_of run k → taken_in run k ≡ false
slot_none run k h = bool_cases (λ b. b ≡ false) (taken_in run k) (λ e. let n = (placed run k).low e in absurd (omega arith)) (λ e. e)

pub slot_low : (run : Bool) (k : ℕ) → taken_in run k ≡ true → slot_of run k < 16
slot_low run k e = (placed run k).low e

pub slot_own : (run : Bool) (j k : ℕ) → taken_in run j ≡ true → taken_in run k ≡ true → slot_of run j ≡ slot_of run k → j ≡ k
slot_own run j k a b e = sym ((placed run j).back a) ∙ ap (kind_at run) e ∙ (placed run k).back b

-- a place below 16, and none
some_place : (i j : ℕ) → i < 16 → i ≡ j → Some i ≡ some_low j
unfolding some_low
some_place i j h e = sym (pick_true _ _ _ (lt-ltb i 16 h)) ∙ ap some_low e

no_place : (j : ℕ) → 16 ≡ j → None ≡ some_low j
unfolding some_low
no_place j e = sym (pick_false _ _ _ (le-ltb 16 16 (omega arith))) ∙ ap some_low e

pub low_some : (j i : ℕ) → some_low j ≡ Some i → (i ≡ j) × (i < 16)
unfolding some_low
low_some j i = bool_cases (λ b. pick b (Some j) None ≡ Some i → (i ≡ j) × (i < 16)) (ltb j 16) (λ e f. let l = ltb-true j 16 e in let q : j ≡ i = some_is j i (sym (pick_true _ _ _ e) ∙ f) in (sym q, omega arith)) (λ e f. absurd (none_is i (sym (pick_false _ _ _ e) ∙ f)))
  where
    some_is : (j i : ℕ) → Some j ≡ Some i → j ≡ i
    some_is j i e = cc

    none_is : (i : ℕ) → None ≡ Some i → ⊥
    none_is i e = cc

pub low_none : (j : ℕ) → some_low j ≡ None → 16 ≤ j
unfolding some_low
low_none j = bool_cases (λ b. pick b (Some j) None ≡ None → 16 ≤ j) (ltb j 16) (λ e f. absurd (some_is j (sym (pick_true _ _ _ e) ∙ f))) (λ e f. ltb-false j 16 e)
  where
    some_is : (j : ℕ) → Some j ≡ None → ⊥
    some_is j e = cc

-- the ways of `slot`
module _ (run : Bool) (k : ℕ) where
  by_run : (b : Bool) (o : Option ℕ) → run ≡ b → o ≡ some_low (slot_of b k) → some_low (slot_of run k) ≡ o
  by_run b o e h = sym (h ∙ ap (λ r. some_low (slot_of r k)) (sym e))

  pub of_row_lem : run ≡ true → 0x0300 ≤ k → k ≤ 0x0307 → some_low (slot_of run k) ≡ Some (k - 0x0300)
  unfolding slot_of
  of_row_lem e g h = by_run true _ e (some_place _ _ (omega arith) (sym (pick_true _ _ _ (between_in row_list _ k g h))))

  pub of_run : run ≡ true → 0x0400 ≤ k → k ≤ 0x0403 → some_low (slot_of run k) ≡ Some (k - 0x0400 + 8)
  unfolding slot_of
  of_run e g h = by_run true _ e (some_place _ _ (omega arith) (sym (pick_false _ _ _ (between_out row_list _ k (λ l. omega arith)) ∙ pick_true _ _ _ (between_in run_list _ k g h))))

  of_neither : run ≡ true → (0x0300 ≤ k → 0x0307 < k) → (0x0400 ≤ k → 0x0403 < k) → some_low (slot_of run k) ≡ None
  unfolding slot_of
  of_neither e f g = by_run true _ e (no_place _ (sym (pick_false _ _ _ (between_out row_list _ k f) ∙ pick_false _ _ _ (between_out run_list _ k g))))

  pub of_bound : run ≡ false → 0x0200 ≤ k → k ≤ 0x0203 → some_low (slot_of run k) ≡ Some (k - 0x0200)
  unfolding slot_of
  of_bound e g h = by_run false _ e (some_place _ _ (omega arith) (sym (pick_true _ _ _ (between_in bound_list _ k g h))))

  of_none : run ≡ false → (0x0200 ≤ k → 0x0203 < k) → some_low (slot_of run k) ≡ None
  unfolding slot_of
  of_none e f = by_run false _ e (no_place _ (sym (pick_false _ _ _ (between_out bound_list _ k f))))

-- no place, gap by gap
pub below_rows : (run : Bool) (k : ℕ) → run ≡ true → k < 0x0300 → some_low (slot_of run k) ≡ None
below_rows run k e h = of_neither run k e (λ l. omega arith) (λ l. omega arith)

pub below_runs : (run : Bool) (k : ℕ) → run ≡ true → 0x0307 < k → k < 0x0400 → some_low (slot_of run k) ≡ None
below_runs run k e g h = of_neither run k e (λ l. g) (λ l. omega arith)

pub above_runs : (run : Bool) (k : ℕ) → run ≡ true → 0x0403 < k → some_low (slot_of run k) ≡ None
above_runs run k e h = of_neither run k e (λ l. omega arith) (λ l. h)

pub below_bounds : (run : Bool) (k : ℕ) → run ≡ false → k < 0x0200 → some_low (slot_of run k) ≡ None
below_bounds run k e h = of_none run k e (λ l. omega arith)

pub above_bounds : (run : Bool) (k : ℕ) → run ≡ false → 0x0203 < k → some_low (slot_of run k) ≡ None
above_bounds run k e h = of_none run k e (λ l. h)

pub ruleset slots = (of_row_lem, of_run, of_bound, below_rows, below_runs, above_runs, below_bounds, above_bounds)
