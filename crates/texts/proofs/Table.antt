-- The table of calls, read both ways: by letters and by kind.
use mathlib.Core.Bool.{Bool, true, false}
use mathlib.Core.List.{List, [], ◌∷◌}
use mathlib.Core.Path.{◌≡◌, refl, sym, ap, ap₂, ◌∙◌}
use Prim.Native.Nat.{ℕ, zero, suc, ◌+◌, ◌≤◌, ◌<◌}
use native.Mathlib.Omega.{arith}
use lib.Dec.{eqb, leb, ltb}
use lib.ListN.{length}
use borrow.Author.Tests.{eqb-true, ltb-true, leb-true}
use Rattle.common.specs.Choice.{pick}
use Rattle.common.proofs.Choices.{false_true}
use Rattle.tree.specs.Calls.{Call, calls, plain, cipher}
use Rattle.tree.specs.Bounds.{of_row, arguments_in, arguments_of}
use Rattle.texts.specs.Spelling.{row_in}
use Rattle.texts.specs.Spelling.Found.{known, unknown}
use Rattle.texts.specs.Reading.{is_letter, between, same, call_in}
use Rattle.texts.proofs.Standing.{Pass, pick_both, between_is}

-- what a row's kinds are: its own, or its own and a suite 1 to 5; each is of this row and of no earlier one
unfoldable pub Kinds : Bool → Call → Type 0
Kinds false r = row_in calls r.kind ≡ known r
Kinds true r =
    (row_in calls (r.kind + 1) ≡ known r) × (row_in calls (r.kind + 2) ≡ known r) × (row_in calls (r.kind + 3) ≡ known r) × (row_in calls (r.kind + 4) ≡ known r)
    × (row_in calls (r.kind + 5) ≡ known r)

-- a row of the table: no other has its letters, which are letters, and no other has its kinds
pub record Good (r : Call) : Type 0 where
  pub named : call_in calls r.letters ≡ known r
  pub letters : Pass is_letter r.letters
  pub some : 0 < length r.letters
  pub kinds : Kinds r.suited r
  pub least : 1 ≤ r.arguments
  pub most : r.arguments ≤ 4

unfoldable pub All : (Call → Type 0) → List Call → Type 0
All P [] = Unit {0}
All P (r ∷ rs) = P r × All P rs

passes : (ℕ → Bool) → List ℕ → Bool
passes test [] = true
passes test (x ∷ w) = pick (test x) (passes test w) false

pass : (test : ℕ → Bool) (w : List ℕ) → passes test w ≡ true → Pass test w
unfolding passes Pass
pass test [] e = tt
pass test (x ∷ w) e =
    let h = pick_both (test x) (passes test w) e in
    (h.0, pass test w h.1)

good : (r : Call) → call_in calls r.letters ≡ known r → passes is_letter r.letters ≡ true → ltb 0 (length r.letters) ≡ true → Kinds r.suited r → between 1 4 r.arguments ≡ true → Good r
good r a b c d e =
    let h = between_is 1 4 r.arguments e in
    record { named = a; letters = pass is_letter r.letters b; some = ltb-true 0 (length r.letters) c; kinds = d; least = h.0; most = h.1 }

pub all_good : All Good calls
unfolding All calls plain cipher Kinds passes is_letter between pick call_in same row_in of_row
all_good = (
  good _ refl refl refl refl refl,
  (
    good _ refl refl refl refl refl,
    (
      good _ refl refl refl refl refl,
      (
        good _ refl refl refl refl refl,
        (
          good _ refl refl refl refl refl,
          (
            good _ refl refl refl (refl, refl, refl, refl, refl) refl,
            (
              good _ refl refl refl (refl, refl, refl, refl, refl) refl,
              (
                good _ refl refl refl (refl, refl, refl, refl, refl) refl,
                (
                  good _ refl refl refl (refl, refl, refl, refl, refl) refl,
                  (
                    good _ refl refl refl (refl, refl, refl, refl, refl) refl,
                    (
                      good _ refl refl refl (refl, refl, refl, refl, refl) refl,
                      (
                        good _ refl refl refl (refl, refl, refl, refl, refl) refl,
                        (
                          good _ refl refl refl (refl, refl, refl, refl, refl) refl,
                          (
                            good _ refl refl refl (refl, refl, refl, refl, refl) refl,
                            (
                              good _ refl refl refl (refl, refl, refl, refl, refl) refl,
                              (
                                good _ refl refl refl (refl, refl, refl, refl, refl) refl,
                                (
                                  good _ refl refl refl (refl, refl, refl, refl, refl) refl,
                                  tt,
                                ),
                              ),
                            ),
                          ),
                        ),
                      ),
                    ),
                  ),
                ),
              ),
            ),
          ),
        ),
      ),
    ),
  ),
)

pub same_is : (a b : List ℕ) → same a b ≡ true → a ≡ b
unfolding same
same_is [] [] e = refl
same_is [] (y ∷ b) e = absurd (false_true e)
same_is (x ∷ a) [] e = absurd (false_true e)
same_is (x ∷ a) (y ∷ b) e =
    let h = pick_both (eqb x y) (same a b) e in
    ap₂ (λ (z : ℕ) (l : List ℕ). z ∷ l) (eqb-true x y h.0) (same_is a b h.1)

no_row : {r : Call} → unknown ≡ known r → ⊥
no_row e = let z : ◌≡◌ {A = ℕ} 0 1 = cc in omega arith

same_row : {q r : Call} → known q ≡ known r → q ≡ r
same_row e = cc

-- a row found by its letters has them
pub by_letters : (P : Call → Type 0) (rs : List Call) (w : List ℕ) (r : Call) → All P rs → call_in rs w ≡ known r → P r × (r.letters ≡ w)
unfolding All call_in pick
by_letters P [] w r h e = absurd (no_row e)
by_letters P (q ∷ rs) w r h e = go (same q.letters w) refl (by_letters P rs w r h.1) e
  where
    go : (b : Bool) → same q.letters w ≡ b → (call_in rs w ≡ known r → P r × (r.letters ≡ w)) → pick b (known q) (call_in rs w) ≡ known r → P r × (r.letters ≡ w)
    go true eb ih f = rw (← (same_row f)) (h.0, same_is q.letters w eb)
    go false eb ih f = ih f

-- a row found by a kind is of that kind
pub by_kind : (P : Call → Type 0) (rs : List Call) (k : ℕ) (r : Call) → All P rs → row_in rs k ≡ known r → P r × (of_row r.suited r.kind k ≡ true)
unfolding All row_in pick
by_kind P [] k r h e = absurd (no_row e)
by_kind P (q ∷ rs) k r h e = go (of_row q.suited q.kind k) refl (by_kind P rs k r h.1) e
  where
    go : (b : Bool) → of_row q.suited q.kind k ≡ b → (row_in rs k ≡ known r → P r × (of_row r.suited r.kind k ≡ true)) → pick b (known q) (row_in rs k) ≡ known r
        → P r × (of_row r.suited r.kind k ≡ true)
    go true eb ih f = rw (← (same_row f)) (h.0, eb)
    go false eb ih f = ih f

-- the table's number of arguments is the row's
arguments_row : (rs : List Call) (k : ℕ) (r : Call) → row_in rs k ≡ known r → arguments_in rs k ≡ r.arguments
unfolding row_in arguments_in pick
arguments_row [] k r e = absurd (no_row e)
arguments_row (q ∷ rs) k r e = go (of_row q.suited q.kind k) (arguments_row rs k r) e
  where
    go : (b : Bool) → (row_in rs k ≡ known r → arguments_in rs k ≡ r.arguments) → pick b (known q) (row_in rs k) ≡ known r → pick b q.arguments (arguments_in rs k) ≡ r.arguments
    go true ih f = ap (λ (c : Call). c.arguments) (same_row f)
    go false ih f = ih f

pub record Row (k n : ℕ) : Type 0 where
  pub call : Call
  pub is : row_in calls k ≡ known call
  pub good : Good call
  pub kind : of_row call.suited call.kind k ≡ true
  pub count : call.arguments ≡ n

-- a kind that the table has has a row
row_at : (rs : List Call) (k n : ℕ) → arguments_in rs k ≡ suc n → (r : Call) × (row_in rs k ≡ known r)
unfolding row_in arguments_in pick
row_at [] k n e = absurd (omega (arith, e))
row_at (q ∷ rs) k n e = go (of_row q.suited q.kind k) (row_at rs k n) e
  where
    go : (b : Bool) → (arguments_in rs k ≡ suc n → (r : Call) × (row_in rs k ≡ known r)) → pick b q.arguments (arguments_in rs k) ≡ suc n
        → (r : Call) × (pick b (known q) (row_in rs k) ≡ known r)
    go true ih f = (q, refl)
    go false ih f = ih f

pub arguments_of_lem : (k : ℕ) (r : Call) → row_in calls k ≡ known r → arguments_of k ≡ r.arguments
unfolding arguments_of
arguments_of_lem k r e = arguments_row calls k r e

row_made : (k n : ℕ) (r : Call) → arguments_of k ≡ suc n → row_in calls k ≡ known r → Row k (suc n)
row_made k n r h e =
    let g = by_kind Good calls k r all_good e in
    record { call = r; is = e; good = g.0; kind = g.1; count = sym (arguments_of_lem k r e) ∙ h }

pub row_of : (k n : ℕ) → arguments_of k ≡ suc n → Row k (suc n)
unfolding arguments_of
row_of k n h =
    let g = row_at calls k n h in
    row_made k n g.0 h g.1

-- a plain row has its own kind
pub plain_kind : (kind k : ℕ) → of_row false kind k ≡ true → k ≡ kind
unfolding of_row
plain_kind kind k e = eqb-true k kind e

-- a cipher row's kind has a suite 1 to 5
pub cipher_kind : (kind k : ℕ) → of_row true kind k ≡ true → (kind < k) × (k ≤ kind + 5)
unfolding of_row
cipher_kind kind k e =
    let h = pick_both (ltb kind k) (leb k (kind + 5)) e in
    (ltb-true kind k h.0, leb-true k (kind + 5) h.1)

-- each of a cipher row's five kinds is of the row
pub suited_kind : (r : Call) (d : ℕ) → Kinds true r → 1 ≤ d → d ≤ 5 → row_in calls (r.kind + d) ≡ known r
unfolding Kinds
suited_kind r zero h l m = absurd (omega arith)
suited_kind r (suc zero) h l m = h.0
suited_kind r (suc (suc zero)) h l m = h.1
suited_kind r (suc (suc (suc zero))) h l m = h.2
suited_kind r (suc (suc (suc (suc zero)))) h l m = h.3
suited_kind r (suc (suc (suc (suc (suc zero))))) h l m = h.4
suited_kind r (suc (suc (suc (suc (suc (suc d)))))) h l m = absurd (omega arith)

pub plain_row : (r : Call) → Kinds false r → row_in calls r.kind ≡ known r
unfolding Kinds
plain_row r h = h
