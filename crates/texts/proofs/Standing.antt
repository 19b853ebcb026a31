-- What stands at a place of a text.
use mathlib.Core.Bool.{Bool, true, false}
use mathlib.Core.List.{List, [], ◌∷◌, ◌++◌}
use mathlib.Core.Path.{◌≡◌, refl, sym, ap, ◌∙◌}
use Prim.Native.Nat.{ℕ, suc, ◌+◌, ◌≤◌, ◌<◌}
use native.Mathlib.Nat.{add-zero}
use native.Mathlib.Numerals.{add-one}
use native.Mathlib.Omega.{arith}
use lib.Dec.{leb}
use lib.ListN.{length, take, drop, get_or, length-drop}
use lib.Seq.{get_or-drop, drop-drop, drop-append_seam, drop-cons}
use borrow.Author.Tests.{le-leb, lt-leb, leb-true, leb-false}
use Rattle.common.specs.Choice.{pick}
use Rattle.texts.specs.Reading.{Part, Due, between, due_at, if_due, then_part, run_of}
use Rattle.texts.specs.Reading.Part.{part, bad}
use Rattle.texts.specs.Reading.Due.{stands, missing}

-- a byte that stands at p is within the text
pub stands_in : (s : List ℕ) (p x : ℕ) (y : List ℕ) → drop p s ≡ x ∷ y → p < length s
stands_in s p x y e = omega (arith, length-drop p s, ap length e)

pub stands_at : (s : List ℕ) (p x : ℕ) (y : List ℕ) → drop p s ≡ x ∷ y → get_or s p 0 ≡ x
stands_at s p x y e = ap (λ (i : ℕ). get_or s i 0) (sym (add-zero p)) ∙ sym (get_or-drop p s 0 0) ∙ ap (λ (l : List ℕ). get_or l 0 0) e

pub stands_next : (s : List ℕ) (p x : ℕ) (y : List ℕ) → drop p s ≡ x ∷ y → drop (p + 1) s ≡ y
stands_next s p x y e = sym (drop-drop 1 p s) ∙ ap (λ (l : List ℕ). drop 1 l) e

pub stands_after : (s : List ℕ) (p : ℕ) (w y : List ℕ) → drop p s ≡ w ++ y → drop (p + length w) s ≡ y
stands_after s p w y e = sym (drop-drop (length w) p s) ∙ ap (λ (l : List ℕ). drop (length w) l) e ∙ drop-append_seam w y

-- within the text, what stands at p is its byte and the rest
pub stands_here : (s : List ℕ) (p : ℕ) → p < length s → drop p s ≡ get_or s p 0 ∷ drop (p + 1) s
stands_here s p h = drop-cons s p 0 h ∙ ap (λ (i : ℕ). get_or s p 0 ∷ drop i s) (sym (add-one p))

pub between_true : (lo hi b : ℕ) → lo ≤ b → b ≤ hi → between lo hi b ≡ true
unfolding between pick
between_true lo hi b l h = rw (le-leb lo b l) (le-leb b hi h)

pub pick_both : (x y : Bool) → pick x y false ≡ true → (x ≡ true) × (y ≡ true)
unfolding pick
pick_both true y e = (refl, e)
pick_both false y e = let z : ◌≡◌ {A = ℕ} 0 1 = cc in absurd (omega arith)

pub between_is : (lo hi b : ℕ) → between lo hi b ≡ true → (lo ≤ b) × (b ≤ hi)
unfolding between
between_is lo hi b e =
    let h = pick_both (leb lo b) (leb b hi) e in
    (leb-true lo b h.0, leb-true b hi h.1)

-- a byte that is due and stands there
pub due_stands : (s : List ℕ) (lo hi p x : ℕ) (y : List ℕ) → drop p s ≡ x ∷ y → lo ≤ x → x ≤ hi → due_at s lo hi p ≡ stands
unfolding due_at pick
due_stands s lo hi p x y e l h = rw (lt-leb (length s) p (stands_in s p x y e), stands_at s p x y e, between_true lo hi x l h)

no_stands : {w : ℕ} → missing w ≡ stands → ⊥
no_stands e = let z : ◌≡◌ {A = ℕ} 0 1 = cc in omega arith

pub no_part : {A : Type 0} {k w q m : ℕ} {a : A} → bad k w ≡ part a q m → ⊥
no_part e = let z : ◌≡◌ {A = ℕ} 0 1 = cc in omega arith

-- what a byte that stood where it was due says
pub record Stood (s : List ℕ) (lo hi p : ℕ) : Type 0 where
  pub inside : p < length s
  pub low : lo ≤ get_or s p 0
  pub high : get_or s p 0 ≤ hi

pub due_is_lem : (s : List ℕ) (lo hi p : ℕ) → due_at s lo hi p ≡ stands → Stood s lo hi p
unfolding due_at pick
due_is_lem s lo hi p e = go (leb (length s) p) (between lo hi (get_or s p 0)) refl refl e
  where
    go : (b c : Bool) → leb (length s) p ≡ b → between lo hi (get_or s p 0) ≡ c → pick b (missing (length s)) (pick c stands (missing p)) ≡ stands → Stood s lo hi p
    go true c eb ec h = absurd (no_stands h)
    go false true eb ec h =
        let k = between_is lo hi (get_or s p 0) ec in
        record { inside = leb-false (length s) p eb; low = k.0; high = k.1 }
    go false false eb ec h = absurd (no_stands h)

pub if_due_lem : {A : Type 0} (d : Due) (x : Part A) {a : A} {q m : ℕ} → if_due d x ≡ part a q m → (d ≡ stands) × (x ≡ part a q m)
unfolding if_due
if_due_lem stands x e = (refl, e)
if_due_lem (missing w) x e = absurd (no_part e)

-- each step of reading has one inversion
pub then_part_lem : {A B : Type 0} (x : Part A) (f : A → ℕ → ℕ → Part B) {b : B} {q m : ℕ} → then_part x f ≡ part b q m
    → (a : A) × (p : ℕ) × (n : ℕ) × (x ≡ part a p n) × (f a p n ≡ part b q m)
unfolding then_part
then_part_lem (part a p n) f e = (a, p, n, refl, e)
then_part_lem (bad k w) f e = absurd (no_part e)

pub pick_bad : {A : Type 0} (b : Bool) (k w : ℕ) (x : Part A) {a : A} {q m : ℕ} → pick b (bad k w) x ≡ part a q m → (b ≡ false) × (x ≡ part a q m)
unfolding pick
pick_bad true k w x e = absurd (no_part e)
pick_bad false k w x e = (refl, e)

pub pick_good : {A : Type 0} (b : Bool) (k w : ℕ) (x : Part A) {a : A} {q m : ℕ} → pick b x (bad k w) ≡ part a q m → (b ≡ true) × (x ≡ part a q m)
unfolding pick
pick_good true k w x e = (refl, e)
pick_good false k w x e = absurd (no_part e)

-- every byte of w passes
unfoldable pub Pass : (ℕ → Bool) → List ℕ → Type 0
Pass test [] = Unit {0}
Pass test (x ∷ w) = (test x ≡ true) × Pass test w

-- the longest run ends where the test fails
pub run_is : (test : ℕ → Bool) (w r : List ℕ) → Pass test w → run_of test r ≡ 0 → run_of test (w ++ r) ≡ length w
unfolding run_of Pass pick
run_is test [] r h e = e
run_is test (x ∷ w) r h e = rw h.0 (ap suc (run_is test w r h.1 e))

-- and all of it passes
pub run_pass : (test : ℕ → Bool) (s : List ℕ) → Pass test (take (run_of test s) s)
unfolding run_of Pass pick
run_pass test [] = tt
run_pass test (x ∷ s) = go (test x) refl (run_pass test s)
  where
    go : (b : Bool) → test x ≡ b → Pass test (take (run_of test s) s) → Pass test (take (pick b (suc (run_of test s)) 0) (x ∷ s))
    go true e h = (e, h)
    go false e h = tt

pub run_within : (test : ℕ → Bool) (s : List ℕ) → run_of test s ≤ length s
unfolding run_of pick
run_within test [] = omega arith
run_within test (x ∷ s) = go (test x) (run_within test s)
  where
    go : (b : Bool) → run_of test s ≤ length s → pick b (suc (run_of test s)) 0 ≤ suc (length s)
    go true h = omega arith
    go false h = omega arith
