-- The numbers and places that reading gives.
use mathlib.Core.Bool.{Bool, true, false}
use mathlib.Core.List.{List, [], ◌∷◌}
use mathlib.Core.Path.{◌≡◌, refl}
use Prim.Native.Nat.{ℕ, zero, suc, ◌+◌, ◌-◌, ◌*◌, ◌/◌, ◌%◌, ◌≤◌, ◌<◌}
use native.Mathlib.Omega.{arith}
use lib.Dec.{eqb, leb}
use lib.ListN.{length, take, drop, get_or, length-drop}
use borrow.Author.Tests.{leb-false}
use Rattle.common.specs.Choice.{pick}
use Rattle.common.specs.Places.{tab}
use Rattle.tree.specs.Tree.{Tree}
use Rattle.tree.specs.Tree.Tree.{literal, bound, row, run}
use Rattle.tree.specs.Calls.{Call, calls}
use Rattle.tree.specs.Reading.Read.{got, wrong}
use Rattle.texts.specs.Spelling.{Found}
use Rattle.texts.specs.Spelling.Found.{known, unknown}
use Rattle.texts.specs.Reading.{Part, Due, Start, then_part, between, is_letter, is_hex, run_of, due_at, if_due, pair_at, literal_of, literal_at, name_at, call_in, call_of, start_of, args_at, list_at, suite_at, named_at, call_on, by_start, expr_at, end_at, read_text, ReadingNumber}
use Rattle.texts.specs.Reading.ReadingNumber.{syntax, deep, many, long}
use Rattle.texts.specs.Reading.Part.{part, bad}
use Rattle.texts.specs.Reading.Due.{stands, missing}
use Rattle.texts.specs.Reading.Start.{quote, hash, dollar, sign, letter, other}
use Rattle.texts.proofs.Standing.{run_within}

-- what was read ends within the text; a refusal has one of the four numbers, and its place is within the text or at its end
Fine : {A : Type 0} → List ℕ → Part A → Type 0
Fine s (part a q n) = q ≤ length s
Fine s (bad k w) = ReadingNumber k × (w ≤ length s)

FineDue : List ℕ → ℕ → Due → Type 0
FineDue s p stands = p < length s
FineDue s p (missing w) = w ≤ length s

fine_due : (s : List ℕ) (lo hi p : ℕ) → p ≤ length s → FineDue s p (due_at s lo hi p)
unfolding FineDue due_at pick
fine_due s lo hi p h = go (leb (length s) p) (between lo hi (get_or s p 0)) refl
  where
    go : (b c : Bool) → leb (length s) p ≡ b → FineDue s p (pick b (missing (length s)) (pick c stands (missing p)))
    go true c e = omega arith
    go false true e = leb-false (length s) p e
    go false false e = h

fine_if : {A : Type 0} (s : List ℕ) (p : ℕ) (d : Due) (x : Part A) → FineDue s p d → (p < length s → Fine s x) → Fine s (if_due d x)
unfolding Fine FineDue if_due
fine_if s p stands x h f = f h
fine_if s p (missing w) x h f = (syntax, h)

-- a byte is due: what follows is fine if it stands there
due_fine : {A : Type 0} (s : List ℕ) (lo hi p : ℕ) (x : Part A) → p ≤ length s → (p < length s → Fine s x) → Fine s (if_due (due_at s lo hi p) x)
due_fine s lo hi p x h f = fine_if s p (due_at s lo hi p) x (fine_due s lo hi p h) f

then_fine : {A B : Type 0} (s : List ℕ) (x : Part A) (f : A → ℕ → ℕ → Part B) → Fine s x → ((a : A) (q n : ℕ) → q ≤ length s → Fine s (f a q n)) → Fine s (then_part x f)
unfolding Fine then_part
then_fine s (part a q n) f h g = g a q n h
then_fine s (bad k w) f h g = h

pick_fine : {A : Type 0} (s : List ℕ) (b : Bool) (x y : Part A) → Fine s x → (b ≡ false → Fine s y) → Fine s (pick b x y)
unfolding pick
pick_fine s true x y h g = h
pick_fine s false x y h g = g refl

literal_fine : (s : List ℕ) (p n k : ℕ) → p + 1 + k ≤ length s → Fine s (literal_of s p n k)
unfolding literal_of Fine
literal_fine s p n k h =
    due_fine s 39 39 (p + 1 + k) _ h
    (
    λ l.
    pick_fine s (eqb (k % 2) 0) (pick (leb (k / 2) 1024) (part (literal (tab (k / 2) (λ i. pair_at s (p + 1 + 2 * i)))) (p + 1 + k + 1) (n + 1)) (bad 6 p)) (bad 20 (p + 1 + k))
    (pick_fine s (leb (k / 2) 1024) (part (literal (tab (k / 2) (λ i. pair_at s (p + 1 + 2 * i)))) (p + 1 + k + 1) (n + 1)) (bad 6 p) (omega arith) (λ f. (long, omega arith)))
    (λ f. (syntax, omega arith))
    )

name_fine : (name : ℕ → Tree) (hi : ℕ) (s : List ℕ) (p n : ℕ) → p < length s → Fine s (name_at name hi s p n)
unfolding name_at Fine
name_fine name hi s p n h = due_fine s 48 hi (p + 1) (part (name (get_or s (p + 1) 0 - 48)) (p + 2) (n + 1)) (omega arith) (λ l. omega arith)

call_fine : (s : List ℕ) (k : ℕ) (l : List Tree) (p n : ℕ) → p ≤ length s → Fine s (call_of k l p n)
unfolding call_of Fine
call_fine s k [] p n h = (syntax, h)
call_fine s k (a ∷ []) p n h = h
call_fine s k (a ∷ (b ∷ [])) p n h = h
call_fine s k (a ∷ (b ∷ (c ∷ []))) p n h = h
call_fine s k (a ∷ (b ∷ (c ∷ (d ∷ [])))) p n h = h
call_fine s k (a ∷ (b ∷ (c ∷ (d ∷ (e ∷ l))))) p n h = (syntax, h)

module _ (expr : ℕ → ℕ → Part Tree) (s : List ℕ) (sub : (p n : ℕ) → p ≤ length s → Fine s (expr p n)) where
  args_fine : (left c p n : ℕ) → p ≤ length s → Fine s (args_at expr s left c p n)
  unfolding args_at Fine
  args_fine zero c p n h = due_fine s 41 41 p (part [] (p + 1) n) h (λ l. omega arith)
  args_fine (suc left) c p n h =
      due_fine s c c p (then_part (expr (p + 1) n) (λ a q m. then_part (args_at expr s left 44 q m) (λ l u k. part (a ∷ l) u k))) h
      (
      λ l.
      then_fine s (expr (p + 1) n) (λ a q m. then_part (args_at expr s left 44 q m) (λ l u k. part (a ∷ l) u k)) (sub (p + 1) n (omega arith))
      (λ a q m i. then_fine s (args_at expr s left 44 q m) (λ l u k. part (a ∷ l) u k) (args_fine left 44 q m i) (λ l u k j. j))
      )

  list_fine : (k count p n : ℕ) → p ≤ length s → Fine s (list_at expr s k count p n)
  unfolding list_at
  list_fine k count p n h = then_fine s (args_at expr s count 40 p (n + 1)) (call_of k) (args_fine count 40 p (n + 1) h) (λ l q m i. call_fine s k l q m i)

  suite_fine : (b : Bool) (r : Call) (p n : ℕ) → p ≤ length s → Fine s (suite_at expr s b r p n)
  unfolding suite_at
  suite_fine false r p n h = list_fine r.kind r.arguments p n h
  suite_fine true r p n h =
      due_fine s 46 46 p _ h
      (λ l. due_fine s 49 53 (p + 1) _ (omega arith) (λ m. list_fine (r.kind + (get_or s (p + 1) 0 - 48)) r.arguments (p + 2) n (omega arith)))

  named_fine : (f : Found) (p q n : ℕ) → p ≤ length s → q ≤ length s → Fine s (named_at expr s f p q n)
  unfolding named_at Fine
  named_fine (known r) p q n h l = suite_fine r.suited r q n l
  named_fine unknown p q n h l = (syntax, h)

  start_fine : (st : Start) (p n : ℕ) → p < length s → Fine s (by_start expr s st p n)
  unfolding by_start literal_at call_on Fine
  start_fine quote p n h = literal_fine s p n (run_of is_hex (drop (p + 1) s)) (omega (arith, run_within is_hex (drop (p + 1) s), length-drop (p + 1) s))
  start_fine hash p n h = name_fine bound 51 s p n h
  start_fine dollar p n h = name_fine row 55 s p n h
  start_fine sign p n h = name_fine run 51 s p n h
  start_fine letter p n h =
      named_fine (call_in calls (take (run_of is_letter (drop p s)) (drop p s))) p (p + run_of is_letter (drop p s)) n (omega arith)
      (omega (arith, run_within is_letter (drop p s), length-drop p s))
  start_fine other p n h = (syntax, omega arith)

expr_fine : (d : ℕ) (s : List ℕ) (p n : ℕ) → p ≤ length s → Fine s (expr_at d s p n)
unfolding expr_at Fine
expr_fine zero s p n h = (deep, h)
expr_fine (suc d) s p n h =
    pick_fine s (leb 128 n) (bad 23 p) _ (many, h)
    (
    λ e.
    pick_fine s (leb (length s) p) (bad 20 (length s)) (by_start (expr_at d s) s (start_of (get_or s p 0)) p n) (syntax, omega arith)
    (λ f. start_fine (expr_at d s) s (λ p n h. expr_fine d s p n h) (start_of (get_or s p 0)) p n (leb-false (length s) p f))
    )

-- a tree, or one of the four numbers with a place within the text or at its end
pub data Outcome (s : List ℕ) : Type 0 where
  reads : (t : Tree) → read_text s ≡ got t → Outcome s
  refuses : (n p : ℕ) → ReadingNumber n → p ≤ length s → read_text s ≡ wrong n p → Outcome s

pub outcome : (s : List ℕ) → Outcome s
unfolding read_text end_at pick Fine
outcome s = go (expr_at 16 s 0 0) refl (expr_fine 16 s 0 0 (omega arith))
  where
    last : (t : Tree) (p n : ℕ) (b : Bool) → p ≤ length s → expr_at 16 s 0 0 ≡ part t p n → leb (length s) p ≡ b → Outcome s
    last t p n true h e eb = reads t (rw (e, eb))
    last t p n false h e eb = refuses 20 p syntax h (rw (e, eb))

    go : (x : Part Tree) → expr_at 16 s 0 0 ≡ x → Fine s x → Outcome s
    go (part t p n) e h = last t p n (leb (length s) p) h e refl
    go (bad k w) e h = refuses k w h.0 h.1 (rw e)
