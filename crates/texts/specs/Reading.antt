-- Reading a text left to right to a tree, or to a number and its place (document 01, sections 5 and 7).
use Rattle.std.specs.Prelude.{Bool, true, false, List, [], ◌∷◌, ℕ, zero, suc, ◌+◌, ◌-◌, ◌*◌, ◌/◌, ◌%◌, eqb, leb, length, take, drop, get_or}
use Rattle.common.specs.Choice.{pick}
use Rattle.common.specs.Places.{tab}
use Rattle.tree.specs.Tree.{Tree}
use Rattle.tree.specs.Tree.Tree.{literal, bound, row, run, one, two, three, four, when}
use Rattle.tree.specs.Calls.{Call, calls}
use Rattle.tree.specs.Bounds.{when_kind}
use Rattle.tree.specs.Reading.{Read}
use Rattle.tree.specs.Reading.Read.{got, wrong}
use Rattle.texts.specs.Spelling.{Found}
use Rattle.texts.specs.Spelling.Found.{known, unknown}

-- what stands at a place, the place after it and the count of nodes so far; or a number and its place
pub data Part (A : Type 0) : Type 0 where
  part : A → ℕ → ℕ → Part A
  bad : ℕ → ℕ → Part A

-- section 7: reading left to right, the first refusal is the answer
unfoldable pub then_part : {A B : Type 0} → Part A → (A → ℕ → ℕ → Part B) → Part B
then_part (part a p n) f = f a p n
then_part (bad k p) f = bad k p

unfoldable pub between : ℕ → ℕ → ℕ → Bool
between lo hi b = pick (leb lo b) (leb b hi) false

-- section 5: lower-case letters
unfoldable pub is_letter : ℕ → Bool
is_letter = between 97 122

-- section 5: 0-9 A-F
unfoldable pub is_hex : ℕ → Bool
is_hex b = pick (between 48 57 b) true (between 65 70 b)

-- how many leading bytes pass a test
unfoldable pub run_of : (ℕ → Bool) → List ℕ → ℕ
run_of test [] = 0
run_of test (x ∷ s) = let more = suc (run_of test s) in pick (test x) more 0

-- a byte that is due stands there, or the place of 20
pub data Due : Type 0 where
  stands : Due
  missing : ℕ → Due

-- section 7: a byte from lo to hi is due at p; the place of 20 is the byte that is not allowed, or the length where the text ends early
unfoldable pub due_at : List ℕ → ℕ → ℕ → ℕ → Due
due_at s lo hi p = pick (leb (length s) p) (missing (length s)) (pick (between lo hi (get_or s p 0)) stands (missing p))

unfoldable pub if_due : {A : Type 0} → Due → Part A → Part A
if_due stands x = x
if_due (missing w) x = bad 20 w

-- a digit's value
unfoldable pub hex_value : ℕ → ℕ
hex_value b = pick (leb b 57) (b - 48) (b - 55)

-- the byte of the pair at p
unfoldable pub pair_at : List ℕ → ℕ → ℕ
pair_at s p = 16 * hex_value (get_or s p 0) + hex_value (get_or s (p + 1) 0)

-- sections 5 and 7: k digits stand after the first quote at p; the closing quote is due, after whole pairs; 6 is for a literal that closes well
unfoldable pub literal_of : List ℕ → ℕ → ℕ → ℕ → Part Tree
literal_of s p n k =
    if_due (due_at s 39 39 (p + 1 + k))
    (pick (eqb (k % 2) 0) (pick (leb (k / 2) 1024) (part (literal (tab (k / 2) (λ i. pair_at s (p + 1 + 2 * i)))) (p + 1 + k + 1) (n + 1)) (bad 6 p)) (bad 20 (p + 1 + k)))

unfoldable pub literal_at : List ℕ → ℕ → ℕ → Part Tree
literal_at s p n = literal_of s p n (run_of is_hex (drop (p + 1) s))

-- section 5: a name's digit, up to the byte hi, is due after its sign at p
unfoldable pub name_at : (ℕ → Tree) → ℕ → List ℕ → ℕ → ℕ → Part Tree
name_at name hi s p n = if_due (due_at s 48 hi (p + 1)) (part (name (get_or s (p + 1) 0 - 48)) (p + 2) (n + 1))

unfoldable pub same : List ℕ → List ℕ → Bool
same [] [] = true
same [] (y ∷ b) = false
same (x ∷ a) [] = false
same (x ∷ a) (y ∷ b) = let rest = same a b in pick (eqb x y) rest false

-- section 5: the row that has these letters
unfoldable pub call_in : List Call → List ℕ → Found
call_in [] w = unknown
call_in (r ∷ rs) w = let later = call_in rs w in pick (same r.letters w) (known r) later

-- section 5: a call of this kind with these arguments: the calls of the table have one to four
unfoldable pub call_of : ℕ → List Tree → ℕ → ℕ → Part Tree
call_of k [] p n = bad 20 p
call_of k (a ∷ []) p n = part (one k a) p n
call_of k (a ∷ (b ∷ [])) p n = part (two k a b) p n
call_of k (a ∷ (b ∷ (c ∷ []))) p n = part (pick (eqb k when_kind) (when a b c) (three k a b c)) p n
call_of k (a ∷ (b ∷ (c ∷ (d ∷ [])))) p n = part (four k a b c d) p n
call_of k (a ∷ (b ∷ (c ∷ (d ∷ (e ∷ l))))) p n = bad 20 p

-- how an expression starts
pub data Start : Type 0 where
  quote hash dollar sign letter other : Start

-- `'`, `#`, `$`, `@`, a letter
unfoldable pub start_of : ℕ → Start
start_of b = pick (eqb b 39) quote (pick (eqb b 35) hash (pick (eqb b 36) dollar (pick (eqb b 64) sign (pick (is_letter b) letter other))))

-- section 5: the argument list reads expressions; this many are still due, c before the next of them
unfoldable pub args_at : (ℕ → ℕ → Part Tree) → List ℕ → ℕ → ℕ → ℕ → ℕ → Part (List Tree)
args_at expr s zero c p n = if_due (due_at s 41 41 p) (part [] (p + 1) n)
args_at expr s (suc left) c p n =
    let rest = then_part (expr (p + 1) n) (λ a q m. then_part (args_at expr s left 44 q m) (λ l u k. part (a ∷ l) u k)) in
    if_due (due_at s c c p) rest

module _ (expr : ℕ → ℕ → Part Tree) (s : List ℕ) where
  -- the arguments of a call of this kind, whose `(` is due at p
  unfoldable pub list_at : ℕ → ℕ → ℕ → ℕ → Part Tree
  list_at k count p n = then_part (args_at expr s count 40 p (n + 1)) (call_of k)

  -- section 5: after a cipher call's letters a `.` and a suite digit 1 to 5 are due
  unfoldable pub suite_at : Bool → Call → ℕ → ℕ → Part Tree
  suite_at false r p n = list_at r.kind r.arguments p n
  suite_at true r p n = if_due (due_at s 46 46 p) (if_due (due_at s 49 53 (p + 1)) (list_at (r.kind + (get_or s (p + 1) 0 - 48)) r.arguments (p + 2) n))

  -- section 7: the letters from p to q are judged where they end; an unknown name at its first letter
  unfoldable pub named_at : Found → ℕ → ℕ → ℕ → Part Tree
  named_at (known r) p q n = suite_at r.suited r q n
  named_at unknown p q n = bad 20 p

  -- section 5: a call's letters are the longest run, k of them from p on
  unfoldable pub call_on : ℕ → ℕ → ℕ → Part Tree
  call_on k p n = named_at (call_in calls (take k (drop p s))) p (p + k) n

  unfoldable pub by_start : Start → ℕ → ℕ → Part Tree
  by_start quote p n = literal_at s p n
  by_start hash p n = name_at bound 51 s p n
  by_start dollar p n = name_at row 55 s p n
  by_start sign p n = name_at run 51 s p n
  by_start letter p n = call_on (run_of is_letter (drop p s)) p n
  by_start other p n = bad 20 p

-- section 7: an expression is due at p after n nodes, with d levels left: 22, then 23, before its first byte
unfoldable pub expr_at : ℕ → List ℕ → ℕ → ℕ → Part Tree
expr_at zero s p n = bad 22 p
expr_at (suc d) s p n = pick (leb 128 n) (bad 23 p) (pick (leb (length s) p) (bad 20 (length s)) (by_start (expr_at d s) s (start_of (get_or s p 0)) p n))

-- section 5: after the root only the end
unfoldable pub end_at : List ℕ → Part Tree → Read
end_at s (part t p n) = pick (leb (length s) p) (got t) (wrong 20 p)
end_at s (bad k p) = wrong k p

-- section 5: depth at most 16
unfoldable pub read_text : List ℕ → Read
read_text s = end_at s (expr_at 16 s 0 0)

-- section 7: 21 is judged before reading, its place is 0
unfoldable pub take_text : List ℕ → Read
take_text s = pick (leb (length s) 4096) (read_text s) (wrong 21 0)

-- section 7: the numbers that reading gives
pub data ReadingNumber : ℕ → Type 0 where
  syntax : ReadingNumber 20
  deep : ReadingNumber 22
  many : ReadingNumber 23
  long : ReadingNumber 6
