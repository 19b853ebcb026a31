-- What is spelt within the bounds is read back.
use mathlib.Core.Bool.{Bool, true, false}
use mathlib.Core.List.{List, [], ◌∷◌, ◌++◌, append_assoc, append-nil}
use mathlib.Core.Path.{◌≡◌, refl, sym, ap, ◌∙◌}
use Prim.Native.Nat.{ℕ, zero, suc, ◌+◌, ◌-◌, ◌*◌, ◌≤◌, ◌<◌, max}
use native.Mathlib.Nat.{add-zero}
use native.Mathlib.Omega.{arith}
use lib.Dec.{leb}
use lib.ListN.{length, take, drop, get_or, length-append}
use lib.Seq.{take-append_seam}
use borrow.Author.Tests.{le-leb, lt-leb, leb-true, leb-false, ne_eqb}
use Rattle.common.specs.Choice.{pick}
use Rattle.tree.specs.Tree.{Tree}
use Rattle.tree.specs.Tree.Tree.{literal, bound, row, run, one, two, three, four, when}
use Rattle.tree.specs.Calls.{Call, calls, plain, cipher}
use Rattle.tree.specs.Bounds.{depth, nodes, of_row, arguments_in, arguments_of, when_kind, Proper, Small, Within}
use Rattle.tree.specs.Reading.{Read}
use Rattle.tree.specs.Reading.Read.{got, wrong}
use Rattle.texts.specs.Spelling.{pairs, row_in, suite_part, name_by, name_of, listed, spell, width}
use Rattle.texts.specs.Spelling.Found.{known}
use Rattle.texts.specs.Reading.{Part, then_part, between, is_letter, run_of, if_due, call_in, call_of, start_of, args_at, list_at, suite_at, named_at, call_on, by_start, expr_at, end_at, read_text, take_text}
use Rattle.texts.specs.Reading.Part.{part, bad}
use Rattle.texts.specs.Reading.Start.{letter}
use Rattle.texts.proofs.Standing.{stands_in, stands_at, stands_next, stands_after, between_is, due_stands, Pass, run_is}
use Rattle.texts.proofs.Table.{Good, row_of, plain_kind, cipher_kind}
use Rattle.texts.proofs.Width.{length_spell}
use Rattle.texts.proofs.Leaves.{literal_read, name_read}

unfoldable pub spells : List Tree → List (List ℕ)
spells [] = []
spells (a ∷ l) = spell a ∷ spells l

unfoldable pub total : List Tree → ℕ
total [] = 0
total (a ∷ l) = nodes a + total l

unfoldable pub deepest : List Tree → ℕ
deepest [] = 0
deepest (a ∷ l) = max (depth a) (deepest l)

abbrev pub Each : (Tree → Type 0) → List Tree → Type 0
Each P [] = Unit {0}
Each P (a ∷ l) = P a × Each P l

-- what reading what is spelt comes to: it is read; or a bound does not hold, and the number says which
pub data Fate {A : Type 0} (a : A) (q m : ℕ) (Deep Many Long : Type 0) : Part A → Type 0 where
  fine : Fate a q m Deep Many Long (part a q m)
  deep : (w : ℕ) → Deep → Fate a q m Deep Many Long (bad 22 w)
  many : (w : ℕ) → Many → Fate a q m Deep Many Long (bad 23 w)
  long : (w : ℕ) → Long → Fate a q m Deep Many Long (bad 6 w)

fate_then : {A B : Type 0} (a : A) (q m : ℕ) (D M L : Type 0) (b : B) (u j : ℕ) (D' M' L' : Type 0) (x : Part A) (f : A → ℕ → ℕ → Part B) → (D → D') → (M → M') → (L → L')
    → Fate b u j D' M' L' (f a q m)
    → Fate a q m D M L x
    → Fate b u j D' M' L' (then_part x f)
unfolding then_part
fate_then a q m D M L b u j D' M' L' x f gd gm gl h fine = h
fate_then a q m D M L b u j D' M' L' x f gd gm gl h (deep w e) = deep w (gd e)
fate_then a q m D M L b u j D' M' L' x f gd gm gl h (many w e) = many w (gm e)
fate_then a q m D M L b u j D' M' L' x f gd gm gl h (long w e) = long w (gl e)

fate_as : {A : Type 0} (a : A) (q m u j : ℕ) (D M L : Type 0) (x : Part A) → q ≡ u → m ≡ j → Fate a q m D M L x → Fate a u j D M L x
fate_as a q m u j D M L x e f h = rw (← e, ← f) h

abbrev FateAt : ℕ → List ℕ → (ℕ → ℕ → Part Tree) → Tree → Type 0
FateAt d s expr a =
    (p n : ℕ) (r : List ℕ) → drop p s ≡ spell a ++ r → Fate a (p + width a) (n + nodes a) (d < depth a) (128 < n + nodes a) (Small a → ⊥) (expr p n)

abbrev EachFate : ℕ → List ℕ → (ℕ → ℕ → Part Tree) → List Tree → Type 0
EachFate d s expr [] = Unit {0}
EachFate d s expr (a ∷ l) = FateAt d s expr a × EachFate d s expr l

args_fate : (d : ℕ) (expr : ℕ → ℕ → Part Tree) (s : List ℕ) (l : List Tree) (c p n : ℕ) (r : List ℕ) → EachFate d s expr l → drop p s ≡ listed c (spells l) ++ r
    → Fate l (p + length (listed c (spells l))) (n + total l) (d < deepest l) (128 < n + total l) (Each Small l → ⊥) (args_at expr s (length l) c p n)
unfolding args_at listed spells total deepest if_due
args_fate d expr s [] c p n r h e = rw (due_stands s 41 41 p 41 r e (omega arith) (omega arith), add-zero n) fine
args_fate d expr s (a ∷ l) c p n r h e =
    let L : List ℕ = listed 44 (spells l) in
    let e1 : drop (p + 1) s ≡ spell a ++ (L ++ r) = stands_next s p c (spell a ++ L ++ r) e ∙ append_assoc (spell a) L r in
    let e2 : drop (p + 1 + width a) s ≡ L ++ r = ap (λ (w : ℕ). drop (p + 1 + w) s) (sym (length_spell a)) ∙ stands_after s (p + 1) (spell a) (L ++ r) e1 in
    let place : p + 1 + width a + length L ≡ p + suc (length (spell a ++ L)) = omega (arith, length-append (spell a) L, length_spell a) in
    let count : n + nodes a + total l ≡ n + (nodes a + total l) = omega arith in
    let rest : Tree → ℕ → ℕ → Part (List Tree) = λ a q m. then_part (args_at expr s (length l) 44 q m) (λ l u k. part (a ∷ l) u k) in
    let U : ℕ = p + 1 + width a + length L in
    let J : ℕ = n + nodes a + total l in
    let D : Type 0 = d < max (depth a) (deepest l) in
    let M : Type 0 = 128 < n + (nodes a + total l) in
    let S : Type 0 = Small a × Each Small l → ⊥ in
    let later : Fate (a ∷ l) U J D M S (rest a (p + 1 + width a) (n + nodes a)) =
    fate_then l U J (d < deepest l) (128 < J) (Each Small l → ⊥) (a ∷ l) U J D M S (args_at expr s (length l) 44 (p + 1 + width a) (n + nodes a)) (λ l u k. part (a ∷ l) u k)
    (λ g. omega arith) (λ g. omega arith) (λ g w. g w.1) fine (args_fate d expr s l 44 (p + 1 + width a) (n + nodes a) r h.1 e2) in
    rw (due_stands s c c p c (spell a ++ L ++ r) e (omega arith) (omega arith))
    (
    fate_as (a ∷ l) U J (p + suc (length (spell a ++ L))) (n + (nodes a + total l)) D M S (then_part (expr (p + 1) n) rest) place count
    (
    fate_then a (p + 1 + width a) (n + nodes a) (d < depth a) (128 < n + nodes a) (Small a → ⊥) (a ∷ l) U J D M S (expr (p + 1) n) rest (λ g. omega arith) (λ g. omega arith)
    (λ g w. g w.0) later (h.0 (p + 1) n (L ++ r) e1)
    )
    )

module _ (d : ℕ) (expr : ℕ → ℕ → Part Tree) (s : List ℕ) (k : ℕ) (l : List Tree) (t : Tree) (n : ℕ) (rest : List ℕ)
    (each : EachFate d s expr l) (call : (q m : ℕ) → call_of k l q m ≡ part t q m) where
  abbrev FateOf : ℕ → Part Tree → Type 0
  FateOf p x = Fate t (p + length (listed 40 (spells l))) (n + 1 + total l) (d < deepest l) (128 < n + 1 + total l) (Each Small l → ⊥) x

  list_fate : (p : ℕ) → drop p s ≡ listed 40 (spells l) ++ rest → FateOf p (list_at expr s k (length l) p n)
  unfolding list_at
  list_fate p e =
      let u : ℕ = p + length (listed 40 (spells l)) in
      let j : ℕ = n + 1 + total l in
      fate_then l u j (d < deepest l) (128 < j) (Each Small l → ⊥) t u j (d < deepest l) (128 < j) (Each Small l → ⊥) (args_at expr s (length l) 40 p (n + 1)) (call_of k) (λ g. g) (λ g. g)
      (λ g. g) (rw (call u j) fine) (args_fate d expr s l 40 p (n + 1) rest each e)

  suite_fate : (b : Bool) (r : Call) (q : ℕ) → of_row b r.kind k ≡ true → r.arguments ≡ length l → drop q s ≡ suite_part b (k - r.kind) ++ (listed 40 (spells l) ++ rest)
      → FateOf (q + length (suite_part b (k - r.kind))) (suite_at expr s b r q n)
  unfolding suite_at suite_part if_due
  suite_fate false r q h c e =
      let ek : k ≡ r.kind = plain_kind r.kind k h in
      rw (← ek, c, add-zero q) (list_fate q e)
  suite_fate true r q h c e =
      let (low, high) = cipher_kind r.kind k h in
      let d : ℕ = k - r.kind in
      let L : List ℕ = listed 40 (spells l) ++ rest in
      let e1 : drop (q + 1) s ≡ (48 + d) ∷ L = stands_next s q 46 ((48 + d) ∷ L) e in
      let e2 : drop (q + 2) s ≡ L = ap (λ (i : ℕ). drop i s) (two_on q) ∙ stands_next s (q + 1) (48 + d) L e1 in
      let kind : r.kind + (get_or s (q + 1) 0 - 48) ≡ k = omega (arith, stands_at s (q + 1) (48 + d) L e1) in
      rw (due_stands s 46 46 q 46 ((48 + d) ∷ L) e (omega arith) (omega arith), due_stands s 49 53 (q + 1) (48 + d) L e1 (omega arith) (omega arith), kind, c) (list_fate (q + 2) e2)
    where
      two_on : (q : ℕ) → q + 2 ≡ q + 1 + 1
      two_on q = omega arith

-- where an expression stands and nodes are left, its first byte tells how it starts
start_read : (d : ℕ) (s : List ℕ) (p n x : ℕ) (y : List ℕ) → n < 128 → drop p s ≡ x ∷ y → expr_at (suc d) s p n ≡ by_start (expr_at d s) s (start_of x) p n
unfolding expr_at pick
start_read d s p n x y h e = rw (lt-leb 128 n h, lt-leb (length s) p (stands_in s p x y e), stands_at s p x y e)

start_letter : (x : ℕ) → is_letter x ≡ true → start_of x ≡ letter
unfolding start_of is_letter pick
start_letter x h =
    let (low, high) = between_is 97 122 x h in
    rw (ne_eqb x 39 (omega arith), ne_eqb x 35 (omega arith), ne_eqb x 36 (omega arith), ne_eqb x 64 (omega arith), h)

-- letters end at a `.` or a `(`
pub name_ends : (b : Bool) (d : ℕ) (r : List ℕ) → run_of is_letter (suite_part b d ++ (40 ∷ r)) ≡ 0
unfolding run_of is_letter between pick suite_part
name_ends false d r = refl
name_ends true d r = refl

-- a call's letters are its longest run of letters
letters-read : (expr : ℕ → ℕ → Part Tree) (s : List ℕ) (p n : ℕ) (r : Call) (w y : List ℕ) → call_in calls w ≡ known r → Pass is_letter w → run_of is_letter y ≡ 0 → drop p s ≡ w ++ y
    → call_on expr s (run_of is_letter (drop p s)) p n ≡ suite_at expr s r.suited r (p + length w) n
unfolding call_on named_at
letters-read expr s p n r w y named pass ends e =
    let k : run_of is_letter (drop p s) ≡ length w = ap (run_of is_letter) e ∙ run_is is_letter w y pass ends in
    let f : take (length w) (drop p s) ≡ w = ap (λ (l : List ℕ). take (length w) l) e ∙ take-append_seam w y in
    rw (k, f, named)

-- the first letter tells that it is a call
call_start : (d : ℕ) (s : List ℕ) (p n : ℕ) (w y : List ℕ) → 0 < length w → Pass is_letter w → n < 128 → drop p s ≡ w ++ y
    → expr_at (suc d) s p n ≡ call_on (expr_at d s) s (run_of is_letter (drop p s)) p n
unfolding Pass by_start
call_start d s p n [] y some pass h e = absurd (omega arith)
call_start d s p n (x ∷ w) y some pass h e = start_read d s p n x (w ++ y) h e ∙ rw (start_letter x pass.0)

pub name_is : (k : ℕ) (r : Call) → row_in calls k ≡ known r → name_of k ≡ r.letters ++ suite_part r.suited (k - r.kind)
unfolding name_of name_by
name_is k r e = rw e

pub listed_opens : (l : List Tree) (rest : List ℕ) → 0 < length l → (y : List ℕ) × (listed 40 (spells l) ++ rest ≡ 40 ∷ y)
unfolding listed spells
listed_opens [] rest h = absurd (omega arith)
listed_opens (a ∷ l) rest h = (spell a ++ listed 44 (spells l) ++ rest, refl)

module _ (d : ℕ) (s : List ℕ) (k : ℕ) (l : List Tree) (t : Tree) (p n : ℕ) (rest : List ℕ) (each : EachFate d s (expr_at d s) l)
    (spelt : spell t ≡ name_of k ++ listed 40 (spells l)) (count : nodes t ≡ suc (total l)) (call : (q m : ℕ) → call_of k l q m ≡ part t q m) (e : drop p s ≡ spell t ++ rest) where
  row_fate : (r : Call) → row_in calls k ≡ known r → Good r → of_row r.suited r.kind k ≡ true → r.arguments ≡ length l → n < 128
      → Fate t (p + width t) (n + nodes t) (d < deepest l) (128 < n + nodes t) (Each Small l → ⊥) (expr_at (suc d) s p n)
  row_fate r er g kind few room =
      let S : List ℕ = suite_part r.suited (k - r.kind) in
      let L : List ℕ = listed 40 (spells l) in
      let whole : spell t ≡ r.letters ++ S ++ L = spelt ∙ ap (λ (w : List ℕ). w ++ L) (name_is k r er) in
      let e1 : drop p s ≡ r.letters ++ (S ++ (L ++ rest)) =
      e ∙ ap (λ (w : List ℕ). w ++ rest) whole ∙ append_assoc (r.letters ++ S) L rest ∙ append_assoc r.letters S (L ++ rest) in
      let least = g.least in
      let opens = listed_opens l rest (omega arith) in
      let ends : run_of is_letter (S ++ (L ++ rest)) ≡ 0 = ap (λ (w : List ℕ). run_of is_letter (S ++ w)) opens.1 ∙ name_ends r.suited (k - r.kind) opens.0 in
      let e2 : drop (p + length r.letters) s ≡ S ++ (L ++ rest) = stands_after s p r.letters (S ++ (L ++ rest)) e1 in
      let place : p + length r.letters + length S + length L ≡ p + width t =
      omega (arith, length_spell t, ap length whole, length-append (r.letters ++ S) L, length-append r.letters S) in
      let all : n + 1 + total l ≡ n + nodes t = omega arith in
      let same : expr_at (suc d) s p n ≡ suite_at (expr_at d s) s r.suited r (p + length r.letters) n =
      call_start d s p n r.letters (S ++ (L ++ rest)) g.some g.letters room e1
      ∙ letters-read (expr_at d s) s p n r r.letters (S ++ (L ++ rest)) g.named g.letters ends e1 in
      rw same (rw (← place, ← all) (suite_fate d (expr_at d s) s k l t n rest each call r.suited r (p + length r.letters) kind few e2))

  call_fate : (c : ℕ) → arguments_of k ≡ suc c → length l ≡ suc c → n < 128
      → Fate t (p + width t) (n + nodes t) (d < deepest l) (128 < n + nodes t) (Each Small l → ⊥) (expr_at (suc d) s p n)
  call_fate c h len room =
      let R = row_of k c h in
      row_fate R.call R.is R.good R.kind (R.count ∙ sym len) room

pub when_count : arguments_of when_kind ≡ 3
unfolding arguments_of arguments_in calls plain cipher of_row pick
when_count = refl

pub three_call : (k : ℕ) (a b c : Tree) → (k ≡ when_kind → ⊥) → (q m : ℕ) → call_of k (a ∷ (b ∷ (c ∷ []))) q m ≡ part (three k a b c) q m
unfolding call_of pick
three_call k a b c h q m = rw (ne_eqb k when_kind h)

pub when_call : (a b c : Tree) (q m : ℕ) → call_of when_kind (a ∷ (b ∷ (c ∷ []))) q m ≡ part (when a b c) q m
unfolding call_of pick
when_call a b c q m = refl

fate_weak : {A : Type 0} (a : A) (q m : ℕ) (D M L D' L' : Type 0) (x : Part A) → (D → D') → (L → L') → Fate a q m D M L x → Fate a q m D' M L' x
fate_weak a q m D M L D' L' x gd gl fine = fine
fate_weak a q m D M L D' L' x gd gl (deep w h) = deep w (gd h)
fate_weak a q m D M L D' L' x gd gl (many w h) = many w h
fate_weak a q m D M L D' L' x gd gl (long w h) = long w (gl h)

some_node : (t : Tree) → 0 < nodes t
unfolding nodes
some_node (literal v) = omega arith
some_node (bound n) = omega arith
some_node (row n) = omega arith
some_node (run n) = omega arith
some_node (one k a) = omega arith
some_node (two k a b) = omega arith
some_node (three k a b c) = omega arith
some_node (four k a b c d) = omega arith
some_node (when c a b) = omega arith

pub max_last : (x : ℕ) → x ≡ max x 0
max_last x = omega arith

some_depth : (t : Tree) → 0 < depth t
unfolding depth
some_depth (literal v) = omega arith
some_depth (bound n) = omega arith
some_depth (row n) = omega arith
some_depth (run n) = omega arith
some_depth (one k a) = omega arith
some_depth (two k a b) = omega arith
some_depth (three k a b c) = omega arith
some_depth (four k a b c d) = omega arith
some_depth (when c a b) = omega arith

-- 23 is tested before the first byte
room_fate : (t : Tree) (d : ℕ) (s : List ℕ) (p n q m : ℕ) (D L : Type 0)
    → (n < 128 → Fate t q m D (128 < n + nodes t) L (expr_at (suc d) s p n))
    → Fate t q m D (128 < n + nodes t) L (expr_at (suc d) s p n)
unfolding expr_at pick
room_fate t d s p n q m D L f = go (leb 128 n) refl
  where
    full : 128 ≤ n → 128 < n + nodes t
    full h = omega (arith, some_node t)

    go : (b : Bool) → leb 128 n ≡ b → Fate t q m D (128 < n + nodes t) L (expr_at (suc d) s p n)
    go true e = rw e (many p (full (leb-true 128 n e)))
    go false e = f (leb-false 128 n e)

literal_fate : (v : List ℕ) (p q m : ℕ) (D M : Type 0) (b : Bool) → leb (length v) 1024 ≡ b → Fate (literal v) q m D M (Small (literal v) → ⊥) (pick b (part (literal v) q m) (bad 6 p))
unfolding Small pick
literal_fate v p q m D M true e = fine
literal_fate v p q m D M false e = long p (λ h. omega (arith, leb-false (length v) 1024 e))

abbrev FateIn : ℕ → List ℕ → ℕ → ℕ → Tree → Type 0
FateIn d s p n t = Fate t (p + width t) (n + nodes t) (d < depth t) (128 < n + nodes t) (Small t → ⊥) (expr_at d s p n)

zero_fate : (t : Tree) (s : List ℕ) (p n : ℕ) → FateIn 0 s p n t
unfolding expr_at
zero_fate t s p n = deep p (some_depth t)

leaf_fate : (t : Tree) (d : ℕ) (s : List ℕ) (p n : ℕ) (D L : Type 0) → width t ≡ 2 → nodes t ≡ 1 → (n < 128 → expr_at (suc d) s p n ≡ part t (p + 2) (n + 1))
    → Fate t (p + width t) (n + nodes t) D (128 < n + nodes t) L (expr_at (suc d) s p n)
leaf_fate t d s p n D L ew en f =
    room_fate t d s p n (p + width t) (n + nodes t) D L
    (λ room. rw (f room) (fate_as t (p + 2) (n + 1) (p + width t) (n + nodes t) D (128 < n + nodes t) L (part t (p + 2) (n + 1)) (place ew) (count en) fine))
  where
    place : {w : ℕ} → w ≡ 2 → p + 2 ≡ p + w
    place e = omega arith

    count : {w : ℕ} → w ≡ 1 → n + 1 ≡ n + w
    count e = omega arith

literal_case : (v : List ℕ) (d : ℕ) (s : List ℕ) (p n : ℕ) (r : List ℕ) → Proper (literal v) → drop p s ≡ spell (literal v) ++ r → FateIn (suc d) s p n (literal v)
unfolding Proper nodes spell width by_start start_of pick
literal_case v d s p n r h e =
    room_fate (literal v) d s p n (p + (2 + 2 * length v)) (n + 1) (suc d < depth (literal v)) (Small (literal v) → ⊥)
    (
    λ room.
    rw
    (start_read d s p n 39 (pairs v ++ (39 ∷ []) ++ r) room e ∙ literal_read s p n v r h (e ∙ ap (λ (w : List ℕ). 39 ∷ w) (append_assoc (pairs v) (39 ∷ []) r)))
    (literal_fate v p (p + (2 + 2 * length v)) (n + 1) (suc d < depth (literal v)) (128 < n + 1) (leb (length v) 1024) refl)
    )

bound_case : (x d : ℕ) (s : List ℕ) (p n : ℕ) (r : List ℕ) → Proper (bound x) → drop p s ≡ spell (bound x) ++ r → FateIn (suc d) s p n (bound x)
unfolding Proper nodes spell width by_start start_of pick
bound_case x d s p n r h e =
    leaf_fate (bound x) d s p n (suc d < depth (bound x)) (Small (bound x) → ⊥) refl refl
    (λ room. start_read d s p n 35 ((48 + x) ∷ r) room e ∙ name_read bound 51 s p n 35 x r (omega arith) e)

row_case : (x d : ℕ) (s : List ℕ) (p n : ℕ) (r : List ℕ) → Proper (row x) → drop p s ≡ spell (row x) ++ r → FateIn (suc d) s p n (row x)
unfolding Proper nodes spell width by_start start_of pick
row_case x d s p n r h e =
    leaf_fate (row x) d s p n (suc d < depth (row x)) (Small (row x) → ⊥) refl refl
    (λ room. start_read d s p n 36 ((48 + x) ∷ r) room e ∙ name_read row 55 s p n 36 x r (omega arith) e)

run_case : (x d : ℕ) (s : List ℕ) (p n : ℕ) (r : List ℕ) → Proper (run x) → drop p s ≡ spell (run x) ++ r → FateIn (suc d) s p n (run x)
unfolding Proper nodes spell width by_start start_of pick
run_case x d s p n r h e =
    leaf_fate (run x) d s p n (suc d < depth (run x)) (Small (run x) → ⊥) refl refl
    (λ room. start_read d s p n 64 ((48 + x) ∷ r) room e ∙ name_read run 51 s p n 64 x r (omega arith) e)

-- a call whose arguments are these
call_case : (t : Tree) (k c : ℕ) (l : List Tree) (d : ℕ) (s : List ℕ) (p n : ℕ) (r : List ℕ) → EachFate d s (expr_at d s) l → arguments_of k ≡ suc c → length l ≡ suc c
    → spell t ≡ name_of k ++ listed 40 (spells l)
    → nodes t ≡ suc (total l)
    → depth t ≡ suc (deepest l)
    → (Small t → Each Small l)
    → ((q m : ℕ) → call_of k l q m ≡ part t q m)
    → drop p s ≡ spell t ++ r
    → FateIn (suc d) s p n t
call_case t k c l d s p n r each ka len spelt count tall small call e =
    room_fate t d s p n (p + width t) (n + nodes t) (suc d < depth t) (Small t → ⊥)
    (
    λ room.
    fate_weak t (p + width t) (n + nodes t) (d < deepest l) (128 < n + nodes t) (Each Small l → ⊥) (suc d < depth t) (Small t → ⊥) (expr_at (suc d) s p n) (λ g. omega arith)
    (λ g w. g (small w)) (call_fate d s k l t p n r each spelt count call e c ka len room)
    )

-- what is spelt is read, but for the bounds
pub spelt_fate : (t : Tree) (d : ℕ) (s : List ℕ) (p n : ℕ) (r : List ℕ) → Proper t → drop p s ≡ spell t ++ r → FateIn d s p n t
unfolding Proper Small depth nodes spell spells total deepest call_of
spelt_fate t zero s p n r h e = zero_fate t s p n
spelt_fate (literal v) (suc d) s p n r h e = literal_case v d s p n r h e
spelt_fate (bound x) (suc d) s p n r h e = bound_case x d s p n r h e
spelt_fate (row x) (suc d) s p n r h e = row_case x d s p n r h e
spelt_fate (run x) (suc d) s p n r h e = run_case x d s p n r h e
spelt_fate (one k a) (suc d) s p n r h e =
    call_case (one k a) k 0 (a ∷ []) d s p n r (λ p n r e. spelt_fate a d s p n r h.1 e, tt) h.0 refl refl (omega arith) (omega arith) (λ w. (w, tt)) (λ q m. refl) e
spelt_fate (two k a b) (suc d) s p n r h e =
    call_case (two k a b) k 1 (a ∷ b ∷ []) d s p n r (λ p n r e. spelt_fate a d s p n r h.1 e, (λ p n r e. spelt_fate b d s p n r h.2 e, tt)) h.0 refl refl (omega arith)
    (omega arith) (λ w. (w.0, (w.1, tt))) (λ q m. refl) e
spelt_fate (three k a b c) (suc d) s p n r h e =
    call_case (three k a b c) k 2 (a ∷ b ∷ c ∷ []) d s p n r
    (λ p n r e. spelt_fate a d s p n r h.2 e, (λ p n r e. spelt_fate b d s p n r h.3 e, (λ p n r e. spelt_fate c d s p n r h.4 e, tt))) h.0 refl refl (omega arith)
    (omega arith) (λ w. (w.0, (w.1, (w.2, tt)))) (three_call k a b c h.1) e
spelt_fate (four k a b c g) (suc d) s p n r h e =
    call_case (four k a b c g) k 3 (a ∷ b ∷ c ∷ g ∷ []) d s p n r (
      λ p n r e. spelt_fate a d s p n r h.1 e,
      (λ p n r e. spelt_fate b d s p n r h.2 e, (λ p n r e. spelt_fate c d s p n r h.3 e, (λ p n r e. spelt_fate g d s p n r h.4 e, tt))),
    )
    h.0 refl refl (omega arith) (ap (λ (x : ℕ). suc (max (depth a) (max (depth b) (max (depth c) x)))) (max_last (depth g))) (λ w. (w.0, (w.1, (w.2, (w.3, tt)))))
    (λ q m. refl) e
spelt_fate (when c a b) (suc d) s p n r h e =
    call_case (when c a b) when_kind 2 (c ∷ a ∷ b ∷ []) d s p n r
    (λ p n r e. spelt_fate c d s p n r h.0 e, (λ p n r e. spelt_fate a d s p n r h.1 e, (λ p n r e. spelt_fate b d s p n r h.2 e, tt))) when_count refl refl (omega arith)
    (omega arith) (λ w. (w.0, (w.1, (w.2, tt)))) (when_call c a b) e

-- a tree within the bounds is read wherever it is spelt
pub spelt_read : (t : Tree) (d : ℕ) (s : List ℕ) (p n : ℕ) (r : List ℕ) → Proper t → Small t → depth t ≤ d → n + nodes t ≤ 128 → drop p s ≡ spell t ++ r
    → expr_at d s p n ≡ part t (p + width t) (n + nodes t)
spelt_read t d s p n r h small shallow few e = go (expr_at d s p n) (spelt_fate t d s p n r h e)
  where
    go : (x : Part Tree) → Fate t (p + width t) (n + nodes t) (d < depth t) (128 < n + nodes t) (Small t → ⊥) x → x ≡ part t (p + width t) (n + nodes t)
    go x fine = refl
    go x (deep w g) = absurd (omega arith)
    go x (many w g) = absurd (omega arith)
    go x (long w g) = absurd (g small)

-- reading a tree's spelling gives the tree, where the bounds hold
pub read_spell : (t : Tree) → Within t → read_text (spell t) ≡ got t
unfolding read_text end_at pick
read_spell t h =
    let few = h.few in
    let e : expr_at 16 (spell t) 0 0 ≡ part t (0 + width t) (0 + nodes t) =
    spelt_read t 16 (spell t) 0 0 [] h.proper h.small h.shallow (omega arith) (sym (append-nil (spell t))) in
    rw (e, le-leb (length (spell t)) (0 + width t) (omega (arith, length_spell t)))

pub take_spell : (t : Tree) → Within t → width t ≤ 4096 → take_text (spell t) ≡ got t
unfolding take_text pick
take_spell t h w = rw (le-leb (length (spell t)) 4096 (omega (arith, length_spell t))) (read_spell t h)

-- a text of section 5, whatever its bounds, is never refused as such: each number tells which bound does not hold
pub data Judged (t : Tree) : Read → Type 0 where
  good : Judged t (got t)
  deep : (w : ℕ) → 16 < depth t → Judged t (wrong 22 w)
  many : (w : ℕ) → 128 < nodes t → Judged t (wrong 23 w)
  long : (w : ℕ) → (Small t → ⊥) → Judged t (wrong 6 w)

pub spell_judged : (t : Tree) → Proper t → Judged t (read_text (spell t))
unfolding read_text end_at pick
spell_judged t h = go (expr_at 16 (spell t) 0 0) (spelt_fate t 16 (spell t) 0 0 [] h (sym (append-nil (spell t))))
  where
    ends : leb (length (spell t)) (0 + width t) ≡ true
    ends = le-leb (length (spell t)) (0 + width t) (omega (arith, length_spell t))

    go : (x : Part Tree) → Fate t (0 + width t) (0 + nodes t) (16 < depth t) (128 < 0 + nodes t) (Small t → ⊥) x → Judged t (end_at (spell t) x)
    go x fine = rw ends good
    go x (deep w g) = deep w g
    go x (many w g) = many w (omega arith)
    go x (long w g) = long w g
