-- The byte at the place of 20 is not allowed: no text of section 5 begins with the text up to and with it.
use mathlib.Core.Bool.{Bool, true, false}
use mathlib.Core.List.{List, [], ◌∷◌, ◌++◌}
use mathlib.Core.Path.{◌≡◌, refl, sym, ap, ap₂, ◌∙◌}
use Prim.Native.Nat.{ℕ, zero, suc, ◌+◌, ◌-◌, ◌*◌, ◌/◌, ◌%◌, ◌≤◌, ◌<◌}
use native.Mathlib.Omega.{arith}
use lib.Dec.{eqb, leb}
use lib.ListN.{length, take, drop, get_or, length-drop, length-take, take-append-drop}
use lib.Seq.{drop-drop, drop_at, take_at, take-take, take-add, get_or-take, get_or-drop, length-take-le}
use borrow.Author.Tests.{leb-false, lt-leb}
use Rattle.common.specs.Choice.{pick}
use Rattle.common.specs.Places.{tab}
use Rattle.tree.specs.Tree.{Tree}
use Rattle.tree.specs.Tree.Tree.{literal, bound, row, run}
use Rattle.tree.specs.Calls.{Call, calls}
use Rattle.tree.specs.Bounds.{Proper}
use Rattle.tree.specs.Reading.Read.{got, wrong}
use Rattle.tree.proofs.Read.{got_wrong, same_wrong}
use Rattle.texts.specs.Spelling.{Found, spell, width}
use Rattle.texts.specs.Spelling.Found.{known, unknown}
use Rattle.texts.specs.Reading.{Part, Due, then_part, between, is_letter, is_hex, run_of, due_at, if_due, pair_at, literal_of, literal_at, name_at, call_in, call_of, start_of, args_at, list_at, suite_at, named_at, call_on, by_start, expr_at, end_at, read_text}
use Rattle.texts.specs.Reading.Part.{part, bad}
use Rattle.texts.specs.Reading.Due.{stands, missing}
use Rattle.texts.specs.Reading.Start.{quote, hash, dollar, sign, letter, other}
use Rattle.texts.proofs.Standing.{stands_here, Stood, due_is_lem, run_is, run_pass, run_within}
use Rattle.texts.proofs.Table.{Good, all_good, by_letters}
use Rattle.texts.proofs.Width.{length_spell}
use Rattle.texts.proofs.Spelt.{spelt_read}
use Rattle.texts.proofs.Back.{args_back, expr_back}
use Rattle.texts.proofs.Ways.{expr_taken}
use Rattle.texts.proofs.Allowed.{same_bad, part_bad, then_bad, call_total}
use Rattle.texts.proofs.Exactly.{syntax_only}

-- how far reading has to look for a 20 at w: the byte itself, or a run of letters that is no name, to the byte after it
pub data Extent (s : List ℕ) (w : ℕ) : ℕ → Type 0 where
  byte : Extent s w (w + 1)
  name : call_in calls (take (run_of is_letter (drop w s)) (drop w s)) ≡ unknown → Extent s w (w + run_of is_letter (drop w s) + 1)

extent_past : (s : List ℕ) (w e : ℕ) → Extent s w e → w < e
extent_past s w e byte = omega arith
extent_past s w e (name h) = omega arith

-- another text that begins with the same e bytes
pub record Agree (s z : List ℕ) (e : ℕ) : Type 0 where
  pub same : take e z ≡ take e s
  pub here : e ≤ length s
  pub there : e ≤ length z

module _ (s z : List ℕ) (e : ℕ) (A : Agree s z e) where
  agree_at : (i : ℕ) → i < e → get_or z i 0 ≡ get_or s i 0
  agree_at i h = sym (get_or-take e z i 0 h) ∙ ap (λ (l : List ℕ). get_or l i 0) A.same ∙ get_or-take e s i 0 h

  agree_due : (lo hi p : ℕ) → p < e → due_at z lo hi p ≡ due_at s lo hi p
  unfolding due_at pick
  agree_due lo hi p h =
      let l1 = A.here in
      let l2 = A.there in
      rw (lt-leb (length z) p (omega arith), lt-leb (length s) p (omega arith), agree_at p h)

  agree_take : (u : ℕ) → u ≤ e → take u z ≡ take u s
  agree_take u h = sym (take-take u e z h) ∙ ap (take u) A.same ∙ take-take u e s h

  part_of : (x : List ℕ) (p k : ℕ) → p + k ≤ length x → drop p (take (p + k) x) ≡ take k (drop p x)
  part_of x p k h = ap (drop p) (take-add p k x) ∙ drop_at (take p x) (take k (drop p x)) p (length-take-le p x (omega arith))

  agree_drop : (p k : ℕ) → p + k ≤ e → take k (drop p z) ≡ take k (drop p s)
  agree_drop p k h =
      let l1 = A.here in
      let l2 = A.there in
      sym (part_of z p k (omega arith)) ∙ ap (drop p) (agree_take (p + k) h) ∙ part_of s p k (omega arith)

  -- what was read before e is read in the other text too
  agree_part : (d q n : ℕ) (a : Tree) (u m : ℕ) → u ≤ e → expr_at d s q n ≡ part a u m → expr_at d z q n ≡ part a u m
  agree_part d q n a u m h f =
      let B = expr_back d s q n a u m f in
      let T = expr_taken d s q n a u m f in
      let c = B.count in
      let few = B.few in
      let place = T.place in
      let there : drop q z ≡ spell a ++ drop u z =
      sym (take-append-drop (width a) (drop q z))
      ∙ ap₂ (λ (x y : List ℕ). x ++ y)
      (agree_drop q (width a) (omega arith) ∙ ap (take (width a)) B.same ∙ take_at (spell a) (drop u s) (width a) (length_spell a))
      (drop-drop (width a) q z ∙ ap (λ (i : ℕ). drop i z) (sym place)) in
      spelt_read a d z q n (drop u z) B.proper B.small B.deep (omega arith) there
      ∙ ap₂ (λ (x y : ℕ). part a x y) (sym place) (sym c)

-- where a run ends within the text, the test fails
run_fails : (test : ℕ → Bool) (s : List ℕ) → run_of test s < length s → test (get_or s (run_of test s) 0) ≡ false
unfolding run_of pick
run_fails test [] h = absurd (omega arith)
run_fails test (x ∷ s) h = go (test x) refl (run_fails test s) h
  where
    go : (b : Bool) → test x ≡ b → (run_of test s < length s → test (get_or s (run_of test s) 0) ≡ false) → pick b (suc (run_of test s)) 0 < suc (length s)
        → test (get_or (x ∷ s) (pick b (suc (run_of test s)) 0) 0) ≡ false
    go true e ih l = ih (omega arith)
    go false e ih l = e

stops : (test : ℕ → Bool) (x : ℕ) (l : List ℕ) → test x ≡ false → run_of test (x ∷ l) ≡ 0
unfolding run_of pick
stops test x l e = rw e

module _ (s z : List ℕ) (e : ℕ) (A : Agree s z e) (test : ℕ → Bool) (p : ℕ) (h : p + run_of test (drop p s) < e) where
  -- a run that ends before e is as long in the other text
  agree_run : run_of test (drop p z) ≡ run_of test (drop p s)
  agree_run =
      let k : ℕ = run_of test (drop p s) in
      let l1 = A.here in
      let l2 = A.there in
      let D : List ℕ = take k (drop p s) in
      let x : ℕ = get_or s (p + k) 0 in
      let size : length D ≡ k = length-take-le k (drop p s) (run_within test (drop p s)) in
      let fails : test x ≡ false = ap test (sym (get_or-drop p s k 0)) ∙ run_fails test (drop p s) (omega (arith, length-drop p s)) in
      let split : drop p z ≡ D ++ (x ∷ drop (p + k + 1) z) =
      sym (take-append-drop k (drop p z))
      ∙ ap₂ (λ (y w : List ℕ). y ++ w) (agree_drop s z e A p k (omega arith))
      (drop-drop k p z ∙ stands_here z (p + k) (omega arith) ∙ ap (λ (y : ℕ). y ∷ drop (p + k + 1) z) (agree_at s z e A (p + k) h)) in
      ap (run_of test) split ∙ run_is test D (x ∷ drop (p + k + 1) z) (run_pass test (drop p s)) (stops test x (drop (p + k + 1) z) fails) ∙ size

-- a byte that is missing within the text is missing where it was due
missing_at : (s : List ℕ) (lo hi p u : ℕ) → p ≤ length s → due_at s lo hi p ≡ missing u → u < length s → u ≡ p
unfolding due_at pick
missing_at s lo hi p u h e l = go (leb (length s) p) (between lo hi (get_or s p 0)) e
  where
    same_missing : {x y : ℕ} → missing x ≡ missing y → x ≡ y
    same_missing f = cc

    stands_missing : {x : ℕ} → stands ≡ missing x → ⊥
    stands_missing f = let z : ◌≡◌ {A = ℕ} 0 1 = cc in omega arith

    go : (b c : Bool) → pick b (missing (length s)) (pick c stands (missing p)) ≡ missing u → u ≡ p
    go true c f = absurd (omega (arith, same_missing f))
    go false true f = absurd (stands_missing f)
    go false false f = sym (same_missing f)

-- a refusal 20 at w of what is read at q: every text that begins so is refused there
pub record Blocks {A : Type 0} (s : List ℕ) (q w : ℕ) (read : List ℕ → Part A) : Type 0 where
  pub after : q ≤ w
  pub extent : ℕ
  pub is : Extent s w extent
  pub same : (z : List ℕ) → Agree s z extent → read z ≡ bad 20 w

past : {A : Type 0} (s : List ℕ) (q w : ℕ) (read : List ℕ → Part A) (B : Blocks s q w read) → w < B.extent
past s q w read B = extent_past s w B.extent B.is

-- the byte at w alone tells
block_here : {A : Type 0} (s : List ℕ) (q w : ℕ) (read : List ℕ → Part A) → q ≤ w → ((z : List ℕ) → Agree s z (w + 1) → read z ≡ bad 20 w) → Blocks s q w read
block_here s q w read h f = record { after = h; extent = w + 1; is = byte; same = f }

block_as : {A : Type 0} (s : List ℕ) (p q w : ℕ) (read full : List ℕ → Part A) → p ≤ q → (B : Blocks s q w read) → ((z : List ℕ) → Agree s z B.extent → full z ≡ read z) → Blocks s p w full
block_as s p q w read full h B f =
    let a = B.after in
    record { after = omega arith; extent = B.extent; is = B.is; same = λ z g. f z g ∙ B.same z g }

-- a byte is due at p
block_due : {A : Type 0} (s : List ℕ) (lo hi p w : ℕ) (X : List ℕ → Part A) → w < length s → p ≤ length s → (Stood s lo hi p → X s ≡ bad 20 w → Blocks s p w X)
    → if_due (due_at s lo hi p) (X s) ≡ bad 20 w
    → Blocks s p w (λ z. if_due (due_at z lo hi p) (X z))
unfolding if_due
block_due {A} s lo hi p w X inside h f e = go (due_at s lo hi p) refl e
  where
    there : (d : Due) → due_at s lo hi p ≡ d → (z : List ℕ) (i : ℕ) → p < i → Agree s z i → if_due (due_at z lo hi p) (X z) ≡ if_due d (X z)
    there d ed z i l a = ap (λ (y : Due). if_due y (X z)) (agree_due s z i a lo hi p l ∙ ed)

    go : (d : Due) → due_at s lo hi p ≡ d → if_due d (X s) ≡ bad 20 w → Blocks s p w (λ z. if_due (due_at z lo hi p) (X z))
    go stands ed g =
        let B = f (due_is_lem s lo hi p ed) g in
        block_as s p p w X (λ z. if_due (due_at z lo hi p) (X z)) (omega arith) B (λ z a. there stands ed z B.extent (omega (arith, past s p w X B, B.after)) a)
    go (missing u) ed g =
        let eu : u ≡ w = (same_bad g).1 in
        let ew : u ≡ p = missing_at s lo hi p u h ed (omega arith) in
        block_here s p w (λ z. if_due (due_at z lo hi p) (X z)) (omega arith)
        (λ z a. there (missing u) ed z (w + 1) (omega arith) a ∙ ap (λ (i : ℕ). bad 20 i) eu)

-- after a part that both texts have
block_part : {A B : Type 0} (s : List ℕ) (p q w : ℕ) (x : List ℕ → Part A) (f : List ℕ → A → ℕ → ℕ → Part B) (a : A) (u m : ℕ) → p ≤ q
    → (L : Blocks s q w (λ z. f z a u m))
    → ((z : List ℕ) → Agree s z L.extent → x z ≡ part a u m)
    → Blocks s p w (λ z. then_part (x z) (f z))
unfolding then_part
block_part s p q w x f a u m h L g = block_as s p q w (λ z. f z a u m) (λ z. then_part (x z) (f z)) h L (λ z A. there z (g z A))
  where
    there : (z : List ℕ) → x z ≡ part a u m → then_part (x z) (f z) ≡ f z a u m
    there z e = rw e

-- at a part that is refused
block_in : {A B : Type 0} (s : List ℕ) (p q w : ℕ) (x : List ℕ → Part A) (f : List ℕ → A → ℕ → ℕ → Part B) → p ≤ q → Blocks s q w x → Blocks s p w (λ z. then_part (x z) (f z))
unfolding then_part
block_in s p q w x f h L =
    let a = L.after in
    record { after = omega arith; extent = L.extent; is = L.is; same = λ z A. there z (L.same z A) }
  where
    there : (z : List ℕ) → x z ≡ bad 20 w → then_part (x z) (f z) ≡ bad 20 w
    there z e = rw e

-- the same letters name the same call
same_name : (s z : List ℕ) (e : ℕ) → Agree s z e → (d p n : ℕ) (f : Found) → call_in calls (take (run_of is_letter (drop p s)) (drop p s)) ≡ f → p + run_of is_letter (drop p s) < e
    → call_on (expr_at d z) z (run_of is_letter (drop p z)) p n ≡ named_at (expr_at d z) z f p (p + run_of is_letter (drop p s)) n
unfolding call_on
same_name s z e A d p n f ef h =
    let k : ℕ = run_of is_letter (drop p s) in
    let run_same : run_of is_letter (drop p z) ≡ k = agree_run s z e A is_letter p h in
    let word : call_in calls (take k (drop p z)) ≡ f = ap (call_in calls) (agree_drop s z e A p k (omega arith)) ∙ ef in
    rw (run_same, word)

unknown_block : (d : ℕ) (s : List ℕ) (p n : ℕ) → call_in calls (take (run_of is_letter (drop p s)) (drop p s)) ≡ unknown
    → Blocks s p p (λ z. call_on (expr_at d z) z (run_of is_letter (drop p z)) p n)
unfolding named_at
unknown_block d s p n ef =
    record {
      after = omega arith;
      extent = p + run_of is_letter (drop p s) + 1;
      is = name ef;
      same = λ z A. same_name s z (p + run_of is_letter (drop p s) + 1) A d p n unknown ef (omega arith);
    }

-- after a sign the digit is due
name_block : (leaf : ℕ → Tree) (hi : ℕ) (s : List ℕ) (p n w : ℕ) → w < length s → p < length s → name_at leaf hi s p n ≡ bad 20 w → Blocks s p w (λ z. name_at leaf hi z p n)
unfolding name_at
name_block leaf hi s p n w inside h e =
    block_as s p (p + 1) w (λ z. if_due (due_at z 48 hi (p + 1)) (part (leaf (get_or z (p + 1) 0 - 48)) (p + 2) (n + 1))) (λ z. name_at leaf hi z p n) (omega arith)
    (block_due s 48 hi (p + 1) w (λ z. part (leaf (get_or z (p + 1) 0 - 48)) (p + 2) (n + 1)) inside (omega arith) (λ st f. absurd (part_bad f)) e) (λ z A. refl)

-- after the first quote and k digits the closing quote is due, in whole pairs
pairs_block : (s : List ℕ) (p n k w : ℕ) → w < length s → p + 1 + k ≤ length s → literal_of s p n k ≡ bad 20 w → Blocks s (p + 1 + k) w (λ z. literal_of z p n k)
unfolding literal_of pick
pairs_block s p n k w inside h e = block_due s 39 39 (p + 1 + k) w X inside h (λ st f. odd (eqb (k % 2) 0) refl (leb (k / 2) 1024) f) e
  where
    X : List ℕ → Part Tree
    X z = pick (eqb (k % 2) 0) (pick (leb (k / 2) 1024) (part (literal (tab (k / 2) (λ i. pair_at z (p + 1 + 2 * i)))) (p + 1 + k + 1) (n + 1)) (bad 6 p)) (bad 20 (p + 1 + k))

    odd : (b : Bool) → eqb (k % 2) 0 ≡ b → (c : Bool)
        → pick b (pick c (part (literal (tab (k / 2) (λ i. pair_at s (p + 1 + 2 * i)))) (p + 1 + k + 1) (n + 1)) (bad 6 p)) (bad 20 (p + 1 + k)) ≡ bad 20 w
        → Blocks s (p + 1 + k) w X
    odd true eb true f = absurd (part_bad f)
    odd true eb false f = let y : ◌≡◌ {A = ℕ} 6 20 = (same_bad f).0 in absurd (omega arith)
    odd false eb c f =
        let ew : p + 1 + k ≡ w = (same_bad f).1 in
        block_here s (p + 1 + k) w X (omega arith) (λ z A. rw eb (ap (λ (i : ℕ). bad 20 i) ew))

literal_block : (s : List ℕ) (p n w : ℕ) → w < length s → p < length s → literal_at s p n ≡ bad 20 w → Blocks s p w (λ z. literal_at z p n)
unfolding literal_at
literal_block s p n w inside h e =
    let k : ℕ = run_of is_hex (drop (p + 1) s) in
    let L = pairs_block s p n k w inside (omega (arith, run_within is_hex (drop (p + 1) s), length-drop (p + 1) s)) e in
    let l = L.after in
    block_as s p (p + 1 + k) w (λ z. literal_of z p n k) (λ z. literal_of z p n (run_of is_hex (drop (p + 1) z))) (omega arith) L
    (λ z A. ap (literal_of z p n) (agree_run s z L.extent A is_hex (p + 1) (omega (arith, past s (p + 1 + k) w (λ z. literal_of z p n k) L))))

module _ (d : ℕ) (s : List ℕ) (w : ℕ) (inside : w < length s) (expr : (p n : ℕ) → p ≤ length s → expr_at d s p n ≡ bad 20 w → Blocks s p w (λ z. expr_at d z p n)) where
  abbrev Args : ℕ → ℕ → ℕ → ℕ → List ℕ → Part (List Tree)
  Args left c p n z = args_at (expr_at d z) z left c p n

  rest_of : ℕ → List ℕ → Tree → ℕ → ℕ → Part (List Tree)
  rest_of left z a q m = then_part (Args left 44 q m z) (λ l u k. part (a ∷ l) u k)

  args_block : (left c p n : ℕ) → p ≤ length s → Args left c p n s ≡ bad 20 w → Blocks s p w (Args left c p n)
  unfolding args_at rest_of
  args_block zero c p n h e = block_due s 41 41 p w (λ z. part [] (p + 1) n) inside h (λ st f. absurd (part_bad f)) e
  args_block (suc left) c p n h e =
      block_due s c c p w (λ z. then_part (expr_at d z (p + 1) n) (rest_of left z)) inside h
      (
      λ st f.
      then_bad (Blocks s p w (λ z. then_part (expr_at d z (p + 1) n) (rest_of left z))) (expr_at d s (p + 1) n) (rest_of left s) 20 w
      (λ g. block_in s p (p + 1) w (λ z. expr_at d z (p + 1) n) (rest_of left) (omega arith) (expr (p + 1) n (omega (arith, st.inside)) g))
      (
      λ a q m g i.
      then_bad (Blocks s p w (λ z. then_part (expr_at d z (p + 1) n) (rest_of left z))) (Args left 44 q m s) (λ l u k. part (a ∷ l) u k) 20 w
      (
      λ j.
      let T = expr_taken d s (p + 1) n a q m g in
      let L = args_block left 44 q m T.most j in
      let more = T.more in
      let R : List ℕ → Part (List Tree) = λ z. then_part (Args left 44 q m z) (λ l u k. part (a ∷ l) u k) in
      let K : Blocks s q w R = block_in s q q w (Args left 44 q m) (λ z l u k. part (a ∷ l) u k) (omega arith) L in
      let l = K.after in
      block_part s p q w (λ z. expr_at d z (p + 1) n) (rest_of left) a q m (omega arith) K
      (λ z A. agree_part s z K.extent A d (p + 1) n a q m (omega (arith, past s q w R K)) g)
      )
      (λ l u k j x. absurd (part_bad x)) i
      )
      f
      )
      e

  list_block : (k c p n : ℕ) → 1 ≤ c → c ≤ 4 → p ≤ length s → list_at (expr_at d s) s k c p n ≡ bad 20 w → Blocks s p w (λ z. list_at (expr_at d z) z k c p n)
  unfolding list_at
  list_block k c p n h g inside-p e =
      then_bad (Blocks s p w (λ z. then_part (Args c 40 p (n + 1) z) (call_of k))) (Args c 40 p (n + 1) s) (call_of k) 20 w
      (λ f. block_in s p p w (Args c 40 p (n + 1)) (λ z. call_of k) (omega arith) (args_block c 40 p (n + 1) inside-p f))
      (
      λ l q m f i.
      let size = (args_back d (expr_at d s) s c 40 p (n + 1) l q m (λ p n t q m. expr_back d s p n t q m) f).size in
      let t = call_total k l q m (omega arith) (omega arith) in
      absurd (part_bad (sym t.1 ∙ i))
      )
      e

  suite_block : (b : Bool) (r : Call) (p n : ℕ) → Good r → p ≤ length s → suite_at (expr_at d s) s b r p n ≡ bad 20 w → Blocks s p w (λ z. suite_at (expr_at d z) z b r p n)
  unfolding suite_at
  suite_block false r p n g h e = list_block r.kind r.arguments p n g.least g.most h e
  suite_block true r p n g h e =
      block_due s 46 46 p w (λ z. if_due (due_at z 49 53 (p + 1)) (list_at (expr_at d z) z (r.kind + (get_or z (p + 1) 0 - 48)) r.arguments (p + 2) n)) inside h
      (
      λ st f.
      block_as s p (p + 1) w (λ z. if_due (due_at z 49 53 (p + 1)) (list_at (expr_at d z) z (r.kind + (get_or z (p + 1) 0 - 48)) r.arguments (p + 2) n))
      (λ z. if_due (due_at z 49 53 (p + 1)) (list_at (expr_at d z) z (r.kind + (get_or z (p + 1) 0 - 48)) r.arguments (p + 2) n)) (omega arith)
      (
      block_due s 49 53 (p + 1) w (λ z. list_at (expr_at d z) z (r.kind + (get_or z (p + 1) 0 - 48)) r.arguments (p + 2) n) inside (omega (arith, st.inside))
      (
      λ su i.
      let k : ℕ = r.kind + (get_or s (p + 1) 0 - 48) in
      let L = list_block k r.arguments (p + 2) n g.least g.most (omega (arith, su.inside)) i in
      let l = L.after in
      block_as s (p + 1) (p + 2) w (λ z. list_at (expr_at d z) z k r.arguments (p + 2) n)
      (λ z. list_at (expr_at d z) z (r.kind + (get_or z (p + 1) 0 - 48)) r.arguments (p + 2) n) (omega arith) L
      (
      λ z A.
      ap (λ (x : ℕ). list_at (expr_at d z) z (r.kind + (x - 48)) r.arguments (p + 2) n)
      (agree_at s z L.extent A (p + 1) (omega (arith, past s (p + 2) w (λ z. list_at (expr_at d z) z k r.arguments (p + 2) n) L)))
      )
      )
      f
      )
      (λ z A. refl)
      )
      e

  named_block : (f : Found) (p n : ℕ) → p < length s → call_in calls (take (run_of is_letter (drop p s)) (drop p s)) ≡ f
      → named_at (expr_at d s) s f p (p + run_of is_letter (drop p s)) n ≡ bad 20 w
      → Blocks s p w (λ z. call_on (expr_at d z) z (run_of is_letter (drop p z)) p n)
  unfolding named_at call_on
  named_block (known r) p n h ef e =
      let k : ℕ = run_of is_letter (drop p s) in
      let (g, letters) = by_letters Good calls (take k (drop p s)) r all_good ef in
      let L = suite_block r.suited r (p + k) n g (omega (arith, run_within is_letter (drop p s), length-drop p s)) e in
      let l = L.after in
      block_as s p (p + k) w (λ z. suite_at (expr_at d z) z r.suited r (p + k) n) (λ z. call_on (expr_at d z) z (run_of is_letter (drop p z)) p n) (omega arith) L
      (λ z A. same_name s z L.extent A d p n (known r) ef (omega (arith, past s (p + k) w (λ z. suite_at (expr_at d z) z r.suited r (p + k) n) L)))
  named_block unknown p n h ef e = rw (sym (same_bad e).1) (unknown_block d s p n ef)

  start_block : (p n : ℕ) → p < length s → by_start (expr_at d s) s (start_of (get_or s p 0)) p n ≡ bad 20 w → Blocks s p w (λ z. by_start (expr_at d z) z (start_of (get_or s p 0)) p n)
  unfolding by_start start_of pick literal_at name_at call_on
  start_block p n h e = go (eqb b 39) (eqb b 35) (eqb b 36) (eqb b 64) (is_letter b) e
    where
      b : ℕ
      b = get_or s p 0

      go : (x1 x2 x3 x4 x5 : Bool) → by_start (expr_at d s) s (pick x1 quote (pick x2 hash (pick x3 dollar (pick x4 sign (pick x5 letter other))))) p n ≡ bad 20 w
          → Blocks s p w (λ z. by_start (expr_at d z) z (pick x1 quote (pick x2 hash (pick x3 dollar (pick x4 sign (pick x5 letter other))))) p n)
      go true x2 x3 x4 x5 f = literal_block s p n w inside h f
      go false true x3 x4 x5 f = name_block bound 51 s p n w inside h f
      go false false true x4 x5 f = name_block row 55 s p n w inside h f
      go false false false true x5 f = name_block run 51 s p n w inside h f
      go false false false false true f = named_block (call_in calls (take (run_of is_letter (drop p s)) (drop p s))) p n h refl f
      go false false false false false f =
          let ew : p ≡ w = (same_bad f).1 in
          block_here s p w (λ z. bad 20 p) (omega arith) (λ z A. f)

expr_block : (d : ℕ) (s : List ℕ) (p n w : ℕ) → w < length s → p ≤ length s → expr_at d s p n ≡ bad 20 w → Blocks s p w (λ z. expr_at d z p n)
unfolding expr_at pick
expr_block zero s p n w inside h e = let y : ◌≡◌ {A = ℕ} 22 20 = (same_bad e).0 in absurd (omega arith)
expr_block (suc d) s p n w inside h e = go (leb 128 n) (leb (length s) p) refl refl (λ l. start_block d s w inside (λ p n. expr_block d s p n w inside) p n l) e
  where
    go : (b c : Bool) → leb 128 n ≡ b → leb (length s) p ≡ c
        → (p < length s → by_start (expr_at d s) s (start_of (get_or s p 0)) p n ≡ bad 20 w → Blocks s p w (λ z. by_start (expr_at d z) z (start_of (get_or s p 0)) p n))
        → pick b (bad 23 p) (pick c (bad 20 (length s)) (by_start (expr_at d s) s (start_of (get_or s p 0)) p n)) ≡ bad 20 w
        → Blocks s p w (λ z. expr_at (suc d) z p n)
    go true c eb ec f g = let y : ◌≡◌ {A = ℕ} 23 20 = (same_bad g).0 in absurd (omega arith)
    go false true eb ec f g = let y : length s ≡ w = (same_bad g).1 in absurd (omega arith)
    go false false eb ec f g =
        let L = f (leb-false (length s) p ec) g in
        let l = L.after in
        block_as s p p w (λ z. by_start (expr_at d z) z (start_of (get_or s p 0)) p n) (λ z. expr_at (suc d) z p n) (omega arith) L
        (
        λ z A.
        let q : p < L.extent = omega (arith, past s p w (λ z. by_start (expr_at d z) z (start_of (get_or s p 0)) p n) L) in
        let t = A.there in
        started z (lt-leb (length z) p (omega arith)) (agree_at s z L.extent A p q)
        )
      where
        started : (z : List ℕ) → leb (length z) p ≡ false → get_or z p 0 ≡ get_or s p 0 → expr_at (suc d) z p n ≡ by_start (expr_at d z) z (start_of (get_or s p 0)) p n
        started z e1 e2 = rw (eb, e1, e2)

-- what a 20 within the text says: every text that begins so is refused there
pub record Blocked (s : List ℕ) (p : ℕ) : Type 0 where
  pub extent : ℕ
  pub is : Extent s p extent
  pub same : (z : List ℕ) → Agree s z extent → read_text z ≡ wrong 20 p

pub blocked : (s : List ℕ) (p : ℕ) → read_text s ≡ wrong 20 p → p < length s → Blocked s p
unfolding read_text end_at pick
blocked s p e inside = go (expr_at 16 s 0 0) refl e
  where
    after_root : (t : Tree) (q m : ℕ) → expr_at 16 s 0 0 ≡ part t q m → q ≡ p → (z : List ℕ) → Agree s z (p + 1) → read_text z ≡ wrong 20 p
    after_root t q m f i z A =
        let l = A.there in
        let g : expr_at 16 z 0 0 ≡ part t q m = agree_part s z (p + 1) A 16 0 0 t q m (omega arith) f in
        rw (g, lt-leb (length z) q (omega arith)) (ap (λ (j : ℕ). wrong 20 j) i)

    last : (t : Tree) (q m : ℕ) (b : Bool) → expr_at 16 s 0 0 ≡ part t q m → pick b (got t) (wrong 20 q) ≡ wrong 20 p → Blocked s p
    last t q m true f g = absurd (got_wrong g)
    last t q m false f g = record { extent = p + 1; is = byte; same = after_root t q m f (same_wrong g).1 }

    refused : (z : List ℕ) → expr_at 16 z 0 0 ≡ bad 20 p → read_text z ≡ wrong 20 p
    refused z f = rw f

    go : (x : Part Tree) → expr_at 16 s 0 0 ≡ x → end_at s x ≡ wrong 20 p → Blocked s p
    go (part t q m) f g = last t q m (leb (length s) q) f g
    go (bad k w) f g =
        let (ek, ew) = same_wrong g in
        let B = expr_block 16 s 0 0 p inside (omega arith) (f ∙ ap₂ (λ (x y : ℕ). bad x y) ek ew) in
        record { extent = B.extent; is = B.is; same = λ z A. refused z (B.same z A) }

agree_of : (s z : List ℕ) (e : ℕ) → e ≤ length s → take e z ≡ take e s → Agree s z e
agree_of s z e h f = record { same = f; here = h; there = omega (arith, length-take e z, length-take e s, ap length f) }

-- no text of section 5 begins with the text up to the byte at the place of 20, or up to the end of the letters there and the byte after them
pub blocked_exactly : (s : List ℕ) (p : ℕ) → read_text s ≡ wrong 20 p → p < length s
    → (e : ℕ) × Extent s p e × (e ≤ length s → (t : Tree) → Proper t → take e (spell t) ≡ take e s → ⊥)
blocked_exactly s p f inside =
    let B = blocked s p f inside in
    (B.extent, B.is, λ h t proper g. syntax_only (spell t) p (B.same (spell t) (agree_of s (spell t) B.extent h g)) t proper refl)
