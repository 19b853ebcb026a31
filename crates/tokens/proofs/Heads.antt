-- A call's letters and suite, and the reading that goes on after them.
use mathlib.Core.Bool.{Bool, true, false}
use mathlib.Core.List.{List}
use mathlib.Core.Path.{◌≡◌, refl, ap, sym, ◌∙◌}
use Prim.Native.Nat.{ℕ, ◌+◌, ◌-◌, ◌≤◌, ◌<◌}
use native.Mathlib.Omega.{arith}
use lib.ListN.{length, take, drop, get_or, length-drop}
use lib.Seq.{length-take-le}
use borrow.Author.Tests.{leb-true}
use Rattle.tree.specs.Tree.{Tree}
use Rattle.tree.specs.Calls as table
use Rattle.tree.specs.Calls.{calls}
use Rattle.texts.specs.Spelling.{Found}
use Rattle.texts.specs.Spelling.Found.{known, unknown}
use Rattle.texts.specs.Reading as reading
use Rattle.texts.specs.Reading.{Part, run_of, is_letter, due_at, if_due, call_in, list_at, suite_at, named_at, call_on}
use Rattle.texts.specs.Reading.Part.{bad}
use Rattle.texts.specs.Reading.Due.{stands, missing}
use Rattle.texts.proofs.Standing.{Stood, due_is_lem, run_within}
use Rattle.texts.proofs.Table.{Good, all_good, by_letters}
use Rattle.std.specs.Prelude.{Option, Some, None, Ok, Err}
use Rattle.answers.specs.declared.Fault.{Fault}
use Rattle.tokens.specs.declared.Call.{Call}
use Rattle.tokens.specs.declared.Call.TheVariants.{Plain as InPlain, Cipher as InCipher}
use Rattle.tokens.specs.declared.Head.{Head}
use Rattle.tokens.specs.Tokens.{syntax_at, Opening, Opens, Not, row_is, call_is, head_due, suite_head, head_of, head_at}
use Rattle.tokens.proofs.Laws.{Wide, all_wide}

-- what an opened call says
pub record Opened (s : List ℕ) (p k c q : ℕ) : Type 0 where
  pub far : p + 2 ≤ q
  pub within : q ≤ length s
  pub least : 1 ≤ c
  pub most : c ≤ 4
  pub kind : k < 65536

of_ok : {g h : Head} → ◌≡◌ {A = Opening} (Ok g) (Ok h) → g ≡ h
of_ok e = cc

same_opens : (k c q i j l : ℕ) → Opens k c q ≡ Opens i j l → (k ≡ i) × (c ≡ j) × (q ≡ l)
same_opens k c q i j l e = let h = of_ok e in (ap (λ (h : Head). h.kind) h, ap (λ (h : Head). h.arguments) h, ap (λ (h : Head). h.place) h)

not_opens : {w k c q : ℕ} → Not w ≡ Opens k c q → ⊥
not_opens e = cc

head_due_lem : (d : reading.Due) (h : Opening) {k c q : ℕ} → head_due d h ≡ Opens k c q → (d ≡ stands) × (h ≡ Opens k c q)
unfolding head_due
head_due_lem stands h e = (refl, e)
head_due_lem (missing w) h e = absurd (not_opens e)

-- a row whose letters end at e
by_suit : (s : List ℕ) (b : Bool) (kind count p e k c q : ℕ) → kind ≤ 432 → 1 ≤ count → count ≤ 4 → p + 2 ≤ e → e ≤ length s → head_of s (row_is b kind count) p e ≡ Opens k c q
    → Opened s p k c q
unfolding head_of row_is suite_head
by_suit s false kind count p e k c q hk h1 h4 far within h =
    let (ek, ec, eq) = same_opens kind count e k c q h in
    record { far = omega arith; within = omega arith; least = omega arith; most = omega arith; kind = omega arith }
by_suit s true kind count p e k c q hk h1 h4 far within h =
    let (d1, r1) = head_due_lem (due_at s 46 46 e) (head_due (due_at s 49 53 (e + 1)) (Opens (kind + (get_or s (e + 1) 0 - 48)) count (e + 2))) h in
    let (d2, r2) = head_due_lem (due_at s 49 53 (e + 1)) (Opens (kind + (get_or s (e + 1) 0 - 48)) count (e + 2)) r1 in
    suited (due_is_lem s 49 53 (e + 1) d2) r2
  where
    suited : Stood s 49 53 (e + 1) → Opens (kind + (get_or s (e + 1) 0 - 48)) count (e + 2) ≡ Opens k c q → Opened s p k c q
    suited st f =
        let inside = st.inside in
        let high = st.high in
        let (ek, ec, eq) = same_opens (kind + (get_or s (e + 1) 0 - 48)) count (e + 2) k c q f in
        record { far = omega arith; within = omega arith; least = omega arith; most = omega arith; kind = omega arith }

pub head_opened : (s : List ℕ) (p k c q : ℕ) → p ≤ length s → head_at s p ≡ Opens k c q → Opened s p k c q
unfolding head_at call_is head_of
head_opened s p k c q hp h = go (call_in calls (take n (drop p s))) refl h
  where
    n : ℕ
    n = run_of is_letter (drop p s)

    go : (f : Found) → call_in calls (take (run_of is_letter (drop p s)) (drop p s)) ≡ f → head_of s (call_is f) p (p + run_of is_letter (drop p s)) ≡ Opens k c q → Opened s p k c q
    go unknown e f = absurd (not_opens f)
    go (known r) e f =
        let (good, letters) = by_letters Good calls (take (run_of is_letter (drop p s)) (drop p s)) r all_good e in
        let (wide, letters2) = by_letters Wide calls (take (run_of is_letter (drop p s)) (drop p s)) r all_wide e in
        let within = run_within is_letter (drop p s) in
        let long = length-take-le (run_of is_letter (drop p s)) (drop p s) within in
        let two = leb-true 2 (length r.letters) wide.0 in
        by_suit s r.suited r.kind r.arguments p (p + run_of is_letter (drop p s)) k c q (leb-true r.kind 432 wide.1) good.least good.most
        (omega (arith, ap length letters)) (omega (arith, length-drop p s)) f

-- reading goes on after the head
unfoldable pub after_head : (ℕ → ℕ → Part Tree) → List ℕ → Opening → ℕ → Part Tree
after_head expr s (Ok h) n = list_at expr s h.kind h.arguments h.place n
after_head expr s (Err f) n = bad 20 f.place

module _ (expr : ℕ → ℕ → Part Tree) (s : List ℕ) where
  after_due : (d : reading.Due) (h : Opening) (n : ℕ) → if_due d (after_head expr s h n) ≡ after_head expr s (head_due d h) n
  unfolding if_due head_due after_head
  after_due stands h n = refl
  after_due (missing w) h n = refl

  after_suite : (b : Bool) (r : table.Call) (p q n : ℕ) → suite_at expr s b r q n ≡ after_head expr s (head_of s (row_is b r.kind r.arguments) p q) n
  unfolding suite_at head_of row_is suite_head after_head
  after_suite false r p q n = refl
  after_suite true r p q n =
      ap (if_due (due_at s 46 46 q)) (after_due (due_at s 49 53 (q + 1)) (Opens (r.kind + (get_or s (q + 1) 0 - 48)) r.arguments (q + 2)) n)
      ∙ after_due (due_at s 46 46 q) (head_due (due_at s 49 53 (q + 1)) (Opens (r.kind + (get_or s (q + 1) 0 - 48)) r.arguments (q + 2))) n

  after_name : (f : Found) (p q n : ℕ) → named_at expr s f p q n ≡ after_head expr s (head_of s (call_is f) p q) n
  unfolding named_at call_is head_of after_head
  after_name (known r) p q n = after_suite r.suited r p q n
  after_name unknown p q n = refl

  -- a call is read by its head
  pub head_call : (p n : ℕ) → call_on expr s (run_of is_letter (drop p s)) p n ≡ after_head expr s (head_at s p) n
  unfolding call_on head_at
  head_call p n = after_name (call_in calls (take (run_of is_letter (drop p s)) (drop p s))) p (p + run_of is_letter (drop p s)) n

-- a head that is refused is refused with 20
not_syntax : (w : ℕ) (f : Fault) → Not w ≡ Err f → f ≡ syntax_at f.place
not_syntax w f e = let g : syntax_at w ≡ f = of_err e in sym g ∙ ap (λ (f : Fault). syntax_at f.place) g
  where
    of_err : {f g : Fault} → ◌≡◌ {A = Opening} (Err f) (Err g) → f ≡ g
    of_err e = cc

due_syntax : (d : reading.Due) (h : Opening) (f : Fault) → (h ≡ Err f → f ≡ syntax_at f.place) → head_due d h ≡ Err f → f ≡ syntax_at f.place
unfolding head_due
due_syntax stands h f g e = g e
due_syntax (missing w) h f g e = not_syntax w f e

call_syntax : (s : List ℕ) (c : Option Call) (p q : ℕ) (f : Fault) → head_of s c p q ≡ Err f → f ≡ syntax_at f.place
unfolding head_of suite_head
call_syntax s (Some (InPlain k c)) p q f e = cc
call_syntax s (Some (InCipher k c)) p q f e = due_syntax _ _ f (λ e. due_syntax _ _ f (λ e. cc) e) e
call_syntax s None p q f e = not_syntax p f e

pub head_syntax : (s : List ℕ) (p : ℕ) (f : Fault) → head_at s p ≡ Err f → f ≡ syntax_at f.place
unfolding head_at
head_syntax s p f e = call_syntax s _ p _ f e
