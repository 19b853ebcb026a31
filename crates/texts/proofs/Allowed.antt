-- Every byte before the place of 20 is allowed: the text up to there goes on to a text of section 5.
use mathlib.Core.Bool.{Bool, true, false}
use mathlib.Core.List.{List, [], ◌∷◌, ◌++◌, append_assoc, append-nil}
use mathlib.Core.Path.{◌≡◌, refl, sym, ap, ap₂, ◌∙◌}
use Prim.Native.Nat.{ℕ, zero, suc, ◌+◌, ◌-◌, ◌*◌, ◌/◌, ◌%◌, ◌≤◌, ◌<◌}
use native.Mathlib.Omega.{arith}
use lib.Dec.{eqb, leb}
use lib.ListN.{length, take, drop, get_or, length-drop, length-append, take-append-drop}
use lib.Seq.{drop-drop, take_at}
use borrow.Author.Tests.{leb-true, leb-false, eqb-true}
use Rattle.common.specs.Choice.{pick}
use Rattle.common.specs.Places.{tab}
use Rattle.tree.specs.Tree.{Tree}
use Rattle.tree.specs.Tree.Tree.{literal, bound, row, run, one, two, three, four, when}
use Rattle.tree.specs.Calls.{Call, calls}
use Rattle.tree.specs.Bounds.{arguments_of, when_kind, Bytes, Proper}
use Rattle.tree.specs.Reading.Read.{got, wrong}
use Rattle.tree.proofs.Read.{not_both, same_wrong}
use Rattle.texts.specs.Spelling.{Found, hex_digit, pairs, row_in, suite_part, name_of, listed, spell}
use Rattle.texts.specs.Spelling.Found.{known, unknown}
use Rattle.texts.specs.Reading.{Part, then_part, between, is_letter, is_hex, run_of, due_at, if_due, hex_value, pair_at, literal_of, literal_at, name_at, call_in, call_of, start_of, args_at, list_at, suite_at, named_at, call_on, by_start, expr_at, end_at, read_text}
use Rattle.texts.specs.Reading.Part.{part, bad}
use Rattle.texts.specs.Reading.Due.{stands, missing}
use Rattle.texts.specs.Reading.Start.{quote, hash, dollar, sign, letter, other}
use Rattle.texts.proofs.Standing.{stands_here, Stood, due_is_lem, no_part, Pass, run_pass, run_within}
use Rattle.texts.proofs.Table.{Good, Kinds, all_good, by_letters, arguments_of_lem, suited_kind, plain_row}
use Rattle.texts.proofs.Spelt.{spells, Each, name_is}
use Rattle.texts.proofs.LeavesBack.{Back, Digit, digit_is}
use Rattle.texts.proofs.Back.{Sub, Made, call_made, args_back, byte_stands, expr_back}
use Rattle.texts.proofs.Ways.{expr_taken}
use Rattle.texts.proofs.Numbers.{Outcome, outcome}
use Rattle.texts.proofs.Numbers.Outcome.{reads, refuses}

pub same_bad : {A : Type 0} {k w j u : ℕ} → ◌≡◌ {A = Part A} (bad k w) (bad j u) → (k ≡ j) × (w ≡ u)
same_bad e = (cc, cc)

pub part_bad : {A : Type 0} {a : A} {q m k w : ℕ} → part a q m ≡ bad k w → ⊥
part_bad e = no_part (sym e)

-- the ways to a refusal
if_bad : {A : Type 0} (P : Type 0) (s : List ℕ) (lo hi p : ℕ) (x : Part A) (k w : ℕ) → p ≤ length s → (w ≡ p → P) → (Stood s lo hi p → x ≡ bad k w → P) → if_due (due_at s lo hi p) x ≡ bad k w → P
unfolding due_at if_due pick
if_bad {A} P s lo hi p x k w h f g e = go (leb (length s) p) (between lo hi (get_or s p 0)) refl refl e
  where
    there : (u : ℕ) → ◌≡◌ {A = Part A} (bad 20 u) (bad k w) → u ≡ p → P
    there u e i = f (sym (same_bad e).1 ∙ i)

    go : (b c : Bool) → leb (length s) p ≡ b → between lo hi (get_or s p 0) ≡ c → if_due (pick b (missing (length s)) (pick c stands (missing p))) x ≡ bad k w → P
    go true c eb ec e = there (length s) e (omega (arith, leb-true (length s) p eb))
    go false true eb ec e = g (due_is_lem s lo hi p (due eb ec)) e
      where
        due : leb (length s) p ≡ false → between lo hi (get_or s p 0) ≡ true → due_at s lo hi p ≡ stands
        due eb ec = rw (eb, ec)
    go false false eb ec e = there p e refl

pub then_bad : {A B : Type 0} (P : Type 0) (x : Part A) (f : A → ℕ → ℕ → Part B) (k w : ℕ) → (x ≡ bad k w → P) → ((a : A) (q m : ℕ) → x ≡ part a q m → f a q m ≡ bad k w → P) → then_part x f ≡ bad k w → P
unfolding then_part
then_bad P (part a q m) f k w g h e = h a q m refl e
then_bad P (bad j u) f k w g h e = g (ap₂ bad (same_bad e).0 (same_bad e).1)

-- a tree of section 5 that has, from p up to w, the bytes of s
pub record Leads (s : List ℕ) (p w : ℕ) : Type 0 where
  pub tree : Tree
  pub proper : Proper tree
  pub done : List ℕ
  pub rest : List ℕ
  pub text : drop p s ≡ done ++ drop w s
  pub spelt : spell tree ≡ done ++ rest

nothing_bytes : Bytes []
nothing_bytes i = omega arith

empty : Tree
empty = literal []

empty_proper : Proper empty
unfolding Proper empty
empty_proper = nothing_bytes

lead_here : (s : List ℕ) (p w : ℕ) → w ≡ p → Leads s p w
lead_here s p w e = rw e (record { tree = empty; proper = empty_proper; done = []; rest = spell empty; text = refl; spelt = refl })

bytes_cons : (x : ℕ) (v : List ℕ) → x < 256 → Bytes v → Bytes (x ∷ v)
bytes_cons x v h b zero = h
bytes_cons x v h b (suc i) = b i

-- digits, however many, begin a value's pairs
pub record Begun (w : List ℕ) : Type 0 where
  pub value : List ℕ
  pub rest : List ℕ
  pub bytes : Bytes value
  pub spelt : pairs value ≡ w ++ rest

one_digit : (a : ℕ) → Digit a → Begun (a ∷ [])
unfolding pairs
one_digit a d =
    let l = d.low in
    let hi : 16 * hex_value a / 16 ≡ hex_value a = omega arith in
    record {
      value = 16 * hex_value a ∷ [];
      rest = hex_digit (16 * hex_value a % 16) ∷ [];
      bytes = bytes_cons (16 * hex_value a) [] (omega arith) nothing_bytes;
      spelt = ap (λ (x : ℕ). x ∷ hex_digit (16 * hex_value a % 16) ∷ []) (ap hex_digit hi ∙ d.is);
    }

two_digits : (a b : ℕ) (w : List ℕ) → Digit a → Digit b → Begun w → Begun (a ∷ b ∷ w)
unfolding pairs
two_digits a b w d e g =
    let la = d.low in
    let lb = e.low in
    let x : ℕ = 16 * hex_value a + hex_value b in
    let hi : x / 16 ≡ hex_value a = omega arith in
    let lo : x % 16 ≡ hex_value b = omega arith in
    record {
      value = x ∷ g.value;
      rest = g.rest;
      bytes = bytes_cons x g.value (omega arith) g.bytes;
      spelt =
          ap₂ (λ (y : ℕ) (l : List ℕ). y ∷ l) (ap hex_digit hi ∙ d.is) (ap₂ (λ (y : ℕ) (l : List ℕ). y ∷ l) (ap hex_digit lo ∙ e.is) g.spelt);
    }

begun : (w : List ℕ) → Pass is_hex w → Begun w
unfolding Pass pairs
begun [] h = record { value = []; rest = []; bytes = nothing_bytes; spelt = refl }
begun (a ∷ []) h = one_digit a (digit_is a h.0)
begun (a ∷ (b ∷ w)) h = two_digits a b w (digit_is a h.0) (digit_is b h.1.0) (begun w h.1.1)

literal_lead : (s : List ℕ) (p k w : ℕ) → get_or s p 0 ≡ 39 → p < length s → Pass is_hex (take k (drop (p + 1) s)) → w ≡ p + 1 + k → Leads s p w
unfolding Proper spell
literal_lead s p k w first inside pass e =
    let D : List ℕ = take k (drop (p + 1) s) in
    let B = begun D pass in
    let text : drop p s ≡ 39 ∷ (D ++ drop w s) =
    stands_here s p inside
    ∙ ap₂ (λ (x : ℕ) (l : List ℕ). x ∷ l) first
    (sym (take-append-drop k (drop (p + 1) s)) ∙ ap (λ (l : List ℕ). D ++ l) (drop-drop k (p + 1) s ∙ ap (λ (i : ℕ). drop i s) (sym e))) in
    let spelt : 39 ∷ (pairs B.value ++ (39 ∷ [])) ≡ 39 ∷ (D ++ (B.rest ++ (39 ∷ []))) =
    ap (λ (l : List ℕ). 39 ∷ l) (ap (λ (l : List ℕ). l ++ (39 ∷ [])) B.spelt ∙ append_assoc D B.rest (39 ∷ [])) in
    record { tree = literal B.value; proper = B.bytes; done = 39 ∷ D; rest = B.rest ++ (39 ∷ []); text = text; spelt = spelt }

literal_bad : (s : List ℕ) (p n k w : ℕ) → p + 1 + k ≤ length s → literal_of s p n k ≡ bad 20 w → w ≡ p + 1 + k
unfolding literal_of pick
literal_bad s p n k w h e = if_bad (w ≡ p + 1 + k) s 39 39 (p + 1 + k) _ 20 w h (λ f. f) (λ st f. go (eqb (k % 2) 0) (leb (k / 2) 1024) f) e
  where
    go : (b c : Bool) → pick b (pick c (part (literal (tab (k / 2) (λ i. pair_at s (p + 1 + 2 * i)))) (p + 1 + k + 1) (n + 1)) (bad 6 p)) (bad 20 (p + 1 + k)) ≡ bad 20 w → w ≡ p + 1 + k
    go true true f = absurd (part_bad f)
    go true false f = let z : ◌≡◌ {A = ℕ} 6 20 = (same_bad f).0 in absurd (omega arith)
    go false c f = sym (same_bad f).1

name_lead : (name : ℕ → Tree) (hi x : ℕ) (s : List ℕ) (p n w : ℕ) → get_or s p 0 ≡ x → p < length s → Proper (name 0) → spell (name 0) ≡ x ∷ 48 ∷ [] → name_at name hi s p n ≡ bad 20 w → Leads s p w
unfolding name_at
name_lead name hi x s p n w first inside proper spelt e =
    if_bad (Leads s p w) s 48 hi (p + 1) (part (name (get_or s (p + 1) 0 - 48)) (p + 2) (n + 1)) 20 w (omega arith)
    (
    λ f.
    record {
      tree = name 0;
      proper = proper;
      done = x ∷ [];
      rest = 48 ∷ [];
      text = stands_here s p inside ∙ ap₂ (λ (y : ℕ) (i : ℕ). y ∷ drop i s) first (sym f);
      spelt = spelt;
    }
    )
    (λ st f. absurd (part_bad f)) e

-- arguments still due may be anything
blanks : ℕ → List Tree
blanks zero = []
blanks (suc n) = empty ∷ blanks n

length_blanks : (n : ℕ) → length (blanks n) ≡ n
unfolding blanks
length_blanks zero = refl
length_blanks (suc n) = ap suc (length_blanks n)

blanks_proper : (n : ℕ) → Each Proper (blanks n)
unfolding blanks
blanks_proper zero = tt
blanks_proper (suc n) = (empty_proper, blanks_proper n)

pub record ArgsLead (left c : ℕ) (s : List ℕ) (p w : ℕ) : Type 0 where
  pub list : List Tree
  pub size : length list ≡ left
  pub proper : Each Proper list
  pub done : List ℕ
  pub rest : List ℕ
  pub text : drop p s ≡ done ++ drop w s
  pub spelt : listed c (spells list) ≡ done ++ rest

args_here : (left c : ℕ) (s : List ℕ) (p w : ℕ) → w ≡ p → ArgsLead left c s p w
args_here left c s p w e =
    rw e
    (
    record {
      list = blanks left;
      size = length_blanks left;
      proper = blanks_proper left;
      done = [];
      rest = listed c (spells (blanks left));
      text = refl;
      spelt = refl;
    }
    )

args_in : (left c : ℕ) (s : List ℕ) (p w : ℕ) → Stood s c c p → Leads s (p + 1) w → ArgsLead (suc left) c s p w
unfolding listed spells
args_in left c s p w st L =
    let B : List ℕ = listed 44 (spells (blanks left)) in
    record {
      list = L.tree ∷ blanks left;
      size = ap suc (length_blanks left);
      proper = (L.proper, blanks_proper left);
      done = c ∷ L.done;
      rest = L.rest ++ B;
      text = byte_stands s c p st ∙ ap (λ (l : List ℕ). c ∷ l) L.text;
      spelt = ap (λ (l : List ℕ). c ∷ l) (ap (λ (l : List ℕ). l ++ B) L.spelt ∙ append_assoc L.done L.rest B);
    }

args_on : (left c d : ℕ) (s : List ℕ) (p w n : ℕ) (a : Tree) (q m : ℕ) → Stood s c c p → Back d s (p + 1) n a q m → ArgsLead left 44 s q w → ArgsLead (suc left) c s p w
unfolding listed spells
args_on left c d s p w n a q m st A L =
    record {
      list = a ∷ L.list;
      size = ap suc L.size;
      proper = (A.proper, L.proper);
      done = c ∷ (spell a ++ L.done);
      rest = L.rest;
      text =
          byte_stands s c p st
          ∙ ap (λ (l : List ℕ). c ∷ l) (A.same ∙ ap (λ (l : List ℕ). spell a ++ l) L.text ∙ sym (append_assoc (spell a) L.done (drop w s)));
      spelt = ap (λ (l : List ℕ). c ∷ l) (ap (λ (l : List ℕ). spell a ++ l) L.spelt ∙ sym (append_assoc (spell a) L.done L.rest));
    }

pub call_total : (k : ℕ) (l : List Tree) (u j : ℕ) → 1 ≤ length l → length l ≤ 4 → (t : Tree) × (call_of k l u j ≡ part t u j)
unfolding call_of
call_total k [] u j h g = absurd (omega arith)
call_total k (a ∷ []) u j h g = (one k a, refl)
call_total k (a ∷ (b ∷ [])) u j h g = (two k a b, refl)
call_total k (a ∷ (b ∷ (c ∷ []))) u j h g = (pick (eqb k when_kind) (when a b c) (three k a b c), refl)
call_total k (a ∷ (b ∷ (c ∷ (d ∷ [])))) u j h g = (four k a b c d, refl)
call_total k (a ∷ (b ∷ (c ∷ (d ∷ (e ∷ l))))) u j h g = absurd (omega arith)

-- a call of these arguments, as a tree
pub record Called (k : ℕ) (l : List Tree) : Type 0 where
  pub tree : Tree
  pub proper : Proper tree
  pub spelt : spell tree ≡ name_of k ++ listed 40 (spells l)

called_of : (k : ℕ) (l : List Tree) (t : Tree) → Made k l 0 0 t 0 0 → Called k l
called_of k l t m = record { tree = t; proper = m.proper; spelt = m.spelt }

called : (k : ℕ) (l : List Tree) → arguments_of k ≡ length l → 1 ≤ length l → length l ≤ 4 → Each Proper l → Called k l
called k l n h g p =
    let (t, e) = call_total k l 0 0 h g in
    called_of k l t (call_made k l 0 0 t 0 0 n p e)

-- what a refusal 20 in a call's list says
pub record ListLead (s : List ℕ) (k p w : ℕ) : Type 0 where
  pub tree : Tree
  pub proper : Proper tree
  pub done : List ℕ
  pub rest : List ℕ
  pub text : drop p s ≡ done ++ drop w s
  pub spelt : spell tree ≡ name_of k ++ (done ++ rest)

list_lead_of : (s : List ℕ) (k c p w : ℕ) → arguments_of k ≡ c → 1 ≤ c → c ≤ 4 → ArgsLead c 40 s p w → ListLead s k p w
list_lead_of s k c p w n h g L =
    let size = L.size in
    let C = called k L.list (n ∙ sym size) (omega arith) (omega arith) L.proper in
    record {
      tree = C.tree;
      proper = C.proper;
      done = L.done;
      rest = L.rest;
      text = L.text;
      spelt = C.spelt ∙ ap (λ (l : List ℕ). name_of k ++ l) L.spelt;
    }

-- the letters w0 stand before p
pub record WholeLead (s : List ℕ) (letters : List ℕ) (p w : ℕ) : Type 0 where
  pub tree : Tree
  pub proper : Proper tree
  pub done : List ℕ
  pub rest : List ℕ
  pub text : drop p s ≡ done ++ drop w s
  pub spelt : spell tree ≡ letters ++ (done ++ rest)

plain_name : (r : Call) → row_in calls r.kind ≡ known r → r.suited ≡ false → name_of r.kind ≡ r.letters
unfolding suite_part
plain_name r er b = name_is r.kind r er ∙ ap (λ (x : Bool). r.letters ++ suite_part x (r.kind - r.kind)) b ∙ append-nil r.letters

cipher_name : (r : Call) (x : ℕ) → row_in calls (r.kind + (x - 48)) ≡ known r → r.suited ≡ true → 48 ≤ x → name_of (r.kind + (x - 48)) ≡ r.letters ++ (46 ∷ x ∷ [])
unfolding suite_part
cipher_name r x er b low =
    let k : ℕ = r.kind + (x - 48) in
    let digit : 48 + (k - r.kind) ≡ x = omega arith in
    name_is k r er
    ∙ ap (λ (y : Bool). r.letters ++ suite_part y (k - r.kind)) b
    ∙ ap (λ (y : ℕ). r.letters ++ (46 ∷ y ∷ [])) digit

plain_whole : (s : List ℕ) (r : Call) (p w : ℕ) → row_in calls r.kind ≡ known r → r.suited ≡ false → ListLead s r.kind p w → WholeLead s r.letters p w
plain_whole s r p w er b L =
    record {
      tree = L.tree;
      proper = L.proper;
      done = L.done;
      rest = L.rest;
      text = L.text;
      spelt = L.spelt ∙ ap (λ (l : List ℕ). l ++ (L.done ++ L.rest)) (plain_name r er b);
    }

cipher_whole : (s : List ℕ) (r : Call) (p x w : ℕ) → row_in calls (r.kind + (x - 48)) ≡ known r → r.suited ≡ true → 48 ≤ x → drop p s ≡ 46 ∷ x ∷ drop (p + 2) s
    → ListLead s (r.kind + (x - 48)) (p + 2) w
    → WholeLead s r.letters p w
cipher_whole s r p x w er b low e L =
    record {
      tree = L.tree;
      proper = L.proper;
      done = 46 ∷ x ∷ L.done;
      rest = L.rest;
      text = e ∙ ap (λ (l : List ℕ). 46 ∷ x ∷ l) L.text;
      spelt =
          L.spelt
          ∙ ap (λ (l : List ℕ). l ++ (L.done ++ L.rest)) (cipher_name r x er b low)
          ∙ append_assoc r.letters (46 ∷ x ∷ []) (L.done ++ L.rest);
    }

-- a cipher call of suite 1 with anything for its arguments
suite_one : (r : Call) → row_in calls (r.kind + 1) ≡ known r → r.suited ≡ true → Good r → (v : List ℕ) × (t : Tree) × Proper t × (spell t ≡ r.letters ++ (46 ∷ v))
suite_one r er b g =
    let k : ℕ = r.kind + 1 in
    let n : ℕ = r.arguments in
    let least = g.least in
    let most = g.most in
    let len = length_blanks n in
    let C = called k (blanks n) (arguments_of_lem k r er ∙ sym len) (omega arith) (omega arith) (blanks_proper n) in
    let L : List ℕ = listed 40 (spells (blanks n)) in (
      49 ∷ L,
      C.tree,
      C.proper,
      C.spelt ∙ ap (λ (l : List ℕ). l ++ L) (cipher_name r 49 er b (omega arith)) ∙ append_assoc r.letters (46 ∷ 49 ∷ []) L,
    )

dot_lead : (s : List ℕ) (r : Call) (p w : ℕ) → row_in calls (r.kind + 1) ≡ known r → r.suited ≡ true → Good r → w ≡ p → WholeLead s r.letters p w
dot_lead s r p w er b g e =
    let (v, t, h, f) = suite_one r er b g in
    made v t h f
  where
    made : (v : List ℕ) (t : Tree) → Proper t → spell t ≡ r.letters ++ (46 ∷ v) → WholeLead s r.letters p w
    made v t h f = record { tree = t; proper = h; done = []; rest = 46 ∷ v; text = ap (λ (i : ℕ). drop i s) (sym e); spelt = f }

digit_lead : (s : List ℕ) (r : Call) (p w : ℕ) → row_in calls (r.kind + 1) ≡ known r → r.suited ≡ true → Good r → Stood s 46 46 p → w ≡ p + 1 → WholeLead s r.letters p w
digit_lead s r p w er b g st e =
    let (v, t, h, f) = suite_one r er b g in
    made v t h f
  where
    made : (v : List ℕ) (t : Tree) → Proper t → spell t ≡ r.letters ++ (46 ∷ v) → WholeLead s r.letters p w
    made v t h f =
        record {
          tree = t;
          proper = h;
          done = 46 ∷ [];
          rest = v;
          text = byte_stands s 46 p st ∙ ap (λ (i : ℕ). 46 ∷ drop i s) (sym e);
          spelt = f;
        }

whole_lead : (s : List ℕ) (letters : List ℕ) (p q w : ℕ) → drop p s ≡ letters ++ drop q s → WholeLead s letters q w → Leads s p w
whole_lead s letters p q w e L =
    record {
      tree = L.tree;
      proper = L.proper;
      done = letters ++ L.done;
      rest = L.rest;
      text = e ∙ ap (λ (l : List ℕ). letters ++ l) L.text ∙ sym (append_assoc letters L.done (drop w s));
      spelt = L.spelt ∙ sym (append_assoc letters L.done L.rest);
    }

module _ (d : ℕ) (expr : ℕ → ℕ → Part Tree) (s : List ℕ) (sub : Sub d s expr) (most : (p n : ℕ) (t : Tree) (q m : ℕ) → expr p n ≡ part t q m → q ≤ length s)
    (lead : (p n w : ℕ) → p ≤ length s → expr p n ≡ bad 20 w → Leads s p w) where
  args_lead : (left c p n w : ℕ) → p ≤ length s → args_at expr s left c p n ≡ bad 20 w → ArgsLead left c s p w
  unfolding args_at
  args_lead zero c p n w h e = if_bad (ArgsLead 0 c s p w) s 41 41 p (part [] (p + 1) n) 20 w h (args_here 0 c s p w) (λ st f. absurd (part_bad f)) e
  args_lead (suc left) c p n w h e =
      let rest : Tree → ℕ → ℕ → Part (List Tree) = λ a q m. then_part (args_at expr s left 44 q m) (λ l u k. part (a ∷ l) u k) in
      if_bad (ArgsLead (suc left) c s p w) s c c p (then_part (expr (p + 1) n) rest) 20 w h (args_here (suc left) c s p w)
      (
      λ st f.
      then_bad (ArgsLead (suc left) c s p w) (expr (p + 1) n) rest 20 w (λ g. args_in left c s p w st (lead (p + 1) n w (omega (arith, st.inside)) g))
      (
      λ a q m g i.
      then_bad (ArgsLead (suc left) c s p w) (args_at expr s left 44 q m) (λ l u k. part (a ∷ l) u k) 20 w
      (λ j. args_on left c d s p w n a q m st (sub (p + 1) n a q m g) (args_lead left 44 q m w (most (p + 1) n a q m g) j)) (λ l u k j x. absurd (part_bad x)) i
      )
      f
      )
      e

  args_size : (left c p n : ℕ) (l : List Tree) (q m : ℕ) → args_at expr s left c p n ≡ part l q m → length l ≡ left
  args_size left c p n l q m e = (args_back d expr s left c p n l q m sub e).size

  list_lead : (k c p n w : ℕ) → arguments_of k ≡ c → 1 ≤ c → c ≤ 4 → p ≤ length s → list_at expr s k c p n ≡ bad 20 w → ListLead s k p w
  unfolding list_at
  list_lead k c p n w ka h g inside e =
      then_bad (ListLead s k p w) (args_at expr s c 40 p (n + 1)) (call_of k) 20 w (λ f. list_lead_of s k c p w ka h g (args_lead c 40 p (n + 1) w inside f))
      (
      λ l q m f i.
      let size = args_size c 40 p (n + 1) l q m f in
      let t = call_total k l q m (omega arith) (omega arith) in
      absurd (part_bad (sym t.1 ∙ i))
      )
      e

  suite_lead : (b : Bool) (r : Call) (p n w : ℕ) → r.suited ≡ b → Kinds b r → Good r → p ≤ length s → suite_at expr s b r p n ≡ bad 20 w → WholeLead s r.letters p w
  unfolding suite_at
  suite_lead false r p n w b ks g inside e =
      let er = plain_row r ks in
      plain_whole s r p w er b (list_lead r.kind r.arguments p n w (arguments_of_lem r.kind r er) g.least g.most inside e)
  suite_lead true r p n w b ks g inside e =
      let x : ℕ = get_or s (p + 1) 0 in
      let k : ℕ = r.kind + (x - 48) in
      let one = suited_kind r 1 ks (omega arith) (omega arith) in
      let on : p + 1 + 1 ≡ p + 2 = omega arith in
      if_bad (WholeLead s r.letters p w) s 46 46 p (if_due (due_at s 49 53 (p + 1)) (list_at expr s k r.arguments (p + 2) n)) 20 w inside (dot_lead s r p w one b g)
      (
      λ st f.
      if_bad (WholeLead s r.letters p w) s 49 53 (p + 1) (list_at expr s k r.arguments (p + 2) n) 20 w (omega (arith, st.inside)) (digit_lead s r p w one b g st)
      (
      λ su i.
      let low = su.low in
      let high = su.high in
      let er : row_in calls k ≡ known r = suited_kind r (x - 48) ks (omega arith) (omega arith) in
      let same : drop p s ≡ 46 ∷ x ∷ drop (p + 2) s =
      byte_stands s 46 p st ∙ ap (λ (l : List ℕ). 46 ∷ l) (stands_here s (p + 1) su.inside ∙ ap (λ (j : ℕ). x ∷ drop j s) on) in
      cipher_whole s r p x w er b (omega arith) same
      (list_lead k r.arguments (p + 2) n w (arguments_of_lem k r er) g.least g.most (omega (arith, su.inside)) i)
      )
      f
      )
      e

  named_lead : (f : Found) (p k n w : ℕ) → p + k ≤ length s → call_in calls (take k (drop p s)) ≡ f → named_at expr s f p (p + k) n ≡ bad 20 w → Leads s p w
  unfolding named_at
  named_lead (known r) p k n w h ef e =
      let (g, letters) = by_letters Good calls (take k (drop p s)) r all_good ef in
      let same : drop p s ≡ r.letters ++ drop (p + k) s = sym (take-append-drop k (drop p s)) ∙ ap₂ (λ (x y : List ℕ). x ++ y) (sym letters) (drop-drop k p s) in
      whole_lead s r.letters p (p + k) w same (suite_lead r.suited r (p + k) n w refl g.kinds g h e)
  named_lead unknown p k n w h ef e = lead_here s p w (sym (same_bad e).1)

  start_lead : (p n w : ℕ) → p < length s → by_start expr s (start_of (get_or s p 0)) p n ≡ bad 20 w → Leads s p w
  unfolding by_start start_of pick Proper spell literal_at call_on
  start_lead p n w inside e = go (eqb b 39) (eqb b 35) (eqb b 36) (eqb b 64) (is_letter b) refl refl refl refl e
    where
      b : ℕ
      b = get_or s p 0

      k : ℕ
      k = run_of is_hex (drop (p + 1) s)

      hex : p + 1 + k ≤ length s
      hex = omega (arith, run_within is_hex (drop (p + 1) s), length-drop (p + 1) s)

      j : ℕ
      j = run_of is_letter (drop p s)

      letters : p + j ≤ length s
      letters = omega (arith, run_within is_letter (drop p s), length-drop p s)

      go : (x1 x2 x3 x4 x5 : Bool) → eqb b 39 ≡ x1 → eqb b 35 ≡ x2 → eqb b 36 ≡ x3 → eqb b 64 ≡ x4
          → by_start expr s (pick x1 quote (pick x2 hash (pick x3 dollar (pick x4 sign (pick x5 letter other))))) p n ≡ bad 20 w
          → Leads s p w
      go true x2 x3 x4 x5 e1 e2 e3 e4 f = literal_lead s p k w (eqb-true b 39 e1) inside (run_pass is_hex (drop (p + 1) s)) (literal_bad s p n k w hex f)
      go false true x3 x4 x5 e1 e2 e3 e4 f = name_lead bound 51 35 s p n w (eqb-true b 35 e2) inside (omega arith) refl f
      go false false true x4 x5 e1 e2 e3 e4 f = name_lead row 55 36 s p n w (eqb-true b 36 e3) inside (omega arith) refl f
      go false false false true x5 e1 e2 e3 e4 f = name_lead run 51 64 s p n w (eqb-true b 64 e4) inside (omega arith) refl f
      go false false false false true e1 e2 e3 e4 f = named_lead (call_in calls (take j (drop p s))) p j n w letters refl f
      go false false false false false e1 e2 e3 e4 f = lead_here s p w (sym (same_bad f).1)

expr_lead : (d : ℕ) (s : List ℕ) (p n w : ℕ) → p ≤ length s → expr_at d s p n ≡ bad 20 w → Leads s p w
unfolding expr_at pick
expr_lead zero s p n w h e = let z : ◌≡◌ {A = ℕ} 22 20 = (same_bad e).0 in absurd (omega arith)
expr_lead (suc d) s p n w h e = go (leb 128 n) (leb (length s) p) refl (λ l. start_lead d (expr_at d s) s (λ p n t q m. expr_back d s p n t q m) (λ p n t q m f. (expr_taken d s p n t q m f).most) (λ p n w l. expr_lead d s p n w l) p n w l) e
  where
    go : (b c : Bool) → leb (length s) p ≡ c → (p < length s → by_start (expr_at d s) s (start_of (get_or s p 0)) p n ≡ bad 20 w → Leads s p w)
        → pick b (bad 23 p) (pick c (bad 20 (length s)) (by_start (expr_at d s) s (start_of (get_or s p 0)) p n)) ≡ bad 20 w
        → Leads s p w
    go true c ec f g = let z : ◌≡◌ {A = ℕ} 23 20 = (same_bad g).0 in absurd (omega arith)
    go false true ec f g = lead_here s p w (sym (same_bad g).1 ∙ end (leb-true (length s) p ec))
      where
        end : length s ≤ p → length s ≡ p
        end l = omega arith
    go false false ec f g = f (leb-false (length s) p ec) g

-- a text of section 5 that begins as s does, up to p
pub record Begins (s : List ℕ) (p : ℕ) : Type 0 where
  pub tree : Tree
  pub proper : Proper tree
  pub rest : List ℕ
  pub spelt : spell tree ≡ take p s ++ rest

place_inside : (s : List ℕ) (n p : ℕ) → read_text s ≡ wrong n p → p ≤ length s
place_inside s n p e = go (outcome s)
  where
    go : Outcome s → p ≤ length s
    go (reads t f) = absurd (not_both f e)
    go (refuses k w h l f) = rw (sym (same_wrong (sym f ∙ e)).1) l

begins_of : (s : List ℕ) (p : ℕ) → p ≤ length s → Leads s 0 p → Begins s p
begins_of s p h L =
    let len : length s ≡ length L.done + length (drop p s) = ap length L.text ∙ length-append L.done (drop p s) in
    let size : length L.done ≡ p = omega (arith, length-drop p s) in
    let same : take p s ≡ L.done = ap (take p) L.text ∙ take_at L.done (drop p s) p size in
    record { tree = L.tree; proper = L.proper; rest = L.rest; spelt = L.spelt ∙ ap (λ (l : List ℕ). l ++ L.rest) (sym same) }

-- up to the place of 20 the text is the beginning of a text of section 5
pub allowed_before : (s : List ℕ) (p : ℕ) → read_text s ≡ wrong 20 p → Begins s p
unfolding read_text end_at pick
allowed_before s p e = go (expr_at 16 s 0 0) refl e
  where
    inside : p ≤ length s
    inside = place_inside s 20 p e

    ended : (t : Tree) (q m : ℕ) → expr_at 16 s 0 0 ≡ part t q m → q ≡ p → Leads s 0 p
    ended t q m f i =
        let B = expr_back 16 s 0 0 t q m f in
        record {
          tree = t;
          proper = B.proper;
          done = spell t;
          rest = [];
          text = B.same ∙ ap (λ (j : ℕ). spell t ++ drop j s) i;
          spelt = sym (append-nil (spell t));
        }

    last : (t : Tree) (q m : ℕ) (b : Bool) → expr_at 16 s 0 0 ≡ part t q m → pick b (got t) (wrong 20 q) ≡ wrong 20 p → Begins s p
    last t q m true f g = absurd (not_both refl g)
    last t q m false f g = begins_of s p inside (ended t q m f (same_wrong g).1)

    go : (x : Part Tree) → expr_at 16 s 0 0 ≡ x → end_at s x ≡ wrong 20 p → Begins s p
    go (part t q m) f g = last t q m (leb (length s) q) f g
    go (bad k w) f g =
        let (ek, ew) = same_wrong g in
        begins_of s p inside (expr_lead 16 s 0 0 p (omega arith) (f ∙ ap₂ (λ (x y : ℕ). bad x y) ek ew))
