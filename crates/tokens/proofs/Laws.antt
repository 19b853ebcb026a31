-- The pieces of a text and what reading says of them.
use mathlib.Core.Bool.{Bool, true, false}
use mathlib.Core.List.{List, [], ◌∷◌, ◌++◌}
use mathlib.Core.Path.{◌≡◌, refl, sym, ap, ◌∙◌}
use Prim.Native.Nat.{ℕ, zero, suc, ◌+◌, ◌-◌, ◌*◌, ◌≤◌, ◌<◌, ◌^◌}
use native.Mathlib.Nat.{add-zero}
use native.Mathlib.Numerals.{add-one}
use native.Mathlib.Omega.{arith}
use lib.Dec.{leb, ltb}
use lib.ListN.{length, take, drop, get_or, length-drop}
use lib.Seq.{take-take, take-suc, get_or-drop, length-take-le}
use borrow.Author.Tests.{le-leb, lt-leb, le-ltb, lt-ltb, leb-true, leb-false, ltb-true, ltb-false}
use Rattle.common.specs.Choice.{pick}
use Rattle.common.proofs.Choices.{pick_true, pick_false, bool_cases}
use Rattle.tree.specs.Calls as table
use Rattle.tree.specs.Calls.{calls, plain, cipher}
use Rattle.texts.specs.Spelling.{Found}
use Rattle.texts.specs.Spelling.Found.{known, unknown}
use Rattle.texts.specs.Reading as reading
use Rattle.texts.specs.Reading.{between, is_hex, is_letter, hex_value, run_of, due_at, call_in}
use Rattle.texts.specs.Reading.Part.{part}
use Rattle.texts.specs.Reading.Due.{stands, missing}
use Rattle.texts.specs.Packed.{packed, call_by}
use Rattle.texts.proofs.Standing.{Pass, between_true, between_is, run_pass, run_within}
use Rattle.texts.proofs.Ways.{due_end, due_other, due_here, run_step, run_stop, run_end}
use Rattle.texts.proofs.LeavesBack.{digit_is}
use Rattle.texts.proofs.Table.{All, by_letters}
use Rattle.texts.proofs.Packed.{call_packed, call_long, packed_more, packed_lt}
use Rattle.answers.specs.declared.Fault.{Fault}
use Rattle.tokens.specs.declared.Call.{Call}
use Rattle.std.specs.Prelude.{Option, Some, None, Ok, Err}
use Rattle.tokens.specs.Tokens.{Judged, syntax_at, Stands, Missing, due_is, some_below, some_if, Cipher, Opens, digit_of, digit_at, pair_of, letter_of, letter_at, more_of, Lettered, row_is, call_is, head_due, suite_head, head_of, head_at}

-- a byte outside a range
between_low : (lo hi b : ℕ) → b < lo → between lo hi b ≡ false
unfolding between pick
between_low lo hi b h = rw (lt-leb lo b h)

between_high : (lo hi b : ℕ) → lo ≤ b → hi < b → between lo hi b ≡ false
unfolding between pick
between_high lo hi b l h = rw (le-leb lo b l, lt-leb b hi h)

-- a byte that is due
module _ (s : List ℕ) (lo hi p : ℕ) where
  pub due_past : length s ≤ p → due_is (due_at s lo hi p) ≡ Missing (length s)
  unfolding due_is
  due_past h = ap due_is (due_end s lo hi p h)

  pub due_low : p < length s → get_or s p 0 < lo → due_is (due_at s lo hi p) ≡ Missing p
  unfolding due_is
  due_low h l = ap due_is (due_other s lo hi p h (between_low lo hi (get_or s p 0) l))

  pub due_high : p < length s → lo ≤ get_or s p 0 → hi < get_or s p 0 → due_is (due_at s lo hi p) ≡ Missing p
  unfolding due_is
  due_high h l m = ap due_is (due_other s lo hi p h (between_high lo hi (get_or s p 0) l m))

  pub due_in : p < length s → lo ≤ get_or s p 0 → get_or s p 0 ≤ hi → due_is (due_at s lo hi p) ≡ Stands
  unfolding due_is
  due_in h l m = ap due_is (due_here s lo hi p h (between_true lo hi (get_or s p 0) l m))

pub ruleset dues = (due_past, due_low, due_high, due_in)

-- what a piece says of the definition
pub due_stood : (d : reading.Due) (u : Unit {0}) → due_is d ≡ Ok u → d ≡ stands
unfolding due_is
due_stood stands u e = refl
due_stood (missing w) u e = cc

pub due_missed : (d : reading.Due) (f : Fault) → due_is d ≡ Err f → (d ≡ missing f.place) × (f ≡ syntax_at f.place)
unfolding due_is
due_missed stands f e = cc
due_missed (missing v) f e = let g : syntax_at v ≡ f = of_err e in (ap missing (ap (λ (f : Fault). f.place) g), sym g ∙ ap (λ (f : Fault). syntax_at f.place) g)
  where
    of_err : {f g : Fault} → ◌≡◌ {A = Judged} (Err f) (Err g) → f ≡ g
    of_err e = cc

-- a number below a bound, or none
some_low : (top n : ℕ) → n < top → some_below top n ≡ Some n
unfolding some_below
some_low top n h = pick_true _ _ _ (lt-ltb n top h)

none_high : (top n : ℕ) → top ≤ n → some_below top n ≡ None
unfolding some_below
none_high top n h = pick_false _ _ _ (le-ltb n top h)

pub below_some : (top n a : ℕ) → some_below top n ≡ Some a → (a ≡ n) × (a < top)
unfolding some_below
below_some top n a = bool_cases (λ b. pick b (Some n) None ≡ Some a → (a ≡ n) × (a < top)) (ltb n top)
    (λ e f. let l = ltb-true n top e in let q : n ≡ a = of_some (sym (pick_true _ _ _ e) ∙ f) in (sym q, omega arith))
    (λ e f. let q : None ≡ Some a = sym (pick_false _ _ _ e) ∙ f in cc)
  where
    of_some : {i j : ℕ} → Some i ≡ Some j → i ≡ j
    of_some e = cc

pub below_none : (top n : ℕ) → some_below top n ≡ None → top ≤ n
unfolding some_below
below_none top n = bool_cases (λ b. pick b (Some n) None ≡ None → top ≤ n) (ltb n top)
    (λ e f. let q : Some n ≡ None = sym (pick_true _ _ _ e) ∙ f in cc)
    (λ e f. ltb-false n top e)

-- digits
pub digit_low : (b : ℕ) → b < 48 → some_below 16 (digit_of b) ≡ None
unfolding digit_of is_hex pick
digit_low b h = none_high 16 _ (rw (between_low 48 57 b h, between_low 65 70 b (omega arith)) (omega arith))

figure_value : (b : ℕ) → 48 ≤ b → b ≤ 57 → digit_of b ≡ b - 48
unfolding digit_of is_hex hex_value pick
figure_value b l h = rw (between_true 48 57 b l h, le-leb b 57 h)

pub digit_figure : (b : ℕ) → 48 ≤ b → b ≤ 57 → some_below 16 (digit_of b) ≡ Some (b - 48)
digit_figure b l h = ap (some_below 16) (figure_value b l h) ∙ some_low 16 (b - 48) (omega arith)

pub digit_middle : (b : ℕ) → 57 < b → b < 65 → some_below 16 (digit_of b) ≡ None
unfolding digit_of is_hex pick
digit_middle b l h = none_high 16 _ (rw (between_high 48 57 b (omega arith) l, between_low 65 70 b h) (omega arith))

letter_value : (b : ℕ) → 65 ≤ b → b ≤ 70 → digit_of b ≡ b - 55
unfolding digit_of is_hex hex_value pick
letter_value b l h = rw (between_high 48 57 b (omega arith) (omega arith), between_true 65 70 b l h, lt-leb b 57 (omega arith))

pub digit_letter : (b : ℕ) → 65 ≤ b → b ≤ 70 → some_below 16 (digit_of b) ≡ Some (b - 65 + 10)
digit_letter b l h = let v : digit_of b ≡ b - 65 + 10 = letter_value b l h ∙ omega arith in ap (some_below 16) v ∙ some_low 16 (b - 65 + 10) (omega arith)

pub digit_high : (b : ℕ) → 70 < b → some_below 16 (digit_of b) ≡ None
unfolding digit_of is_hex pick
digit_high b h = none_high 16 _ (rw (between_high 48 57 b (omega arith) (omega arith), between_high 65 70 b (omega arith) h) (omega arith))

pub ruleset digits = (digit_low, digit_figure, digit_middle, digit_letter, digit_high)

pub digit_past : (s : List ℕ) (p : ℕ) → length s ≤ p → some_below 16 (digit_at s p) ≡ None
unfolding digit_at
digit_past s p h = none_high 16 _ (rw (pick_true _ _ _ (le-leb (length s) p h)) (omega arith))

pub digit_in_lem : (s : List ℕ) (p : ℕ) → p < length s → digit_of (get_or s p 0) ≡ digit_at s p
unfolding digit_at pick
digit_in_lem s p h = rw (lt-leb (length s) p h)

-- a digit stands at p
pub record Figure (s : List ℕ) (p : ℕ) : Type 0 where
  pub inside : p < length s
  pub hex : is_hex (get_or s p 0) ≡ true
  pub value : digit_at s p ≡ hex_value (get_or s p 0)

pub digit_there : (s : List ℕ) (p : ℕ) → digit_at s p < 16 → Figure s p
unfolding digit_at digit_of pick
digit_there s p h = go (leb (length s) p) (is_hex (get_or s p 0)) refl refl h
  where
    go : (b c : Bool) → leb (length s) p ≡ b → is_hex (get_or s p 0) ≡ c → pick b 16 (pick c (hex_value (get_or s p 0)) 16) < 16 → Figure s p
    go true c eb ec l = absurd (omega arith)
    go false true eb ec l = record { inside = leb-false (length s) p eb; hex = ec; value = rw (eb, ec) }
    go false false eb ec l = absurd (omega arith)

pub digit_none : (s : List ℕ) (p : ℕ) → 16 ≤ digit_at s p → run_of is_hex (drop p s) ≡ 0
unfolding digit_at digit_of pick
digit_none s p h = go (leb (length s) p) (is_hex (get_or s p 0)) refl refl h
  where
    go : (b c : Bool) → leb (length s) p ≡ b → is_hex (get_or s p 0) ≡ c → 16 ≤ pick b 16 (pick c (hex_value (get_or s p 0)) 16) → run_of is_hex (drop p s) ≡ 0
    go true c eb ec l = run_end is_hex s p (leb-true (length s) p eb)
    go false true eb ec l = absurd (omega (arith, digit_is (get_or s p 0) ec))
    go false false eb ec l = run_stop is_hex s p (leb-false (length s) p eb) ec

-- pairs of digits
module _ (s : List ℕ) (p : ℕ) where
  pub pair_none : 16 ≤ digit_at s p → some_below 256 (pair_of s p) ≡ None
  unfolding pair_of
  pair_none h = none_high 256 _ (rw (pick_true _ _ _ (le-leb 16 (digit_at s p) h)) (omega arith))

  pub pair_half : digit_at s p < 16 → 16 ≤ digit_at s (p + 1) → some_below 256 (pair_of s p) ≡ None
  unfolding pair_of
  pair_half h l = none_high 256 _ (rw (pick_false _ _ _ (lt-leb 16 (digit_at s p) h), pick_true _ _ _ (le-leb 16 (digit_at s (p + 1)) l)) (omega arith))

  pub pair_whole : digit_at s p < 16 → digit_at s (p + 1) < 16 → 16 * digit_at s p + digit_at s (p + 1) ≡ pair_of s p
  unfolding pair_of pick
  pair_whole h l = rw (lt-leb 16 (digit_at s p) h, lt-leb 16 (digit_at s (p + 1)) l)

  pub pair_some : (a b : ℕ) → a ≡ digit_at s p → b ≡ digit_at s (p + 1) → a < 16 → b < 16 → some_below 256 (pair_of s p) ≡ Some (16 * a + b)
  pair_some a b ea eb la lb =
      let w = pair_whole (omega arith) (omega arith) in
      let v : pair_of s p ≡ 16 * a + b = omega arith in
      ap (some_below 256) v ∙ some_low 256 _ (omega arith)

-- letters
some_pos : (n : ℕ) → 0 < n → some_if n ≡ Some n
unfolding some_if
some_pos zero h = absurd (omega arith)
some_pos (suc n) h = refl

pub if_some : (n b : ℕ) → some_if n ≡ Some b → (b ≡ n) × (0 < b)
unfolding some_if
if_some zero b e = cc
if_some (suc n) b e = let q : suc n ≡ b = of_some e in (sym q, omega arith)
  where
    of_some : {i j : ℕ} → Some i ≡ Some j → i ≡ j
    of_some e = cc

pub if_none : (n : ℕ) → some_if n ≡ None → n ≡ 0
unfolding some_if
if_none zero e = refl
if_none (suc n) e = cc

none_zero : (n : ℕ) → n ≡ 0 → some_if n ≡ None
unfolding some_if
none_zero n e = ap some_if e

pub letter_past : (s : List ℕ) (p : ℕ) → length s ≤ p → some_if (letter_at s p) ≡ None
unfolding letter_at
letter_past s p h = none_zero _ (pick_true _ _ _ (le-leb (length s) p h))

pub letter_low : (s : List ℕ) (p : ℕ) → p < length s → get_or s p 0 < 97 → some_if (letter_at s p) ≡ None
unfolding letter_at letter_of is_letter
letter_low s p h l = none_zero _ (pick_false _ _ _ (lt-leb (length s) p h) ∙ pick_false _ _ _ (between_low 97 122 (get_or s p 0) l))

pub letter_high : (s : List ℕ) (p : ℕ) → p < length s → 97 ≤ get_or s p 0 → 122 < get_or s p 0 → some_if (letter_at s p) ≡ None
unfolding letter_at letter_of is_letter
letter_high s p h l m = none_zero _ (pick_false _ _ _ (lt-leb (length s) p h) ∙ pick_false _ _ _ (between_high 97 122 (get_or s p 0) l m))

pub letter_in : (s : List ℕ) (p : ℕ) → p < length s → 97 ≤ get_or s p 0 → get_or s p 0 ≤ 122 → some_if (letter_at s p) ≡ Some (get_or s p 0)
unfolding letter_at letter_of is_letter
letter_in s p h l m = ap some_if (pick_false _ _ _ (lt-leb (length s) p h) ∙ pick_true _ _ _ (between_true 97 122 (get_or s p 0) l m)) ∙ some_pos _ (omega arith)

pub ruleset letters = (letter_past, letter_low, letter_high, letter_in)

-- a letter stands at p
record Letter (s : List ℕ) (p : ℕ) : Type 0 where
  inside : p < length s
  letter : is_letter (get_or s p 0) ≡ true
  value : letter_at s p ≡ get_or s p 0

letter-there : (s : List ℕ) (p : ℕ) → 0 < letter_at s p → Letter s p
unfolding letter_at letter_of pick
letter-there s p h = go (leb (length s) p) (is_letter (get_or s p 0)) refl refl h
  where
    go : (b c : Bool) → leb (length s) p ≡ b → is_letter (get_or s p 0) ≡ c → 0 < pick b 0 (pick c (get_or s p 0) 0) → Letter s p
    go true c eb ec l = absurd (omega arith)
    go false true eb ec l = record { inside = leb-false (length s) p eb; letter = ec; value = rw (eb, ec) }
    go false false eb ec l = absurd (omega arith)

letter-none : (s : List ℕ) (p : ℕ) → letter_at s p ≡ 0 → run_of is_letter (drop p s) ≡ 0
unfolding letter_at letter_of is_letter pick
letter-none s p h = go (leb (length s) p) (is_letter (get_or s p 0)) refl refl h
  where
    go : (b c : Bool) → leb (length s) p ≡ b → is_letter (get_or s p 0) ≡ c → pick b 0 (pick c (get_or s p 0) 0) ≡ 0 → run_of is_letter (drop p s) ≡ 0
    go true c eb ec l = run_end is_letter s p (leb-true (length s) p eb)
    go false true eb ec l = absurd (omega (arith, between_is 97 122 (get_or s p 0) ec))
    go false false eb ec l = run_stop is_letter s p (leb-false (length s) p eb) ec

-- one more letter, stored while it fits
pub more_fits : (w b : ℕ) → w < 1099511627776 → w * 256 + b ≡ more_of w b
unfolding more_of pick
more_fits w b h = rw (lt-ltb w 1099511627776 h)

pub more_full : (w b : ℕ) → 1099511627776 ≤ w → w ≡ more_of w b
unfolding more_of pick
more_full w b h = rw (le-ltb w 1099511627776 h)

pass_take : (test : ℕ → Bool) (k : ℕ) (w : List ℕ) → Pass test w → Pass test (take k w)
unfolding Pass
pass_take test zero w h = tt
pass_take test (suc k) [] h = tt
pass_take test (suc k) (x ∷ w) h = (h.0, pass_take test k w h.1)

-- a part of a run passes
run_part : (test : ℕ → Bool) (s : List ℕ) (k : ℕ) → k ≤ run_of test s → Pass test (take k s)
run_part test s k h = rw (← (take-take k (run_of test s) s h)) (pass_take test k (take (run_of test s) s) (run_pass test s))

four_bytes : (k : ℕ) → k ≤ 4 → 256 ^ k ≤ 4294967296
four_bytes zero h = omega arith
four_bytes (suc zero) h = omega arith
four_bytes (suc (suc zero)) h = omega arith
four_bytes (suc (suc (suc zero))) h = omega arith
four_bytes (suc (suc (suc (suc zero)))) h = omega arith
four_bytes (suc (suc (suc (suc (suc k))))) h = absurd (omega arith)

-- k letters are read
pub record Lettering (s : List ℕ) (p w k : ℕ) : Type 0 where
  pub within : k ≤ length s - p
  pub run : run_of is_letter (drop p s) ≡ k + run_of is_letter (drop (p + k) s)
  pub word : k ≤ 5 → w ≡ packed (take k (drop p s)) 0

pub letters_none : (s : List ℕ) (p : ℕ) → Lettering s p 0 0
unfolding packed
letters_none s p =
    record {
      within = omega arith;
      run = ap (λ (i : ℕ). run_of is_letter (drop i s)) (sym (add-zero p)) ∙ omega arith;
      word = λ h. refl;
    }

-- the letters so far pass, and are as many
so_far : (s : List ℕ) (p w k : ℕ) → Lettering s p w k → Pass is_letter (take k (drop p s)) × (length (take k (drop p s)) ≡ k)
so_far s p w k L =
    let r = L.run in
    let l = L.within in
    let n = length-drop p s in
    (run_part is_letter (drop p s) k (omega arith), length-take-le k (drop p s) (omega arith))

pub letters_more : (s : List ℕ) (p w k b v : ℕ) → Lettering s p w k → b ≡ letter_at s (p + k) → 0 < b → v ≡ more_of w b → Lettering s p v (k + 1)
letters_more s p w k b v L eb h ev =
    let there = letter-there s (p + k) (omega arith) in
    let in-text = there.inside in
    let on : p + k + 1 ≡ p + (k + 1) = omega arith in
    record {
      within = omega arith;
      run =
          L.run ∙ ap (λ (i : ℕ). k + i) (run_step is_letter s (p + k) in-text there.letter)
          ∙ ap (λ (i : ℕ). k + suc (run_of is_letter (drop i s))) on
          ∙ omega arith;
      word =
          λ five.
          let four : k ≤ 4 = omega arith in
          let (pass, long) = so_far s p w k L in
          one_more (take k (drop p s)) (take (k + 1) (drop p s)) w b v (L.word (omega arith))
          (below (take k (drop p s)) k pass long four)
          (ap (λ (i : ℕ). take i (drop p s)) (add-one k) ∙ take-suc (drop p s) k 0 (omega (arith, length-drop p s))
          ∙ ap (λ (x : ℕ). take k (drop p s) ++ (x ∷ [])) (get_or-drop p s k 0 ∙ sym there.value ∙ sym eb))
          ev;
    }
  where
    below : (u : List ℕ) (k : ℕ) → Pass is_letter u → length u ≡ k → k ≤ 4 → packed u 0 < 4294967296
    below u k h e l = let a = packed_lt u h in let c = four_bytes k l in let d : 256 ^ length u ≡ 256 ^ k = ap (λ (i : ℕ). 256 ^ i) e in omega arith

    one_more : (u t : List ℕ) (w b v : ℕ) → w ≡ packed u 0 → packed u 0 < 4294967296 → t ≡ u ++ (b ∷ []) → v ≡ more_of w b → v ≡ packed t 0
    one_more u t w b v ew small et ev =
        ev ∙ sym (more_fits w b (omega arith)) ∙ ap (λ (x : ℕ). x * 256 + b) ew ∙ sym (packed_more u b 0) ∙ ap (λ (x : List ℕ). packed x 0) (sym et)

no_number : call_by calls 0 ≡ unknown
unfolding call_by calls plain cipher packed pick
no_number = refl

-- the run is read to its end
ended : (s : List ℕ) (p w k : ℕ) → Lettering s p w k → letter_at s (p + k) ≡ 0 → k ≡ run_of is_letter (drop p s)
ended s p w k L h =
    let e = L.run in
    let n = letter-none s (p + k) h in
    omega arith

pub letters_long : (s : List ℕ) (p w k : ℕ) → Lettering s p w k → letter_at s (p + k) ≡ 0 → 5 < k → Lettered s p k 0
letters_long s p w k L h l =
    let (pass, long) = so_far s p w k L in
    record { longest = ended s p w k L h; names = no_number ∙ sym (call_long (take k (drop p s)) (omega arith)) }

pub letters_short : (s : List ℕ) (p w k : ℕ) → Lettering s p w k → letter_at s (p + k) ≡ 0 → k ≤ 5 → Lettered s p k w
letters_short s p w k L h l =
    let (pass, long) = so_far s p w k L in
    record {
      longest = ended s p w k L h;
      names = ap (call_by calls) (L.word l) ∙ sym (call_packed (take k (drop p s)) pass);
    }

pub letters_within : (s : List ℕ) (p count word : ℕ) → Lettered s p count word → count ≤ length s - p
letters_within s p count word L =
    let e = L.longest in
    omega (arith, run_within is_letter (drop p s), length-drop p s)

-- the row by its number is the row by its letters
pub head_of_lem : (s : List ℕ) (p count word : ℕ) (c : Option Call) → Lettered s p count word → c ≡ call_is (call_by calls word) → head_of s c p (p + count) ≡ head_at s p
unfolding head_at
head_of_lem s p count word c L e = rw (e, L.names, L.longest)

-- the rows of the table: two letters or more, kinds up to 01B0
abbrev pub Wide : table.Call → Type 0
Wide r = (leb 2 (length r.letters) ≡ true) × (leb r.kind 432 ≡ true)

pub all_wide : All Wide calls
unfolding All calls plain cipher
all_wide = (
  (refl, refl),
  (
    (refl, refl),
    (
      (refl, refl),
      (
        (refl, refl),
        (
          (refl, refl),
          (
            (refl, refl),
            (
              (refl, refl),
              (
                (refl, refl),
                (
                  (refl, refl),
                  (
                    (refl, refl),
                    ((refl, refl), ((refl, refl), ((refl, refl), ((refl, refl), ((refl, refl), ((refl, refl), ((refl, refl), tt))))))),
                  ),
                ),
              ),
            ),
          ),
        ),
      ),
    ),
  ),
)

row_kind_lem : (w : List ℕ) (f : Found) (b : Bool) (k c : ℕ) → call_in calls w ≡ f → row_is b k c ≡ call_is f → k ≤ 432
unfolding call_is row_is
row_kind_lem w (known r) b k c e h =
    let (wide, letters) = by_letters Wide calls w r all_wide e in
    let kind : k ≡ r.kind = same_kind b r.suited k c r.kind r.arguments h in
    omega (arith, leb-true r.kind 432 wide.1)
  where
    same_kind : (a b : Bool) (k c i j : ℕ) → row_is a k c ≡ row_is b i j → k ≡ i
    same_kind false false k c i j e = cc
    same_kind false true k c i j e = cc
    same_kind true false k c i j e = cc
    same_kind true true k c i j e = cc
row_kind_lem w unknown b k c e h = absurd (no_call b k c h)
  where
    no_call : (b : Bool) (k c : ℕ) → row_is b k c ≡ None → ⊥
    no_call false k c e = cc
    no_call true k c e = cc

pub cipher_small : (s : List ℕ) (p count word k c : ℕ) → Lettered s p count word → Cipher k c ≡ call_is (call_by calls word) → k ≤ 432
unfolding row_is
cipher_small s p count word k c L e = row_kind_lem (take count (drop p s)) (call_in calls (take count (drop p s))) true k c refl (e ∙ ap call_is L.names)

-- a letter that was met stands in the text
pub letter_inside : (s : List ℕ) (q b : ℕ) → b ≡ letter_at s q → 0 < b → q < length s
letter_inside s q b e h = (letter-there s q (omega arith)).inside

-- a `.` and a suite digit
module _ (s : List ℕ) (k c q : ℕ) where
  pub suite_no_dot : (f : Fault) → due_is (due_at s 46 46 q) ≡ Err f → Err f ≡ suite_head s k c q
  unfolding suite_head head_due
  suite_no_dot f e = let (d, g) = due_missed _ f e in ap Err g ∙ sym (ap (λ d. head_due d (head_due (due_at s 49 53 (q + 1)) (Opens (k + (get_or s (q + 1) 0 - 48)) c (q + 2)))) d)

  pub suite_no_digit : (u : Unit {0}) (f : Fault) → due_is (due_at s 46 46 q) ≡ Ok u → due_is (due_at s 49 53 (q + 1)) ≡ Err f → Err f ≡ suite_head s k c q
  unfolding suite_head head_due
  suite_no_digit u f e h =
      let (d, g) = due_missed _ f h in
      ap Err g
      ∙ sym (ap (λ d. head_due d (head_due (due_at s 49 53 (q + 1)) (Opens (k + (get_or s (q + 1) 0 - 48)) c (q + 2)))) (due_stood _ u e) ∙ ap (λ d. head_due d (Opens (k + (get_or s (q + 1) 0 - 48)) c (q + 2))) d)

  pub suite_done : (u v : Unit {0}) → due_is (due_at s 46 46 q) ≡ Ok u → due_is (due_at s 49 53 (q + 1)) ≡ Ok v → Opens (k + (get_or s (q + 1) 0 - 48)) c (q + 2) ≡ suite_head s k c q
  unfolding suite_head head_due
  suite_done u v e f = let a = due_stood _ u e in let b = due_stood _ v f in rw (a, b)

-- a call's row, by its parts
pub row_here : (r : Option Call) (f g : Call) → r ≡ Some f → f ≡ g → r ≡ Some g
row_here r f g e h = e ∙ ap Some h
