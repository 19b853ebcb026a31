-- A literal, pair by pair.
use mathlib.Core.Bool.{Bool, true, false}
use mathlib.Core.List.{List}
use mathlib.Core.Path.{◌≡◌, refl, ap, ap₂, sym, ◌∙◌}
use Prim.Native.Nat.{ℕ, suc, ◌+◌, ◌*◌, ◌-◌, ◌/◌, ◌%◌, ◌≤◌, ◌<◌}
use native.Mathlib.Omega.{arith}
use lib.Dec.{leb}
use lib.ListN.{length, drop, get_or, set}
use borrow.Author.Tests.{le-leb, lt-leb, leb-false, leb-true, eq-eqb, ne_eqb}
use Rattle.common.specs.Choice.{pick}
use Rattle.common.specs.Places.{tab}
use Rattle.common.proofs.Places.{length_tab}
use Rattle.common.proofs.Runs.{Run, run_none, run_more}
use Rattle.tree.specs.Tree.Tree.{literal}
use Rattle.records.specs.Encode.{encode, constant_kind}
use Rattle.records.proofs.There.{length_record}
use Rattle.texts.specs.Reading as reading
use Rattle.texts.specs.Reading.{between, due_at, if_due, run_of, is_hex, pair_at, literal_of, literal_at}
use Rattle.texts.specs.Reading.Part.{part, bad}
use Rattle.texts.specs.Reading.Due.{stands, missing}
use Rattle.texts.proofs.Ways.{run_step}
use Rattle.tokens.specs.Tokens.{digit_at, pair_of}
use Rattle.tokens.proofs.Laws.{Figure, digit_there, digit_none, pair_whole}
use Rattle.text_reader.specs.Reader.Told.{Read, NotRead as No}
use Rattle.record_out.specs.Put.{put}
use Rattle.text_reader.specs.Reader.{in_records, Reads}
use Rattle.record_out.proofs.Put.{front, head_before, put_run}
use Rattle.text_reader.proofs.Steps.{reads_bad, reads_part}

-- a pair of digits stands at q
record Pair (s : List ℕ) (q : ℕ) : Type 0 where
  first : Figure s q
  second : Figure s (q + 1)
  value : pair_of s q ≡ pair_at s q

pair_made : (s : List ℕ) (q : ℕ) → digit_at s q < 16 → digit_at s (q + 1) < 16 → Pair s q
unfolding pair_at
pair_made s q h l =
    let a = digit_there s q h in
    let b = digit_there s (q + 1) l in
    record { first = a; second = b; value = sym (pair_whole s q h l) ∙ ap₂ (λ (x y : ℕ). 16 * x + y) a.value b.value }

pair_there : (s : List ℕ) (q : ℕ) → pair_of s q < 256 → Pair s q
unfolding pair_of pick
pair_there s q h = go (leb 16 (digit_at s q)) (leb 16 (digit_at s (q + 1))) refl refl h
  where
    go : (b c : Bool) → leb 16 (digit_at s q) ≡ b → leb 16 (digit_at s (q + 1)) ≡ c → pick b 256 (pick c 256 (16 * digit_at s q + digit_at s (q + 1))) < 256 → Pair s q
    go true c eb ec l = absurd (omega arith)
    go false true eb ec l = absurd (omega arith)
    go false false eb ec l = pair_made s q (leb-false 16 (digit_at s q) eb) (leb-false 16 (digit_at s (q + 1)) ec)

-- one digit of a pair, and no second
pair_not : (s : List ℕ) (q : ℕ) → 256 ≤ pair_of s q → digit_at s q < 16 → 16 ≤ digit_at s (q + 1)
pair_not s q h l = go (leb 16 (digit_at s (q + 1))) refl
  where
    go : (b : Bool) → leb 16 (digit_at s (q + 1)) ≡ b → 16 ≤ digit_at s (q + 1)
    go true e = leb-true 16 (digit_at s (q + 1)) e
    go false e = absurd (omega (arith, leb-false 16 (digit_at s (q + 1)) e, pair_whole s q l (leb-false 16 (digit_at s (q + 1)) e)))

-- the literal's bytes
abbrev pub byte_of : List ℕ → ℕ → ℕ → ℕ
byte_of s p i = pair_at s (p + 1 + 2 * i)

-- j pairs are read and stored
pub record Pairing (s : List ℕ) (p o : ℕ) (out₀ : List ℕ) (j q : ℕ) (out : List ℕ) : Type 0 where
  pub place : q ≡ p + 1 + 2 * j
  pub within : q ≤ length s
  pub run : run_of is_hex (drop (p + 1) s) ≡ 2 * j + run_of is_hex (drop q s)
  pub stored : Run (byte_of s p) (o + 4) out₀ j out

module _ (s : List ℕ) (p o : ℕ) (out₀ : List ℕ) where
  pub pairs_none : (q : ℕ) → q ≡ p + 1 → p < length s → Pairing s p o out₀ 0 q out₀
  pairs_none q e h = record { place = omega arith; within = omega arith; run = ap (λ (i : ℕ). run_of is_hex (drop i s)) (sym e) ∙ omega arith; stored = run_none (byte_of s p) (o + 4) out₀ }

  pub pair_inside : (q b : ℕ) → b ≡ pair_of s q → b < 256 → q + 1 < length s
  pair_inside q b e h =
      let there = pair_there s q (omega arith) in
      there.second.inside

  pub pairs_more : (j q b to : ℕ) (out : List ℕ) → Pairing s p o out₀ j q out → b ≡ pair_of s q → b < 256 → to ≡ q + 2 → o + 3 * (length s - p) ≤ length out₀
      → Pairing s p o out₀ (j + 1) to (set out (o + 4 + j) b)
  pairs_more j q b to out P eb h et fits =
      let there = pair_there s q (omega arith) in
      let inside = there.second.inside in
      let place = P.place in
      let on : q + 1 + 1 ≡ to = omega arith in
      record {
        place = omega arith;
        within = omega arith;
        run =
            P.run
            ∙ ap (λ (i : ℕ). 2 * j + i)
            (run_step is_hex s q there.first.inside there.first.hex
            ∙ ap suc (run_step is_hex s (q + 1) inside there.second.hex ∙ ap (λ (i : ℕ). suc (run_of is_hex (drop i s))) on))
            ∙ omega arith;
        stored =
            run_more (byte_of s p) (o + 4) out₀ j out b P.stored (omega arith)
            (eb ∙ there.value ∙ ap (pair_at s) place);
      }

  -- where the digits end: at an odd count, or at an even one
  odd_run : (j q : ℕ) (out : List ℕ) → Pairing s p o out₀ j q out → 256 ≤ pair_of s q → digit_at s q < 16 → run_of is_hex (drop (p + 1) s) ≡ 2 * j + 1
  odd_run j q out P h l =
      let f = digit_there s q l in
      let e = run_step is_hex s q f.inside f.hex in
      let z = digit_none s (q + 1) (pair_not s q h l) in
      P.run ∙ ap (λ (i : ℕ). 2 * j + i) (e ∙ ap suc z)

  even_run : (j q : ℕ) (out : List ℕ) → Pairing s p o out₀ j q out → 16 ≤ digit_at s q → run_of is_hex (drop (p + 1) s) ≡ 2 * j
  even_run j q out P l = P.run ∙ ap (λ (i : ℕ). 2 * j + i) (digit_none s q l) ∙ omega arith

-- the place of 20 within the text is where the byte is due
due_place : (s : List ℕ) (lo hi q w : ℕ) → q ≤ length s → due_at s lo hi q ≡ missing w → w ≡ q
unfolding due_at pick
due_place s lo hi q w l e = go (leb (length s) q) (between lo hi (get_or s q 0)) refl e
  where
    go : (b c : Bool) → leb (length s) q ≡ b → pick b (missing (length s)) (pick c stands (missing q)) ≡ missing w → w ≡ q
    go true c eb f = let g : length s ≡ w = cc in let h = leb-true (length s) q eb in omega arith
    go false true eb f = let z : ◌≡◌ {A = ℕ} 0 1 = cc in absurd (omega arith)
    go false false eb f = let g : q ≡ w = cc in sym g

-- a literal of k digits that end before q
module _ (s : List ℕ) (p n k q : ℕ) (at : q ≡ p + 1 + k) where
  shut_open : (w : ℕ) → due_at s 39 39 q ≡ missing w → literal_of s p n k ≡ bad 20 w
  unfolding literal_of if_due
  shut_open w e = rw (← at, e)

  shut_long : k % 2 ≡ 0 → 1024 < k / 2 → due_at s 39 39 q ≡ stands → literal_of s p n k ≡ bad 6 p
  unfolding literal_of if_due pick
  shut_long even h e = rw (← at, e, eq-eqb (k % 2) 0 even, lt-leb (k / 2) 1024 h)

  shut_well : k % 2 ≡ 0 → k / 2 ≤ 1024 → due_at s 39 39 q ≡ stands → literal_of s p n k ≡ part (literal (tab (k / 2) (byte_of s p))) (q + 1) (n + 1)
  unfolding literal_of if_due pick
  shut_well even h e = rw (← at, e, eq-eqb (k % 2) 0 even, le-leb (k / 2) 1024 h)

  odd_due : (d : reading.Due) → due_at s 39 39 q ≡ d → k % 2 ≡ 1 → q ≤ length s → literal_of s p n k ≡ bad 20 q
  unfolding literal_of if_due pick
  odd_due stands e h l = rw (← at, e, ne_eqb (k % 2) 0 (λ z. omega arith))
  odd_due (missing w) e h l = shut_open w e ∙ ap (bad 20) (due_place s 39 39 q w l e)

-- the ways out of a literal
module _ (s : List ℕ) (p o n : ℕ) (out₀ : List ℕ) (j q : ℕ) (out : List ℕ) (P : Pairing s p o out₀ j q out) where
  pub literal_odd : 256 ≤ pair_of s q → digit_at s q < 16 → Reads o (in_records encode (literal_at s p n)) (No 20 (q + 1)) out₀ out
  unfolding literal_at
  literal_odd h l =
      let place = P.place in
      let inside = (digit_there s q l).inside in
      reads_bad encode o (literal_at s p n) 20 (q + 1) out₀ out
      (ap (literal_of s p n) (odd_run s p o out₀ j q out P h l) ∙ odd_due s p n (2 * j + 1) (q + 1) (omega arith) (due_at s 39 39 (q + 1)) refl (omega arith) (omega arith))

  even : 16 ≤ digit_at s q → literal_at s p n ≡ literal_of s p n (2 * j)
  unfolding literal_at
  even l = ap (literal_of s p n) (even_run s p o out₀ j q out P l)

  pub literal_open : 16 ≤ digit_at s q → (w : ℕ) → due_at s 39 39 q ≡ missing w → literal_at s p n ≡ bad 20 w
  literal_open l w e = even l ∙ shut_open s p n (2 * j) q P.place w e

  pub literal_long : 16 ≤ digit_at s q → due_at s 39 39 q ≡ stands → 1024 < j → Reads o (in_records encode (literal_at s p n)) (No 6 p) out₀ out
  literal_long l e h = reads_bad encode o (literal_at s p n) 6 p out₀ out (even l ∙ shut_long s p n (2 * j) q P.place (omega arith) (omega arith) e)

  pub literal_done : (w : List ℕ) → 16 ≤ digit_at s q → due_at s 39 39 q ≡ stands → j ≤ 1024 → o + 4 + j ≤ length out₀ → w ≡ put out o (front j constant_kind)
      → Reads o (in_records encode (literal_at s p n)) (Read (q + 1) (n + 1) (o + 4 + j)) out₀ w
  unfolding encode
  literal_done w l e h fits ew =
      let half : 2 * j / 2 ≡ j = omega arith in
      let size = length_tab j (byte_of s p) in
      reads_part encode o (literal_at s p n) (literal (tab j (byte_of s p))) (q + 1) (n + 1) (o + 4 + j) out₀ w
      (even l ∙ shut_well s p n (2 * j) q P.place (omega arith) (omega arith) e ∙ ap (λ (i : ℕ). part (literal (tab i (byte_of s p))) (q + 1) (n + 1)) half)
      (omega (arith, length_record constant_kind (tab j (byte_of s p))))
      (head_before out₀ out w o constant_kind j (tab j (byte_of s p)) (omega arith) (put_run (byte_of s p) (o + 4) out₀ j out P.stored) (sym size) ew)
