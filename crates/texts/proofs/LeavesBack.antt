-- A literal or a name that was read stands there as it is spelt.
use mathlib.Core.Bool.{Bool, true, false}
use mathlib.Core.List.{List, [], ◌∷◌, ◌++◌, append_assoc}
use mathlib.Core.Path.{◌≡◌, refl, sym, ap, ap₂, ◌∙◌}
use Prim.Native.Nat.{ℕ, zero, suc, ◌+◌, ◌-◌, ◌*◌, ◌/◌, ◌%◌, ◌≤◌, ◌<◌}
use native.Mathlib.Nat.{add-zero}
use native.Mathlib.Omega.{arith}
use lib.Dec.{eqb, leb, ltb}
use lib.ListN.{length, take, drop, get_or, get_or-eq_default}
use lib.Seq.{get_or-take, get_or-drop, length-take-le}
use borrow.Author.Tests.{le-leb, lt-leb, leb-true, eqb-true, lt-ltb, le-ltb, ltb-true, ltb-false}
use Rattle.common.specs.Choice.{pick}
use Rattle.common.specs.Places.{tab}
use Rattle.common.proofs.Places.{tab_ext, get_d_tab, length_tab}
use Rattle.tree.specs.Tree.{Tree}
use Rattle.tree.specs.Tree.Tree.{literal, bound, row, run}
use Rattle.tree.specs.Bounds.{depth, nodes, Bytes, Proper, Small}
use Rattle.texts.specs.Spelling.{hex_digit, pairs, spell}
use Rattle.texts.specs.Reading.{Part, between, is_hex, run_of, due_at, hex_value, pair_at, literal_of, literal_at, name_at}
use Rattle.texts.specs.Reading.Part.{part, bad}
use Rattle.texts.proofs.Standing.{stands_here, between_is, Stood, due_is_lem, if_due_lem, pick_good, Pass, run_pass, run_within}

-- what reading a tree at p says: it is spelt there, up to q, and within the bounds
pub record Back (d : ℕ) (s : List ℕ) (p n : ℕ) (t : Tree) (q m : ℕ) : Type 0 where
  pub same : drop p s ≡ spell t ++ drop q s
  pub proper : Proper t
  pub small : Small t
  pub deep : depth t ≤ d
  pub count : m ≡ n + nodes t
  pub few : m ≤ 128

pub back_as : (d : ℕ) (s : List ℕ) (p n : ℕ) (a t : Tree) (u j q m : ℕ) → Back d s p n a u j → part a u j ≡ part t q m → Back d s p n t q m
back_as d s p n a t u j q m h e =
    let et : a ≡ t = cc in
    let eq : u ≡ q = cc in
    let em : j ≡ m = cc in
    rw (← et, ← eq, ← em) h

-- an upper-case digit has a value below 16, and is that value's digit
pub record Digit (b : ℕ) : Type 0 where
  pub low : hex_value b < 16
  pub is : hex_digit (hex_value b) ≡ b

digit_09 : (b : ℕ) → 48 ≤ b → b ≤ 57 → Digit b
unfolding hex_value hex_digit pick
digit_09 b l h = record { low = rw (le-leb b 57 h) (omega arith); is = rw (le-leb b 57 h, lt-ltb (b - 48) 10 (omega arith)) (omega arith) }

digit_AF : (b : ℕ) → 65 ≤ b → b ≤ 70 → Digit b
unfolding hex_value hex_digit pick
digit_AF b l h = record { low = rw (lt-leb b 57 (omega arith)) (omega arith); is = rw (lt-leb b 57 (omega arith), le-ltb (b - 55) 10 (omega arith)) (omega arith) }

pub digit_is : (b : ℕ) → is_hex b ≡ true → Digit b
unfolding is_hex pick
digit_is b e = go (between 48 57 b) refl e
  where
    go : (x : Bool) → between 48 57 b ≡ x → pick x true (between 65 70 b) ≡ true → Digit b
    go true ex f = let h = between_is 48 57 b ex in digit_09 b h.0 h.1
    go false ex f = let h = between_is 65 70 b f in digit_AF b h.0 h.1

-- a pair of digits is spelt from its byte
pub pair_back : (s : List ℕ) (q : ℕ) → Digit (get_or s q 0) → Digit (get_or s (q + 1) 0)
    → (hex_digit (pair_at s q / 16) ≡ get_or s q 0) × (hex_digit (pair_at s q % 16) ≡ get_or s (q + 1) 0) × (pair_at s q < 256)
unfolding pair_at
pair_back s q a b =
    let la = a.low in
    let lb = b.low in
    let hi : (16 * hex_value (get_or s q 0) + hex_value (get_or s (q + 1) 0)) / 16 ≡ hex_value (get_or s q 0) = omega arith in
    let lo : (16 * hex_value (get_or s q 0) + hex_value (get_or s (q + 1) 0)) % 16 ≡ hex_value (get_or s (q + 1) 0) = omega arith in
    (ap hex_digit hi ∙ a.is, ap hex_digit lo ∙ b.is, omega arith)

abbrev Digits : List ℕ → ℕ → ℕ → Type 0
Digits s q k = (i : ℕ) → i < k → Digit (get_or s (q + i) 0)

pairs_back : (h : ℕ) (s : List ℕ) (q : ℕ) → q + 2 * h ≤ length s → Digits s q (2 * h) → drop q s ≡ pairs (tab h (λ i. pair_at s (q + 2 * i))) ++ drop (q + 2 * h) s
unfolding tab pairs
pairs_back zero s q l ds =
    let at : q ≡ q + 2 * 0 = omega arith in
    ap (λ (i : ℕ). drop i s) at
pairs_back (suc h) s q l ds =
    let at : q + 2 * 0 ≡ q = omega arith in
    let next : q + 1 + 1 + 2 * h ≡ q + 2 * suc h = omega arith in
    let move : (i : ℕ) → q + 1 + 1 + 2 * i ≡ q + 2 * suc i = λ i. omega arith in
    let d0 : Digit (get_or s q 0) = rw (add-zero q) at (ds 0 (omega arith)) in
    let shift : (i : ℕ) → q + 1 + 1 + i ≡ q + suc (suc i) = λ i. omega arith in
    let b = pair_back s q d0 (ds 1 (omega arith)) in
    let ih : drop (q + 1 + 1) s ≡ pairs (tab h (λ i. pair_at s (q + 1 + 1 + 2 * i))) ++ drop (q + 1 + 1 + 2 * h) s =
    pairs_back h s (q + 1 + 1) (omega arith) (λ i m. rw (shift i) (ds (suc (suc i)) (omega arith))) in
    let tail : drop (q + 1 + 1) s ≡ pairs (tab h (λ i. pair_at s (q + 2 * suc i))) ++ drop (q + 2 * suc h) s =
    ih
    ∙ ap₂ (λ (v : List ℕ) (i : ℕ). pairs v ++ drop i s)
    (tab_ext h (λ i. pair_at s (q + 1 + 1 + 2 * i)) (λ i. pair_at s (q + 2 * suc i)) (λ i m. ap (pair_at s) (move i))) next in
    let front : drop q s ≡ get_or s q 0 ∷ get_or s (q + 1) 0 ∷ drop (q + 1 + 1) s =
    stands_here s q (omega arith) ∙ ap (λ (w : List ℕ). get_or s q 0 ∷ w) (stands_here s (q + 1) (omega arith)) in
    let hi : get_or s q 0 ≡ hex_digit (pair_at s (q + 2 * 0) / 16) = sym (ap (λ (i : ℕ). hex_digit (pair_at s i / 16)) at ∙ b.0) in
    let lo : get_or s (q + 1) 0 ≡ hex_digit (pair_at s (q + 2 * 0) % 16) = sym (ap (λ (i : ℕ). hex_digit (pair_at s i % 16)) at ∙ b.1) in
    front ∙ ap₂ (λ (x : ℕ) (w : List ℕ). x ∷ w) hi (ap₂ (λ (x : ℕ) (w : List ℕ). x ∷ w) lo tail)

tab_bytes : (h : ℕ) (s : List ℕ) (q : ℕ) → Digits s q (2 * h) → Bytes (tab h (λ i. pair_at s (q + 2 * i)))
tab_bytes h s q ds i = go (ltb i h) refl
  where
    go : (b : Bool) → ltb i h ≡ b → get_or (tab h (λ i. pair_at s (q + 2 * i))) i 0 < 256
    go true e =
        let l : i < h = ltb-true i h e in
        let one_on : q + suc (2 * i) ≡ q + 2 * i + 1 = omega arith in
        let b = pair_back s (q + 2 * i) (ds (2 * i) (omega arith)) (rw one_on at (ds (suc (2 * i)) (omega arith))) in
        rw (get_d_tab h (λ i. pair_at s (q + 2 * i)) i l) b.2
    go false e =
        let l : h ≤ i = ltb-false i h e in
        rw (get_or-eq_default (tab h (λ i. pair_at s (q + 2 * i))) 0 {n = i} (omega (arith, length_tab h (λ i. pair_at s (q + 2 * i))))) (omega arith)

pass_at : (test : ℕ → Bool) (w : List ℕ) (i : ℕ) → Pass test w → i < length w → test (get_or w i 0) ≡ true
unfolding Pass
pass_at test [] i h l = absurd (omega arith)
pass_at test (x ∷ w) zero h l = h.0
pass_at test (x ∷ w) (suc i) h l = pass_at test w i h.1 (omega arith)

-- the run of digits from q on is digits
run_digits : (s : List ℕ) (q : ℕ) → Digits s q (run_of is_hex (drop q s))
run_digits s q i h =
    let k : ℕ = run_of is_hex (drop q s) in
    let w = run_within is_hex (drop q s) in
    let l : i < length (take k (drop q s)) = omega (arith, length-take-le k (drop q s) w) in
    let e : is_hex (get_or (take k (drop q s)) i 0) ≡ true = pass_at is_hex (take k (drop q s)) i (run_pass is_hex (drop q s)) l in
    let f : get_or (take k (drop q s)) i 0 ≡ get_or s (q + i) 0 = get_or-take k (drop q s) i 0 h ∙ get_or-drop q s i 0 in
    digit_is (get_or s (q + i) 0) (rw f at e)

literal_made : (d : ℕ) (s : List ℕ) (p n k : ℕ) → get_or s p 0 ≡ 39 → p < length s → n < 128 → Digits s (p + 1) k → Stood s 39 39 (p + 1 + k) → k % 2 ≡ 0 → k / 2 ≤ 1024
    → Back (suc d) s p n (literal (tab (k / 2) (λ i. pair_at s (p + 1 + 2 * i)))) (p + 1 + k + 1) (n + 1)
unfolding spell Proper Small depth nodes
literal_made d s p n k first inside few ds st even small =
    let v : List ℕ = tab (k / 2) (λ i. pair_at s (p + 1 + 2 * i)) in
    let twice : 2 * (k / 2) ≡ k = omega arith in
    let in-text = st.inside in
    let l0 = st.low in
    let h0 = st.high in
    let last : get_or s (p + 1 + k) 0 ≡ 39 = omega arith in
    let ds2 : Digits s (p + 1) (2 * (k / 2)) = rw twice ds in
    let body : drop (p + 1) s ≡ pairs v ++ drop (p + 1 + 2 * (k / 2)) s = pairs_back (k / 2) s (p + 1) (omega arith) ds2 in
    let body2 : drop (p + 1) s ≡ pairs v ++ (39 ∷ drop (p + 1 + k + 1) s) =
    body
    ∙ ap (λ (i : ℕ). pairs v ++ drop (p + 1 + i) s) twice
    ∙ ap (λ (w : List ℕ). pairs v ++ w) (stands_here s (p + 1 + k) in-text ∙ ap (λ (x : ℕ). x ∷ drop (p + 1 + k + 1) s) last) in
    let same : drop p s ≡ 39 ∷ (pairs v ++ (39 ∷ []) ++ drop (p + 1 + k + 1) s) =
    stands_here s p inside
    ∙ ap₂ (λ (x : ℕ) (w : List ℕ). x ∷ w) first (body2 ∙ sym (append_assoc (pairs v) (39 ∷ []) (drop (p + 1 + k + 1) s))) in
    record {
      same = same;
      proper = tab_bytes (k / 2) s (p + 1) ds2;
      small = omega (arith, length_tab (k / 2) (λ i. pair_at s (p + 1 + 2 * i)));
      deep = omega arith;
      count = refl;
      few = omega arith;
    }

literal_of_back : (d : ℕ) (s : List ℕ) (p n k : ℕ) (t : Tree) (q m : ℕ) → get_or s p 0 ≡ 39 → p < length s → n < 128 → Digits s (p + 1) k → literal_of s p n k ≡ part t q m
    → Back (suc d) s p n t q m
unfolding literal_of
literal_of_back d s p n k t q m first inside few ds e =
    let a : Part Tree = part (literal (tab (k / 2) (λ i. pair_at s (p + 1 + 2 * i)))) (p + 1 + k + 1) (n + 1) in
    let (e1, e2) = if_due_lem (due_at s 39 39 (p + 1 + k)) (pick (eqb (k % 2) 0) (pick (leb (k / 2) 1024) a (bad 6 p)) (bad 20 (p + 1 + k))) e in
    let (e3, e4) = pick_good (eqb (k % 2) 0) 20 (p + 1 + k) (pick (leb (k / 2) 1024) a (bad 6 p)) e2 in
    let (e5, e6) = pick_good (leb (k / 2) 1024) 6 p a e4 in
    back_as (suc d) s p n (literal (tab (k / 2) (λ i. pair_at s (p + 1 + 2 * i)))) t (p + 1 + k + 1) (n + 1) q m
    (literal_made d s p n k first inside few ds (due_is_lem s 39 39 (p + 1 + k) e1) (eqb-true (k % 2) 0 e3) (leb-true (k / 2) 1024 e5)) e6

pub literal_back : (d : ℕ) (s : List ℕ) (p n : ℕ) (t : Tree) (q m : ℕ) → get_or s p 0 ≡ 39 → p < length s → n < 128 → literal_at s p n ≡ part t q m → Back (suc d) s p n t q m
unfolding literal_at
literal_back d s p n t q m first inside few e = literal_of_back d s p n (run_of is_hex (drop (p + 1) s)) t q m first inside few (run_digits s (p + 1)) e

-- a name's sign and digit
name_stands : (s : List ℕ) (p x hi : ℕ) → get_or s p 0 ≡ x → p < length s → Stood s 48 hi (p + 1) → drop p s ≡ x ∷ (48 + (get_or s (p + 1) 0 - 48)) ∷ drop (p + 2) s
name_stands s p x hi first inside st =
    let l = st.low in
    let digit : get_or s (p + 1) 0 ≡ 48 + (get_or s (p + 1) 0 - 48) = omega arith in
    let on : p + 1 + 1 ≡ p + 2 = omega arith in
    stands_here s p inside
    ∙ ap₂ (λ (y : ℕ) (w : List ℕ). y ∷ w) first (stands_here s (p + 1) st.inside ∙ ap₂ (λ (y : ℕ) (i : ℕ). y ∷ drop i s) digit on)

module _ (d : ℕ) (s : List ℕ) (p n : ℕ) (t : Tree) (q m : ℕ) (inside : p < length s) (few : n < 128) where
  pub bound_back : get_or s p 0 ≡ 35 → name_at bound 51 s p n ≡ part t q m → Back (suc d) s p n t q m
  unfolding name_at spell Proper Small depth nodes
  bound_back first e =
      let (e1, e2) = if_due_lem (due_at s 48 51 (p + 1)) (part (bound (get_or s (p + 1) 0 - 48)) (p + 2) (n + 1)) e in
      let st = due_is_lem s 48 51 (p + 1) e1 in
      let h = st.high in
      back_as (suc d) s p n (bound (get_or s (p + 1) 0 - 48)) t (p + 2) (n + 1) q m
      (record { same = name_stands s p 35 51 first inside st; proper = omega arith; small = tt; deep = omega arith; count = refl; few = omega arith }) e2

  pub row_back : get_or s p 0 ≡ 36 → name_at row 55 s p n ≡ part t q m → Back (suc d) s p n t q m
  unfolding name_at spell Proper Small depth nodes
  row_back first e =
      let (e1, e2) = if_due_lem (due_at s 48 55 (p + 1)) (part (row (get_or s (p + 1) 0 - 48)) (p + 2) (n + 1)) e in
      let st = due_is_lem s 48 55 (p + 1) e1 in
      let h = st.high in
      back_as (suc d) s p n (row (get_or s (p + 1) 0 - 48)) t (p + 2) (n + 1) q m
      (record { same = name_stands s p 36 55 first inside st; proper = omega arith; small = tt; deep = omega arith; count = refl; few = omega arith }) e2

  pub run_back : get_or s p 0 ≡ 64 → name_at run 51 s p n ≡ part t q m → Back (suc d) s p n t q m
  unfolding name_at spell Proper Small depth nodes
  run_back first e =
      let (e1, e2) = if_due_lem (due_at s 48 51 (p + 1)) (part (run (get_or s (p + 1) 0 - 48)) (p + 2) (n + 1)) e in
      let st = due_is_lem s 48 51 (p + 1) e1 in
      let h = st.high in
      back_as (suc d) s p n (run (get_or s (p + 1) 0 - 48)) t (p + 2) (n + 1) q m
      (record { same = name_stands s p 64 51 first inside st; proper = omega arith; small = tt; deep = omega arith; count = refl; few = omega arith }) e2
