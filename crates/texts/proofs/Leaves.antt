-- Reading a literal and a name where they are spelt.
use mathlib.Core.Bool.{Bool, true, false}
use mathlib.Core.List.{List, [], ◌∷◌, ◌++◌}
use mathlib.Core.Path.{◌≡◌, refl, sym, ap, ap₂, ◌∙◌}
use Prim.Native.Nat.{ℕ, suc, ◌+◌, ◌-◌, ◌*◌, ◌/◌, ◌%◌, ◌≤◌, ◌<◌}
use native.Mathlib.Omega.{arith}
use lib.Dec.{leb, ltb}
use lib.ListN.{length, drop, get_or}
use borrow.Author.Tests.{le-leb, lt-leb, eq-eqb, ltb-true, ltb-false}
use Rattle.common.specs.Choice.{pick}
use Rattle.common.specs.Places.{tab}
use Rattle.common.proofs.Places.{tab_ext}
use Rattle.tree.specs.Tree.{Tree}
use Rattle.tree.specs.Tree.Tree.{literal}
use Rattle.tree.specs.Bounds.{Bytes}
use Rattle.texts.specs.Spelling.{hex_digit, pairs}
use Rattle.texts.specs.Reading.{Part, between, is_hex, run_of, if_due, hex_value, pair_at, literal_of, literal_at, name_at}
use Rattle.texts.specs.Reading.Part.{part, bad}
use Rattle.texts.proofs.Standing.{stands_at, stands_next, stands_after, between_true, due_stands, Pass, run_is}
use Rattle.texts.proofs.Width.{length_pairs}

-- a digit below 16 is spelt as one byte, which has its value
pub value_digit : (d : ℕ) → d < 16 → hex_value (hex_digit d) ≡ d
unfolding hex_value hex_digit pick
value_digit d h = go (ltb d 10) refl
  where
    go : (b : Bool) → ltb d 10 ≡ b → hex_value (pick b (48 + d) (55 + d)) ≡ d
    go true e =
        let l : d < 10 = ltb-true d 10 e in
        rw (le-leb (48 + d) 57 (omega arith)) (omega arith)
    go false e =
        let l : 10 ≤ d = ltb-false d 10 e in
        rw (lt-leb (55 + d) 57 (omega arith)) (omega arith)

hex_digit_lem : (d : ℕ) → d < 16 → is_hex (hex_digit d) ≡ true
unfolding is_hex hex_digit pick
hex_digit_lem d h = go (ltb d 10) refl
  where
    up : (b c : Bool) → c ≡ true → pick b true c ≡ true
    up true c e = refl
    up false c e = e

    go : (b : Bool) → ltb d 10 ≡ b → is_hex (pick b (48 + d) (55 + d)) ≡ true
    go true e =
        let l : d < 10 = ltb-true d 10 e in
        rw (between_true 48 57 (48 + d) (omega arith) (omega arith))
    go false e =
        let l : 10 ≤ d = ltb-false d 10 e in
        up (between 48 57 (55 + d)) (between 65 70 (55 + d)) (between_true 65 70 (55 + d) (omega arith) (omega arith))

pub pairs_pass : (v : List ℕ) → Bytes v → Pass is_hex (pairs v)
unfolding Pass pairs
pairs_pass [] h = tt
pairs_pass (x ∷ v) h = (hex_digit_lem (x / 16) (omega (arith, h 0)), (hex_digit_lem (x % 16) (omega arith), pairs_pass v (λ i. h (suc i))))

pair_at_lem : (s : List ℕ) (q x : ℕ) (r : List ℕ) → x < 256 → drop q s ≡ hex_digit (x / 16) ∷ hex_digit (x % 16) ∷ r → pair_at s q ≡ x
unfolding pair_at
pair_at_lem s q x r h e =
    let f = stands_next s q (hex_digit (x / 16)) (hex_digit (x % 16) ∷ r) e in
    let hi : hex_value (get_or s q 0) ≡ x / 16 = ap hex_value (stands_at s q (hex_digit (x / 16)) (hex_digit (x % 16) ∷ r) e) ∙ value_digit (x / 16) (omega arith) in
    let lo : hex_value (get_or s (q + 1) 0) ≡ x % 16 = ap hex_value (stands_at s (q + 1) (hex_digit (x % 16)) r f) ∙ value_digit (x % 16) (omega arith) in
    omega arith

-- the pairs of a value give it back
tab_pairs : (v s : List ℕ) (q : ℕ) (r : List ℕ) → Bytes v → drop q s ≡ pairs v ++ r → tab (length v) (λ i. pair_at s (q + 2 * i)) ≡ v
unfolding tab pairs
tab_pairs [] s q r h e = refl
tab_pairs (x ∷ v) s q r h e =
    let e1 : drop (q + 1) s ≡ hex_digit (x % 16) ∷ (pairs v ++ r) = stands_next s q (hex_digit (x / 16)) (hex_digit (x % 16) ∷ (pairs v ++ r)) e in
    let e2 : drop (q + 1 + 1) s ≡ pairs v ++ r = stands_next s (q + 1) (hex_digit (x % 16)) (pairs v ++ r) e1 in
    let at : q + 2 * 0 ≡ q = omega arith in
    let head : pair_at s (q + 2 * 0) ≡ x = ap (pair_at s) at ∙ pair_at_lem s q x (pairs v ++ r) (h 0) e in
    let move : (i : ℕ) → q + 2 * suc i ≡ q + 1 + 1 + 2 * i = λ i. omega arith in
    let tail : tab (length v) (λ i. pair_at s (q + 2 * suc i)) ≡ v =
    tab_ext (length v) (λ i. pair_at s (q + 2 * suc i)) (λ i. pair_at s (q + 1 + 1 + 2 * i)) (λ i l. ap (pair_at s) (move i)) ∙ tab_pairs v s (q + 1 + 1) r (λ i. h (suc i)) e2 in
    ap₂ (λ (y : ℕ) (l : List ℕ). y ∷ l) head tail

literal_of_lem : (s : List ℕ) (p n k : ℕ) (v r : List ℕ) → Bytes v → k ≡ 2 * length v → drop (p + 1) s ≡ pairs v ++ (39 ∷ r)
    → literal_of s p n k ≡ pick (leb (length v) 1024) (part (literal v) (p + (2 + 2 * length v)) (n + 1)) (bad 6 p)
unfolding literal_of if_due pick
literal_of_lem s p n k v r h ek e =
    let len : length (pairs v) ≡ k = length_pairs v ∙ sym ek in
    let after : drop (p + 1 + k) s ≡ 39 ∷ r = ap (λ (i : ℕ). drop (p + 1 + i) s) (sym len) ∙ stands_after s (p + 1) (pairs v) (39 ∷ r) e in
    let half : k / 2 ≡ length v = omega arith in
    let even : k % 2 ≡ 0 = omega arith in
    let place : p + 1 + k + 1 ≡ p + (2 + 2 * length v) = omega arith in
    let value : tab (k / 2) (λ i. pair_at s (p + 1 + 2 * i)) ≡ v = ap (λ (m : ℕ). tab m (λ i. pair_at s (p + 1 + 2 * i))) half ∙ tab_pairs v s (p + 1) (39 ∷ r) h e in
    rw (due_stands s 39 39 (p + 1 + k) 39 r after (omega arith) (omega arith), eq-eqb (k % 2) 0 even)
    (
    ap₂ (λ (b : Bool) (x : Part Tree). pick b x (bad 6 p)) (ap (λ (i : ℕ). leb i 1024) half)
    (ap₂ (λ (w : List ℕ) (q : ℕ). part (literal w) q (n + 1)) value place)
    )

pub quote_ends : (r : List ℕ) → run_of is_hex (39 ∷ r) ≡ 0
unfolding run_of is_hex between pick
quote_ends r = refl

-- a literal is read where it is spelt; 6 where it has more than 1,024 bytes
pub literal_read : (s : List ℕ) (p n : ℕ) (v r : List ℕ) → Bytes v → drop p s ≡ 39 ∷ (pairs v ++ (39 ∷ r))
    → literal_at s p n ≡ pick (leb (length v) 1024) (part (literal v) (p + (2 + 2 * length v)) (n + 1)) (bad 6 p)
unfolding literal_at
literal_read s p n v r h e =
    let f = stands_next s p 39 (pairs v ++ (39 ∷ r)) e in
    let k : run_of is_hex (drop (p + 1) s) ≡ 2 * length v = ap (run_of is_hex) f ∙ run_is is_hex (pairs v) (39 ∷ r) (pairs_pass v h) (quote_ends r) ∙ length_pairs v in
    literal_of_lem s p n (run_of is_hex (drop (p + 1) s)) v r h k f

-- a name with its digit in range is read where it is spelt
pub name_read : (name : ℕ → Tree) (hi : ℕ) (s : List ℕ) (p n x d : ℕ) (r : List ℕ) → 48 + d ≤ hi → drop p s ≡ x ∷ (48 + d) ∷ r → name_at name hi s p n ≡ part (name d) (p + 2) (n + 1)
unfolding name_at if_due
name_read name hi s p n x d r h e =
    let f = stands_next s p x ((48 + d) ∷ r) e in
    let g : get_or s (p + 1) 0 - 48 ≡ d = omega (arith, stands_at s (p + 1) (48 + d) r f) in
    rw (due_stands s 48 hi (p + 1) (48 + d) r f (omega arith) h, g)
