-- The row that letters name is the row that their number names.
use mathlib.Core.Bool.{Bool, true, false}
use mathlib.Core.List.{List, [], ◌∷◌, ◌++◌, reverse, reverse_aux, reverse-reverse}
use mathlib.Core.Path.{◌≡◌, refl, sym, ap, ap₂, ◌∙◌}
use Prim.Native.Nat.{ℕ, suc, ◌+◌, ◌*◌, ◌^◌, ◌<◌}
use native.Mathlib.Omega.{arith}
use lib.Dec.{eqb, leb}
use lib.ListN.{length, length-reverse}
use borrow.Author.Tests.{eq-eqb, ne_eqb, leb-true}
use Rattle.common.specs.Choice.{pick}
use Rattle.common.proofs.Choices.{false_true}
use Rattle.tree.specs.Calls.{Call, calls, plain, cipher}
use Rattle.texts.specs.Spelling.{Found}
use Rattle.texts.specs.Spelling.Found.{known, unknown}
use Rattle.texts.specs.Reading.{is_letter, same, call_in}
use Rattle.texts.specs.Packed.{packed, call_by}
use Rattle.texts.proofs.Standing.{Pass, between_is}
use Rattle.texts.proofs.Table.{Good, All, all_good, by_letters, same_is}

-- the last letter first
backwards : List ℕ → ℕ
backwards [] = 0
backwards (x ∷ w) = backwards w * 256 + x

packed_aux : (w r : List ℕ) → packed w (backwards r) ≡ backwards (reverse_aux w r)
unfolding packed backwards
packed_aux [] r = refl
packed_aux (x ∷ w) r = packed_aux w (x ∷ r)

packed_is : (w : List ℕ) → packed w 0 ≡ backwards (reverse w)
unfolding backwards
packed_is w = packed_aux w []

pass_aux : (test : ℕ → Bool) (w r : List ℕ) → Pass test w → Pass test r → Pass test (reverse_aux w r)
unfolding Pass
pass_aux test [] r h g = g
pass_aux test (x ∷ w) r h g = pass_aux test w (x ∷ r) h.1 (h.0, g)

letter-byte : (x : ℕ) → is_letter x ≡ true → (0 < x) × (x < 256)
unfolding is_letter
letter-byte x e = let h = between_is 97 122 x e in omega (arith, h)

-- letters are told apart by their number
backwards_same : (a b : List ℕ) → Pass is_letter a → Pass is_letter b → backwards a ≡ backwards b → a ≡ b
unfolding Pass backwards
backwards_same [] [] h g e = refl
backwards_same [] (y ∷ b) h g e = absurd (omega (arith, letter-byte y g.0))
backwards_same (x ∷ a) [] h g e = absurd (omega (arith, letter-byte x h.0))
backwards_same (x ∷ a) (y ∷ b) h g e =
    let hx = letter-byte x h.0 in
    let hy = letter-byte y g.0 in
    let head : x ≡ y = omega arith in
    let tail : backwards a ≡ backwards b = omega arith in
    ap₂ (λ (z : ℕ) (l : List ℕ). z ∷ l) head (backwards_same a b h.1 g.1 tail)

packed_same : (a b : List ℕ) → Pass is_letter a → Pass is_letter b → packed a 0 ≡ packed b 0 → a ≡ b
unfolding Pass
packed_same a b h g e =
    let f : reverse a ≡ reverse b =
    backwards_same (reverse a) (reverse b) (pass_aux is_letter a [] h tt) (pass_aux is_letter b [] g tt) (sym (packed_is a) ∙ e ∙ packed_is b) in
    sym (reverse-reverse a) ∙ ap reverse f ∙ reverse-reverse b

same_self : (a : List ℕ) → same a a ≡ true
unfolding same pick
same_self [] = refl
same_self (x ∷ a) = rw (eq-eqb x x refl) (same_self a)

same_packed : (a b : List ℕ) → Pass is_letter a → Pass is_letter b → same a b ≡ eqb (packed a 0) (packed b 0)
same_packed a b h g = go (same a b) refl
  where
    go : (x : Bool) → same a b ≡ x → x ≡ eqb (packed a 0) (packed b 0)
    go true e = sym (eq-eqb (packed a 0) (packed b 0) (ap (λ (w : List ℕ). packed w 0) (same_is a b e)))
    go false e =
        sym
        (
        ne_eqb (packed a 0) (packed b 0)
        (λ f. false_true (sym e ∙ ap (same a) (sym (packed_same a b h g f)) ∙ same_self a))
        )

call_by_lem : (rs : List Call) (w : List ℕ) → All Good rs → Pass is_letter w → call_in rs w ≡ call_by rs (packed w 0)
unfolding All call_in call_by
call_by_lem [] w h g = refl
call_by_lem (r ∷ rs) w h g =
    ap₂ (λ (b : Bool) (f : Found). pick b (known r) f) (same_packed r.letters w h.0.letters g) (call_by_lem rs w h.1 g)

-- the row of a run of letters is the row of its number
pub call_packed : (w : List ℕ) → Pass is_letter w → call_in calls w ≡ call_by calls (packed w 0)
call_packed w h = call_by_lem calls w all_good h

abbrev Short : Call → Type 0
Short r = leb (length r.letters) 5 ≡ true

all_short : All Short calls
unfolding All calls plain cipher
all_short =
    (refl, (refl, (refl, (refl, (refl, (refl, (refl, (refl, (refl, (refl, (refl, (refl, (refl, (refl, (refl, (refl, (refl, tt)))))))))))))))))

-- no name has more than five letters
pub call_long : (w : List ℕ) → 5 < length w → call_in calls w ≡ unknown
call_long w h = go (call_in calls w) refl
  where
    go : (f : Found) → call_in calls w ≡ f → call_in calls w ≡ unknown
    go (known r) e =
        let (short, letters) = by_letters Short calls w r all_short e in
        absurd (omega (arith, leb-true (length r.letters) 5 short, ap length letters))
    go unknown e = e

-- one more letter
pub packed_more : (w : List ℕ) (x n : ℕ) → packed (w ++ (x ∷ [])) n ≡ packed w n * 256 + x
unfolding packed
packed_more [] x n = refl
packed_more (y ∷ w) x n = packed_more w x (n * 256 + y)

backwards_lt : (w : List ℕ) → Pass is_letter w → backwards w < 256 ^ length w
unfolding Pass backwards
backwards_lt [] h = omega arith
backwards_lt (x ∷ w) h =
    let l : backwards w * 256 + x < 256 ^ suc (length w) = omega (arith, backwards_lt w h.1, letter-byte x h.0) in
    l

-- n letters are below 256 to the n
pub packed_lt : (w : List ℕ) → Pass is_letter w → packed w 0 < 256 ^ length w
unfolding Pass
packed_lt w h =
    let e = packed_is w in
    let l : backwards (reverse w) < 256 ^ length (reverse w) = backwards_lt (reverse w) (pass_aux is_letter w [] h tt) in
    rw (e, ← (length-reverse w)) l
