-- Each check by the call's number.
use mathlib.Core.Bool.{true, false, not}
use mathlib.Core.Path.{◌≡◌, refl, sym, ap, ◌∙◌}
use Prim.Native.Nat.{ℕ, ◌+◌, ◌*◌, ◌/◌, ◌%◌, ◌<◌, ◌≤◌}
use native.Mathlib.Omega.{arith}
use native.Mathlib.Nat.{div-add-mod', mod-lt, mul_comm, suc-mul, mul-suc, mul-le-mul_left, mul-le-mul_right}
use native.Mathlib.Numerals.{add-one}
use native.Mathlib.Decide.{dec_lt}
use borrow.Author.Tests.{le-leb, lt-leb, lt-ltb, le-ltb}
use lib.Dec.{eqb, leb, ltb}
use Rattle.common.specs.Choice.{pick}
use Rattle.modes.specs.Cell.{side_of, shape_of, call_of, iv_wrong, text_empty, text_long, text_partial, tag_wrong}
use Rattle.judging.specs.Order.{length_before}
use Rattle.judging.proofs.Calls.{by_call}

pub iv_taken : (f : ℕ) (b n : ℕ) → 2 ≤ f → f < 10 → not (eqb n b) ≡ iv_wrong (side_of (call_of f)) b n
unfolding iv_wrong side_of
iv_taken f b n = by_call (λ g k. 2 ≤ g → g < 10 → not (eqb n b) ≡ iv_wrong (side_of k) b n) (λ l0 l1. absurd (omega arith)) (λ l0 l1. absurd (omega arith)) (λ l0 l1. refl) (λ l0 l1. refl) (λ l0 l1. refl) (λ l0 l1. refl) (λ l0 l1. refl) (λ l0 l1. refl) (λ l0 l1. refl) (λ l0 l1. refl) (λ l0 l1. absurd (omega arith)) (λ g m. λ l0 l1. absurd (omega arith)) f

pub iv_none : (f : ℕ) (b n : ℕ) → (2 ≤ f → 10 ≤ f) → false ≡ iv_wrong (side_of (call_of f)) b n
unfolding iv_wrong side_of
iv_none f b n = by_call (λ g k. (2 ≤ g → 10 ≤ g) → false ≡ iv_wrong (side_of k) b n) (λ h. refl) (λ h. refl) (λ h. absurd (omega (arith, h (omega arith)))) (λ h. absurd (omega (arith, h (omega arith)))) (λ h. absurd (omega (arith, h (omega arith)))) (λ h. absurd (omega (arith, h (omega arith)))) (λ h. absurd (omega (arith, h (omega arith)))) (λ h. absurd (omega (arith, h (omega arith)))) (λ h. absurd (omega (arith, h (omega arith)))) (λ h. absurd (omega (arith, h (omega arith)))) (λ h. refl) (λ g m h. refl) f

pub empty_block : (f : ℕ) (n : ℕ) → f < 2 → false ≡ text_empty (shape_of (call_of f)) n
unfolding text_empty shape_of
empty_block f n = by_call (λ g k. g < 2 → false ≡ text_empty (shape_of k) n) (λ l0. refl) (λ l0. refl) (λ l0. absurd (omega arith)) (λ l0. absurd (omega arith)) (λ l0. absurd (omega arith)) (λ l0. absurd (omega arith)) (λ l0. absurd (omega arith)) (λ l0. absurd (omega arith)) (λ l0. absurd (omega arith)) (λ l0. absurd (omega arith)) (λ l0. absurd (omega arith)) (λ g m. λ l0. absurd (omega arith)) f

pub empty_text : (f : ℕ) (n : ℕ) → 2 ≤ f → eqb n 0 ≡ text_empty (shape_of (call_of f)) n
unfolding text_empty shape_of
empty_text f n = by_call (λ g k. 2 ≤ g → eqb n 0 ≡ text_empty (shape_of k) n) (λ l0. absurd (omega arith)) (λ l0. absurd (omega arith)) (λ l0. refl) (λ l0. refl) (λ l0. refl) (λ l0. refl) (λ l0. refl) (λ l0. refl) (λ l0. refl) (λ l0. refl) (λ l0. refl) (λ g m. λ l0. refl) f

pub long_block : (f : ℕ) (b n : ℕ) → f < 2 → false ≡ text_long (shape_of (call_of f)) b n
unfolding text_long shape_of
long_block f b n = by_call (λ g k. g < 2 → false ≡ text_long (shape_of k) b n) (λ l0. refl) (λ l0. refl) (λ l0. absurd (omega arith)) (λ l0. absurd (omega arith)) (λ l0. absurd (omega arith)) (λ l0. absurd (omega arith)) (λ l0. absurd (omega arith)) (λ l0. absurd (omega arith)) (λ l0. absurd (omega arith)) (λ l0. absurd (omega arith)) (λ l0. absurd (omega arith)) (λ g m. λ l0. absurd (omega arith)) f

pub long_text : (f : ℕ) (b n : ℕ) → 2 ≤ f → (f ≡ 8 → ⊥) → ltb 1024 n ≡ text_long (shape_of (call_of f)) b n
unfolding text_long shape_of
long_text f b n = by_call (λ g k. 2 ≤ g → (g ≡ 8 → ⊥) → ltb 1024 n ≡ text_long (shape_of k) b n) (λ l0 l1. absurd (omega arith)) (λ l0 l1. absurd (omega arith)) (λ l0 l1. refl) (λ l0 l1. refl) (λ l0 l1. refl) (λ l0 l1. refl) (λ l0 l1. refl) (λ l0 l1. refl) (λ l0 l1. absurd (omega arith)) (λ l0 l1. refl) (λ l0 l1. refl) (λ g m. λ l0 l1. refl) f

pub long_filled : (f : ℕ) (b n : ℕ) → f ≡ 8 → ltb 1024 (b * (n / b + 1)) ≡ text_long (shape_of (call_of f)) b n
unfolding text_long shape_of
long_filled f b n = by_call (λ g k. g ≡ 8 → ltb 1024 (b * (n / b + 1)) ≡ text_long (shape_of k) b n) (λ l0. absurd (omega arith)) (λ l0. absurd (omega arith)) (λ l0. absurd (omega arith)) (λ l0. absurd (omega arith)) (λ l0. absurd (omega arith)) (λ l0. absurd (omega arith)) (λ l0. absurd (omega arith)) (λ l0. absurd (omega arith)) (λ l0. refl) (λ l0. absurd (omega arith)) (λ l0. absurd (omega arith)) (λ g m. λ l0. absurd (omega arith)) f

pub partial_block : (f : ℕ) (b n : ℕ) → f < 2 → not (eqb n b) ≡ text_partial (shape_of (call_of f)) b n
unfolding text_partial shape_of
partial_block f b n = by_call (λ g k. g < 2 → not (eqb n b) ≡ text_partial (shape_of k) b n) (λ l0. refl) (λ l0. refl) (λ l0. absurd (omega arith)) (λ l0. absurd (omega arith)) (λ l0. absurd (omega arith)) (λ l0. absurd (omega arith)) (λ l0. absurd (omega arith)) (λ l0. absurd (omega arith)) (λ l0. absurd (omega arith)) (λ l0. absurd (omega arith)) (λ l0. absurd (omega arith)) (λ g m. λ l0. absurd (omega arith)) f

pub partial_whole : (f : ℕ) (b n : ℕ) → 6 ≤ f → f < 10 → (f ≡ 8 → ⊥) → not (eqb (n % b) 0) ≡ text_partial (shape_of (call_of f)) b n
unfolding text_partial shape_of
partial_whole f b n = by_call (λ g k. 6 ≤ g → g < 10 → (g ≡ 8 → ⊥) → not (eqb (n % b) 0) ≡ text_partial (shape_of k) b n) (λ l0 l1 l2. absurd (omega arith)) (λ l0 l1 l2. absurd (omega arith)) (λ l0 l1 l2. absurd (omega arith)) (λ l0 l1 l2. absurd (omega arith)) (λ l0 l1 l2. absurd (omega arith)) (λ l0 l1 l2. absurd (omega arith)) (λ l0 l1 l2. refl) (λ l0 l1 l2. refl) (λ l0 l1 l2. absurd (omega arith)) (λ l0 l1 l2. refl) (λ l0 l1 l2. absurd (omega arith)) (λ g m. λ l0 l1 l2. absurd (omega arith)) f

pub partial_none : (f : ℕ) (b n : ℕ) → 2 ≤ f → (f ≡ 6 → ⊥) → (f ≡ 7 → ⊥) → (f ≡ 9 → ⊥) → false ≡ text_partial (shape_of (call_of f)) b n
unfolding text_partial shape_of
partial_none f b n = by_call (λ g k. 2 ≤ g → (g ≡ 6 → ⊥) → (g ≡ 7 → ⊥) → (g ≡ 9 → ⊥) → false ≡ text_partial (shape_of k) b n) (λ l0 l1 l2 l3. absurd (omega arith)) (λ l0 l1 l2 l3. absurd (omega arith)) (λ l0 l1 l2 l3. refl) (λ l0 l1 l2 l3. refl) (λ l0 l1 l2 l3. refl) (λ l0 l1 l2 l3. refl) (λ l0 l1 l2 l3. absurd (omega arith)) (λ l0 l1 l2 l3. absurd (omega arith)) (λ l0 l1 l2 l3. refl) (λ l0 l1 l2 l3. absurd (omega arith)) (λ l0 l1 l2 l3. refl) (λ g m. λ l0 l1 l2 l3. refl) f

pub tag_none : (f : ℕ) (b n : ℕ) → f < 11 → false ≡ tag_wrong (side_of (call_of f)) b n
unfolding tag_wrong side_of
tag_none f b n = by_call (λ g k. g < 11 → false ≡ tag_wrong (side_of k) b n) (λ l0. refl) (λ l0. refl) (λ l0. refl) (λ l0. refl) (λ l0. refl) (λ l0. refl) (λ l0. refl) (λ l0. refl) (λ l0. refl) (λ l0. refl) (λ l0. refl) (λ g m. λ l0. absurd (omega arith)) f

pub tag_taken : (f : ℕ) (b n : ℕ) → 11 ≤ f → pick (leb 8 n) (not (leb n b)) true ≡ tag_wrong (side_of (call_of f)) b n
unfolding tag_wrong side_of
tag_taken f b n = by_call (λ g k. 11 ≤ g → pick (leb 8 n) (not (leb n b)) true ≡ tag_wrong (side_of k) b n) (λ l0. absurd (omega arith)) (λ l0. absurd (omega arith)) (λ l0. absurd (omega arith)) (λ l0. absurd (omega arith)) (λ l0. absurd (omega arith)) (λ l0. absurd (omega arith)) (λ l0. absurd (omega arith)) (λ l0. absurd (omega arith)) (λ l0. absurd (omega arith)) (λ l0. absurd (omega arith)) (λ l0. absurd (omega arith)) (λ g m. λ l0. refl) f

pub length_block : (f : ℕ) (b n : ℕ) → f < 2 → b ≡ length_before (call_of f) b n
unfolding length_before
length_block f b n = by_call (λ g k. g < 2 → b ≡ length_before k b n) (λ l0. refl) (λ l0. refl) (λ l0. absurd (omega arith)) (λ l0. absurd (omega arith)) (λ l0. absurd (omega arith)) (λ l0. absurd (omega arith)) (λ l0. absurd (omega arith)) (λ l0. absurd (omega arith)) (λ l0. absurd (omega arith)) (λ l0. absurd (omega arith)) (λ l0. refl) (λ g m. λ l0. absurd (omega arith)) f

pub length_text : (f : ℕ) (b n : ℕ) → 2 ≤ f → f < 8 → n ≡ length_before (call_of f) b n
unfolding length_before
length_text f b n = by_call (λ g k. 2 ≤ g → g < 8 → n ≡ length_before k b n) (λ l0 l1. absurd (omega arith)) (λ l0 l1. absurd (omega arith)) (λ l0 l1. refl) (λ l0 l1. refl) (λ l0 l1. refl) (λ l0 l1. refl) (λ l0 l1. refl) (λ l0 l1. refl) (λ l0 l1. absurd (omega arith)) (λ l0 l1. absurd (omega arith)) (λ l0 l1. absurd (omega arith)) (λ g m. λ l0 l1. absurd (omega arith)) f

pub length_filled : (f : ℕ) (b n : ℕ) → f ≡ 8 → b * (n / b + 1) ≡ length_before (call_of f) b n
unfolding length_before
length_filled f b n = by_call (λ g k. g ≡ 8 → b * (n / b + 1) ≡ length_before k b n) (λ l0. absurd (omega arith)) (λ l0. absurd (omega arith)) (λ l0. absurd (omega arith)) (λ l0. absurd (omega arith)) (λ l0. absurd (omega arith)) (λ l0. absurd (omega arith)) (λ l0. absurd (omega arith)) (λ l0. absurd (omega arith)) (λ l0. refl) (λ l0. absurd (omega arith)) (λ l0. absurd (omega arith)) (λ g m. λ l0. absurd (omega arith)) f

pub length_unfilled : (f : ℕ) (b n : ℕ) → f ≡ 9 → 0 ≡ length_before (call_of f) b n
unfolding length_before
length_unfilled f b n = by_call (λ g k. g ≡ 9 → 0 ≡ length_before k b n) (λ l0. absurd (omega arith)) (λ l0. absurd (omega arith)) (λ l0. absurd (omega arith)) (λ l0. absurd (omega arith)) (λ l0. absurd (omega arith)) (λ l0. absurd (omega arith)) (λ l0. absurd (omega arith)) (λ l0. absurd (omega arith)) (λ l0. absurd (omega arith)) (λ l0. refl) (λ l0. absurd (omega arith)) (λ g m. λ l0. absurd (omega arith)) f

pub length_tag : (f : ℕ) (b n : ℕ) → f ≡ 10 → b ≡ length_before (call_of f) b n
unfolding length_before
length_tag f b n = by_call (λ g k. g ≡ 10 → b ≡ length_before k b n) (λ l0. refl) (λ l0. refl) (λ l0. absurd (omega arith)) (λ l0. absurd (omega arith)) (λ l0. absurd (omega arith)) (λ l0. absurd (omega arith)) (λ l0. absurd (omega arith)) (λ l0. absurd (omega arith)) (λ l0. absurd (omega arith)) (λ l0. absurd (omega arith)) (λ l0. refl) (λ g m. λ l0. absurd (omega arith)) f

pub length_yes : (f : ℕ) (b n : ℕ) → 11 ≤ f → 1 ≡ length_before (call_of f) b n
unfolding length_before
length_yes f b n = by_call (λ g k. 11 ≤ g → 1 ≡ length_before k b n) (λ l0. absurd (omega arith)) (λ l0. absurd (omega arith)) (λ l0. absurd (omega arith)) (λ l0. absurd (omega arith)) (λ l0. absurd (omega arith)) (λ l0. absurd (omega arith)) (λ l0. absurd (omega arith)) (λ l0. absurd (omega arith)) (λ l0. absurd (omega arith)) (λ l0. absurd (omega arith)) (λ l0. absurd (omega arith)) (λ g m. λ l0. refl) f

-- blocks of b bytes fill 1,024 exactly, so the filled text is over it exactly where the text is not under
pub filled_long : (b n : ℕ) → 0 < b → 1024 % b ≡ 0 → leb 1024 n ≡ ltb 1024 (b * (n / b + 1))
filled_long b n p w = go (dec_lt n 1024)
  where
    over : b * (n / b + 1) ≡ n / b * b + b
    over = mul_comm b (n / b + 1) ∙ ap (λ x. x * b) (add-one (n / b)) ∙ suc-mul (n / b) b

    all : 1024 / b * b ≡ 1024
    all = omega (arith, div-add-mod' 1024 b)

    under : n < 1024 → n / b < 1024 / b
    under h = go (dec_lt (n / b) (1024 / b))
      where
        go : Dec (n / b < 1024 / b) → n / b < 1024 / b
        go (yes l) = l
        go (no l) = let g : 1024 / b ≤ n / b = omega arith in let z : ⊥ = omega (arith, mul-le-mul_right b g, div-add-mod' n b, all) in absurd z

    go : Dec (n < 1024) → leb 1024 n ≡ ltb 1024 (b * (n / b + 1))
    go (yes h) =
        lt-leb 1024 n h
        ∙ sym (le-ltb 1024 (b * (n / b + 1)) (let g : n / b + 1 ≤ 1024 / b = omega (arith, under h) in omega (arith, over, all, mul-le-mul_right b g, suc-mul (n / b) b, add-one (n / b), mul_comm b (n / b + 1), mul_comm (n / b + 1) b)))
    go (no h) =
        le-leb 1024 n (omega arith)
        ∙ sym (lt-ltb 1024 (b * (n / b + 1)) (omega (arith, over, div-add-mod' n b, mod-lt n p)))

-- under 8 or over b: no tag
pub tag_low : (b n : ℕ) → n < 8 → true ≡ pick (leb 8 n) (not (leb n b)) true
unfolding pick
tag_low b n h = sym (ap (λ x. pick x (not (leb n b)) true) (lt-leb 8 n h))

pub tag_high : (b n : ℕ) → 8 ≤ n → ltb b n ≡ pick (leb 8 n) (not (leb n b)) true
unfolding pick
tag_high b n h = go (dec_lt b n) ∙ sym (ap (λ x. pick x (not (leb n b)) true) (le-leb 8 n h))
  where
    go : Dec (b < n) → ltb b n ≡ not (leb n b)
    go (yes l) = lt-ltb b n l ∙ sym (ap not (lt-leb n b l))
    go (no l) = le-ltb b n (omega arith) ∙ sym (ap not (le-leb n b (omega arith)))

-- neither the quotient nor the filled text is large
pub quotient_small : (b n : ℕ) → 0 < b → n < 1024 → n / b < 1024
quotient_small b n p h = omega (arith, div-add-mod' n b, mul-le-mul_left (n / b) p, mul-suc (n / b) 0)

pub filled_small : (b n : ℕ) → b ≤ 64 → n < 1024 → b * (n / b + 1) < 2048
filled_small b n l h = omega (arith, mul_comm b (n / b + 1) ∙ ap (λ x. x * b) (add-one (n / b)) ∙ suc-mul (n / b) b, div-add-mod' n b)
