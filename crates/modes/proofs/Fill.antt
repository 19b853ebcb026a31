-- The fill: its length and its bytes by place, and that taking it off and putting it on undo each other.
use mathlib.Core.Bool.{Bool, true, false}
use mathlib.Core.Path.{◌≡◌, refl, sym, ap, ap₂, ◌∙◌, subst}
use mathlib.Core.List.{List, ◌∷◌}
use Prim.Native.Nat.{ℕ, zero, suc, ◌+◌, ◌-◌, ◌*◌, ◌/◌, ◌%◌, ◌<◌}
use native.Mathlib.Nat.{mod-lt, suc-mul, mul_comm, mul-mod_left, div-add-mod', add-zero, add-suc}
use native.Mathlib.Numerals.{add-one}
use native.Mathlib.Omega.{arith}
use native.Mathlib.Decide.{dec_lt}
use borrow.Author.Tests.{eqb-true, eqb-false, ne_eqb}
use lib.Arith.{digits_div}
use lib.Dec.{eqb}
use lib.ListN.{get_or, take, length, replicate, length-append, length-replicate, get_or-append}
use lib.Seq.{get_or-append-add, get_or-append_seam, get_or-take, length-take-le, take-append_seam, ext_get_or}
use Rattle.common.specs.Choice.{pick}
use Rattle.common.specs.Answer.{Value}
use Rattle.common.specs.Answer.Answer.{value, refused}
use Rattle.modes.specs.Fill.{fill, marked, unfill_at, unfill_from, unfill}
use Rattle.modes.proofs.Blocks.{OfBytes}

-- ---- answers

pub value_inj : (a b : Value) → value a ≡ value b → a ≡ b
value_inj a b e = cc

pub not_both : (n : ℕ) (v : Value) → refused n ≡ value v → ⊥
not_both n v e = let z : ◌≡◌ {A = ℕ} 0 1 = cc in omega arith

-- ---- what is filled

blocks_more : (B q : ℕ) → B * (q + 1) ≡ q * B + B
blocks_more B q = ap (λ x. B * x) (add-one q) ∙ mul_comm B (suc q) ∙ suc-mul q B

module _ (B : ℕ) (text : List ℕ) where
  -- section 4: n bytes become B x (floor(n / B) + 1)
  pub length_fill : 0 < B → length (fill B text) ≡ B * (length text / B + 1)
  unfolding fill
  length_fill p =
      length-append text (0x80 ∷ replicate (B - 1 - length text % B) 0)
      ∙ ap (λ n. length text + suc n) (length-replicate (B - 1 - length text % B) 0)
      ∙ total
    where
      total : length text + suc (B - 1 - length text % B) ≡ B * (length text / B + 1)
      total = omega (arith, blocks_more B (length text / B), div-add-mod' (length text) B, mod-lt (length text) p)

  pub fill_whole : 0 < B → length (fill B text) % B ≡ 0
  fill_whole p = ap (λ n. n % B) (length_fill p ∙ mul_comm B (length text / B + 1)) ∙ mul-mod_left (length text / B + 1) B

  pub fill_more : 0 < B → length text < length (fill B text)
  fill_more p = omega (arith, length_fill p, blocks_more B (length text / B), div-add-mod' (length text) B, mod-lt (length text) p)

  pub fill_front : (i : ℕ) → i < length text → get_or (fill B text) i 0 ≡ get_or text i 0
  unfolding fill
  fill_front i l = get_or-append text _ 0 i l

  pub fill_mark : get_or (fill B text) (length text) 0 ≡ 0x80
  unfolding fill
  fill_mark = get_or-append_seam text 0x80 _ 0

  pub fill_zero : (k : ℕ) → get_or (fill B text) (length text + suc k) 0 ≡ 0
  unfolding fill
  fill_zero k = get_or-append-add text (0x80 ∷ replicate (B - 1 - length text % B) 0) (suc k) 0 ∙ zeros (B - 1 - length text % B) k
    where
      zeros : (n k : ℕ) → ◌≡◌ {A = ℕ} (get_or (replicate n 0) k 0) 0
      zeros zero k = refl
      zeros (suc n) zero = refl
      zeros (suc n) (suc k) = zeros n k

  pub fill_bytes : OfBytes text → OfBytes (fill B text)
  fill_bytes b i = go (dec_lt i (length text)) (dec_lt (length text) i)
    where
      go : Dec (i < length text) → Dec (length text < i) → get_or (fill B text) i 0 < 256
      go (yes l) d = subst (λ x. x < 256) (sym (fill_front i l)) (b i)
      go (no n) (yes l) = subst (λ x. x < 256) (sym (ap (λ j. get_or (fill B text) j 0) e ∙ fill_zero (i - suc (length text)))) (omega arith)
        where
          e : i ≡ length text + suc (i - suc (length text))
          e = omega arith
      go (no n) (no l) = subst (λ x. x < 256) (sym (ap (λ j. get_or (fill B text) j 0) e ∙ fill_mark)) (omega arith)
        where
          e : i ≡ length text
          e = omega arith

-- ---- the fill of a text is taken off

-- zero bytes are passed over
pub unfill_zeros : (m k z : ℕ) (p : Value) → ((i : ℕ) → i < z → get_or p (m + (k + i)) 0 ≡ 0) → unfill_from m (k + z) p ≡ unfill_from m k p
unfolding unfill_from unfill_at pick
unfill_zeros m k zero p h = ap (λ n. unfill_from m n p) (add-zero k)
unfill_zeros m k (suc z) p h =
    ap (λ n. unfill_from m n p) (add-suc k z)
    ∙ ap (λ b. unfill_at (m + (k + z)) b p (unfill_from m (k + z) p)) (h z (omega arith))
    ∙ unfill_zeros m k z p (λ i l. h i (omega arith))

-- the 80 is met
pub unfill_mark : (m k : ℕ) (p : Value) → get_or p (m + k) 0 ≡ 0x80 → unfill_from m (suc k) p ≡ marked (m + k) p
unfolding unfill_from unfill_at pick
unfill_mark m k p h = ap (λ b. unfill_at (m + k) b p (unfill_from m k p)) h

pub marked_some : (m : ℕ) (p : Value) → 0 < m → marked m p ≡ value (take m p)
unfolding marked pick
marked_some m p h = ap (λ t. pick t (refused 8) (value (take m p))) (ne_eqb m 0 (λ e. omega arith))

pub unfill_fill : (B : ℕ) (text : Value) → 0 < B → 0 < length text → unfill B (fill B text) ≡ value text
unfolding unfill
unfill_fill B text p h =
    ap₂ (λ (a b : ℕ). unfill_from a b (fill B text)) start size
    ∙ unfill_zeros (q * B) (suc r) (B - 1 - r) (fill B text) (λ i l. ap (λ n. get_or (fill B text) n 0) (behind i) ∙ fill_zero B text i)
    ∙ unfill_mark (q * B) r (fill B text) (ap (λ n. get_or (fill B text) n 0) here ∙ fill_mark B text)
    ∙ ap (λ n. marked n (fill B text)) here
    ∙ marked_some (length text) (fill B text) h
    ∙ ap value all
  where
    q : ℕ
    q = length text / B

    r : ℕ
    r = length text % B

    here : q * B + r ≡ length text
    here = div-add-mod' (length text) B

    start : length (fill B text) - B ≡ q * B
    start = omega (arith, length_fill B text p, blocks_more B q)

    size : B ≡ suc r + (B - 1 - r)
    size = omega (arith, mod-lt (length text) p)

    behind : (i : ℕ) → q * B + (suc r + i) ≡ length text + suc i
    behind i = omega (arith, here)

    all : take (length text) (fill B text) ≡ text
    all = unfold fill in take-append_seam text _

-- ---- what was taken off is put on again

-- t is what stands before the 80 among the k bytes of p from place m on
pub record Marked (m k : ℕ) (p t : Value) : Type 0 where
  pub place : ℕ
  pub inside : place < k
  pub mark : get_or p (m + place) 0 ≡ 0x80
  pub zeros : (i : ℕ) → place < i → i < k → get_or p (m + i) 0 ≡ 0
  pub some : 0 < m + place
  pub front : take (m + place) p ≡ t

pub unfill_inv : (m k : ℕ) (p t : Value) → unfill_from m k p ≡ value t → Marked m k p t
unfolding unfill_from unfill_at marked pick
unfill_inv m zero p t e = absurd (not_both 8 t e)
unfill_inv m (suc k) p t e = go (eqb b 0x80) refl (eqb b 0) refl (unfill_inv m k p t) e
  where
    b : ℕ
    b = get_or p (m + k) 0

    here : (x : Bool) → eqb (m + k) 0 ≡ x → b ≡ 0x80 → pick x (refused 8) (value (take (m + k) p)) ≡ value t → Marked m (suc k) p t
    here true ex eb e = absurd (not_both 8 t e)
    here false ex eb e =
        record {
          place = k;
          inside = omega arith;
          mark = eb;
          zeros = λ i l h. absurd (omega arith);
          some = let ne : m + k ≡ 0 → ⊥ = eqb-false (m + k) 0 ex in omega arith;
          front = value_inj (take (m + k) p) t e;
        }

    go : (x : Bool) → eqb b 0x80 ≡ x → (y : Bool) → eqb b 0 ≡ y → (unfill_from m k p ≡ value t → Marked m k p t)
        → pick x (marked (m + k) p) (pick y (unfill_from m k p) (refused 8)) ≡ value t → Marked m (suc k) p t
    go true ex y ey ih e = here (eqb (m + k) 0) refl (eqb-true b 0x80 ex) e
    go false ex true ey ih e = further (ih e)
      where
        further : Marked m k p t → Marked m (suc k) p t
        further w =
            record {
              place = w.place;
              inside = omega (arith, w.inside);
              mark = w.mark;
              zeros = λ i l h. at i l h (dec_lt i k);
              some = w.some;
              front = w.front;
            }
          where
            at : (i : ℕ) → w.place < i → i < suc k → Dec (i < k) → get_or p (m + i) 0 ≡ 0
            at i l h (yes d) = w.zeros i l d
            at i l h (no d) = ap (λ n. get_or p (m + n) 0) (let z : i ≡ k = omega arith in z) ∙ eqb-true b 0 ey
    go false ex false ey ih e = absurd (not_both 8 t e)

module _ (B q : ℕ) (p t : Value) (pos : 0 < B) (long : length p ≡ q * B + B) where
  module _ (w : Marked (q * B) B p t) where
    abbrev at : ℕ
    at = q * B + w.place

    length_text : length t ≡ at
    length_text = ap length (sym w.front) ∙ length-take-le at p (omega (arith, w.inside))

    length_same : length (fill B t) ≡ length p
    length_same =
        length_fill B t pos
        ∙ ap (λ n. B * (n / B + 1)) length_text
        ∙ ap (λ n. B * (n + 1)) (digits_div q w.inside)
        ∙ blocks_more B q
        ∙ sym long

    byte_same : (i : ℕ) → i < length p → Dec (i < at) → Dec (at < i) → get_or (fill B t) i 0 ≡ get_or p i 0
    byte_same i l (yes d) d' =
        fill_front B t i (subst (λ n. i < n) (sym length_text) d) ∙ ap (λ x. get_or x i 0) (sym w.front) ∙ get_or-take at p i 0 d
    byte_same i l (no d) (yes d') =
        ap (λ n. get_or (fill B t) n 0) past
        ∙ fill_zero B t (i - suc at)
        ∙ sym (w.zeros (i - q * B) (omega arith) (omega (arith, long)))
        ∙ ap (λ n. get_or p n 0) (let z : q * B + (i - q * B) ≡ i = omega arith in z)
      where
        past : i ≡ length t + suc (i - suc at)
        past = omega (arith, length_text)
    byte_same i l (no d) (no d') =
        ap (λ n. get_or (fill B t) n 0) (here ∙ sym length_text) ∙ fill_mark B t ∙ sym w.mark ∙ ap (λ n. get_or p n 0) (sym here)
      where
        here : i ≡ at
        here = omega arith

    marked_fill : fill B t ≡ p
    marked_fill = ext_get_or 0 (fill B t) p length_same (λ i l. byte_same i (subst (λ n. i < n) length_same l) (dec_lt i at) (dec_lt at i))

  start_of : length p - B ≡ q * B
  start_of = omega (arith, long)

  found : unfill B p ≡ value t → Marked (q * B) B p t
  unfolding unfill
  found e = unfill_inv (q * B) B p t (sym (ap (λ n. unfill_from n B p) start_of) ∙ e)

  pub fill_unfill : unfill B p ≡ value t → fill B t ≡ p
  fill_unfill e = marked_fill (found e)

  pub unfill_some : unfill B p ≡ value t → 0 < length t
  unfill_some e = subst (λ n. 0 < n) (sym (length_text (found e))) (found e).some

-- taking off answers the text or 8
pub unfill_either : (m k : ℕ) (p : Value) (n : ℕ) → unfill_from m k p ≡ refused n → n ≡ 8
unfolding unfill_from unfill_at marked pick
unfill_either m zero p n e = cc
unfill_either m (suc k) p n e = go (eqb (get_or p (m + k) 0) 0x80) (eqb (get_or p (m + k) 0) 0) (eqb (m + k) 0) (unfill_either m k p n) e
  where
    go : (x y z : Bool) → (unfill_from m k p ≡ refused n → n ≡ 8)
        → pick x (pick z (refused 8) (value (take (m + k) p))) (pick y (unfill_from m k p) (refused 8)) ≡ refused n → n ≡ 8
    go true y true ih e = cc
    go true y false ih e = absurd (not_both n (take (m + k) p) (sym e))
    go false true z ih e = ih e
    go false false z ih e = cc
