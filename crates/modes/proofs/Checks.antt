-- The checks in the cipher order, in the words of section 7.
use mathlib.Core.Bool.{Bool, true, false, not}
use mathlib.Core.Path.{◌≡◌, refl}
use Prim.Native.Nat.{ℕ, ◌+◌, ◌*◌, ◌/◌, ◌%◌, ◌<◌, ◌≤◌}
use native.Mathlib.Omega.{arith}
use borrow.Author.Tests.{eqb-true, eqb-false, leb-true, leb-false, ltb-true, ltb-false, not-true, not-false}
use lib.Dec.{eqb, leb, ltb}
use lib.ListN.{length}
use Rattle.common.specs.Choice.{pick}
use Rattle.common.specs.Answer.{Value, Answer}
use Rattle.common.specs.Answer.Answer.{refused}
use Rattle.suites.specs.Suites.{block_bytes, key_bytes}
use Rattle.suites.specs.declared.Suite.{Suite}
use Rattle.modes.specs.Cell.{Call, Side, Shape, side_of, shape_of, key_wrong, iv_wrong, text_empty, text_long, text_partial, tag_wrong, made, sealing, opening, checked}

-- ---- section 7, each check as what it asks; B is the block in bytes

-- 2: the key has the suite's length
abbrev pub KeyFits : Suite → ℕ → Type 0
KeyFits s n = n ≡ key_bytes s

-- 3: the IV has B bytes
abbrev pub IvFits : Side → ℕ → ℕ → Type 0
IvFits Side.none B n = Unit {0}
IvFits Side.iv B n = n ≡ B
IvFits Side.tag B n = Unit {0}

-- 4: the text is not empty; a block has only its own check
abbrev pub TextSome : Shape → ℕ → Type 0
TextSome Shape.block n = Unit {0}
TextSome Shape.any n = 0 < n
TextSome Shape.whole n = 0 < n
TextSome Shape.filled n = 0 < n

-- 6: the text has at most 1,024 bytes; of `cbp` the result
abbrev pub TextShort : Shape → ℕ → ℕ → Type 0
TextShort Shape.block B n = Unit {0}
TextShort Shape.any B n = n ≤ 1024
TextShort Shape.whole B n = n ≤ 1024
TextShort Shape.filled B n = B * (n / B + 1) ≤ 1024

-- 5: one block, or whole blocks
abbrev pub TextWhole : Shape → ℕ → ℕ → Type 0
TextWhole Shape.block B n = n ≡ B
TextWhole Shape.any B n = Unit {0}
TextWhole Shape.whole B n = n % B ≡ 0
TextWhole Shape.filled B n = Unit {0}

-- 7: the tag has 8..B bytes
abbrev pub TagFits : Side → ℕ → ℕ → Type 0
TagFits Side.none B n = Unit {0}
TagFits Side.iv B n = Unit {0}
TagFits Side.tag B n = (8 ≤ n) × (n ≤ B)

-- past all of them
pub record Past (f : Call) (s : Suite) (key side text : Value) : Type 0 where
  pub key_fits : KeyFits s (length key)
  pub iv_fits : IvFits (side_of f) (block_bytes s) (length side)
  pub text_some : TextSome (shape_of f) (length text)
  pub text_short : TextShort (shape_of f) (block_bytes s) (length text)
  pub text_whole : TextWhole (shape_of f) (block_bytes s) (length text)
  pub tag_fits : TagFits (side_of f) (block_bytes s) (length side)

-- ---- a test fails exactly where what is asked holds

pub record Asks (t : Bool) (P : Type 0) : Type 0 where
  pub met : t ≡ false → P
  pub unmet : t ≡ true → P → ⊥

asks_nothing : Asks false (Unit {0})
asks_nothing = record { met = λ e. tt; unmet = λ e p. (let z : ◌≡◌ {A = ℕ} 0 1 = cc in omega arith) }

asks_eq : (a b : ℕ) → Asks (not (eqb a b)) (a ≡ b)
asks_eq a b = record { met = λ e. eqb-true a b (not-false (eqb a b) e); unmet = λ e. eqb-false a b (not-true (eqb a b) e) }

asks_pos : (n : ℕ) → Asks (eqb n 0) (0 < n)
asks_pos n =
    record {
      met = λ e. (let h : n ≡ 0 → ⊥ = eqb-false n 0 e in omega arith);
      unmet = λ e p. (let h : n ≡ 0 = eqb-true n 0 e in omega arith);
    }

asks_le : (a b : ℕ) → Asks (ltb a b) (b ≤ a)
asks_le a b = record { met = ltb-false a b; unmet = λ e p. (let l : a < b = ltb-true a b e in omega arith) }

asks_key : (s : Suite) (n : ℕ) → Asks (key_wrong s n) (KeyFits s n)
unfolding key_wrong
asks_key s n = asks_eq n (key_bytes s)

asks_iv : (d : Side) (B n : ℕ) → Asks (iv_wrong d B n) (IvFits d B n)
unfolding iv_wrong
asks_iv Side.none B n = asks_nothing
asks_iv Side.iv B n = asks_eq n B
asks_iv Side.tag B n = asks_nothing

asks_some : (h : Shape) (n : ℕ) → Asks (text_empty h n) (TextSome h n)
unfolding text_empty
asks_some Shape.block n = asks_nothing
asks_some Shape.any n = asks_pos n
asks_some Shape.whole n = asks_pos n
asks_some Shape.filled n = asks_pos n

asks_short : (h : Shape) (B n : ℕ) → Asks (text_long h B n) (TextShort h B n)
unfolding text_long
asks_short Shape.block B n = asks_nothing
asks_short Shape.any B n = asks_le 1024 n
asks_short Shape.whole B n = asks_le 1024 n
asks_short Shape.filled B n = asks_le 1024 (B * (n / B + 1))

asks_whole : (h : Shape) (B n : ℕ) → Asks (text_partial h B n) (TextWhole h B n)
unfolding text_partial
asks_whole Shape.block B n = asks_eq n B
asks_whole Shape.any B n = asks_nothing
asks_whole Shape.whole B n = asks_eq (n % B) 0
asks_whole Shape.filled B n = asks_nothing

asks_tag : (d : Side) (B n : ℕ) → Asks (tag_wrong d B n) (TagFits d B n)
unfolding tag_wrong pick
asks_tag Side.none B n = asks_nothing
asks_tag Side.iv B n = asks_nothing
asks_tag Side.tag B n = record { met = λ e. low (leb 8 n) refl (leb n B) refl e; unmet = λ e r. high (leb 8 n) refl (leb n B) refl e r }
  where
    high : (x : Bool) → leb 8 n ≡ x → (y : Bool) → leb n B ≡ y → pick x (not y) true ≡ true → (8 ≤ n) × (n ≤ B) → ⊥
    high true ex true ey e r = let z : ◌≡◌ {A = ℕ} 0 1 = cc in omega arith
    high true ex false ey e r = let l : B < n = leb-false n B ey in omega (arith, r.1)
    high false ex y ey e r = let l : n < 8 = leb-false 8 n ex in omega (arith, r.0)

    low : (x : Bool) → leb 8 n ≡ x → (y : Bool) → leb n B ≡ y → pick x (not y) true ≡ false → (8 ≤ n) × (n ≤ B)
    low true ex true ey e = (leb-true 8 n ex, leb-true n B ey)
    low true ex false ey e = let z : ◌≡◌ {A = ℕ} 0 1 = cc in absurd (omega arith)
    low false ex y ey e = let z : ◌≡◌ {A = ℕ} 0 1 = cc in absurd (omega arith)

-- ---- six tests in their order

module _ (t2 t3 t4 t6 t5 t7 : Bool) (a : Answer) where
  abbrev pub Ordered : Answer
  Ordered = pick t2 (refused 2) (pick t3 (refused 3) (pick t4 (refused 4) (pick t6 (refused 6) (pick t5 (refused 5) (pick t7 (refused 7) a)))))

pub ordered : (P : Answer → Type 0) (t2 t3 t4 t6 t5 t7 : Bool) (a : Answer) → (t2 ≡ true → P (refused 2)) → (t2 ≡ false → t3 ≡ true → P (refused 3))
    → (t2 ≡ false → t3 ≡ false → t4 ≡ true → P (refused 4)) → (t2 ≡ false → t3 ≡ false → t4 ≡ false → t6 ≡ true → P (refused 6))
    → (t2 ≡ false → t3 ≡ false → t4 ≡ false → t6 ≡ false → t5 ≡ true → P (refused 5))
    → (t2 ≡ false → t3 ≡ false → t4 ≡ false → t6 ≡ false → t5 ≡ false → t7 ≡ true → P (refused 7))
    → (t2 ≡ false → t3 ≡ false → t4 ≡ false → t6 ≡ false → t5 ≡ false → t7 ≡ false → P a) → P (Ordered t2 t3 t4 t6 t5 t7 a)
unfolding pick
ordered P true t3 t4 t6 t5 t7 a h2 h3 h4 h6 h5 h7 h = h2 refl
ordered P false true t4 t6 t5 t7 a h2 h3 h4 h6 h5 h7 h = h3 refl refl
ordered P false false true t6 t5 t7 a h2 h3 h4 h6 h5 h7 h = h4 refl refl refl
ordered P false false false true t5 t7 a h2 h3 h4 h6 h5 h7 h = h6 refl refl refl refl
ordered P false false false false true t7 a h2 h3 h4 h6 h5 h7 h = h5 refl refl refl refl refl
ordered P false false false false false true a h2 h3 h4 h6 h5 h7 h = h7 refl refl refl refl refl refl
ordered P false false false false false false a h2 h3 h4 h6 h5 h7 h = h refl refl refl refl refl refl

-- ---- the same of a cell whose suite is known

module _ (f : Call) (s : Suite) (key side text : Value) where
  -- what each check asks of the arguments
  abbrev pub Key : Type 0
  Key = KeyFits s (length key)

  abbrev pub Iv : Type 0
  Iv = IvFits (side_of f) (block_bytes s) (length side)

  abbrev pub Some : Type 0
  Some = TextSome (shape_of f) (length text)

  abbrev pub Short : Type 0
  Short = TextShort (shape_of f) (block_bytes s) (length text)

  abbrev pub Whole : Type 0
  Whole = TextWhole (shape_of f) (block_bytes s) (length text)

  abbrev pub Tag : Type 0
  Tag = TagFits (side_of f) (block_bytes s) (length side)

  -- every answer, with what holds where it is given
  pub each_answer : (P : Answer → Type 0) → ((Key → ⊥) → P (refused 2)) → (Key → (Iv → ⊥) → P (refused 3)) → (Key → Iv → (Some → ⊥) → P (refused 4))
      → (Key → Iv → Some → (Short → ⊥) → P (refused 6)) → (Key → Iv → Some → Short → (Whole → ⊥) → P (refused 5))
      → (Key → Iv → Some → Short → Whole → (Tag → ⊥) → P (refused 7))
      → (Past f s key side text → P (made f (block_bytes s) (sealing s key) (opening s key) side text)) → P (checked f s key side text)
  unfolding checked
  each_answer P h2 h3 h4 h6 h5 h7 h =
      ordered P (key_wrong s (length key)) (iv_wrong (side_of f) (block_bytes s) (length side)) (text_empty (shape_of f) (length text))
      (text_long (shape_of f) (block_bytes s) (length text)) (text_partial (shape_of f) (block_bytes s) (length text))
      (tag_wrong (side_of f) (block_bytes s) (length side)) (made f (block_bytes s) (sealing s key) (opening s key) side text)
      (λ e2. h2 (k.unmet e2))
      (λ e2 e3. h3 (k.met e2) (i.unmet e3))
      (λ e2 e3 e4. h4 (k.met e2) (i.met e3) (m.unmet e4))
      (λ e2 e3 e4 e6. h6 (k.met e2) (i.met e3) (m.met e4) (l.unmet e6))
      (λ e2 e3 e4 e6 e5. h5 (k.met e2) (i.met e3) (m.met e4) (l.met e6) (r.unmet e5))
      (λ e2 e3 e4 e6 e5 e7. h7 (k.met e2) (i.met e3) (m.met e4) (l.met e6) (r.met e5) (g.unmet e7))
      (λ e2 e3 e4 e6 e5 e7.
      h (record { key_fits = k.met e2; iv_fits = i.met e3; text_some = m.met e4; text_short = l.met e6; text_whole = r.met e5; tag_fits = g.met e7 }))
    where
      k : Asks (key_wrong s (length key)) Key
      k = asks_key s (length key)

      i : Asks (iv_wrong (side_of f) (block_bytes s) (length side)) Iv
      i = asks_iv (side_of f) (block_bytes s) (length side)

      m : Asks (text_empty (shape_of f) (length text)) Some
      m = asks_some (shape_of f) (length text)

      l : Asks (text_long (shape_of f) (block_bytes s) (length text)) Short
      l = asks_short (shape_of f) (block_bytes s) (length text)

      r : Asks (text_partial (shape_of f) (block_bytes s) (length text)) Whole
      r = asks_whole (shape_of f) (block_bytes s) (length text)

      g : Asks (tag_wrong (side_of f) (block_bytes s) (length side)) Tag
      g = asks_tag (side_of f) (block_bytes s) (length side)

  -- past the checks the call is made
  pub passed : Past f s key side text → checked f s key side text ≡ made f (block_bytes s) (sealing s key) (opening s key) side text
  passed p =
      each_answer (λ a. a ≡ made f (block_bytes s) (sealing s key) (opening s key) side text)
      (λ n. absurd (n p.key_fits))
      (λ _ n. absurd (n p.iv_fits))
      (λ _ _ n. absurd (n p.text_some))
      (λ _ _ _ n. absurd (n p.text_short))
      (λ _ _ _ _ n. absurd (n p.text_whole))
      (λ _ _ _ _ _ n. absurd (n p.tag_fits))
      (λ _. refl)
