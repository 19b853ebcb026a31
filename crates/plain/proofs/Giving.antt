-- What the plain calls tell and write is what is due.
use mathlib.Core.Path.{◌≡◌, refl, ap, ap₂, sym, ◌∙◌, subst}
use mathlib.Core.Bool.{Bool, true, false}
use mathlib.Core.List.{List, [], ◌∷◌, ◌++◌, append_assoc}
use Prim.Native.Nat.{ℕ, ◌+◌, ◌-◌, ◌≤◌, ◌<◌}
use native.Mathlib.Nat.{zero-add}
use native.Mathlib.Omega.{arith}
use lib.Dec.{leb}
use lib.ListN.{length, get_or, set, take, drop, length-append}
use lib.Seq.{drop-append-add, take-append_seam, set_split, drop-drop}
use mir.Val.{bool_byte}
use borrow.Author.Tests.{le-leb, lt-leb, eq-eqb, ne_eqb}
use Rattle.common.specs.Choice.{pick}
use Rattle.common.specs.Places.{tab}
use Rattle.common.specs.Answer.{Delivered, deliver}
use Rattle.common.specs.Answer.Answer.{value, refused}
use Rattle.common.proofs.Places.{length_tab}
use Rattle.common.proofs.Runs.{Run, run_more, run_whole}
use Rattle.common.proofs.Choices.{pick_true, pick_false}
use Rattle.field.specs.Xor as field
use Rattle.meaning.specs.Real.{cat, xor_byte, xor_bytes, xor, same, eq, head}
use Rattle.handing.proofs.Giving.{gives, lacks, refuses}
use Rattle.std.proofs.Common.{Ok, Err}
use Rattle.answers.specs.declared.Refusal.TheVariants as refusals
use Rattle.answers.specs.Told.{table, told_of}

-- `cat`
module _ (a b out : List ℕ) where
  pub cat_long : 1024 < length a → told_of (Err refusals.Long) out ≡ deliver (cat a b) out
  unfolding cat table
  cat_long h = refuses refusals.Long out ∙ sym (ap (λ x. deliver x out) (pick_false _ _ _ (lt-leb (length a + length b) 1024 (omega arith))))

  pub cat_both_long : 1024 - length a < length b → told_of (Err refusals.Long) out ≡ deliver (cat a b) out
  unfolding cat table
  cat_both_long h = refuses refusals.Long out ∙ sym (ap (λ x. deliver x out) (pick_false _ _ _ (lt-leb (length a + length b) 1024 (omega arith))))

  module _ (h : length a ≤ 1024) (g : length b ≤ 1024 - length a) where
    is_cat : cat a b ≡ value (a ++ b)
    unfolding cat
    is_cat = pick_true _ _ _ (le-leb (length a + length b) 1024 (omega arith))

    pub cat_lacks : length out < length a + length b → told_of (Err refusals.Room) out ≡ deliver (cat a b) out
    cat_lacks l = let m = length-append a b in lacks (a ++ b) out (omega arith) ∙ sym (ap (λ x. deliver x out) is_cat)

    pub cat_gives : (o p : List ℕ) → length a + length b ≤ length out → o ≡ take 0 out ++ (a ++ drop (0 + length a) out) → p ≡ take (length a) o ++ (b ++ drop (length a + length b) o)
        → told_of (Ok (length a + length b)) p ≡ deliver (cat a b) out
    cat_gives o p l e f =
        let z : 0 + length a ≡ length a = omega arith in
        let e1 : o ≡ a ++ drop (length a) out = e ∙ ap (λ n. a ++ drop n out) z in
        let e2 : take (length a) o ≡ a = ap (take (length a)) e1 ∙ take-append_seam a (drop (length a) out) in
        let e3 : drop (length a + length b) o ≡ drop (length a + length b) out =
        ap (drop (length a + length b)) e1 ∙ drop-append-add a (drop (length a) out) (length b) ∙ drop-drop (length b) (length a) out in
        gives (a ++ b) out p (length a + length b) (sym (length-append a b)) l
        (f ∙ ap₂ (λ (x y : List ℕ). x ++ (b ++ y)) e2 e3 ∙ sym (append_assoc a b (drop (length a + length b) out)))
        ∙ sym (ap (λ x. deliver x out) is_cat)

-- `xor`
pub front_more : (f : ℕ → ℕ) (o₀ : List ℕ) (i : ℕ) (o : List ℕ) (v : ℕ) → Run f 0 o₀ i o → i < length o₀ → v ≡ f i → Run f 0 o₀ (i + 1) (set o i v)
front_more f o₀ i o v R h e =
    subst (λ n. Run f 0 o₀ (i + 1) (set o n v)) (zero-add i) (run_more f 0 o₀ i o v R (omega arith) e)

pub xor_whole : (a b out out' : List ℕ) (i : ℕ) → i ≡ length a → Run (λ j. field.xor (get_or a j 0) (get_or b j 0)) 0 out i out' → out' ≡ xor_bytes a b ++ drop (length a) out
unfolding xor_bytes xor_byte field.xor
xor_whole a b out out' i e R =
    run_whole (λ j. field.xor (get_or a j 0) (get_or b j 0)) 0 out i out' R
    ∙ ap (λ n. tab i (λ j. field.xor (get_or a j 0) (get_or b j 0)) ++ drop n out) (zero-add i)
    ∙ ap (λ n. tab n (λ j. field.xor (get_or a j 0) (get_or b j 0)) ++ drop n out) e

module _ (a b out : List ℕ) where
  pub xor_unequal : (length a ≡ length b → ⊥) → told_of (Err refusals.Unequal) out ≡ deliver (xor a b) out
  unfolding xor table
  xor_unequal h = refuses refusals.Unequal out ∙ sym (ap (λ x. deliver x out) (pick_false _ _ _ (ne_eqb (length a) (length b) h)))

  module _ (h : length a ≡ length b) where
    is_xor : xor a b ≡ value (xor_bytes a b)
    unfolding xor
    is_xor = pick_true _ _ _ (eq-eqb (length a) (length b) h)

    xor_size : length (xor_bytes a b) ≡ length a
    unfolding xor_bytes
    xor_size = length_tab (length a) (λ i. xor_byte (get_or a i 0) (get_or b i 0))

    pub xor_lacks : length out < length a → told_of (Err refusals.Room) out ≡ deliver (xor a b) out
    xor_lacks l = let m = xor_size in lacks (xor_bytes a b) out (omega arith) ∙ sym (ap (λ x. deliver x out) is_xor)

    pub xor_gives : (o : List ℕ) → length a ≤ length out → o ≡ xor_bytes a b ++ drop (length a) out → told_of (Ok (length a)) o ≡ deliver (xor a b) out
    xor_gives o l e = gives (xor_bytes a b) out o (length a) (sym xor_size) l e ∙ sym (ap (λ x. deliver x out) is_xor)

-- `eq`
module _ (a b out : List ℕ) where
  byte_of_lem : (t : Bool) → pick t (0x01 ∷ []) (0x00 ∷ []) ≡ pick {A = ℕ} t 0x01 0x00 ∷ []
  unfolding pick
  byte_of_lem true = refl
  byte_of_lem false = refl

  is_eq : eq a b ≡ value (pick {A = ℕ} (same a b) 0x01 0x00 ∷ [])
  unfolding eq
  is_eq = ap value (byte_of_lem (same a b))

  pub eq_lacks : length out < 1 → told_of (Err refusals.Room) out ≡ deliver (eq a b) out
  eq_lacks l = lacks (pick {A = ℕ} (same a b) 0x01 0x00 ∷ []) out l ∙ sym (ap (λ x. deliver x out) is_eq)

  byte_picked : (t : Bool) → bool_byte t ≡ pick {A = ℕ} t 0x01 0x00
  unfolding pick
  byte_picked true = refl
  byte_picked false = refl

  pub eq_gives : (t : Bool) (x : ℕ) → 1 ≤ length out → x ≡ bool_byte t → t ≡ same a b → told_of (Ok 1) (set out 0 x) ≡ deliver (eq a b) out
  eq_gives t x l e s =
      gives (pick {A = ℕ} (same a b) 0x01 0x00 ∷ []) out (set out 0 x) 1 refl l
      (set_split out 0 x l ∙ ap (λ y. y ∷ drop 1 out) (e ∙ byte_picked t ∙ ap (λ b. pick {A = ℕ} b 0x01 0x00) s))
      ∙ sym (ap (λ x. deliver x out) is_eq)

-- `head`
module _ (n a out : List ℕ) where
  not_one : (n : List ℕ) → (length n ≡ 1 → ⊥) → head n a ≡ refused 12
  unfolding head
  not_one [] h = refl
  not_one (x ∷ []) h = absurd (h refl)
  not_one (x ∷ (y ∷ r)) h = refl

  one_byte : (n : List ℕ) → length n ≡ 1 → head n a ≡ pick (leb (get_or n 0 0) (length a)) (value (take (get_or n 0 0) a)) (refused 12)
  unfolding head
  one_byte [] h = absurd (omega arith)
  one_byte (x ∷ []) h = refl
  one_byte (x ∷ (y ∷ r)) h = absurd (omega arith)

  pub head_count : (length n ≡ 1 → ⊥) → told_of (Err refusals.Short) out ≡ deliver (head n a) out
  unfolding table
  head_count h = refuses refusals.Short out ∙ sym (ap (λ x. deliver x out) (not_one n h))

  module _ (h : length n ≡ 1) where
    pub head_short : length a < get_or n 0 0 → told_of (Err refusals.Short) out ≡ deliver (head n a) out
    unfolding table
    head_short l = refuses refusals.Short out ∙ sym (ap (λ x. deliver x out) (one_byte n h ∙ pick_false _ _ _ (lt-leb (get_or n 0 0) (length a) l)))

    pub head_gives : (d : Delivered) → get_or n 0 0 ≤ length a → d ≡ deliver (value (take (get_or n 0 0) a)) out → d ≡ deliver (head n a) out
    head_gives d l e = e ∙ sym (ap (λ x. deliver x out) (one_byte n h ∙ pick_true _ _ _ (le-leb (get_or n 0 0) (length a) l)))
