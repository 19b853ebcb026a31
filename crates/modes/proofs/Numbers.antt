-- Each number is given exactly when section 7 says, past those before it in the cipher order: 1, 2, 3, 4, 6, 5, 7, 8, 13.
use mathlib.Core.Logic.{◌↔◌}
use mathlib.Core.Path.{◌≡◌, refl, sym, ap, ◌∙◌, subst}
use Prim.Native.Nat.{ℕ, ◌≤◌}
use native.Mathlib.Nat.{}
use native.Mathlib.Omega.{arith}
use lib.ListN.{length}
use Rattle.std.proofs.Common.{Option, Some as Known, None}
use Rattle.common.specs.Answer.{Value, Answer}
use Rattle.common.specs.Answer.Answer.{value, refused}
use Rattle.suites.specs.Suites.{suite_of, block_bytes}
use Rattle.suites.specs.declared.Suite.{Suite}
use Rattle.modes.specs.Fill.{unfill}
use Rattle.modes.specs.Cell.{Call, shape_of, blocks_in, made, sealing, checked, suited, cell}
use Rattle.modes.proofs.Blocks.{OfBytes}
use Rattle.modes.proofs.Fill.{not_both, unfill_either}
use Rattle.modes.proofs.Counters.{Twice, never_twice}
use Rattle.modes.proofs.Suites.{sized, no_suite}
use Rattle.modes.proofs.Checks.{Key, Iv, Some, Short, Whole, Tag, Past, each_answer, passed}
use Rattle.modes.proofs.Cell.{Makes, answers, cell_known, ctr_makes, uncbp_back, cbp_back, Unfilled, unfilled}
use Rattle.modes.proofs.Values.{cell_good}

-- two numbers of one answer are one
clash : {A : Type 0} (a b : ℕ) → (a ≡ b → ⊥) → refused a ≡ refused b → A
clash a b n e = absurd (n (inj a b e))
  where
    inj : (a b : ℕ) → refused a ≡ refused b → a ≡ b
    inj a b e = cc

-- no text of 1 to 1,023 bytes seals to these bytes under that key and IV
abbrev pub NoText : ℕ → Value → Value → Value → Type 0
NoText n key iv text = (t : Value) → OfBytes t → 1 ≤ length t → length t ≤ 1023 → cell Call.cbp n key iv t ≡ value text → ⊥

-- past the checks only `uncbp` refuses, and with 8
made_refused : (n : ℕ) (s : Suite) (key side text : Value) (x : ℕ) → suite_of n ≡ Known s → (f : Call) → Past f s key side text
    → Makes f s key side text ≡ refused x → (f ≡ Call.uncbp) × (x ≡ 8)
unfolding shape_of made unfill
made_refused n s key side text x k Call.blk p e = absurd (not_both x _ (sym e))
made_refused n s key side text x k Call.unblk p e = absurd (not_both x _ (sym e))
made_refused n s key side text x k Call.ctr p e = absurd (not_both x _ (sym e ∙ ctr_makes n s key side text k p.text_short))
made_refused n s key side text x k Call.ofb p e = absurd (not_both x _ (sym e))
made_refused n s key side text x k Call.cfb p e = absurd (not_both x _ (sym e))
made_refused n s key side text x k Call.uncfb p e = absurd (not_both x _ (sym e))
made_refused n s key side text x k Call.cbc p e = absurd (not_both x _ (sym e))
made_refused n s key side text x k Call.uncbc p e = absurd (not_both x _ (sym e))
made_refused n s key side text x k Call.cbp p e = absurd (not_both x _ (sym e))
made_refused n s key side text x k Call.uncbp p e = (refl, unfill_either _ _ _ x e)
made_refused n s key side text x k Call.mac p e = absurd (not_both x _ (sym e))
made_refused n s key side text x k Call.chk p e = absurd (not_both x _ (sym e))

-- ---- 1: suite number not 1..5

pub number_1 : (f : Call) (n : ℕ) (key side text : Value) → (cell f n key side text ≡ refused 1) ↔ ((1 ≤ n) × (n ≤ 5) → ⊥)
unfolding cell suited
number_1 f n key side text = (λ e. only (suite_of n) refl e, λ h. given (suite_of n) refl h)
  where
    only : (x : Option Suite) → suite_of n ≡ x → suited f x key side text ≡ refused 1 → (1 ≤ n) × (n ≤ 5) → ⊥
    only None k e = no_suite n k
    only (Known s) k e =
        each_answer f s key side text (λ a. a ≡ refused 1 → (1 ≤ n) × (n ≤ 5) → ⊥)
        (λ _ e. clash 2 1 (omega arith) e)
        (λ _ _ e. clash 3 1 (omega arith) e)
        (λ _ _ _ e. clash 4 1 (omega arith) e)
        (λ _ _ _ _ e. clash 6 1 (omega arith) e)
        (λ _ _ _ _ _ e. clash 5 1 (omega arith) e)
        (λ _ _ _ _ _ _ e. clash 7 1 (omega arith) e)
        (λ p e. (let z : ◌≡◌ {A = ℕ} 1 8 = (made_refused n s key side text 1 k f p e).1 in absurd (omega arith)))
        e

    given : (x : Option Suite) → suite_of n ≡ x → ((1 ≤ n) × (n ≤ 5) → ⊥) → suited f x key side text ≡ refused 1
    given None k h = refl
    given (Known s) k h = absurd (h ((sized n s k).from, (sized n s k).upto))

-- ---- the others, of a known suite

module _ (f : Call) (n : ℕ) (s : Suite) (key side text : Value) (k : suite_of n ≡ Known s) where
  here : cell f n key side text ≡ checked f s key side text
  here = cell_known f n s key side text k

  -- past the checks, no other number than 8
  later : (x : ℕ) → (x ≡ 8 → ⊥) → {A : Type 0} → Past f s key side text → Makes f s key side text ≡ refused x → A
  later x h p e = absurd (h (made_refused n s key side text x k f p e).1)

  -- 2: key length not the suite's
  pub number_2 : (cell f n key side text ≡ refused 2) ↔ (Key f s key side text → ⊥)
  number_2 = (
    λ e.
        each_answer f s key side text (λ a. a ≡ refused 2 → Key f s key side text → ⊥)
        (λ h _. h)
        (λ _ _ e. clash 3 2 (omega arith) e)
        (λ _ _ _ e. clash 4 2 (omega arith) e)
        (λ _ _ _ _ e. clash 6 2 (omega arith) e)
        (λ _ _ _ _ _ e. clash 5 2 (omega arith) e)
        (λ _ _ _ _ _ _ e. clash 7 2 (omega arith) e)
        (λ p e. later 2 (omega arith) p e)
        (sym here ∙ e),
    λ h. here
        ∙ each_answer f s key side text (λ a. a ≡ refused 2)
        (λ _. refl)
        (λ a _. absurd (h a))
        (λ a _ _. absurd (h a))
        (λ a _ _ _. absurd (h a))
        (λ a _ _ _ _. absurd (h a))
        (λ a _ _ _ _ _. absurd (h a))
        (λ p. absurd (h p.key_fits)),
  )

  -- 3: IV not B bytes
  pub number_3 : (cell f n key side text ≡ refused 3) ↔ (Key f s key side text × (Iv f s key side text → ⊥))
  number_3 = (
    λ e.
        each_answer f s key side text (λ a. a ≡ refused 3 → Key f s key side text × (Iv f s key side text → ⊥))
        (λ _ e. clash 2 3 (omega arith) e)
        (λ a h _. (a, h))
        (λ _ _ _ e. clash 4 3 (omega arith) e)
        (λ _ _ _ _ e. clash 6 3 (omega arith) e)
        (λ _ _ _ _ _ e. clash 5 3 (omega arith) e)
        (λ _ _ _ _ _ _ e. clash 7 3 (omega arith) e)
        (λ p e. later 3 (omega arith) p e)
        (sym here ∙ e),
    λ h. here
        ∙ each_answer f s key side text (λ a. a ≡ refused 3)
        (λ no. absurd (no h.0))
        (λ _ _. refl)
        (λ _ a _. absurd (h.1 a))
        (λ _ a _ _. absurd (h.1 a))
        (λ _ a _ _ _. absurd (h.1 a))
        (λ _ a _ _ _ _. absurd (h.1 a))
        (λ p. absurd (h.1 p.iv_fits)),
  )

  -- 4: empty text
  pub number_4 : (cell f n key side text ≡ refused 4) ↔ (Key f s key side text × Iv f s key side text × (Some f s key side text → ⊥))
  number_4 = (
    λ e.
        each_answer f s key side text (λ a. a ≡ refused 4 → Key f s key side text × Iv f s key side text × (Some f s key side text → ⊥))
        (λ _ e. clash 2 4 (omega arith) e)
        (λ _ _ e. clash 3 4 (omega arith) e)
        (λ a b h _. (a, b, h))
        (λ _ _ _ _ e. clash 6 4 (omega arith) e)
        (λ _ _ _ _ _ e. clash 5 4 (omega arith) e)
        (λ _ _ _ _ _ _ e. clash 7 4 (omega arith) e)
        (λ p e. later 4 (omega arith) p e)
        (sym here ∙ e),
    λ h. here
        ∙ each_answer f s key side text (λ a. a ≡ refused 4)
        (λ no. absurd (no h.0))
        (λ _ no. absurd (no h.1))
        (λ _ _ _. refl)
        (λ _ _ a _. absurd (h.2 a))
        (λ _ _ a _ _. absurd (h.2 a))
        (λ _ _ a _ _ _. absurd (h.2 a))
        (λ p. absurd (h.2 p.text_some)),
  )

  -- 6: text over 1,024 bytes; of `cbp` the result
  pub number_6 : (cell f n key side text ≡ refused 6)
      ↔ (Key f s key side text × Iv f s key side text × Some f s key side text × (Short f s key side text → ⊥))
  number_6 = (
    λ e.
        each_answer f s key side text
        (λ a. a ≡ refused 6 → Key f s key side text × Iv f s key side text × Some f s key side text × (Short f s key side text → ⊥))
        (λ _ e. clash 2 6 (omega arith) e)
        (λ _ _ e. clash 3 6 (omega arith) e)
        (λ _ _ _ e. clash 4 6 (omega arith) e)
        (λ a b c h _. (a, b, c, h))
        (λ _ _ _ _ _ e. clash 5 6 (omega arith) e)
        (λ _ _ _ _ _ _ e. clash 7 6 (omega arith) e)
        (λ p e. later 6 (omega arith) p e)
        (sym here ∙ e),
    λ h. here
        ∙ each_answer f s key side text (λ a. a ≡ refused 6)
        (λ no. absurd (no h.0))
        (λ _ no. absurd (no h.1))
        (λ _ _ no. absurd (no h.2))
        (λ _ _ _ _. refl)
        (λ _ _ _ a _. absurd (h.3 a))
        (λ _ _ _ a _ _. absurd (h.3 a))
        (λ p. absurd (h.3 p.text_short)),
  )

  -- 5: not one block, or not whole blocks
  pub number_5 : (cell f n key side text ≡ refused 5)
      ↔ (Key f s key side text × Iv f s key side text × Some f s key side text × Short f s key side text × (Whole f s key side text → ⊥))
  number_5 = (
    λ e.
        each_answer f s key side text
        (λ a. a ≡ refused 5 → Key f s key side text × Iv f s key side text × Some f s key side text × Short f s key side text × (Whole f s key side text → ⊥))
        (λ _ e. clash 2 5 (omega arith) e)
        (λ _ _ e. clash 3 5 (omega arith) e)
        (λ _ _ _ e. clash 4 5 (omega arith) e)
        (λ _ _ _ _ e. clash 6 5 (omega arith) e)
        (λ a b c d h _. (a, b, c, d, h))
        (λ _ _ _ _ _ _ e. clash 7 5 (omega arith) e)
        (λ p e. later 5 (omega arith) p e)
        (sym here ∙ e),
    λ h. here
        ∙ each_answer f s key side text (λ a. a ≡ refused 5)
        (λ no. absurd (no h.0))
        (λ _ no. absurd (no h.1))
        (λ _ _ no. absurd (no h.2))
        (λ _ _ _ no. absurd (no h.3))
        (λ _ _ _ _ _. refl)
        (λ _ _ _ _ a _. absurd (h.4 a))
        (λ p. absurd (h.4 p.text_whole)),
  )

  -- 7: tag not 8..B bytes
  pub number_7 : (cell f n key side text ≡ refused 7)
      ↔ (Key f s key side text × Iv f s key side text × Some f s key side text × Short f s key side text × Whole f s key side text × (Tag f s key side text → ⊥))
  number_7 = (
    λ e.
        each_answer f s key side text
        (λ a. a ≡ refused 7
        → Key f s key side text × Iv f s key side text × Some f s key side text × Short f s key side text × Whole f s key side text × (Tag f s key side text → ⊥))
        (λ _ e. clash 2 7 (omega arith) e)
        (λ _ _ e. clash 3 7 (omega arith) e)
        (λ _ _ _ e. clash 4 7 (omega arith) e)
        (λ _ _ _ _ e. clash 6 7 (omega arith) e)
        (λ _ _ _ _ _ e. clash 5 7 (omega arith) e)
        (λ a b c d w h _. (a, b, c, d, w, h))
        (λ p e. later 7 (omega arith) p e)
        (sym here ∙ e),
    λ h. here
        ∙ each_answer f s key side text (λ a. a ≡ refused 7)
        (λ no. absurd (no h.0))
        (λ _ no. absurd (no h.1))
        (λ _ _ no. absurd (no h.2))
        (λ _ _ _ no. absurd (no h.3))
        (λ _ _ _ _ no. absurd (no h.4))
        (λ _ _ _ _ _ _. refl)
        (λ p. absurd (h.5 p.tag_fits)),
  )

  -- past the checks that precede them, with what the call makes
  past_refused : (x : ℕ) → (x ≡ 2 → ⊥) → (x ≡ 3 → ⊥) → (x ≡ 4 → ⊥) → (x ≡ 6 → ⊥) → (x ≡ 5 → ⊥) → (x ≡ 7 → ⊥) → cell f n key side text ≡ refused x
      → Past f s key side text × (f ≡ Call.uncbp) × (x ≡ 8)
  past_refused x n2 n3 n4 n6 n5 n7 e =
      each_answer f s key side text (λ a. a ≡ refused x → Past f s key side text × (f ≡ Call.uncbp) × (x ≡ 8))
      (λ _ e. clash 2 x (λ q. n2 (sym q)) e)
      (λ _ _ e. clash 3 x (λ q. n3 (sym q)) e)
      (λ _ _ _ e. clash 4 x (λ q. n4 (sym q)) e)
      (λ _ _ _ _ e. clash 6 x (λ q. n6 (sym q)) e)
      (λ _ _ _ _ _ e. clash 5 x (λ q. n5 (sym q)) e)
      (λ _ _ _ _ _ _ e. clash 7 x (λ q. n7 (sym q)) e)
      (λ p e. (p, (made_refused n s key side text x k f p e).0, (made_refused n s key side text x k f p e).1))
      (sym here ∙ e)

  -- 8: past the earlier checks, no text of 1 to 1,023 bytes seals to those bytes
  pub number_8 : OfBytes side → OfBytes text → (cell f n key side text ≡ refused 8) ↔ (Past f s key side text × (f ≡ Call.uncbp) × NoText n key side text)
  number_8 bs bt = (λ e. only e (past_refused 8 (omega arith) (omega arith) (omega arith) (omega arith) (omega arith) (omega arith) e), given)
    where
      only : cell f n key side text ≡ refused 8 → Past f s key side text × (f ≡ Call.uncbp) × (◌≡◌ {A = ℕ} 8 8) → Past f s key side text × (f ≡ Call.uncbp) × NoText n key side text
      only e r = (
        r.0,
        r.1,
        λ t b _ _ sealed.
            not_both 8 t (sym e ∙ ap (λ g. cell g n key side text) r.1 ∙ uncbp_back n key side t text bs b sealed),
      )

      given : Past f s key side text × (f ≡ Call.uncbp) × NoText n key side text → cell f n key side text ≡ refused 8
      given r = here ∙ passed f s key side text r.0 ∙ go (Makes f s key side text) refl
        where
          go : (a : Answer) → Makes f s key side text ≡ a → a ≡ refused 8
          go (refused x) e = ap refused (made_refused n s key side text x k f r.0 e).1
          go (value t) e = absurd (r.2 t (cell_good Call.uncbp n key side text t bs bt opened).bytes u.some (omega (arith, u.less, short)) (cbp_back n key side text t bs bt opened))
            where
              past : Past Call.uncbp s key side text
              past = subst (λ g. Past g s key side text) r.1 r.0

              short : length text ≤ 1024
              short = unfold shape_of in past.text_short

              makes : Makes Call.uncbp s key side text ≡ value t
              makes = subst (λ g. Makes g s key side text ≡ value t) r.1 e

              opened : cell Call.uncbp n key side text ≡ value t
              opened = answers Call.uncbp n key side text t (record { suite = s; known = k; past = past; makes = makes })

              u : Unfilled n s key side text t
              u = unfilled n s key side text t k past makes

  -- 13: two counters of one CTR cell equal; that never is
  pub number_13 : (cell f n key side text ≡ refused 13)
      ↔ (Past f s key side text × (f ≡ Call.ctr) × Twice (block_bytes s) (sealing s key side) (blocks_in (block_bytes s) (length text)))
  number_13 =
      (λ e. (let z : ◌≡◌ {A = ℕ} 13 8 = (past_refused 13 (omega arith) (omega arith) (omega arith) (omega arith) (omega arith) (omega arith) e).2 in absurd (omega arith)), λ r. absurd (never r))
    where
      never : Past f s key side text × (f ≡ Call.ctr) × Twice (block_bytes s) (sealing s key side) (blocks_in (block_bytes s) (length text)) → ⊥
      never r =
          never_twice (block_bytes s) (length text) (sealing s key side) (omega (arith, (sized n s k).least)) (omega (arith, (sized n s k).least, short)) r.2
        where
          past : Past Call.ctr s key side text
          past = subst (λ g. Past g s key side text) r.1 r.0

          short : length text ≤ 1024
          short = unfold shape_of in past.text_short

  -- 0: past the checks a call is done, `uncbp` if some text seals to those bytes
  pub done : OfBytes side → OfBytes text → Past f s key side text → (f ≡ Call.uncbp → NoText n key side text → ⊥) → (v : Value) × (cell f n key side text ≡ value v)
  done bs bt p some = go (Makes f s key side text) refl
    where
      go : (a : Answer) → Makes f s key side text ≡ a → (v : Value) × (cell f n key side text ≡ value v)
      go (value v) e = (v, here ∙ passed f s key side text p ∙ e)
      go (refused x) e = absurd (some r.1 r.2)
        where
          eight : x ≡ 8
          eight = (made_refused n s key side text x k f p e).1

          r : Past f s key side text × (f ≡ Call.uncbp) × NoText n key side text
          r = (number_8 bs bt).0 (here ∙ passed f s key side text p ∙ e ∙ ap refused eight)

  -- no other number is given
  pub no_other : (x : ℕ) → cell f n key side text ≡ refused x → (x ≡ 2 → ⊥) → (x ≡ 3 → ⊥) → (x ≡ 4 → ⊥) → (x ≡ 6 → ⊥) → (x ≡ 5 → ⊥) → (x ≡ 7 → ⊥) → x ≡ 8
  no_other x e n2 n3 n4 n6 n5 n7 = (past_refused x n2 n3 n4 n6 n5 n7 e).2

-- 13 is never given, by any call
pub never_13 : (f : Call) (n : ℕ) (key side text : Value) → cell f n key side text ≡ refused 13 → ⊥
unfolding cell suited
never_13 f n key side text e = go (suite_of n) refl e
  where
    go : (x : Option Suite) → suite_of n ≡ x → suited f x key side text ≡ refused 13 → ⊥
    go None k e = clash 1 13 (omega arith) e
    go (Known s) k e =
        let z : ◌≡◌ {A = ℕ} 13 8 = no_other f n s key side text k 13 (cell_known f n s key side text k ∙ e) (omega arith) (omega arith) (omega arith) (omega arith) (omega arith) (omega arith) in omega arith
