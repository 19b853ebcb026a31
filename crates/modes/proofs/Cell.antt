-- Sealing and opening undo each other, on what the calls answer.
use mathlib.Core.Path.{◌≡◌, refl, sym, ap, ◌∙◌, subst}
use Prim.Native.Nat.{ℕ, zero, suc, ◌+◌, ◌-◌, ◌*◌, ◌/◌, ◌%◌, ◌<◌, ◌≤◌}
use native.Mathlib.Nat.{suc-mul, zero-mul, div-add-mod'}
use native.Mathlib.Omega.{arith}
use lib.ListN.{length}
use Rattle.std.proofs.Common.{Option, Some, None}
use Rattle.common.specs.Choice.{pick}
use Rattle.common.specs.Answer.{Value, Answer}
use Rattle.common.specs.Answer.Answer.{value, refused}
use Rattle.suites.specs.Suites.{suite_of, block_bytes}
use Rattle.suites.specs.declared.Suite.{Suite}
use Rattle.modes.specs.Stream as Stream
use Rattle.modes.specs.Chain as Chain
use Rattle.modes.specs.Fill.{fill, unfill}
use Rattle.modes.specs.Cell.{Call, side_of, shape_of, made, sealing, opening, checked, suited, cell}
use Rattle.modes.proofs.Blocks.{OfBytes, Cipher}
use Rattle.modes.proofs.Stream.{length_gamma, ctr_ctr, ofb_ofb, length_cfb, length_uncfb, uncfb_cfb, cfb_uncfb}
use Rattle.modes.proofs.Chain.{length_cbc, length_uncbc, uncbc_cbc, cbc_uncbc}
use Rattle.modes.proofs.Fill.{value_inj, not_both, length_fill, fill_whole, fill_bytes, fill_more, unfill_fill, fill_unfill, unfill_some}
use Rattle.modes.proofs.Counters.{never_wraps}
use Rattle.modes.proofs.Suites.{sized, cipher_of}
use Rattle.modes.proofs.Checks.{IvFits, TextSome, TextShort, TextWhole, TagFits, Past, each_answer, passed}

-- ---- a call that answers a value

-- what a call makes of a known suite
abbrev pub Makes : Call → Suite → Value → Value → Value → Answer
Makes f s key side text = made f (block_bytes s) (sealing s key) (opening s key) side text

pub record Answered (f : Call) (n : ℕ) (key side text v : Value) : Type 0 where
  pub suite : Suite
  pub known : suite_of n ≡ Some suite
  pub past : Past f suite key side text
  pub makes : Makes f suite key side text ≡ value v

pub cell_known : (f : Call) (n : ℕ) (s : Suite) (key side text : Value) → suite_of n ≡ Some s → cell f n key side text ≡ checked f s key side text
unfolding cell suited
cell_known f n s key side text e = ap (λ x. suited f x key side text) e

pub cell_unknown : (f : Call) (n : ℕ) (key side text : Value) → suite_of n ≡ None → cell f n key side text ≡ refused 1
unfolding cell suited
cell_unknown f n key side text e = ap (λ x. suited f x key side text) e

pub checked_value : (f : Call) (s : Suite) (key side text v : Value) → checked f s key side text ≡ value v
    → Past f s key side text × (Makes f s key side text ≡ value v)
checked_value f s key side text v =
    each_answer f s key side text (λ a. a ≡ value v → Past f s key side text × (Makes f s key side text ≡ value v))
    (λ _ e. absurd (not_both 2 v e))
    (λ _ _ e. absurd (not_both 3 v e))
    (λ _ _ _ e. absurd (not_both 4 v e))
    (λ _ _ _ _ e. absurd (not_both 6 v e))
    (λ _ _ _ _ _ e. absurd (not_both 5 v e))
    (λ _ _ _ _ _ _ e. absurd (not_both 7 v e))
    (λ p e. (p, e))

pub answered : (f : Call) (n : ℕ) (key side text v : Value) → cell f n key side text ≡ value v → Answered f n key side text v
unfolding cell suited
answered f n key side text v e = go (suite_of n) refl e
  where
    go : (x : Option Suite) → suite_of n ≡ x → suited f x key side text ≡ value v → Answered f n key side text v
    go (Some s) es e =
        record {
          suite = s;
          known = es;
          past = (checked_value f s key side text v e).0;
          makes = (checked_value f s key side text v e).1;
        }
    go None es e = absurd (not_both 1 v e)

pub answers : (f : Call) (n : ℕ) (key side text v : Value) → Answered f n key side text v → cell f n key side text ≡ value v
answers f n key side text v a =
    cell_known f n a.suite key side text a.known ∙ passed f a.suite key side text a.past ∙ a.makes

-- a call with the same side and shape passes with a text as long
pub past_moves : (f g : Call) (s : Suite) (key side text v : Value) → side_of f ≡ side_of g → shape_of f ≡ shape_of g → length text ≡ length v
    → Past f s key side text → Past g s key side v
past_moves f g s key side text v es eh el p =
    record {
      key_fits = p.key_fits;
      iv_fits = subst (λ d. IvFits d (block_bytes s) (length side)) es p.iv_fits;
      text_some = subst (λ n. TextSome (shape_of g) n) el (subst (λ h. TextSome h (length text)) eh p.text_some);
      text_short = subst (λ n. TextShort (shape_of g) (block_bytes s) n) el (subst (λ h. TextShort h (block_bytes s) (length text)) eh p.text_short);
      text_whole = subst (λ n. TextWhole (shape_of g) (block_bytes s) n) el (subst (λ h. TextWhole h (block_bytes s) (length text)) eh p.text_whole);
      tag_fits = subst (λ d. TagFits d (block_bytes s) (length side)) es p.tag_fits;
    }

-- what f makes of a text, g makes back, so what f answers, g answers back
pub moves_back : (f g : Call) (n : ℕ) (key side text v : Value) → side_of f ≡ side_of g → shape_of f ≡ shape_of g
    → ((s : Suite) → suite_of n ≡ Some s → Past f s key side text → Makes f s key side text ≡ value v
    → (length text ≡ length v) × (Makes g s key side v ≡ value text))
    → cell f n key side text ≡ value v → cell g n key side v ≡ value text
moves_back f g n key side text v es eh back e = go (answered f n key side text v e)
  where
    go : Answered f n key side text v → cell g n key side v ≡ value text
    go a =
        answers g n key side v text
        (record {
          suite = a.suite;
          known = a.known;
          past = past_moves f g a.suite key side text v es eh (back a.suite a.known a.past a.makes).0 a.past;
          makes = (back a.suite a.known a.past a.makes).1;
        })

-- a mode h that undoes a mode m that keeps the length
kept : (m h : Value → Value) (text v : Value) → value (m text) ≡ value v → length (m text) ≡ length text → h (m text) ≡ text
    → (length text ≡ length v) × (value (h v) ≡ value text)
kept m h text v e el eh = (sym el ∙ ap length (value_inj (m text) v e), ap (λ x. value (h x)) (sym (value_inj (m text) v e)) ∙ ap value eh)

-- whole blocks, at least one
last_block : (B L : ℕ) → 0 < B → L % B ≡ 0 → 0 < L → L ≡ (L / B - 1) * B + B
last_block B L p w l = sym (sym (suc-mul (L / B - 1) B) ∙ ap (λ i. i * B) some ∙ whole)
  where
    whole : L / B * B ≡ L
    whole = omega (arith, div-add-mod' L B)

    some : suc (L / B - 1) ≡ L / B
    some = go (L / B) whole
      where
        go : (i : ℕ) → i * B ≡ L → suc (i - 1) ≡ i
        go zero e = let z : 0 * B ≡ 0 = zero-mul B in absurd (omega arith)
        go (suc i) e = omega arith

-- 13 is never given: code may leave the test out
pub ctr_makes : (n : ℕ) (s : Suite) (key side text : Value) → suite_of n ≡ Some s → length text ≤ 1024
    → Makes Call.ctr s key side text ≡ value (Stream.ctr (block_bytes s) (sealing s key) side text)
unfolding made pick
ctr_makes n s key side text k l =
    ap (λ t. pick t (refused 13) (value (Stream.ctr (block_bytes s) (sealing s key) side text)))
    (never_wraps (block_bytes s) (length text) (sealing s key side) (omega (arith, (sized n s k).least)) (omega (arith, (sized n s k).least)))

-- ---- one block

module _ (n : ℕ) (key side text v : Value) where
  pub unblk_blk : OfBytes text → cell Call.blk n key side text ≡ value v → cell Call.unblk n key side v ≡ value text
  unfolding side_of shape_of made
  unblk_blk b =
      moves_back Call.blk Call.unblk n key side text v refl refl (λ s k p e.
      kept (sealing s key) (opening s key) text v e (((cipher_of n s key k).sealed text).long ∙ sym p.text_whole)
      ((cipher_of n s key k).open_seal text (record { long = p.text_whole; fits = λ i _. b i })))

  pub blk_unblk : OfBytes text → cell Call.unblk n key side text ≡ value v → cell Call.blk n key side v ≡ value text
  unfolding side_of shape_of made
  blk_unblk b =
      moves_back Call.unblk Call.blk n key side text v refl refl (λ s k p e.
      kept (opening s key) (sealing s key) text v e (((cipher_of n s key k).opened text).long ∙ sym p.text_whole)
      ((cipher_of n s key k).seal_open text (record { long = p.text_whole; fits = λ i _. b i })))

-- ---- sections 7, 11 and 8

module _ (n : ℕ) (key iv text v : Value) where
  pub ctr_back : cell Call.ctr n key iv text ≡ value v → cell Call.ctr n key iv v ≡ value text
  unfolding shape_of
  ctr_back = moves_back Call.ctr Call.ctr n key iv text v refl refl (λ s k p e. again s k p.text_short (sym (ctr_makes n s key iv text k p.text_short) ∙ e))
    where
      again : (s : Suite) → suite_of n ≡ Some s → length text ≤ 1024 → value (Stream.ctr (block_bytes s) (sealing s key) iv text) ≡ value v
          → (length text ≡ length v) × (Makes Call.ctr s key iv v ≡ value text)
      again s k l e = (r.0, ctr_makes n s key iv v k (subst (λ m. m ≤ 1024) r.0 l) ∙ r.1)
        where
          m : Value → Value
          m = Stream.ctr (block_bytes s) (sealing s key) iv

          long : length (Stream.ctr (block_bytes s) (sealing s key) iv text) ≡ length text
          long = unfold Stream.ctr in length_gamma (block_bytes s) _ _ text

          r : (length text ≡ length v) × (value (Stream.ctr (block_bytes s) (sealing s key) iv v) ≡ value text)
          r = kept (Stream.ctr (block_bytes s) (sealing s key) iv) (Stream.ctr (block_bytes s) (sealing s key) iv) text v e long (ctr_ctr (block_bytes s) (sealing s key) iv text)

  pub ofb_back : cell Call.ofb n key iv text ≡ value v → cell Call.ofb n key iv v ≡ value text
  unfolding made Stream.ofb
  ofb_back =
      moves_back Call.ofb Call.ofb n key iv text v refl refl (λ s k p e.
      kept (Stream.ofb (block_bytes s) (sealing s key) iv) (Stream.ofb (block_bytes s) (sealing s key) iv) text v e (length_gamma (block_bytes s) _ _ text)
      (ofb_ofb (block_bytes s) (sealing s key) iv text))

  pub uncfb_back : cell Call.cfb n key iv text ≡ value v → cell Call.uncfb n key iv v ≡ value text
  unfolding side_of shape_of made
  uncfb_back =
      moves_back Call.cfb Call.uncfb n key iv text v refl refl (λ s k p e.
      kept (Stream.cfb (block_bytes s) (sealing s key) iv) (Stream.uncfb (block_bytes s) (sealing s key) iv) text v e
      (length_cfb (block_bytes s) (sealing s key) iv text) (uncfb_cfb (block_bytes s) (sealing s key) iv text))

  pub cfb_back : cell Call.uncfb n key iv text ≡ value v → cell Call.cfb n key iv v ≡ value text
  unfolding side_of shape_of made
  cfb_back =
      moves_back Call.uncfb Call.cfb n key iv text v refl refl (λ s k p e.
      kept (Stream.uncfb (block_bytes s) (sealing s key) iv) (Stream.cfb (block_bytes s) (sealing s key) iv) text v e
      (length_uncfb (block_bytes s) (sealing s key) iv text) (cfb_uncfb (block_bytes s) (sealing s key) iv text))

  -- ---- section 10

  pub uncbc_back : OfBytes iv → OfBytes text → cell Call.cbc n key iv text ≡ value v → cell Call.uncbc n key iv v ≡ value text
  unfolding side_of shape_of made
  uncbc_back bi bt =
      moves_back Call.cbc Call.uncbc n key iv text v refl refl (λ s k p e.
      kept (Chain.cbc (block_bytes s) (sealing s key) iv) (Chain.uncbc (block_bytes s) (opening s key) iv) text v e
      (length_cbc (block_bytes s) (sealing s key) iv text)
      (uncbc_cbc (block_bytes s) (sealing s key) (opening s key) (cipher_of n s key k) iv text (record { long = p.iv_fits; fits = λ i _. bi i }) bt p.text_whole))

  pub cbc_back : OfBytes iv → OfBytes text → cell Call.uncbc n key iv text ≡ value v → cell Call.cbc n key iv v ≡ value text
  unfolding side_of shape_of made
  cbc_back bi bt =
      moves_back Call.uncbc Call.cbc n key iv text v refl refl (λ s k p e.
      kept (Chain.uncbc (block_bytes s) (opening s key) iv) (Chain.cbc (block_bytes s) (sealing s key) iv) text v e
      (length_uncbc (block_bytes s) (opening s key) iv text)
      (cbc_uncbc (block_bytes s) (sealing s key) (opening s key) (cipher_of n s key k) iv text (record { long = p.iv_fits; fits = λ i _. bi i }) bt p.text_whole))

  -- ---- section 10 with the fill

  pub uncbp_back : OfBytes iv → OfBytes text → cell Call.cbp n key iv text ≡ value v → cell Call.uncbp n key iv v ≡ value text
  unfolding side_of shape_of made
  uncbp_back bi bt e = go (answered Call.cbp n key iv text v e)
    where
      go : Answered Call.cbp n key iv text v → cell Call.uncbp n key iv v ≡ value text
      go a =
          answers Call.uncbp n key iv v text
          (record {
            suite = s;
            known = a.known;
            past =
                record {
                  key_fits = a.past.key_fits;
                  iv_fits = a.past.iv_fits;
                  text_some = omega (arith, long, fill_more B text pos);
                  text_short = subst (λ m. m ≤ 1024) (sym (long ∙ length_fill B text pos)) a.past.text_short;
                  text_whole = ap (λ m. m % B) long ∙ fill_whole B text pos;
                  tag_fits = tt;
                };
            makes = ap (unfill B) opened ∙ unfill_fill B text pos a.past.text_some;
          })
        where
          s : Suite
          s = a.suite

          B : ℕ
          B = block_bytes s

          pos : 0 < B
          pos = (cipher_of n s key a.known).positive

          sealed : Chain.cbc B (sealing s key) iv (fill B text) ≡ v
          sealed = value_inj _ v a.makes

          long : length v ≡ length (fill B text)
          long = ap length (sym sealed) ∙ length_cbc B (sealing s key) iv (fill B text)

          opened : Chain.uncbc B (opening s key) iv v ≡ fill B text
          opened =
              ap (Chain.uncbc B (opening s key) iv) (sym sealed)
              ∙ uncbc_cbc B (sealing s key) (opening s key) (cipher_of n s key a.known) iv (fill B text) (record { long = a.past.iv_fits; fits = λ i _. bi i })
              (fill_bytes B text bt) (fill_whole B text pos)

-- what opening gave, past the checks: the fill of the text is what was chained, and the text is no shorter than a byte
pub record Unfilled (n : ℕ) (s : Suite) (key iv text v : Value) : Type 0 where
  pub some : 0 < length v
  pub less : length v < length text
  pub refill : fill (block_bytes s) v ≡ Chain.uncbc (block_bytes s) (opening s key) iv text
  pub long : length (fill (block_bytes s) v) ≡ length text

pub unfilled : (n : ℕ) (s : Suite) (key iv text v : Value) → suite_of n ≡ Some s → Past Call.uncbp s key iv text → Makes Call.uncbp s key iv text ≡ value v
    → Unfilled n s key iv text v
unfolding shape_of made
unfilled n s key iv text v k p e = record { some = unfill_some B q o v pos size e; less = omega (arith, fill_more B v pos, long); refill = refill; long = long }
  where
    B : ℕ
    B = block_bytes s

    o : Value
    o = Chain.uncbc B (opening s key) iv text

    pos : 0 < B
    pos = (cipher_of n s key k).positive

    q : ℕ
    q = length text / B - 1

    size : length o ≡ q * B + B
    size = length_uncbc B (opening s key) iv text ∙ last_block B (length text) pos p.text_whole p.text_some

    refill : fill B v ≡ o
    refill = fill_unfill B q o v pos size e

    long : length (fill B v) ≡ length text
    long = ap length refill ∙ length_uncbc B (opening s key) iv text

module _ (n : ℕ) (key iv text v : Value) where
  pub cbp_back : OfBytes iv → OfBytes text → cell Call.uncbp n key iv text ≡ value v → cell Call.cbp n key iv v ≡ value text
  unfolding side_of shape_of made
  cbp_back bi bt e = go (answered Call.uncbp n key iv text v e)
    where
      go : Answered Call.uncbp n key iv text v → cell Call.cbp n key iv v ≡ value text
      go a =
          answers Call.cbp n key iv v text
          (record {
            suite = s;
            known = a.known;
            past =
                record {
                  key_fits = a.past.key_fits;
                  iv_fits = a.past.iv_fits;
                  text_some = u.some;
                  text_short = subst (λ m. m ≤ 1024) (sym u.long ∙ length_fill B v cipher.positive) a.past.text_short;
                  text_whole = tt;
                  tag_fits = tt;
                };
            makes =
                ap (λ x. value (Chain.cbc B (sealing s key) iv x)) u.refill
                ∙ ap value (cbc_uncbc B (sealing s key) (opening s key) cipher iv text (record { long = a.past.iv_fits; fits = λ i _. bi i }) bt a.past.text_whole);
          })
        where
          s : Suite
          s = a.suite

          B : ℕ
          B = block_bytes s

          cipher : Cipher B (sealing s key) (opening s key)
          cipher = cipher_of n s key a.known

          u : Unfilled n s key iv text v
          u = unfilled n s key iv text v a.known a.past a.makes
