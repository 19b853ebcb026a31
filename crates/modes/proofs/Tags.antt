-- What `chk` says, and the two readings of the counter, on what the calls answer.
use mathlib.Core.Logic.{◌↔◌}
use mathlib.Core.Path.{◌≡◌, sym, ap, ◌∙◌, subst}
use mathlib.Core.List.{[], ◌∷◌}
use Prim.Native.Nat.{ℕ, ◌+◌, ◌*◌, ◌/◌, ◌^◌, ◌<◌, ◌≤◌}
use native.Mathlib.Omega.{arith}
use lib.ListN.{take, length}
use Rattle.std.proofs.Common.{Some}
use Rattle.common.specs.Answer.{Value}
use Rattle.common.specs.Answer.Answer.{value, refused}
use Rattle.kalyna.specs.State.{Bytes}
use Rattle.suites.specs.Suites.{suite_of, block_bytes}
use Rattle.suites.specs.declared.Suite.{Suite}
use Rattle.modes.specs.Mac as Mac
use Rattle.modes.specs.Stream as Stream
use Rattle.modes.specs.Cell.{Call, side_of, shape_of, made, sealing, opening, cell}
use Rattle.modes.proofs.Fill.{value_inj}
use Rattle.modes.proofs.Mac.{mac_bytes, chk_right, chk_wrong, chk_one, chk_zero}
use Rattle.modes.proofs.Counters.{low_half, half_ctr, readings_agree}
use Rattle.modes.proofs.Suites.{Sized, sized, cipher_of}
use Rattle.modes.proofs.Checks.{Past}
use Rattle.modes.proofs.Cell.{Answered, answered, answers, ctr_makes}
use Rattle.modes.proofs.Numbers.{number_7}

-- h is the right tag of the text: all B bytes of it
module _ (n : ℕ) (key tag side text h : Value) (right : cell Call.mac n key side text ≡ value h) where
  a : Answered Call.mac n key side text h
  a = answered Call.mac n key side text h right

  abbrev s : Suite
  s = a.suite

  tag_is : Mac.mac (block_bytes s) (sealing s key) text ≡ h
  unfolding made
  tag_is = value_inj _ h a.makes

  tag_long : length h ≡ block_bytes s
  tag_long = ap length (sym tag_is) ∙ (mac_bytes (block_bytes s) (sealing s key) text (cipher_of n s key a.known).sealed).long

  past : (8 ≤ length tag) × (length tag ≤ length h) → Past Call.chk s key tag text
  unfolding side_of shape_of
  past r =
      record {
        key_fits = a.past.key_fits;
        iv_fits = tt;
        text_some = a.past.text_some;
        text_short = a.past.text_short;
        text_whole = tt;
        tag_fits = (r.0, subst (λ m. length tag ≤ m) tag_long r.1);
      }

  says : (v : Value) → (8 ≤ length tag) × (length tag ≤ length h) → Mac.chk (block_bytes s) (sealing s key) tag text ≡ v → cell Call.chk n key tag text ≡ value v
  unfolding made
  says v r e = answers Call.chk n key tag text v (record { suite = s; known = a.known; past = past r; makes = ap value e })

  -- what a `chk` that answers has passed and made
  record Checked (v : Value) : Type 0 where
    least : 8 ≤ length tag
    most : length tag ≤ length h
    makes : Mac.chk (block_bytes s) (sealing s key) tag text ≡ v

  known_inj : (x y : Suite) → Some x ≡ Some y → x ≡ y
  known_inj x y e = cc

  said : (v : Value) → cell Call.chk n key tag text ≡ value v → Checked v
  unfolding side_of made
  said v e = go (answered Call.chk n key tag text v e)
    where
      go : Answered Call.chk n key tag text v → Checked v
      go b =
          record {
            least = fits.0;
            most = subst (λ m. length tag ≤ m) (sym tag_long) fits.1;
            makes = value_inj _ v (subst (λ x. value (Mac.chk (block_bytes x) (sealing x key) tag text) ≡ value v) same b.makes);
          }
        where
          same : b.suite ≡ s
          same = known_inj b.suite s (sym b.known ∙ a.known)

          fits : (8 ≤ length tag) × (length tag ≤ block_bytes s)
          fits = subst (λ x. (8 ≤ length tag) × (length tag ≤ block_bytes x)) same b.past.tag_fits

  -- the right tag has B bytes
  pub mac_long : (x : Suite) → suite_of n ≡ Some x → length h ≡ block_bytes x
  mac_long x k = tag_long ∙ ap block_bytes (known_inj s x (sym a.known ∙ k))

  -- 01 exactly for 8 to B leading bytes of the right tag
  pub chk_yes : (cell Call.chk n key tag text ≡ value (1 ∷ [])) ↔ ((8 ≤ length tag) × (length tag ≤ length h) × (tag ≡ take (length tag) h))
  chk_yes = (
    λ e. ((said _ e).least, (said _ e).most, chk_one (block_bytes s) (sealing s key) tag text (said _ e).makes ∙ ap (take (length tag)) tag_is),
    λ r. says (1 ∷ []) (r.0, r.1) (chk_right (block_bytes s) (sealing s key) tag text (r.2 ∙ ap (take (length tag)) (sym tag_is))),
  )

  -- 00 for every other tag of 8 to B bytes
  pub chk_no : (cell Call.chk n key tag text ≡ value (0 ∷ [])) ↔ ((8 ≤ length tag) × (length tag ≤ length h) × (tag ≡ take (length tag) h → ⊥))
  chk_no = (
    λ e. ((said _ e).least, (said _ e).most, λ q. chk_zero (block_bytes s) (sealing s key) tag text (said _ e).makes (q ∙ ap (take (length tag)) (sym tag_is))),
    λ r. says (0 ∷ []) (r.0, r.1) (chk_wrong (block_bytes s) (sealing s key) tag text (λ q. r.2 (q ∙ ap (take (length tag)) tag_is))),
  )

  -- 7 for all else
  pub chk_bad : (cell Call.chk n key tag text ≡ refused 7) ↔ ((8 ≤ length tag) × (length tag ≤ length h) → ⊥)
  unfolding side_of shape_of
  chk_bad = (
    λ e r. ((number_7 Call.chk n s key tag text a.known).0 e).5 (r.0, subst (λ m. length tag ≤ m) tag_long r.1),
    λ no. (number_7 Call.chk n s key tag text a.known).1 (a.past.key_fits, tt, a.past.text_some, a.past.text_short, tt, λ r. no (r.0, subst (λ m. length tag ≤ m) (sym tag_long) r.1)),
  )

-- ---- the counter: document 003 lets only the low half of the block count; the cell is the same unless that half is within 64 of its top
pub ctr_agrees : (n : ℕ) (s : Suite) (key iv text v : Value) → suite_of n ≡ Some s → cell Call.ctr n key iv text ≡ value v
    → low_half (block_bytes s / 2) (sealing s key iv) + 64 < 256 ^ (block_bytes s / 2) → half_ctr (block_bytes s / 2) (sealing s key) iv text ≡ v
unfolding shape_of
ctr_agrees n s key iv text v k e l = go (answered Call.ctr n key iv text v e)
  where
    z : Sized n s
    z = sized n s k

    known_same : (x y : Suite) → Some x ≡ Some y → x ≡ y
    known_same x y q = cc

    go : Answered Call.ctr n key iv text v → half_ctr (block_bytes s / 2) (sealing s key) iv text ≡ v
    go b =
        readings_agree (block_bytes s / 2) (sealing s key) iv text (omega (arith, z.least))
        (subst (λ B. Bytes B (sealing s key iv)) z.even ((cipher_of n s key k).sealed iv)) few l
        ∙ ap (λ B. Stream.ctr B (sealing s key) iv text) (sym z.even)
        ∙ value_inj _ v (sym (ctr_makes n s key iv text k short) ∙ makes)
      where
        same : b.suite ≡ s
        same = known_same b.suite s (sym b.known ∙ k)

        short : length text ≤ 1024
        short = b.past.text_short

        few : length text ≤ 64 * (block_bytes s / 2 + block_bytes s / 2)
        few = omega (arith, z.least, z.even)

        makes : made Call.ctr (block_bytes s) (sealing s key) (opening s key) iv text ≡ value v
        makes = subst (λ x. made Call.ctr (block_bytes x) (sealing x key) (opening x key) iv text ≡ value v) same b.makes
