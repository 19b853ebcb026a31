-- Every value that a call answers has at most 1,024 bytes, each below 256.
use mathlib.Core.Path.{◌≡◌, refl, sym, ◌∙◌, subst}
use mathlib.Core.List.{List, [], ◌∷◌}
use Prim.Native.Nat.{ℕ, zero, suc, ◌/◌, ◌%◌, ◌<◌, ◌≤◌}
use native.Mathlib.Nat.{div-add-mod'}
use native.Mathlib.Omega.{arith}
use lib.ListN.{get_or, length}
use Rattle.std.proofs.Common.{Some}
use Rattle.common.specs.Answer.{Value}
use Rattle.common.specs.Answer.Answer.{value}
use Rattle.field.proofs.XorLaws as X
use Rattle.kalyna.specs.State.{Bytes}
use Rattle.suites.specs.Suites.{suite_of, block_bytes}
use Rattle.suites.specs.declared.Suite.{Suite}
use Rattle.modes.specs.Blocks.{block_at}
use Rattle.modes.specs.Stream as Stream
use Rattle.modes.specs.Chain as Chain
use Rattle.modes.specs.Fill.{fill}
use Rattle.modes.specs.Cell.{Call, side_of, shape_of, made, sealing, opening, cell}
use Rattle.modes.proofs.Blocks.{OfBytes, Cipher, of_bytes, before_bytes}
use Rattle.modes.proofs.Stream.{length_gamma, gamma_bytes}
use Rattle.modes.proofs.Chain.{length_cbc, cbc_bytes, length_uncbc, get_d_uncbc}
use Rattle.modes.proofs.Fill.{value_inj, length_fill, fill_front}
use Rattle.modes.proofs.Mac.{mac_bytes, chk_either}
use Rattle.modes.proofs.Suites.{sized, cipher_of}
use Rattle.modes.proofs.Checks.{Past}
use Rattle.modes.proofs.Cell.{Makes, Answered, answered, ctr_makes, unfilled}

-- section 5: a value is 0 to 1,024 bytes
pub record Good (v : Value) : Type 0 where
  pub small : length v ≤ 1024
  pub bytes : OfBytes v

-- bytes at the places of a list are bytes everywhere
pub by_places : (v : Value) → ((i : ℕ) → i < length v → get_or v i 0 < 256) → OfBytes v
by_places v h = of_bytes (length v) v (record { long = refl; fits = h })

good_block : (B : ℕ) (v : Value) → B ≤ 64 → Bytes B v → Good v
good_block B v l b = record { small = omega (arith, b.long); bytes = of_bytes B v b }

good_as : (x v : Value) → value x ≡ value v → Good x → Good v
good_as x v e g = subst Good (value_inj x v e) g

module _ (B : ℕ) (gamma : ℕ → List ℕ) (place : ℕ → ℕ) (text : Value) where
  good_gamma : length text ≤ 1024 → OfBytes text → ((i : ℕ) → OfBytes (gamma i)) → Good (Stream.add_gamma B gamma place text)
  good_gamma l b g =
      record {
        small = subst (λ m. m ≤ 1024) (sym (length_gamma B gamma place text)) l;
        bytes = by_places (Stream.add_gamma B gamma place text) (λ i h. gamma_bytes B gamma place text b g i (subst (λ m. i < m) (length_gamma B gamma place text) h));
      }

module _ (B : ℕ) (E D : List ℕ → List ℕ) (cipher : Cipher B E D) (iv text : Value) where
  out : (b : List ℕ) → OfBytes (E b)
  out b = of_bytes B (E b) (cipher.sealed b)

  ofb_gamma_lem : (i : ℕ) → OfBytes (Stream.ofb_gamma E iv i)
  unfolding Stream.ofb_gamma
  ofb_gamma_lem zero = out iv
  ofb_gamma_lem (suc i) = out _

  cfb_gamma_lem : (i : ℕ) → OfBytes (Stream.cfb_gamma B E iv text i)
  unfolding Stream.cfb_gamma
  cfb_gamma_lem zero = out iv
  cfb_gamma_lem (suc i) = out _

  good_cbc : length text ≤ 1024 → Good (Chain.cbc B E iv text)
  good_cbc l =
      record {
        small = subst (λ m. m ≤ 1024) (sym (length_cbc B E iv text)) l;
        bytes = by_places (Chain.cbc B E iv text) (λ i h. cbc_bytes B E iv text cipher.sealed cipher.positive i (subst (λ m. i < m) (length_cbc B E iv text) h));
      }

  pub good_uncbc : length text ≤ 1024 → Bytes B iv → OfBytes text → Good (Chain.uncbc B D iv text)
  good_uncbc l bi bt =
      record {
        small = subst (λ m. m ≤ 1024) (sym (length_uncbc B D iv text)) l;
        bytes = by_places (Chain.uncbc B D iv text) (λ i h. at i (subst (λ m. i < m) (length_uncbc B D iv text) h));
      }
    where
      at : (i : ℕ) → i < length text → get_or (Chain.uncbc B D iv text) i 0 < 256
      at i h =
          subst (λ x. x < 256) (sym (get_d_uncbc B D iv text i h))
          (X.bound 8 _ _ (of_bytes B _ (before_bytes B (i / B) iv text bi bt (omega (arith, div-add-mod' i B))) (i % B))
          (of_bytes B _ (cipher.opened (block_at B text (i / B))) (i % B)))

-- what is under a fill
front_bytes : (B : ℕ) (v : Value) → OfBytes (fill B v) → OfBytes v
front_bytes B v b = by_places v (λ i h. subst (λ x. x < 256) (fill_front B v i h) (b i))

module _ (n : ℕ) (s : Suite) (key side text v : Value) (k : suite_of n ≡ Some s) (bs : OfBytes side) (bt : OfBytes text) where
  abbrev B : ℕ
  B = block_bytes s

  cipher : Cipher B (sealing s key) (opening s key)
  cipher = cipher_of n s key k

  small : B ≤ 64
  small = (sized n s k).most

  side_bytes : length side ≡ B → Bytes B side
  side_bytes e = record { long = e; fits = λ i _. bs i }

  made_good : (f : Call) → Past f s key side text → Makes f s key side text ≡ value v → Good v
  unfolding side_of shape_of made
  made_good Call.blk p e = good_as _ v e (good_block B _ small (cipher.sealed text))
  made_good Call.unblk p e = good_as _ v e (good_block B _ small (cipher.opened text))
  made_good Call.ctr p e =
      good_as _ v (sym (ctr_makes n s key side text k p.text_short) ∙ e)
      (unfold Stream.ctr Stream.ctr_gamma in good_gamma B _ _ text p.text_short bt (λ i. of_bytes B _ (cipher.sealed _)))
  made_good Call.ofb p e =
      good_as _ v e (unfold Stream.ofb in good_gamma B _ _ text p.text_short bt (ofb_gamma_lem B (sealing s key) (opening s key) cipher side text))
  made_good Call.cfb p e =
      good_as _ v e (unfold Stream.cfb in good_gamma B _ _ text p.text_short bt (cfb_gamma_lem B (sealing s key) (opening s key) cipher side text))
  made_good Call.uncfb p e =
      good_as _ v e (unfold Stream.uncfb Stream.uncfb_gamma in good_gamma B _ _ text p.text_short bt (λ i. of_bytes B _ (cipher.sealed _)))
  made_good Call.cbc p e = good_as _ v e (good_cbc B (sealing s key) (opening s key) cipher side text p.text_short)
  made_good Call.uncbc p e =
      good_as _ v e (good_uncbc B (sealing s key) (opening s key) cipher side text p.text_short (side_bytes p.iv_fits) bt)
  made_good Call.cbp p e =
      good_as _ v e
      (good_cbc B (sealing s key) (opening s key) cipher side (fill B text) (subst (λ m. m ≤ 1024) (sym (length_fill B text cipher.positive)) p.text_short))
  made_good Call.uncbp p e =
      record {
        small = omega (arith, p.text_short, (unfilled n s key side text v k p e).less);
        bytes =
            front_bytes B v (subst OfBytes (sym (unfilled n s key side text v k p e).refill)
            (good_uncbc B (sealing s key) (opening s key) cipher side text p.text_short (side_bytes p.iv_fits) bt).bytes);
      }
  made_good Call.mac p e = good_as _ v e (good_block B _ small (mac_bytes B (sealing s key) text cipher.sealed))
  made_good Call.chk p e = good_as _ v e (chk_either B (sealing s key) side text Good (one_byte 1 (omega arith)) (one_byte 0 (omega arith)))
    where
      one_byte : (x : ℕ) → x < 256 → Good (x ∷ [])
      one_byte x l = record { small = omega arith; bytes = by_places (x ∷ []) at }
        where
          at : (i : ℕ) → i < 1 → get_or (x ∷ []) i 0 < 256
          at zero h = l
          at (suc i) h = absurd (omega arith)

-- what a call answers of bytes is a value
pub cell_good : (f : Call) (n : ℕ) (key side text v : Value) → OfBytes side → OfBytes text → cell f n key side text ≡ value v → Good v
cell_good f n key side text v bs bt e = go (answered f n key side text v e)
  where
    go : Answered f n key side text v → Good v
    go a = made_good n a.suite key side text v a.known bs bt f a.past a.makes
