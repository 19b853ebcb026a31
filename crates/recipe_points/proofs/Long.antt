-- Both sides of 16,384 bytes of an image (document 01, section 7), whatever the cipher calls mean.
use mathlib.Core.Path.{◌≡◌, refl}
use mathlib.Core.List.{List, [], ◌∷◌, ◌++◌}
use Prim.Native.Nat.{ℕ, zero, suc}
use Prim.Native.String.{String}
use lib.ListN.{length, replicate}
use Rattle.meaning.specs.Real.{Cipher}
use Rattle.records.specs.Record.{record_of}
use Rattle.texts.proofs.Examples.{text}
use Rattle.recipe.specs.Prepare.{Prepared, prepared_of}
use Rattle.recipe.specs.Prepare.Prepared.{made, stopped}
use Rattle.recipe.proofs.Computing.{prepares}

-- a text of 2^n calls cat(#0,@0), the last with another name
unfoldable pub big : ℕ → String → List ℕ
big zero last = text "cat(" ++ text last ++ text ",@0)"
big (suc n) last = text "cat(" ++ big n "#0" ++ text "," ++ big n last ++ text ")"

-- the list that gives `#0` and `#1` values of these lengths
unfoldable pub values : ℕ → ℕ → List ℕ
unfolding record_of
values a b = record_of 0x0200 (replicate a 0x41) ++ record_of 0x0201 (replicate b 0x41)

unfoldable pub length_of : Prepared → ℕ
length_of (made bytes) = length bytes
length_of (stopped n p) = 0

module _ (cipher : Cipher) where
  -- both sides of 16,384 bytes: fifteen times 1,010 bytes and once 966 or 967 of them
  pub image_bound :
      (length_of (prepared_of cipher (big 4 "#1") (values 1010 966)) ≡ 16384)
      × (prepared_of cipher (big 4 "#1") (values 1010 967) ≡ stopped 26 0)
  unfolding big values length_of text prepares
  image_bound = (refl, refl)

  -- a dropped side never counts for 26
  pub dropped_side :
      (prepared_of cipher (text "when('00'," ++ big 4 "#1" ++ text ",$0)") (values 1024 1024) ≡ made (0x01 ∷ 0x00 ∷ 0x02 ∷ 0x00 ∷ 0x00 ∷ []))
      × (prepared_of cipher (text "when('02'," ++ big 4 "#1" ++ text ",$0)") (values 1024 1024) ≡ stopped 26 0)
  unfolding big values text prepares
  dropped_side = (refl, refl)
