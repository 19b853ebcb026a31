-- Preparing and running at each number and place (document 01, sections 5 to 7 and 10), whatever the cipher calls mean.
use mathlib.Core.Path.{◌≡◌, refl}
use mathlib.Core.List.{List, [], ◌∷◌, ◌++◌}
use Prim.Native.Nat.{ℕ}
use lib.ListN.{length, replicate}
use Rattle.common.specs.Choice.{pick}
use Rattle.common.specs.Answer.{deliver, refusal}
use Rattle.common.specs.Answer.Answer.{value, refused}
use Rattle.meaning.specs.Real.{Cipher}
use Rattle.texts.specs.Reading.{read_text}
use Rattle.texts.proofs.Examples.{text}
use Rattle.recipe.specs.Prepare.{after_read, prepared_of}
use Rattle.recipe.specs.Prepare.Prepared.{made, stopped}
use Rattle.recipe.specs.Run.{ran_of}
use Rattle.recipe.proofs.Computing.{prepares, runs}

-- lists that give `#0` = 42; `@1` = 43; `$0` = 01
abbrev bound42 : List ℕ
bound42 = 0x01 ∷ 0x00 ∷ 0x00 ∷ 0x02 ∷ 0x42 ∷ []

abbrev run43 : List ℕ
run43 = 0x01 ∷ 0x00 ∷ 0x01 ∷ 0x04 ∷ 0x43 ∷ []

abbrev row01 : List ℕ
row01 = 0x01 ∷ 0x00 ∷ 0x00 ∷ 0x03 ∷ 0x01 ∷ []

module _ (cipher : Cipher) where
  -- 21 before reading, 20 before 27, 27 before 25
  pub order :
      (prepared_of cipher (replicate 4097 0x27) run43 ≡ stopped 21 0)
      × (prepared_of cipher (text "") run43 ≡ stopped 20 0)
      × (prepared_of cipher (text "cat(") run43 ≡ stopped 20 4)
      × (prepared_of cipher (text "#1") run43 ≡ stopped 27 0)
      × (prepared_of cipher (text "#1") bound42 ≡ stopped 25 0)
  unfolding text prepares
  order = (refl, refl, refl, refl, refl)

  -- 25 at the first unbound `#` of the text, dropped sides included
  pub unbound_places :
      (prepared_of cipher (text "cat('41',#1)") bound42 ≡ stopped 25 9)
      × (prepared_of cipher (text "cat(#0,cat(#2,#1))") bound42 ≡ stopped 25 11)
      × (prepared_of cipher (text "when('01','41',#3)") bound42 ≡ stopped 25 15)
      × (prepared_of cipher (text "ctr.1($0,#1,@0)") bound42 ≡ stopped 25 9)
  unfolding text prepares
  unbound_places = (refl, refl, refl, refl)

  -- what folds and what stays: a call that only an unchosen side holds; a condition that is another constant; nothing is joined
  pub prepared :
      (prepared_of cipher (text "when('00',head('02','41'),#0)") bound42 ≡ made (0x01 ∷ 0x00 ∷ 0x01 ∷ 0x00 ∷ 0x42 ∷ []))
      × (prepared_of cipher (text "when('02',#0,'')") bound42
      ≡ made (0x0E ∷ 0x00 ∷ 0x14 ∷ 0x00 ∷ 0x01 ∷ 0x00 ∷ 0x01 ∷ 0x00 ∷ 0x02 ∷ 0x01 ∷ 0x00 ∷ 0x01 ∷ 0x00 ∷ 0x42 ∷ 0x00 ∷ 0x00 ∷ 0x01 ∷ 0x00 ∷ []))
      × (prepared_of cipher (text "cat('41',cat('42',@0))") bound42
      ≡ made (0x13 ∷ 0x00 ∷ 0x10 ∷ 0x00 ∷ 0x01 ∷ 0x00 ∷ 0x01 ∷ 0x00 ∷ 0x41 ∷ 0x0A ∷ 0x00 ∷ 0x10 ∷ 0x00 ∷ 0x01 ∷ 0x00 ∷ 0x01 ∷ 0x00 ∷ 0x42 ∷ 0x01 ∷ 0x00 ∷ 0x03 ∷ 0x00 ∷ 0x00 ∷ []))
      × (prepared_of cipher (text "@0") bound42 ≡ made (0x01 ∷ 0x00 ∷ 0x03 ∷ 0x00 ∷ 0x00 ∷ []))
      × (prepared_of cipher (text "$0") bound42 ≡ made (0x01 ∷ 0x00 ∷ 0x02 ∷ 0x00 ∷ 0x00 ∷ []))
  unfolding text prepares
  prepared = (refl, refl, refl, refl, refl)

  -- running: 28 before 27, 27 before the meaning; the run's own values
  pub ran :
      (ran_of cipher [] bound42 ≡ refused 28)
      × (ran_of cipher (0x01 ∷ 0x00 ∷ 0x04 ∷ 0x00 ∷ 0x00 ∷ []) [] ≡ refused 28)
      × (ran_of cipher (0x01 ∷ 0x00 ∷ 0x02 ∷ 0x00 ∷ 0x00 ∷ []) bound42 ≡ refused 27)
      × (ran_of cipher (0x01 ∷ 0x00 ∷ 0x02 ∷ 0x00 ∷ 0x00 ∷ []) run43 ≡ refused 25)
      × (ran_of cipher (0x01 ∷ 0x00 ∷ 0x02 ∷ 0x00 ∷ 0x00 ∷ []) row01 ≡ value (0x01 ∷ []))
      × (ran_of cipher (0x0B ∷ 0x00 ∷ 0x10 ∷ 0x00 ∷ 0x02 ∷ 0x00 ∷ 0x01 ∷ 0x00 ∷ 0x41 ∷ 0x42 ∷ 0x01 ∷ 0x00 ∷ 0x03 ∷ 0x00 ∷ 0x01 ∷ []) run43 ≡ value (0x41 ∷ 0x42 ∷ 0x43 ∷ []))
      × (ran_of cipher (0x0F ∷ 0x00 ∷ 0x14 ∷ 0x00 ∷ 0x01 ∷ 0x00 ∷ 0x02 ∷ 0x00 ∷ 0x00 ∷ 0x01 ∷ 0x00 ∷ 0x03 ∷ 0x00 ∷ 0x01 ∷ 0x01 ∷ 0x00 ∷ 0x03 ∷ 0x00 ∷ 0x00 ∷ []) (row01 ++ run43) ≡ value (0x43 ∷ []))
  unfolding runs
  ran = (refl, refl, refl, refl, refl, refl, refl)

  -- an image need not be folded
  pub unfolded : ran_of cipher (0x0A ∷ 0x00 ∷ 0x10 ∷ 0x00 ∷ 0x01 ∷ 0x00 ∷ 0x01 ∷ 0x00 ∷ 0x41 ∷ 0x01 ∷ 0x00 ∷ 0x01 ∷ 0x00 ∷ 0x42 ∷ []) [] ≡ value (0x41 ∷ 0x42 ∷ [])
  unfolding runs
  unfolded = refl

  -- 9 where the output is shorter than the answer, which changes nothing; else the bytes, later bytes unchanged
  pub delivered :
      (deliver (value (0x41 ∷ 0x42 ∷ [])) (0x07 ∷ []) ≡ refusal 9 (0x07 ∷ []))
      × (deliver (value (0x41 ∷ 0x42 ∷ [])) (0x07 ∷ 0x08 ∷ 0x09 ∷ []) ≡ record { number = 0; count = 2; out = 0x41 ∷ 0x42 ∷ 0x09 ∷ [] })
      × (deliver (refused 10) (0x07 ∷ []) ≡ refusal 10 (0x07 ∷ []))
  unfolding deliver refusal pick
  delivered = (refl, refl, refl)

  -- 4,096 bytes are read
  pub text_bound : (s list : List ℕ) → length s ≡ 4096 → prepared_of cipher s list ≡ after_read cipher s list (read_text s)
  unfolding prepared_of pick
  text_bound s list e = rw e
