-- The points P1 to P11 (document 01, section 8) in one table, about the definitions, whatever the cipher calls mean.
use Rattle.std.specs.Prelude.{◌≡◌, List, [], ◌∷◌, ℕ}
use Rattle.common.specs.Answer.Answer.{refused}
use Rattle.substitutions.specs.Tables.{sub, unsub}
use Rattle.kalyna.specs.State.{columns_of, bytes_of}
use Rattle.kalyna.specs.Round.{substitute, mix}
use Rattle.kalyna.specs.Block.{moves}
use Rattle.kalyna.specs.Keys.{start_number, odd_key}
use Rattle.meaning.specs.Real.{Cipher}
use Rattle.lists.specs.Entries.{Entry, running, list_of}
use Rattle.lists.specs.Entries.Listed.{listed}
use Rattle.texts.proofs.Examples.{text}
use Rattle.recipe.specs.Prepare.{prepared_of}
use Rattle.recipe.specs.Prepare.Prepared.{made}
use Rattle.recipe.specs.Run.{ran_of}

-- one column, from its bytes
abbrev column : List ℕ → List ℕ
column = columns_of 1

-- the list that gives `#0` = 42
abbrev with42 : List ℕ
with42 = 0x01 ∷ 0x00 ∷ 0x00 ∷ 0x02 ∷ 0x42 ∷ []

-- the image of P10
abbrev unequal : List ℕ
unequal = 0x0B ∷ 0x00 ∷ 0x11 ∷ 0x00 ∷ 0x01 ∷ 0x00 ∷ 0x01 ∷ 0x00 ∷ 0x41 ∷ 0x02 ∷ 0x00 ∷ 0x01 ∷ 0x00 ∷ 0x41 ∷ 0x42 ∷ []

pub record Points (cipher : Cipher) : Type 0 where
  pub P1 : sub 0 0x23 ≡ 0x4F
  pub P2 : unsub 0 0xA3 ≡ 0x22
  pub P3 :
      bytes_of 1 (substitute 1 (column (0x05 ∷ 0x01 ∷ 0x02 ∷ 0x03 ∷ 0x04 ∷ 0x05 ∷ 0x06 ∷ 0x07 ∷ [])))
      ≡ 0x75 ∷ 0xBB ∷ 0x9A ∷ 0x4D ∷ 0x6B ∷ 0xCB ∷ 0x45 ∷ 0x2A ∷ []
  pub P4 :
      bytes_of 1 (mix 1 (column (0x75 ∷ 0xBB ∷ 0x9A ∷ 0x4D ∷ 0x17 ∷ 0x90 ∷ 0x51 ∷ 0x1F ∷ [])))
      ≡ 0x62 ∷ 0xC9 ∷ 0x7C ∷ 0x6E ∷ 0x6A ∷ 0xBF ∷ 0x41 ∷ 0x33 ∷ []
  pub P5 :
      start_number 128 128 ∷ start_number 128 256 ∷ start_number 256 256 ∷ start_number 256 512 ∷ start_number 512 512 ∷ [] ≡ 5 ∷ 7 ∷ 9 ∷ 13 ∷ 17 ∷ []
  pub P6 : moves 4 5 ≡ 2
  pub P7 :
      bytes_of 2 (odd_key 2 (columns_of 2 (0x16 ∷ 0x50 ∷ 0x5E ∷ 0x6B ∷ 0x9B ∷ 0x3A ∷ 0xB1 ∷ 0xE6 ∷ 0x86 ∷ 0x5B ∷ 0x77 ∷ 0xDC ∷ 0xE0 ∷ 0x82 ∷ 0xA0 ∷ 0xF4 ∷ [])))
      ≡ 0xE6 ∷ 0x86 ∷ 0x5B ∷ 0x77 ∷ 0xDC ∷ 0xE0 ∷ 0x82 ∷ 0xA0 ∷ 0xF4 ∷ 0x16 ∷ 0x50 ∷ 0x5E ∷ 0x6B ∷ 0x9B ∷ 0x3A ∷ 0xB1 ∷ []
  pub P8 : prepared_of cipher (text "cat('41',#0)") with42 ≡ made (0x02 ∷ 0x00 ∷ 0x01 ∷ 0x00 ∷ 0x41 ∷ 0x42 ∷ [])
  pub P9 :
      prepared_of cipher (text "cat(cat('41',#0),@1)") with42
      ≡ made (0x0B ∷ 0x00 ∷ 0x10 ∷ 0x00 ∷ 0x02 ∷ 0x00 ∷ 0x01 ∷ 0x00 ∷ 0x41 ∷ 0x42 ∷ 0x01 ∷ 0x00 ∷ 0x03 ∷ 0x00 ∷ 0x01 ∷ [])
  pub P10 : prepared_of cipher (text "xor('41','4142')") with42 ≡ made unequal
  pub P10-means : (list : List ℕ) (es : List Entry) → list_of running list ≡ listed es → ran_of cipher unequal list ≡ refused 10
  pub P11 : prepared_of cipher (text "when('01',$0,xor('41','4142'))") with42 ≡ made (0x01 ∷ 0x00 ∷ 0x02 ∷ 0x00 ∷ 0x00 ∷ [])
