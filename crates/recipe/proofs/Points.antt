-- The points P8 to P11 (document 01, section 8), whatever the cipher calls mean.
use mathlib.Core.Path.{◌≡◌, refl, ap}
use mathlib.Core.List.{List, [], ◌∷◌}
use Prim.Native.Nat.{ℕ}
use Rattle.common.specs.Choice.{pick}
use Rattle.common.specs.Answer.{then}
use Rattle.common.specs.Answer.Answer.{refused}
use Rattle.tree.specs.Tree.{Tree}
use Rattle.tree.specs.Tree.Tree.{literal, two}
use Rattle.tree.specs.Names.{Binding, Running}
use Rattle.meaning.specs.Mean.{mean}
use Rattle.meaning.specs.Real.{Cipher, xor, real_two, real}
use Rattle.lists.specs.Entries.{Entry, running, list_of}
use Rattle.lists.specs.Entries.Listed.{listed}
use Rattle.texts.proofs.Examples.{text}
use Rattle.recipe.specs.Prepare.{prepared_of}
use Rattle.recipe.specs.Prepare.Prepared.{made}
use Rattle.recipe.specs.Run.{meant_with, ran_of}
use Rattle.recipe.proofs.Computing.{prepares, runs}

-- the list that gives `#0` = 42
abbrev with42 : List ℕ
with42 = 0x01 ∷ 0x00 ∷ 0x00 ∷ 0x02 ∷ 0x42 ∷ []

-- the image of P10
abbrev refusing : List ℕ
refusing = 0x0B ∷ 0x00 ∷ 0x11 ∷ 0x00 ∷ 0x01 ∷ 0x00 ∷ 0x01 ∷ 0x00 ∷ 0x41 ∷ 0x02 ∷ 0x00 ∷ 0x01 ∷ 0x00 ∷ 0x41 ∷ 0x42 ∷ []

abbrev refusing_tree : Tree
refusing_tree = two 0x0011 (literal (0x41 ∷ [])) (literal (0x41 ∷ 0x42 ∷ []))

module _ (cipher : Cipher) where
  pub p8 : prepared_of cipher (text "cat('41',#0)") with42 ≡ made (0x02 ∷ 0x00 ∷ 0x01 ∷ 0x00 ∷ 0x41 ∷ 0x42 ∷ [])
  unfolding text prepares
  p8 = refl

  pub p9 : prepared_of cipher (text "cat(cat('41',#0),@1)") with42 ≡ made (0x0B ∷ 0x00 ∷ 0x10 ∷ 0x00 ∷ 0x02 ∷ 0x00 ∷ 0x01 ∷ 0x00 ∷ 0x41 ∷ 0x42 ∷ 0x01 ∷ 0x00 ∷ 0x03 ∷ 0x00 ∷ 0x01 ∷ [])
  unfolding text prepares
  p9 = refl

  pub p10 : prepared_of cipher (text "xor('41','4142')") with42 ≡ made refusing
  unfolding text prepares
  p10 = refl

  -- it means 10 whatever the names are given
  pub p10_means : (K : Binding) (E : Running) → mean (real cipher) K E refusing_tree ≡ refused 10
  unfolding mean then real real_two xor pick
  p10_means K E = refl

  -- and running it answers 10 with every good list
  pub p10_runs : (list : List ℕ) (es : List Entry) → list_of running list ≡ listed es → ran_of cipher refusing list ≡ refused 10
  unfolding runs
  p10_runs list es e = ap (meant_with cipher refusing_tree) e

  pub p11 : prepared_of cipher (text "when('01',$0,xor('41','4142'))") with42 ≡ made (0x01 ∷ 0x00 ∷ 0x02 ∷ 0x00 ∷ 0x00 ∷ [])
  unfolding text prepares
  p11 = refl
