-- Running (document 01, sections 5 to 7): 14; 28; 27; the meaning; 9.
use Rattle.std.specs.Prelude.{List, ℕ}
use Rattle.common.specs.Answer.{Answer, deliver}
use Rattle.common.specs.Answer.Answer.{refused}
use Rattle.tree.specs.Tree.{Tree}
use Rattle.tree.specs.Names.{unbound}
use Rattle.meaning.specs.Mean.{mean}
use Rattle.meaning.specs.Real.{Cipher, real}
use Rattle.records.specs.Decode.{Image, image_of}
use Rattle.records.specs.Decode.Image.{image, no_image}
use Rattle.lists.specs.Entries.{Listed, running, list_of}
use Rattle.lists.specs.Entries.Listed.{listed, bad_list}
use Rattle.lists.specs.Given.{running_of}
use Rattle.recipe.specs.Outcome.{Outcome, in_room}

module _ (cipher : Cipher) where
  -- 27, bad list
  unfoldable pub meant_with : Tree → Listed → Answer
  meant_with t (listed es) = mean (real cipher) unbound (running_of es) t
  meant_with t bad_list = refused 27

  -- 28, bytes are no image
  unfoldable pub after_image : List ℕ → Image → Answer
  after_image list (image t) = meant_with t (list_of running list)
  after_image list no_image = refused 28

  unfoldable pub ran_of : List ℕ → List ℕ → Answer
  ran_of bytes list = after_image list (image_of bytes)

  -- image, list, output room and work room to all that is given back
  unfoldable pub run_of : List ℕ → List ℕ → List ℕ → List ℕ → Outcome
  run_of bytes list out work = in_room out work (deliver (ran_of bytes list) out) 0
