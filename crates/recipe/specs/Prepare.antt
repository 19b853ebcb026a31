-- Preparing (document 01, sections 5 to 7): 14; 21; reading (20, 22, 23, 6); 27; 25; 26; 9.
use Rattle.std.specs.Prelude.{Bool, true, false, List, ℕ, leb, length}
use Rattle.common.specs.Choice.{pick}
use Rattle.common.specs.Answer.{Answer, deliver}
use Rattle.common.specs.Answer.Answer.{value, refused}
use Rattle.tree.specs.Tree.{Tree}
use Rattle.tree.specs.Names.{Given, Binding}
use Rattle.tree.specs.Names.Given.{given, nothing}
use Rattle.tree.specs.Reading.{Read}
use Rattle.tree.specs.Reading.Read.{got, wrong}
use Rattle.meaning.specs.Real.{Cipher, real}
use Rattle.meaning.specs.Fold.{fold}
use Rattle.records.specs.Encode.{encode}
use Rattle.lists.specs.Entries.{Listed, preparing, list_of}
use Rattle.lists.specs.Entries.Listed.{listed, bad_list}
use Rattle.lists.specs.Given.{binding_of}
use Rattle.texts.specs.Reading.{read_text}
use Rattle.texts.specs.Unbound.{Place, unbound_in}
use Rattle.texts.specs.Unbound.Place.{at, nowhere}
use Rattle.recipe.specs.Outcome.{Outcome, in_room}

-- the image, or a number and a place
pub data Prepared : Type 0 where
  made : List ℕ → Prepared
  stopped : ℕ → ℕ → Prepared

unfoldable pub answer_of : Prepared → Answer
answer_of (made bytes) = value bytes
answer_of (stopped n p) = refused n

-- all other places are 0
unfoldable pub place_of : Prepared → ℕ
place_of (made bytes) = 0
place_of (stopped n p) = p

-- 26, folded image over 16,384 bytes
unfoldable pub sized : List ℕ → Prepared
sized bytes = pick (leb (length bytes) 16384) (made bytes) (stopped 26 0)

-- whether `#n` has a value
unfoldable pub is_given : Given → Bool
is_given (given v) = true
is_given nothing = false

unfoldable pub has : Binding → ℕ → Bool
has K n = is_given (K n)

module _ (cipher : Cipher) where
  -- 25, at the first unbound `#`
  unfoldable pub after_scan : Binding → Tree → Place → Prepared
  after_scan K t (at p) = stopped 25 p
  after_scan K t nowhere = sized (encode (fold (real cipher) K t))

  -- 27, bad list
  unfoldable pub after_list : List ℕ → Tree → Listed → Prepared
  after_list text t (listed es) = after_scan (binding_of es) t (unbound_in (has (binding_of es)) text)
  after_list text t bad_list = stopped 27 0

  -- 20, 22, 23 and 6, with their places
  unfoldable pub after_read : List ℕ → List ℕ → Read → Prepared
  after_read text list (got t) = after_list text t (list_of preparing list)
  after_read text list (wrong n p) = stopped n p

  -- 21, text over 4,096 bytes
  unfoldable pub prepared_of : List ℕ → List ℕ → Prepared
  prepared_of text list = pick (leb (length text) 4096) (after_read text list (read_text text)) (stopped 21 0)

  -- text, list, output room and work room to all that is given back
  unfoldable pub prepare_of : List ℕ → List ℕ → List ℕ → List ℕ → Outcome
  prepare_of text list out work = in_room out work (deliver (answer_of (prepared_of text list)) out) (place_of (prepared_of text list))
