-- Running answers 0 exactly where the meaning is a value and the rooms are large enough.
use mathlib.Core.Path.{◌≡◌, refl}
use mathlib.Core.Bool.{Bool, true, false}
use mathlib.Core.List.{List, ◌++◌}
use Prim.Native.Nat.{ℕ, ◌≤◌}
use native.Mathlib.Omega.{arith}
use lib.Dec.{leb, ltb}
use lib.ListN.{length, drop}
use borrow.Author.Tests.{leb-true, ltb-false}
use Rattle.common.specs.Choice.{pick}
use Rattle.common.specs.Answer.{Value, Answer, refusal, deliver}
use Rattle.common.specs.Answer.Answer.{value, refused}
use Rattle.tree.specs.Tree.{Tree}
use Rattle.tree.specs.Names.{unbound}
use Rattle.meaning.specs.Real.{Cipher, real}
use Rattle.meaning.specs.Numbers.{Numbered, CipherNumbered}
use Rattle.meaning.proofs.Refusals.{mean_numbered, real_numbered, refused_numbered}
use Rattle.records.specs.Decode.{Image, image_of}
use Rattle.records.specs.Decode.Image.{image, no_image}
use Rattle.lists.specs.Entries.{Listed, running, list_of}
use Rattle.lists.specs.Entries.Listed.{listed, bad_list}
use Rattle.lists.specs.Given.{running_of}
use Rattle.recipe.specs.Outcome.{cleared, outcome, in_room}
use Rattle.recipe.specs.Run.{meant_with, after_image, ran_of, run_of}

module _ (cipher : Cipher) (h : CipherNumbered cipher) where
  meant_numbered : (t : Tree) (l : Listed) → Numbered (meant_with cipher t l)
  unfolding meant_with
  meant_numbered t (listed es) = mean_numbered (real cipher) unbound (running_of es) (real_numbered cipher h) t
  meant_numbered t bad_list = refused_numbered 27 (λ q. omega arith)

  image_numbered : (list : List ℕ) (i : Image) → Numbered (after_image cipher list i)
  unfolding after_image
  image_numbered list (image t) = meant_numbered t (list_of running list)
  image_numbered list no_image = refused_numbered 28 (λ q. omega arith)

  -- a refusal of a run is never 0
  pub ran_numbered : (bytes list : List ℕ) → Numbered (ran_of cipher bytes list)
  unfolding ran_of
  ran_numbered bytes list = image_numbered list (image_of bytes)

  -- what 0 says
  pub record Answered (bytes list out work : List ℕ) : Type 0 where
    pub answer : Value
    pub means : ran_of cipher bytes list ≡ value answer
    pub fits : length answer ≤ length out
    pub room : 65536 ≤ length work

  record Zero (r : Answer) (out : List ℕ) : Type 0 where
    answer : Value
    means : r ≡ value answer
    fits : length answer ≤ length out

  zero_delivered : (r : Answer) (out : List ℕ) → Numbered r → (deliver r out).number ≡ 0 → Zero r out
  unfolding deliver refusal pick
  zero_delivered (value v) out n e = go (leb (length v) (length out)) refl e
    where
      go : (t : Bool) → leb (length v) (length out) ≡ t → (pick t (record { number = 0; count = length v; out = v ++ drop (length v) out }) (refusal 9 out)).number ≡ 0 → Zero (value v) out
      go true q e = record { answer = v; means = refl; fits = leb-true (length v) (length out) q }
      go false q e = absurd (omega arith)
  zero_delivered (refused m) out n e = absurd (n m refl e)

  pub zero_answered : (bytes list out work : List ℕ) → (run_of cipher bytes list out work).number ≡ 0 → Answered bytes list out work
  unfolding run_of in_room outcome refusal pick
  zero_answered bytes list out work e = go (ltb (length work) 65536) refl e
    where
      go : (t : Bool) → ltb (length work) 65536 ≡ t → (pick t (outcome (refusal 14 out) 0 work) (outcome (deliver (ran_of cipher bytes list) out) 0 (cleared work))).number ≡ 0 → Answered bytes list out work
      go true q e = absurd (omega arith)
      go false q e =
          let z = zero_delivered (ran_of cipher bytes list) out (ran_numbered bytes list) e in
          record { answer = z.answer; means = z.means; fits = z.fits; room = ltb-false (length work) 65536 q }
