-- Each way out of preparing and of running, in the order of document 01, section 7.
use mathlib.Core.Path.{◌≡◌, ap, ◌∙◌}
use mathlib.Core.List.{List, ◌++◌}
use Prim.Native.Nat.{ℕ, ◌≤◌, ◌<◌}
use lib.ListN.{length, drop}
use borrow.Author.Tests.{le-leb, lt-leb, le-ltb}
use Rattle.common.specs.Answer.{Value, Answer, Delivered, refusal, deliver}
use Rattle.common.specs.Answer.Answer.{value, refused}
use Rattle.common.proofs.Choices.{pick_true, pick_false}
use Rattle.common.proofs.Delivering.{deliver_short}
use Rattle.tree.specs.Tree.{Tree}
use Rattle.tree.specs.Names.{unbound}
use Rattle.tree.specs.Reading.Read.{got, wrong}
use Rattle.meaning.specs.Mean.{mean}
use Rattle.meaning.specs.Real.{Cipher, real}
use Rattle.meaning.specs.Fold.{fold}
use Rattle.records.specs.Encode.{encode}
use Rattle.records.specs.Decode.{image_of}
use Rattle.records.specs.Decode.Image.{image, no_image}
use Rattle.lists.specs.Entries.{Entry, preparing, running, list_of}
use Rattle.lists.specs.Entries.Listed.{listed, bad_list}
use Rattle.lists.specs.Given.{binding_of, running_of}
use Rattle.texts.specs.Reading.{read_text}
use Rattle.texts.specs.Unbound.{unbound_in}
use Rattle.texts.specs.Unbound.Place.{at, nowhere}
use Rattle.recipe.specs.Outcome.{cleared, outcome, in_room}
use Rattle.recipe.specs.Prepare.{Prepared, answer_of, place_of, sized, has, after_scan, after_list, after_read, prepared_of, prepare_of}
use Rattle.recipe.specs.Prepare.Prepared.{made, stopped}
use Rattle.recipe.specs.Run.{meant_with, after_image, ran_of, run_of}

-- what is delivered in a work room that is large enough
in_room_lem : (out work : List ℕ) (d : Delivered) (p : ℕ) → 65536 ≤ length work → in_room out work d p ≡ outcome d p (cleared work)
unfolding in_room
in_room_lem out work d p h = pick_false _ _ _ (le-ltb _ _ h)

deliver_done : (v : Value) (out : List ℕ) → length v ≤ length out → deliver (value v) out ≡ record { number = 0; count = length v; out = v ++ drop (length v) out }
unfolding deliver
deliver_done v out h = pick_true _ _ _ (le-leb _ _ h)

module _ (cipher : Cipher) (text list : List ℕ) where
  pub prepare_21 : 4096 < length text → prepared_of cipher text list ≡ stopped 21 0
  unfolding prepared_of
  prepare_21 h = pick_false _ _ _ (lt-leb _ _ h)

  module _ (short : length text ≤ 4096) where
    begins : prepared_of cipher text list ≡ after_read cipher text list (read_text text)
    unfolding prepared_of
    begins = pick_true _ _ _ (le-leb _ _ short)

    -- 20, 22, 23, 6
    pub prepare_reading : (n p : ℕ) → read_text text ≡ wrong n p → prepared_of cipher text list ≡ stopped n p
    unfolding after_read
    prepare_reading n p e = begins ∙ ap (after_read cipher text list) e

    module _ (t : Tree) (reads : read_text text ≡ got t) where
      has_read : prepared_of cipher text list ≡ after_list cipher text t (list_of preparing list)
      unfolding after_read
      has_read = begins ∙ ap (after_read cipher text list) reads

      pub prepare_27 : list_of preparing list ≡ bad_list → prepared_of cipher text list ≡ stopped 27 0
      unfolding after_list
      prepare_27 e = has_read ∙ ap (after_list cipher text t) e

      module _ (es : List Entry) (good : list_of preparing list ≡ listed es) where
        has_list : prepared_of cipher text list ≡ after_scan cipher (binding_of es) t (unbound_in (has (binding_of es)) text)
        unfolding after_list
        has_list = has_read ∙ ap (after_list cipher text t) good

        pub prepare_25 : (p : ℕ) → unbound_in (has (binding_of es)) text ≡ at p → prepared_of cipher text list ≡ stopped 25 p
        unfolding after_scan
        prepare_25 p e = has_list ∙ ap (after_scan cipher (binding_of es) t) e

        module _ (none : unbound_in (has (binding_of es)) text ≡ nowhere) where
          has_names : prepared_of cipher text list ≡ sized (encode (fold (real cipher) (binding_of es) t))
          unfolding after_scan
          has_names = has_list ∙ ap (after_scan cipher (binding_of es) t) none

          pub prepare_26 : 16384 < length (encode (fold (real cipher) (binding_of es) t)) → prepared_of cipher text list ≡ stopped 26 0
          unfolding sized
          prepare_26 h = has_names ∙ pick_false _ _ _ (lt-leb _ _ h)

          pub prepare_made : length (encode (fold (real cipher) (binding_of es) t)) ≤ 16384 → prepared_of cipher text list ≡ made (encode (fold (real cipher) (binding_of es) t))
          unfolding sized
          prepare_made h = has_names ∙ pick_true _ _ _ (le-leb _ _ h)

  module _ (out work : List ℕ) (room : 65536 ≤ length work) where
    delivers : (P : Prepared) → prepared_of cipher text list ≡ P → prepare_of cipher text list out work ≡ outcome (deliver (answer_of P) out) (place_of P) (cleared work)
    unfolding prepare_of
    delivers P e = in_room_lem out work _ _ room ∙ ap (λ P. outcome (deliver (answer_of P) out) (place_of P) (cleared work)) e

    -- a refusal has length 0 and changes no output byte
    pub prepare_stops : (n p : ℕ) → prepared_of cipher text list ≡ stopped n p → prepare_of cipher text list out work ≡ record { number = n; count = 0; place = p; out = out; work = cleared work }
    unfolding answer_of place_of deliver refusal outcome
    prepare_stops n p e = delivers (stopped n p) e

    pub prepare_9 : (b : List ℕ) → prepared_of cipher text list ≡ made b → length out < length b
        → prepare_of cipher text list out work ≡ record { number = 9; count = 0; place = 0; out = out; work = cleared work }
    unfolding answer_of place_of refusal outcome
    prepare_9 b e h = delivers (made b) e ∙ ap (λ d. outcome d 0 (cleared work)) (deliver_short b out h)

    pub prepare_done : (b : List ℕ) → prepared_of cipher text list ≡ made b → length b ≤ length out
        → prepare_of cipher text list out work ≡ record { number = 0; count = length b; place = 0; out = b ++ drop (length b) out; work = cleared work }
    unfolding answer_of place_of outcome
    prepare_done b e h = delivers (made b) e ∙ ap (λ d. outcome d 0 (cleared work)) (deliver_done b out h)

module _ (cipher : Cipher) (bytes list : List ℕ) where
  pub run_28 : image_of bytes ≡ no_image → ran_of cipher bytes list ≡ refused 28
  unfolding ran_of after_image
  run_28 e = ap (after_image cipher list) e

  module _ (t : Tree) (is : image_of bytes ≡ image t) where
    pub run_27 : list_of running list ≡ bad_list → ran_of cipher bytes list ≡ refused 27
    unfolding ran_of after_image meant_with
    run_27 e = ap (after_image cipher list) is ∙ ap (meant_with cipher t) e

    pub run_means : (es : List Entry) → list_of running list ≡ listed es → ran_of cipher bytes list ≡ mean (real cipher) unbound (running_of es) t
    unfolding ran_of after_image meant_with
    run_means es e = ap (after_image cipher list) is ∙ ap (meant_with cipher t) e

  module _ (out work : List ℕ) (room : 65536 ≤ length work) where
    delivers_run : (r : Answer) → ran_of cipher bytes list ≡ r → run_of cipher bytes list out work ≡ outcome (deliver r out) 0 (cleared work)
    unfolding run_of
    delivers_run r e = in_room_lem out work _ _ room ∙ ap (λ r. outcome (deliver r out) 0 (cleared work)) e

    pub run_refuses : (n : ℕ) → ran_of cipher bytes list ≡ refused n → run_of cipher bytes list out work ≡ record { number = n; count = 0; place = 0; out = out; work = cleared work }
    unfolding deliver refusal outcome
    run_refuses n e = delivers_run (refused n) e

    pub run_9 : (v : Value) → ran_of cipher bytes list ≡ value v → length out < length v
        → run_of cipher bytes list out work ≡ record { number = 9; count = 0; place = 0; out = out; work = cleared work }
    unfolding refusal outcome
    run_9 v e h = delivers_run (value v) e ∙ ap (λ d. outcome d 0 (cleared work)) (deliver_short v out h)

    pub run_done : (v : Value) → ran_of cipher bytes list ≡ value v → length v ≤ length out
        → run_of cipher bytes list out work ≡ record { number = 0; count = length v; place = 0; out = v ++ drop (length v) out; work = cleared work }
    unfolding outcome
    run_done v e h = delivers_run (value v) e ∙ ap (λ d. outcome d 0 (cleared work)) (deliver_done v out h)
