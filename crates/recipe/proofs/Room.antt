-- The work room afterwards (document 01, section 7).
use mathlib.Core.Path.{◌≡◌, ap, ◌∙◌}
use mathlib.Core.List.{List}
use Prim.Native.Nat.{ℕ, ◌≤◌, ◌<◌}
use native.Mathlib.Omega.{arith}
use lib.ListN.{length, drop, get_or, replicate, length-append, length-drop, length-replicate, get_or-replicate, get_or-append}
use lib.Seq.{drop_at}
use borrow.Author.Tests.{lt-ltb, le-ltb}
use Rattle.common.specs.Answer.{Delivered, refusal}
use Rattle.common.proofs.Choices.{pick_true, pick_false}
use Rattle.meaning.specs.Real.{Cipher}
use Rattle.recipe.specs.Outcome.{Outcome, zeroed, cleared, outcome, in_room}
use Rattle.recipe.specs.Prepare.{prepare_of}
use Rattle.recipe.specs.Run.{run_of}

-- a room keeps its length
pub zeroed_length : (n : ℕ) (w : List ℕ) → n ≤ length w → length (zeroed n w) ≡ length w
unfolding zeroed
zeroed_length n w h = simp (length-append, length-replicate, length-drop) (omega arith)

-- its first n bytes are zero
pub zeroed_zero : (n i : ℕ) (w : List ℕ) → i < n → get_or (zeroed n w) i 0 ≡ 0
unfolding zeroed
zeroed_zero n i w h =
    let zeros : List ℕ = replicate n 0 in
    let l : i < length zeros = simp length-replicate h in
    get_or-append zeros (drop n w) 0 i l ∙ get_or-replicate n i 0 0 h

-- bytes beyond are unchanged
pub zeroed_beyond : (n : ℕ) (w : List ℕ) → drop n (zeroed n w) ≡ drop n w
unfolding zeroed
zeroed_beyond n w = drop_at (replicate n 0) (drop n w) n (length-replicate n 0)

-- after every answer but 14 the first 65,536 bytes are zero, and bytes beyond are unchanged
pub cleared_zero : (i : ℕ) (w : List ℕ) → i < 65536 → get_or (cleared w) i 0 ≡ 0
unfolding cleared
cleared_zero i w h = zeroed_zero 65536 i w h

pub cleared_beyond : (w : List ℕ) → drop 65536 (cleared w) ≡ drop 65536 w
unfolding cleared
cleared_beyond w = zeroed_beyond 65536 w

in_short_room : (out work : List ℕ) (d : Delivered) (p : ℕ) → length work < 65536 → in_room out work d p ≡ record { number = 14; count = 0; place = 0; out = out; work = work }
unfolding in_room outcome refusal
in_short_room out work d p h = pick_true _ _ _ (lt-ltb _ _ h)

-- 14 changes nothing, whatever the inputs
pub prepare_short : (cipher : Cipher) (text list out work : List ℕ) → length work < 65536
    → prepare_of cipher text list out work ≡ record { number = 14; count = 0; place = 0; out = out; work = work }
unfolding prepare_of
prepare_short cipher text list out work h = in_short_room out work _ _ h

pub run_short : (cipher : Cipher) (bytes list out work : List ℕ) → length work < 65536
    → run_of cipher bytes list out work ≡ record { number = 14; count = 0; place = 0; out = out; work = work }
unfolding run_of
run_short cipher bytes list out work h = in_short_room out work _ _ h

in_large_room : (out work : List ℕ) (d : Delivered) (p : ℕ) → 65536 ≤ length work → (in_room out work d p).work ≡ cleared work
unfolding in_room outcome
in_large_room out work d p h = ap (λ (x : Outcome). x.work) (pick_false _ _ _ (le-ltb _ _ h))

-- every other answer clears the room
pub prepare_clears : (cipher : Cipher) (text list out work : List ℕ) → 65536 ≤ length work → (prepare_of cipher text list out work).work ≡ cleared work
unfolding prepare_of
prepare_clears cipher text list out work h = in_large_room out work _ _ h

pub run_clears : (cipher : Cipher) (bytes list out work : List ℕ) → 65536 ≤ length work → (run_of cipher bytes list out work).work ≡ cleared work
unfolding run_of
run_clears cipher bytes list out work h = in_large_room out work _ _ h
