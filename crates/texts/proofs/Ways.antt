-- The ways through reading, one law for each, and how far each goes: what code is proved by.
use mathlib.Core.Bool.{Bool, true, false}
use mathlib.Core.List.{List, [], ◌∷◌}
use mathlib.Core.Path.{◌≡◌, sym, ap, ◌∙◌}
use Prim.Native.Nat.{ℕ, suc, ◌+◌, ◌-◌, ◌≤◌, ◌<◌}
use native.Mathlib.Nat.{add-zero}
use native.Mathlib.Omega.{arith}
use lib.ListN.{length, drop, get_or, length-drop, length-append, drop_of_length-le}
use lib.Seq.{get_or-drop}
use borrow.Author.Tests.{le-leb, lt-leb, eq-eqb, ne_eqb}
use Rattle.common.specs.Choice.{pick}
use Rattle.tree.specs.Tree.{Tree}
use Rattle.tree.specs.Bounds.{nodes}
use Rattle.texts.specs.Spelling.{spell, width}
use Rattle.texts.specs.Reading.{Part, then_part, between, run_of, due_at, if_due, start_of, args_at, by_start, expr_at}
use Rattle.texts.specs.Reading.Part.{part, bad}
use Rattle.texts.specs.Reading.Due.{stands, missing}
use Rattle.texts.specs.Unbound.{later, unbound_in}
use Rattle.texts.specs.Unbound.Place.{at, nowhere}
use Rattle.texts.proofs.Standing.{stands_here}
use Rattle.texts.proofs.Width.{length_spell, width_two}
use Rattle.texts.proofs.Spelt.{spelt_read}
use Rattle.texts.proofs.Back.{expr_back}

-- a byte that is due: the text ends, another stands there, it stands there
pub due_end : (s : List ℕ) (lo hi p : ℕ) → length s ≤ p → due_at s lo hi p ≡ missing (length s)
unfolding due_at pick
due_end s lo hi p h = rw (le-leb (length s) p h)

pub due_other : (s : List ℕ) (lo hi p : ℕ) → p < length s → between lo hi (get_or s p 0) ≡ false → due_at s lo hi p ≡ missing p
unfolding due_at pick
due_other s lo hi p h e = rw (lt-leb (length s) p h, e)

pub due_here : (s : List ℕ) (lo hi p : ℕ) → p < length s → between lo hi (get_or s p 0) ≡ true → due_at s lo hi p ≡ stands
unfolding due_at pick
due_here s lo hi p h e = rw (lt-leb (length s) p h, e)

-- an expression is due: too deep, too many, the text ends, its first byte
module _ (d : ℕ) (s : List ℕ) (p n : ℕ) where
  pub expr_deep : d ≡ 0 → expr_at d s p n ≡ bad 22 p
  unfolding expr_at
  expr_deep e = rw e

  levels : 0 < d → d ≡ suc (d - 1)
  levels h = omega arith

  pub expr_many : 0 < d → 128 ≤ n → expr_at d s p n ≡ bad 23 p
  unfolding expr_at pick
  expr_many h m = ap (λ (i : ℕ). expr_at i s p n) (levels h) ∙ rw (le-leb 128 n m)

  pub expr_end : 0 < d → n < 128 → length s ≤ p → expr_at d s p n ≡ bad 20 (length s)
  unfolding expr_at pick
  expr_end h m l = ap (λ (i : ℕ). expr_at i s p n) (levels h) ∙ rw (lt-leb 128 n m, le-leb (length s) p l)

  pub expr_in : 0 < d → n < 128 → p < length s → expr_at d s p n ≡ by_start (expr_at (d - 1) s) s (start_of (get_or s p 0)) p n
  unfolding expr_at pick
  expr_in h m l = ap (λ (i : ℕ). expr_at i s p n) (levels h) ∙ rw (lt-leb 128 n m, lt-leb (length s) p l)

-- arguments: the closing bracket, the byte before the next, the next, the rest
module _ (expr : ℕ → ℕ → Part Tree) (s : List ℕ) (c p n : ℕ) where
  pub args_open : (w : ℕ) → due_at s 41 41 p ≡ missing w → args_at expr s 0 c p n ≡ bad 20 w
  unfolding args_at if_due
  args_open w e = rw e

  pub args_closed : due_at s 41 41 p ≡ stands → args_at expr s 0 c p n ≡ part [] (p + 1) n
  unfolding args_at if_due
  args_closed e = rw e

  pub args_missing : (left w : ℕ) → due_at s c c p ≡ missing w → args_at expr s (suc left) c p n ≡ bad 20 w
  unfolding args_at if_due
  args_missing left w e = rw e

  pub args_next : (left k w : ℕ) → due_at s c c p ≡ stands → expr (p + 1) n ≡ bad k w → args_at expr s (suc left) c p n ≡ bad k w
  unfolding args_at if_due then_part
  args_next left k w e f = rw (e, f)

  pub args_rest : (left : ℕ) (a : Tree) (q m k w : ℕ) → due_at s c c p ≡ stands → expr (p + 1) n ≡ part a q m → args_at expr s left 44 q m ≡ bad k w → args_at expr s (suc left) c p n ≡ bad k w
  unfolding args_at if_due then_part
  args_rest left a q m k w e f g = rw (e, f, g)

  pub args_done : (left : ℕ) (a : Tree) (q m : ℕ) (l : List Tree) (u j : ℕ) → due_at s c c p ≡ stands → expr (p + 1) n ≡ part a q m → args_at expr s left 44 q m ≡ part l u j
      → args_at expr s (suc left) c p n ≡ part (a ∷ l) u j
  unfolding args_at if_due then_part
  args_done left a q m l u j e f g = rw (e, f, g)

-- the longest run, one byte further
pub run_step : (test : ℕ → Bool) (s : List ℕ) (p : ℕ) → p < length s → test (get_or s p 0) ≡ true → run_of test (drop p s) ≡ suc (run_of test (drop (p + 1) s))
unfolding run_of pick
run_step test s p h e = ap (run_of test) (stands_here s p h) ∙ rw e

pub run_stop : (test : ℕ → Bool) (s : List ℕ) (p : ℕ) → p < length s → test (get_or s p 0) ≡ false → run_of test (drop p s) ≡ 0
unfolding run_of pick
run_stop test s p h e = ap (run_of test) (stands_here s p h) ∙ rw e

pub run_end : (test : ℕ → Bool) (s : List ℕ) (p : ℕ) → length s ≤ p → run_of test (drop p s) ≡ 0
unfolding run_of
run_end test s p h = ap (run_of test) (drop_of_length-le s h)

-- the scan for an unbound `#`, one byte further
module _ (has : ℕ → Bool) (s : List ℕ) (p : ℕ) where
  digit_next : get_or (drop (p + 1) s) 0 0 ≡ get_or s (p + 1) 0
  digit_next = get_or-drop (p + 1) s 0 0 ∙ ap (λ (i : ℕ). get_or s i 0) (add-zero (p + 1))

  pub scan_other : p < length s → (get_or s p 0 ≡ 35 → ⊥) → unbound_in has (drop p s) ≡ later 1 (unbound_in has (drop (p + 1) s))
  unfolding unbound_in pick
  scan_other h e = ap (unbound_in has) (stands_here s p h) ∙ rw (ne_eqb (get_or s p 0) 35 e)

  pub scan_bound : p < length s → get_or s p 0 ≡ 35 → has (get_or s (p + 1) 0 - 48) ≡ true → unbound_in has (drop p s) ≡ later 1 (unbound_in has (drop (p + 1) s))
  unfolding unbound_in pick
  scan_bound h e f = ap (unbound_in has) (stands_here s p h) ∙ rw (eq-eqb (get_or s p 0) 35 e, digit_next, f)

  pub scan_unbound : p < length s → get_or s p 0 ≡ 35 → has (get_or s (p + 1) 0 - 48) ≡ false → unbound_in has (drop p s) ≡ at 0
  unfolding unbound_in pick
  scan_unbound h e f = ap (unbound_in has) (stands_here s p h) ∙ rw (eq-eqb (get_or s p 0) 35 e, digit_next, f)

  pub scan_end : length s ≤ p → unbound_in has (drop p s) ≡ nowhere
  unfolding unbound_in
  scan_end h = ap (unbound_in has) (drop_of_length-le s h)

-- how much text a tree that was read takes
pub record Taken (s : List ℕ) (p : ℕ) (t : Tree) (q : ℕ) : Type 0 where
  pub place : q ≡ p + width t
  pub more : p < q
  pub most : q ≤ length s

same_end : (a : Tree) (q m u j : ℕ) → part a q m ≡ part a u j → q ≡ u
same_end a q m u j e = cc

pub expr_taken : (d : ℕ) (s : List ℕ) (p n : ℕ) (t : Tree) (q m : ℕ) → expr_at d s p n ≡ part t q m → Taken s p t q
expr_taken d s p n t q m e =
    let B = expr_back d s p n t q m e in
    let c = B.count in
    let f = B.few in
    let g = spelt_read t d s p n (drop q s) B.proper B.small B.deep (omega arith) B.same in
    let place : q ≡ p + width t = same_end t q m (p + width t) (n + nodes t) (sym e ∙ g) in
    let some = width_two t in
    let len = length_spell t in
    let h : length s - p ≡ length (spell t) + length (drop q s) = sym (length-drop p s) ∙ ap length B.same ∙ length-append (spell t) (drop q s) in
    record { place = place; more = omega arith; most = omega arith }
