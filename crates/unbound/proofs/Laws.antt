-- The scan, one byte further.
use mathlib.Core.Bool.{Bool, true, false}
use mathlib.Core.List.{List, [], ◌∷◌}
use mathlib.Core.Path.{◌≡◌, refl, ap, sym, ◌∙◌}
use Prim.Native.Nat.{ℕ, zero, suc, ◌+◌, ◌-◌, ◌≤◌, ◌<◌}
use native.Mathlib.Nat.{add-zero, zero-add}
use native.Mathlib.Omega.{arith}
use lib.Dec.{eqb}
use lib.ListN.{length, drop, get_or}
use borrow.Author.Tests.{eq-eqb, ne_eqb, eqb-true, eqb-false}
use Rattle.common.specs.Choice.{pick}
use Rattle.texts.specs.Unbound as texts
use Rattle.texts.specs.Unbound.{later, unbound_in}
use Rattle.texts.specs.Unbound.Place.{at, nowhere}
use Rattle.texts.proofs.Ways.{scan_other, scan_bound, scan_unbound, scan_end}
use Rattle.std.specs.Prelude.{Some, None}
use Rattle.unbound.specs.Scan.{place_is, has_of, has_in, open_at}

-- which of the four
module _ (b0 b1 b2 b3 : Bool) (n : ℕ) where
  pub has_0 : n ≡ 0 → b0 ≡ has_of b0 b1 b2 b3 n
  unfolding has_of pick
  has_0 e = rw e

  pub has_1 : n ≡ 1 → b1 ≡ has_of b0 b1 b2 b3 n
  unfolding has_of pick
  has_1 e = rw e

  pub has_2 : n ≡ 2 → b2 ≡ has_of b0 b1 b2 b3 n
  unfolding has_of pick
  has_2 e = rw e

  pub has_3 : n ≡ 3 → b3 ≡ has_of b0 b1 b2 b3 n
  unfolding has_of pick
  has_3 e = rw e

  pub has_none : (n ≡ 0 → ⊥) → (n ≡ 1 → ⊥) → (n ≡ 2 → ⊥) → (n ≡ 3 → ⊥) → false ≡ has_of b0 b1 b2 b3 n
  unfolding has_of pick
  has_none a b c d = rw (ne_eqb n 0 a, ne_eqb n 1 b, ne_eqb n 2 c, ne_eqb n 3 d)

pub low_has : (l : List Bool) (n : ℕ) → n < 4 → has_in l n ≡ get_or l n false
low_has l zero h = sym (has_0 _ _ _ _ _ refl)
low_has l (suc zero) h = sym (has_1 _ _ _ _ _ refl)
low_has l (suc (suc zero)) h = sym (has_2 _ _ _ _ _ refl)
low_has l (suc (suc (suc zero))) h = sym (has_3 _ _ _ _ _ refl)
low_has l (suc (suc (suc (suc n)))) h = absurd (omega arith)

pub high_has : (l : List Bool) (n : ℕ) → 4 ≤ n → has_in l n ≡ false
high_has l n h = sym (has_none _ _ _ _ n (λ e. omega arith) (λ e. omega arith) (λ e. omega arith) (λ e. omega arith))

pub ruleset four = (low_has, high_has)

module _ (has : ℕ → Bool) (s : List ℕ) (p : ℕ) where
  pub open_other : (get_or s p 0 ≡ 35 → ⊥) → open_at has s p ≡ false
  unfolding open_at pick
  open_other e = rw (ne_eqb (get_or s p 0) 35 e)

  pub open_has : get_or s p 0 ≡ 35 → has (get_or s (p + 1) 0 - 48) ≡ true → open_at has s p ≡ false
  unfolding open_at pick
  open_has e h = rw (eq-eqb (get_or s p 0) 35 e, h)

  pub open_lacks : get_or s p 0 ≡ 35 → has (get_or s (p + 1) 0 - 48) ≡ false → open_at has s p ≡ true
  unfolding open_at pick
  open_lacks e h = rw (eq-eqb (get_or s p 0) 35 e, h)

  true_false : true ≡ false → ⊥
  true_false e = let z : ◌≡◌ {A = ℕ} 0 1 = cc in omega arith

  -- a `#` without a value is the first of what is left
  pub scan_here : p < length s → open_at has s p ≡ true → unbound_in has (drop p s) ≡ at 0
  unfolding open_at pick
  scan_here h o = go (eqb (get_or s p 0) 35) (has (get_or s (p + 1) 0 - 48)) refl refl o
    where
      go : (a b : Bool) → eqb (get_or s p 0) 35 ≡ a → has (get_or s (p + 1) 0 - 48) ≡ b → pick a (pick b false true) false ≡ true → unbound_in has (drop p s) ≡ at 0
      go true true ea eb f = absurd (true_false (sym f))
      go true false ea eb f = scan_unbound has s p h (eqb-true (get_or s p 0) 35 ea) eb
      go false b ea eb f = absurd (true_false (sym f))

  pub scan_on : p < length s → open_at has s p ≡ false → unbound_in has (drop p s) ≡ later 1 (unbound_in has (drop (p + 1) s))
  unfolding open_at pick
  scan_on h o = go (eqb (get_or s p 0) 35) (has (get_or s (p + 1) 0 - 48)) refl refl o
    where
      go : (a b : Bool) → eqb (get_or s p 0) 35 ≡ a → has (get_or s (p + 1) 0 - 48) ≡ b → pick a (pick b false true) false ≡ false
          → unbound_in has (drop p s) ≡ later 1 (unbound_in has (drop (p + 1) s))
      go true true ea eb f = scan_bound has s p h (eqb-true (get_or s p 0) 35 ea) eb
      go true false ea eb f = absurd (true_false f)
      go false b ea eb f = scan_other has s p h (eqb-false (get_or s p 0) 35 ea)

pub ruleset opens = (open_other, open_has, open_lacks)

later_later : (a b : ℕ) (x : texts.Place) → later a (later b x) ≡ later (a + b) x
unfolding later
later_later a b (at p) = ap at (omega arith)
later_later a b nowhere = refl

later_none : (x : texts.Place) → x ≡ later 0 x
unfolding later
later_none (at p) = ap at (sym (zero-add p))
later_none nowhere = refl

-- the first p bytes have none
pub record Passed (has : ℕ → Bool) (s : List ℕ) (p : ℕ) : Type 0 where
  pub within : p ≤ length s
  pub left : unbound_in has s ≡ later p (unbound_in has (drop p s))

module _ (has : ℕ → Bool) (s : List ℕ) where
  pub passed_none : Passed has s 0
  passed_none = record { within = omega arith; left = later_none (unbound_in has s) }

  pub passed_more : (p : ℕ) → Passed has s p → p < length s → open_at has s p ≡ false → Passed has s (p + 1)
  passed_more p P h o =
      record {
        within = omega arith;
        left = P.left ∙ ap (later p) (scan_on has s p h o) ∙ later_later p 1 (unbound_in has (drop (p + 1) s));
      }

  pub found_here : (p : ℕ) → Passed has s p → p < length s → open_at has s p ≡ true → Some p ≡ place_is (unbound_in has s)
  unfolding place_is later
  found_here p P h o = sym (ap place_is (P.left ∙ ap (later p) (scan_here has s p h o)) ∙ ap Some (add-zero p))

  pub found_none : (p : ℕ) → Passed has s p → length s ≤ p → None ≡ place_is (unbound_in has s)
  unfolding place_is later
  found_none p P h = sym (ap place_is (P.left ∙ ap (later p) (scan_end has s p h)))

-- what agrees at each name finds the same place
pub unbound_as : (f g : ℕ → Bool) → ((n : ℕ) → f n ≡ g n) → (s : List ℕ) → unbound_in f s ≡ unbound_in g s
unfolding unbound_in
unbound_as f g h [] = refl
unbound_as f g h (x ∷ s) = rw (h (get_or s 0 0 - 48), unbound_as f g h s)

-- four names are all there are
pub has_four : (f : ℕ → Bool) → ((n : ℕ) → 4 ≤ n → f n ≡ false) → (n : ℕ) → f n ≡ has_of (f 0) (f 1) (f 2) (f 3) n
unfolding has_of pick
has_four f h zero = refl
has_four f h (suc zero) = refl
has_four f h (suc (suc zero)) = refl
has_four f h (suc (suc (suc zero))) = refl
has_four f h (suc (suc (suc (suc n)))) = h (suc (suc (suc (suc n)))) (omega arith) ∙ has_none (f 0) (f 1) (f 2) (f 3) (suc (suc (suc (suc n)))) (λ e. omega arith) (λ e. omega arith) (λ e. omega arith) (λ e. omega arith)
