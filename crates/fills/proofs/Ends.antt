-- Looking for the 80, back through the last block, and what its place says.
use mathlib.Core.Bool.{Bool}
use mathlib.Core.Path.{◌≡◌, refl, sym, ap, ap₂, ◌∙◌}
use mathlib.Core.List.{List}
use Prim.Native.Nat.{ℕ, zero, suc, ◌+◌, ◌-◌, ◌<◌, ◌≤◌}
use native.Mathlib.Omega.{arith}
use borrow.Author.Tests.{ne_eqb}
use lib.ListN.{get_or, take, length}
use lib.Seq.{get_or-take, length-take-le}
use Rattle.common.specs.Choice.{pick}
use Rattle.common.proofs.Choices.{pick_false}
use Rattle.common.specs.Answer.Answer.{refused}
use Rattle.modes.specs.Fill.{marked, unfill_at, unfill_from, unfill}
use Rattle.modes.proofs.Fill.{unfill_mark}
use Rattle.fills.specs.Ended.{ended, some_length}
use Rattle.std.specs.Prelude.{Some, None, IfSome}

-- the 80 at a place ends the text there, if there is a byte before it
pub ended_at : (m : ℕ) (p : List ℕ) → marked m p ≡ ended (some_length m) p
unfolding marked pick ended some_length
ended_at zero p = refl
ended_at (suc m) p = pick_false _ _ _ (ne_eqb (suc m) 0 (λ e. omega arith))

pub has_length : (m : ℕ) → (m ≡ 0 → ⊥) → Some m ≡ some_length m
unfolding some_length
has_length zero h = absurd (h refl)
has_length (suc m) h = refl

pub end_within : (m n : ℕ) → m ≤ n → IfSome (some_length m) (λ r. (0 < r) × (r ≤ n))
unfolding some_length
end_within zero n l = tt
end_within (suc m) n l = (omega arith, l)

module _ (n B : ℕ) (p : List ℕ) (h : B ≤ n) (room : n ≤ length p) where
  -- the search starts at the end
  pub from_end : unfill B (take n p) ≡ unfill_from (n - B) B (take n p)
  unfolding unfill
  from_end = ap (λ m. unfill_from (m - B) B (take n p)) (length-take-le n p room)

  -- none is found
  pub found_none : (k : ℕ) → k ≡ 0 → unfill_from (n - B) k (take n p) ≡ ended None (take n p)
  unfolding unfill_from ended
  found_none k e = ap (λ k. unfill_from (n - B) k (take n p)) e

  module _ (k j x : ℕ) (e : k ≡ suc j) (l : k ≤ B) (ex : x ≡ get_or p (n - B + j) 0) where
    byte : get_or (take n p) (n - B + j) 0 ≡ x
    byte = get_or-take n p (n - B + j) 0 (omega (arith, e)) ∙ sym ex

    -- the 80
    pub found : x ≡ 0x80 → unfill_from (n - B) k (take n p) ≡ ended (some_length (n - B + j)) (take n p)
    found q = ap (λ k. unfill_from (n - B) k (take n p)) e ∙ unfill_mark (n - B) j (take n p) (byte ∙ q) ∙ ended_at (n - B + j) (take n p)

    -- a 00
    pub passed : x ≡ 0 → unfill_from (n - B) k (take n p) ≡ unfill_from (n - B) j (take n p)
    unfolding unfill_from unfill_at pick
    passed q = ap (λ k. unfill_from (n - B) k (take n p)) e ∙ ap (λ b. unfill_at (n - B + j) b (take n p) (unfill_from (n - B) j (take n p))) (byte ∙ q)

    -- any other byte
    pub stopped : (x ≡ 0x80 → ⊥) → (x ≡ 0 → ⊥) → unfill_from (n - B) k (take n p) ≡ ended None (take n p)
    unfolding unfill_from unfill_at ended pick
    stopped a b =
        ap (λ k. unfill_from (n - B) k (take n p)) e
        ∙ ap (λ b. unfill_at (n - B + j) b (take n p) (unfill_from (n - B) j (take n p))) byte
        ∙ ap₂ (λ (u v : Bool). pick u (marked (n - B + j) (take n p)) (pick v (unfill_from (n - B) j (take n p)) (refused 8))) (ne_eqb x 0x80 a) (ne_eqb x 0 b)
