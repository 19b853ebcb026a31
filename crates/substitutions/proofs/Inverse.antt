-- The tables undo each other: one computed test over all 2,048 entries, carried to each entry.
use mathlib.Core.Path.{◌≡◌}
use mathlib.Core.Bool.{Bool}
use Prim.Native.Nat.{ℕ, ◌%◌, ◌<◌}
use native.Mathlib.Nat.{mod-lt, mod-mod}
use native.Mathlib.Omega.{arith}
use lib.Dec.{T, eqb, eqb→eq, ltb, ltb→lt}
use Rattle.field.proofs.Below.{both, both_left, both_right, below, below_at}
use Rattle.substitutions.specs.Tables.{pi0, pi1, pi2, pi3, inv0, inv1, inv2, inv3, tables, inverses, sub, unsub}

ok_s : ℕ → ℕ → Bool
ok_s i x = ltb (sub i x) 256

ok_u : ℕ → ℕ → Bool
ok_u i x = ltb (unsub i x) 256

ok_uS : ℕ → ℕ → Bool
ok_uS i x = eqb (unsub i (sub i x)) x

ok_sU : ℕ → ℕ → Bool
ok_sU i x = eqb (sub i (unsub i x)) x

right : ℕ → ℕ → Bool
right i x = both (both (ok_s i x) (ok_u i x)) (both (ok_uS i x) (ok_sU i x))

all_right : T (below (λ i. below (right i) 256) 4)
unfolding right ok_s ok_u ok_uS ok_sU sub unsub tables inverses pi0 pi1 pi2 pi3 inv0 inv1 inv2 inv3
all_right = tt

module _ (i x : ℕ) (h : x < 256) where
  -- the test at row i mod 4
  found : T (right (i % 4) x)
  found = below_at (right (i % 4)) 256 (below_at (λ i. below (right i) 256) 4 all_right (i % 4) (mod-lt i (omega arith))) x h

  found_i : T (right i x)
  unfolding right ok_s ok_u ok_uS ok_sU sub unsub
  found_i = rw (mod-mod i 4) at found

  pub sub_lt : sub i x < 256
  unfolding right ok_s ok_u ok_uS ok_sU
  sub_lt = ltb→lt _ _ (both_left (ok_s i x) (ok_u i x) (both_left (both (ok_s i x) (ok_u i x)) (both (ok_uS i x) (ok_sU i x)) found_i))

  pub unsub_lt : unsub i x < 256
  unfolding right ok_s ok_u ok_uS ok_sU
  unsub_lt = ltb→lt _ _ (both_right (ok_s i x) (ok_u i x) (both_left (both (ok_s i x) (ok_u i x)) (both (ok_uS i x) (ok_sU i x)) found_i))

  pub unsub_sub : unsub i (sub i x) ≡ x
  unfolding right ok_s ok_u ok_uS ok_sU
  unsub_sub = eqb→eq _ _ (both_left (ok_uS i x) (ok_sU i x) (both_right (both (ok_s i x) (ok_u i x)) (both (ok_uS i x) (ok_sU i x)) found_i))

  pub sub_unsub : sub i (unsub i x) ≡ x
  unfolding right ok_s ok_u ok_uS ok_sU
  sub_unsub = eqb→eq _ _ (both_right (ok_uS i x) (ok_sU i x) (both_right (both (ok_s i x) (ok_u i x)) (both (ok_uS i x) (ok_sU i x)) found_i))
