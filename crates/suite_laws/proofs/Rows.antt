-- Every suite that the table knows is such a row.
use mathlib.Core.Bool.{Bool, true, false}
use mathlib.Core.Path.{◌≡◌, refl, subst}
use mathlib.Core.Logic.{◌⊎◌}
use Prim.Native.Nat.{ℕ}
use native.Mathlib.Omega.{arith}
use lib.Dec.{eqb}
use Rattle.std.proofs.Common.{Option, Some, None}
use Rattle.common.specs.Choice.{pick}
use Rattle.suites.specs.Suites.{suite, suite_of}
use Rattle.suites.specs.declared.Suite.{Suite}
use Rattle.suite_laws.specs.Row.{Row}

row_1 : Row (suite 128 128 10 2)
row_1 =
    record {
      width = ◌⊎◌.inl refl;
      sized = record { width = ◌⊎◌.inl refl; halves = ◌⊎◌.inl refl; most = omega arith };
      block = refl;
      key = refl;
      some = omega arith;
      even = refl;
      most = omega arith;
      room = omega arith;
    }

row_2 : Row (suite 128 256 14 2)
row_2 =
    record {
      width = ◌⊎◌.inl refl;
      sized = record { width = ◌⊎◌.inl refl; halves = ◌⊎◌.inr refl; most = omega arith };
      block = refl;
      key = refl;
      some = omega arith;
      even = refl;
      most = omega arith;
      room = omega arith;
    }

row_3 : Row (suite 256 256 14 4)
row_3 =
    record {
      width = ◌⊎◌.inr (◌⊎◌.inl refl);
      sized = record { width = ◌⊎◌.inr (◌⊎◌.inl refl); halves = ◌⊎◌.inl refl; most = omega arith };
      block = refl;
      key = refl;
      some = omega arith;
      even = refl;
      most = omega arith;
      room = omega arith;
    }

row_4 : Row (suite 256 512 18 4)
row_4 =
    record {
      width = ◌⊎◌.inr (◌⊎◌.inl refl);
      sized = record { width = ◌⊎◌.inr (◌⊎◌.inl refl); halves = ◌⊎◌.inr refl; most = omega arith };
      block = refl;
      key = refl;
      some = omega arith;
      even = refl;
      most = omega arith;
      room = omega arith;
    }

row_5 : Row (suite 512 512 18 8)
row_5 =
    record {
      width = ◌⊎◌.inr (◌⊎◌.inr refl);
      sized = record { width = ◌⊎◌.inr (◌⊎◌.inr refl); halves = ◌⊎◌.inl refl; most = omega arith };
      block = refl;
      key = refl;
      some = omega arith;
      even = refl;
      most = omega arith;
      room = omega arith;
    }

-- the first of two where the test holds, else the second
picked : (b : Bool) (r : Suite) (rest : Option Suite) (s : Suite) → Row r → (rest ≡ Some s → Row s) → pick b (Some r) rest ≡ Some s → Row s
unfolding pick
picked true r rest s row next e = subst Row (same r s e) row
  where
    same : (r s : Suite) → Some r ≡ Some s → r ≡ s
    same r s e = cc
picked false r rest s row next e = next e

never : (s : Suite) → None ≡ Some s → Row s
never s e = let z : ◌≡◌ {A = ℕ} 0 1 = cc in let w : ⊥ = omega arith in absurd w

pub known_row : (n : ℕ) (s : Suite) → suite_of n ≡ Some s → Row s
unfolding suite_of
known_row n s =
    picked (eqb n 1) _ _ s row_1
    (picked (eqb n 2) _ _ s row_2
    (picked (eqb n 3) _ _ s row_3
    (picked (eqb n 4) _ _ s row_4
    (picked (eqb n 5) _ _ s row_5 (never s)))))
