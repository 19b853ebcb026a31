-- The round keys of a suite's key.
use mathlib.Core.Path.{◌≡◌}
use mathlib.Core.List.{List}
use Prim.Native.Nat.{ℕ}
use lib.ListN.{length}
use Rattle.common.specs.Answer.{Value}
use Rattle.common.proofs.Places.{length_tab}
use Rattle.kalyna.specs.State.{columns_of}
use Rattle.key_laws.specs.Schedule.{schedule_of}
use Rattle.suites.specs.Suites.{key_columns}
use Rattle.suites.specs.declared.Suite.{Suite}

-- the round keys of a suite's key, one after another
abbrev pub keys_for : Suite → Value → List ℕ
keys_for s key = schedule_of s.columns (key_columns s) s.rounds (columns_of (key_columns s) key)

pub keys_long : (s : Suite) (key : Value) → length (keys_for s key) ≡ 160
unfolding schedule_of
keys_long s key = length_tab 160 _
