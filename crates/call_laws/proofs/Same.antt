-- The scheduled keys make the standard's cipher, both ways.
use mathlib.Core.Path.{◌≡◌, sym, fun_ext}
use Prim.Native.Nat.{ℕ, ◌≤◌}
use Rattle.common.specs.Answer.{Value}
use Rattle.kalyna.specs.State.{columns_of}
use Rattle.kalyna.specs.Block.{seal_bytes, unseal_bytes}
use Rattle.kalyna.specs.Keys.{round_key}
use Rattle.blocks.specs.Blocks.{keys_of}
use Rattle.key_laws.proofs.Schedule.{schedule_keys}
use Rattle.suites.specs.Suites.{key_columns}
use Rattle.suites.specs.declared.Suite.{Suite}
use Rattle.suite_laws.specs.Row.{Row}
use Rattle.modes.specs.Cell.{sealing, opening}
use Rattle.modes.proofs.Steps.{seal_bytes_same, unseal_bytes_same}
pub use Rattle.call_laws.proofs.Keys.{keys_for, keys_long}

module _ (s : Suite) (key : Value) (row : Row s) where
  same : (v : ℕ) → v ≤ s.rounds → round_key s.columns (key_columns s) (columns_of (key_columns s) key) v ≡ keys_of s.columns (keys_for s key) v
  same v l = sym (schedule_keys s.columns (key_columns s) s.rounds (columns_of (key_columns s) key) v row.sized row.most l)

  pub sealing_is : sealing s key ≡ seal_bytes s.columns s.rounds (keys_of s.columns (keys_for s key))
  unfolding sealing
  sealing_is = fun_ext (λ b. seal_bytes_same s.columns s.rounds _ _ same b)

  pub opening_is : opening s key ≡ unseal_bytes s.columns s.rounds (keys_of s.columns (keys_for s key))
  unfolding opening
  opening_is = fun_ext (λ b. unseal_bytes_same s.columns s.rounds _ _ same b)
