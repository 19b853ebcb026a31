-- What every suite of the table has (document 01, section 2).
use Rattle.std.specs.Prelude.{◌≡◌, ◌+◌, ◌*◌, ◌%◌, ◌≤◌, ◌<◌}
use Rattle.suites.specs.Suites.{block_bytes, key_bytes, key_columns}
use Rattle.suites.specs.declared.Suite.{Suite}
use Rattle.blocks.specs.Blocks.{Width}
use Rattle.key_laws.specs.Turns.{Sized}

pub record Row (s : Suite) : Type 0 where
  pub width : Width s.columns
  pub sized : Sized s.columns (key_columns s)
  pub block : block_bytes s ≡ 8 * s.columns
  pub key : key_bytes s ≡ 8 * key_columns s
  pub some : 0 < s.rounds
  pub even : s.rounds % 2 ≡ 0
  pub most : s.rounds ≤ 18
  pub room : s.columns * (s.rounds + 1) ≤ 160
