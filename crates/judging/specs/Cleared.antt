-- Past the checks.
use Rattle.std.specs.Prelude.{◌≡◌, ℕ, Some, Ok}
use Rattle.suites.specs.Suites.{suite_of}
use Rattle.suites.specs.declared.Suite.{Suite}
use Rattle.modes.specs.Cell.{Call}
use Rattle.judging.specs.Order.{judged_for}

-- the suite is one of the table, and lengths of key, IV or tag, text and output room meet every check
pub record Cleared (f : Call) (s : Suite) (key side text room : ℕ) : Type 0 where
  pub number : ℕ
  pub known : suite_of number ≡ Some s
  pub fine : judged_for f s key side text room ≡ Ok s
