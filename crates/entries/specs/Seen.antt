-- What a host sees of a call (document 01, section 7): the number that it gives back, the length that it writes, and the output room afterwards.
use Rattle.std.specs.Prelude.{List, ℕ}
use Rattle.common.specs.Answer.{Delivered}

unfoldable pub seen : ℕ → ℕ → List ℕ → Delivered
seen number length out = record { number = number; count = length; out = out }
