-- What is delivered of a value that has no room.
use mathlib.Core.Path.{◌≡◌}
use mathlib.Core.List.{List}
use Prim.Native.Nat.{ℕ, ◌<◌}
use lib.ListN.{length}
use borrow.Author.Tests.{lt-leb}
use Rattle.common.specs.Answer.{Value, deliver, refusal}
use Rattle.common.specs.Answer.Answer.{value}
use Rattle.common.proofs.Choices.{pick_false}

pub deliver_short : (v : Value) (out : List ℕ) → length out < length v → deliver (value v) out ≡ refusal 9 out
unfolding deliver
deliver_short v out h = pick_false _ _ _ (lt-leb _ _ h)
