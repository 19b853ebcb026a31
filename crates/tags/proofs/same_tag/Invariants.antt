use mathlib.Core.Path.{◌≡◌}
use Prim.Native.Nat.{◌*◌, ◌≤◌}
use Rattle.tags.proofs.Same.{differ}
use Rattle.tags.proofs.same_tag.Given as goal

abbrev pub invariant-loop-i : goal.invariant-loop-i
invariant-loop-i l = (l.d ≡ differ l.tag l.right l.i) × (l.d ≤ 255 * l.i)
