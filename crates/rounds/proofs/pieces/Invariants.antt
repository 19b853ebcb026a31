use mathlib.Core.Path.{◌≡◌}
use Prim.Native.Nat.{◌+◌, ◌*◌}
use lib.ListN.{get_or, take, length}
use Rattle.common.specs.Places.{tab}
use Rattle.rounds.proofs.pieces.Given as goal

abbrev pub invariant-loop-k : goal.invariant-loop-k
invariant-loop-k g l = (length l.o ≡ g.row.C) × (take l.k l.o ≡ tab l.k (λ k. get_or l.s (4 * (g.row.C * l.b + k) + l.q) 0))
