use mathlib.Core.Path.{◌≡◌}
use Prim.Native.Nat.{◌+◌, ◌%◌, ◌^◌}
use lib.ListN.{get_or, take, length}
use Rattle.common.specs.Places.{tab}
use Rattle.field.specs.Xor.{xor}
use Rattle.rounds.specs.Rounds.{key_at}
use Rattle.seal_alone.proofs.keyed.Given as goal

abbrev pub invariant-loop-j : goal.invariant-loop-j
invariant-loop-j g l = (length l.o ≡ g.row.C) × (take l.j l.o ≡ tab l.j (λ j. xor (get_or l.y j 0) (get_or (key_at g.row.C l.ks l.at) j 0)))

abbrev pub invariant-loop-j-2 : goal.invariant-loop-j-2
invariant-loop-j-2 g l = (length l.o ≡ g.row.C) × (take l.j l.o ≡ tab l.j (λ j. (get_or l.y j 0 + get_or (key_at g.row.C l.ks l.at) j 0) % 2 ^ 64))
