use mathlib.Core.Path.{◌≡◌}
use Prim.Native.Nat.{◌+◌, ◌%◌, ◌^◌}
use lib.ListN.{get_or, take, length}
use Rattle.common.specs.Places.{tab}
use Rattle.words.specs.Words.{block_at}
use Rattle.rounds.specs.Rounds.{key_at}
use Rattle.seal_alone.proofs.first.Given as goal

abbrev pub invariant-loop-j : goal.invariant-loop-j
invariant-loop-j g l = (length l.o ≡ g.row.C) × (take l.j l.o ≡ tab l.j (λ j. (get_or (block_at g.row.C l.s 0) j 0 + get_or (key_at g.row.C l.ks 0) j 0) % 2 ^ 64))
