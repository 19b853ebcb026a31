use mathlib.Core.Path.{◌≡◌}
use Prim.Native.Nat.{◌+◌, ◌*◌}
use lib.ListN.{take, length}
use Rattle.common.specs.Places.{tab}
use Rattle.field.specs.Column.{byte_of}
use Rattle.words.specs.Words.{word_at}
use Rattle.rounds.specs.Rounds.{open_places}
use Rattle.open_last.specs.Last.{replaced}
use Rattle.open_last.proofs.last.Given as goal

abbrev pub invariant-loop-j : goal.invariant-loop-j
invariant-loop-j g l = (length l.o ≡ g.row.C) × (take l.j l.o ≡ tab l.j (λ j. replaced l.u (λ i. byte_of (word_at l.s (g.row.C * l.b + open_places g.row.C i j)) i)))
