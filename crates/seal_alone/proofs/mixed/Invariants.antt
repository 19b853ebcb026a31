use mathlib.Core.Path.{◌≡◌}
use lib.ListN.{get_or, take, length}
use Rattle.common.specs.Places.{tab}
use Rattle.field.specs.Column.{byte_of}
use Rattle.lookup.specs.Table.{gather}
use Rattle.rounds.specs.Rounds.{seal_places}
use Rattle.seal_alone.proofs.mixed.Given as goal

abbrev pub invariant-loop-j : goal.invariant-loop-j
invariant-loop-j g l = (length l.o ≡ g.row.C) × (take l.j l.o ≡ tab l.j (λ j. gather l.t (λ i. byte_of (get_or l.x (seal_places g.row.C i j) 0) i)))
