use Rattle.words.specs.Words.{Walked}
use Rattle.rounds.specs.Rounds.{key_at, round_of}
use Rattle.rounds.proofs.walk.Given as goal

abbrev pub invariant-loop-i : goal.invariant-loop-i
invariant-loop-i g l = Walked g.row.C l.i (round_of l.t g.row.C (g.D.Direction.places g.row.C) (key_at g.row.C l.ks l.at)) l.initial.s l.s
