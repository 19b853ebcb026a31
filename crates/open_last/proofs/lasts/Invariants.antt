use Rattle.words.specs.Words.{Walked}
use Rattle.rounds.specs.Rounds.{key_at}
use Rattle.open_laws.specs.Opening.{last_round}
use Rattle.open_last.proofs.lasts.Given as goal

abbrev pub invariant-loop-i : goal.invariant-loop-i
invariant-loop-i g l = Walked g.row.C l.i (last_round g.row.C (key_at g.row.C l.ks l.at)) l.initial.s l.s
