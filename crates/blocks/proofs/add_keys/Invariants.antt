use Rattle.words.specs.Words.{Walked}
use Rattle.kalyna.specs.Round.{add_key}
use Rattle.rounds.specs.Rounds.{key_at}
use Rattle.blocks.proofs.add_keys.Given as goal

abbrev pub invariant-loop-i : goal.invariant-loop-i
invariant-loop-i l = Walked l.c l.i (add_key l.c (key_at l.c l.ks l.at)) l.initial.s l.s
