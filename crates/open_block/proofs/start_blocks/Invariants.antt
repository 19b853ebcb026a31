use Rattle.words.specs.Words.{Walked}
use Rattle.rounds.specs.Rounds.{key_at}
use Rattle.open_laws.specs.Opening.{first_round}
use Rattle.open_block.proofs.start_blocks.Given as goal

abbrev pub invariant-loop-i : goal.invariant-loop-i
invariant-loop-i l = Walked l.c l.i (first_round l.c (key_at l.c l.ks l.at)) l.initial.s l.s
