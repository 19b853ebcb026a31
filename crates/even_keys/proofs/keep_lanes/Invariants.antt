use Rattle.words.specs.Words.{block_at}
use Rattle.kalyna.specs.Round.{add_key}
use Rattle.blocks.specs.Blocks.{keys_of}
use Rattle.key_laws.specs.Stores.{Spread}
use Rattle.even_keys.proofs.keep_lanes.Given as goal

abbrev pub invariant-loop-i : goal.invariant-loop-i
invariant-loop-i l = Spread l.c 0 l.i (λ e. add_key l.c (keys_of l.c l.a e) (block_at l.c l.s e)) l.initial.ks l.ks
