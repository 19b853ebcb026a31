use mathlib.Core.Path.{◌≡◌}
use lib.ListN.{get_or}
use Rattle.words.specs.Words.{put_words}
use Rattle.seal_alone.proofs.put.Given as goal

abbrev pub invariant-loop-j : goal.invariant-loop-j
invariant-loop-j g l = l.s ≡ put_words l.initial.s 0 l.j (λ j. get_or l.x j 0)
