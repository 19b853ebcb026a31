use mathlib.Core.Path.{◌≡◌}
use Prim.Native.Nat.{◌+◌, ◌*◌}
use lib.ListN.{get_or}
use Rattle.field.specs.Xor.{xor}
use Rattle.words.specs.Words.{put_words}
use Rattle.rounds.proofs.keyed.Given as goal

abbrev pub invariant-loop-j : goal.invariant-loop-j
invariant-loop-j g l = l.s ≡ put_words l.initial.s (g.row.C * l.b) l.j (λ j. xor (get_or l.x j 0) (get_or l.ks (l.at + j) 0))
