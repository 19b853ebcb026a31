use mathlib.Core.Path.{◌≡◌}
use Prim.Native.Nat.{◌≤◌}
use lib.ListN.{get_or}
use Rattle.field.specs.Xor.{xor}
use Rattle.words.specs.Words.{word_at, put_words}
use Rattle.even_keys.proofs.xor_lanes.Given as goal

abbrev pub invariant-loop-j : goal.invariant-loop-j
invariant-loop-j l = (l.j ≤ l.m) × (l.s ≡ put_words l.initial.s 0 l.j (λ j. xor (word_at l.initial.s j) (get_or l.a j 0)))
