use mathlib.Core.Path.{◌≡◌}
use Prim.Native.Nat.{◌+◌, ◌*◌, ◌≤◌}
use lib.ListN.{get_or}
use Rattle.field.specs.Column.{pack}
use Rattle.words.specs.Words.{put_words}
use Rattle.cells.proofs.load.Given as goal

abbrev pub invariant-loop-j : goal.invariant-loop-j
invariant-loop-j l = (l.j ≤ l.m) × (l.s ≡ put_words l.initial.s l.w l.j (λ j. pack 8 (λ i. get_or l.b (l.at + 8 * j + i) 0)))
