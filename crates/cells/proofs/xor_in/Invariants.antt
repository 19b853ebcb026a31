use mathlib.Core.Path.{◌≡◌}
use Prim.Native.Nat.{◌+◌, ◌*◌, ◌≤◌}
use lib.ListN.{get_or}
use Rattle.field.specs.Xor.{xor}
use Rattle.field.specs.Column.{pack}
use Rattle.words.specs.Words.{word_at, put_words}
use Rattle.cells.proofs.xor_in.Given as goal

abbrev pub invariant-loop-j : goal.invariant-loop-j
invariant-loop-j l = (l.j ≤ l.m) × (l.s ≡ put_words l.initial.s l.w l.j (λ j. xor (word_at l.initial.s (l.w + j)) (pack 8 (λ i. get_or l.b (l.at + 8 * j + i) 0))))
