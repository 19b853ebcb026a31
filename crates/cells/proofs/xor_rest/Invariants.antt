use Prim.Native.Nat.{◌+◌, ◌/◌, ◌%◌, ◌≤◌}
use lib.ListN.{get_or}
use Rattle.common.proofs.Runs.{Run}
use Rattle.field.specs.Xor.{xor}
use Rattle.field.specs.Column.{byte_of}
use Rattle.words.specs.Words.{word_at}
use Rattle.cells.proofs.xor_rest.Given as goal

abbrev pub invariant-loop-i : goal.invariant-loop-i
invariant-loop-i l = (l.i ≤ l.n) × Run (λ i. xor (get_or l.b (l.at + i) 0) (byte_of (word_at l.s ((l.k + i) / 8)) ((l.k + i) % 8))) l.at l.initial.o l.i l.o
