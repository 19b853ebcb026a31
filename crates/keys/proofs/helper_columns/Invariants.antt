use mathlib.Core.Path.{◌≡◌}
use Prim.Native.Nat.{◌≤◌}
use Rattle.words.specs.Words.{word_at}
use Rattle.key_laws.proofs.Filled.{up_to}
use Rattle.keys.proofs.helper_columns.Given as goal

abbrev pub invariant-loop-j : goal.invariant-loop-j
invariant-loop-j l = (l.j ≤ l.c) × (l.o ≡ up_to l.j (word_at l.h))
