use Prim.Native.Nat.{◌+◌, ◌%◌, ◌^◌, ◌≤◌}
use lib.ListN.{get_or}
use Rattle.words.specs.Words.{word_at}
use Rattle.key_laws.specs.Stores.{Stored}
use Rattle.even_keys.proofs.keep.Given as goal

abbrev pub invariant-loop-j : goal.invariant-loop-j
invariant-loop-j l = (l.j ≤ l.c) × Stored l.at l.j (λ j. (word_at l.s (l.w + j) + get_or l.a (l.w + j) 0) % 2 ^ 64) l.initial.ks l.ks
