use Prim.Native.Nat.{◌+◌, ◌/◌, ◌%◌, ◌≤◌}
use lib.ListN.{get_or}
use Rattle.key_laws.specs.Stores.{Stored}
use Rattle.key_laws.specs.Turns.{odd_word}
use Rattle.odd_keys.proofs.odd_key.Given as goal

abbrev pub invariant-loop-j : goal.invariant-loop-j
invariant-loop-j l = (l.j ≤ l.c) × Stored (l.at + l.c) l.j (λ j. odd_word l.c (get_or l.initial.ks (l.at + (j + l.c / 4) % l.c) 0) (get_or l.initial.ks (l.at + (j + l.c / 4 + 1) % l.c) 0)) l.initial.ks l.ks
