use mathlib.Core.Path.{◌≡◌}
use Prim.Native.Nat.{◌*◌, ◌%◌, ◌^◌}
use lib.ListN.{length}
use Rattle.words.specs.Words.{block_at}
use Rattle.key_laws.specs.Stores.{Lanes}
use Rattle.even_keys.proofs.lanes.Given as goal

abbrev pub invariant-loop-i : goal.invariant-loop-i
invariant-loop-i l = (l.g ≡ 281479271743489 * 2 ^ l.i % 2 ^ 64) × (length l.s ≡ length l.initial.s) × (length l.a ≡ length l.initial.a) × Lanes l.c l.kc l.i l.k (block_at l.c l.h 0) l.a l.s
