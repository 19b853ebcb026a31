use Prim.Native.Nat.{◌*◌}
use Rattle.kalyna.specs.Keys.{odd_key}
use Rattle.blocks.specs.Blocks.{keys_of}
use Rattle.key_laws.specs.Stores.{Spread}
use Rattle.odd_keys.proofs.odd_keys.Given as goal

abbrev pub invariant-loop-i : goal.invariant-loop-i
invariant-loop-i l = Spread l.c 1 l.i (λ e. odd_key l.c (keys_of l.c l.initial.ks (2 * e))) l.initial.ks l.ks
