use mathlib.Core.Path.{subst}
use Prim.Native.Nat.{◌+◌, ◌/◌, ◌%◌}
use native.Mathlib.Omega.{arith}
use lib.ListN.{get_or}
use Rattle.blocks.proofs.Widths.{width_le}
use Rattle.key_laws.specs.Stores.{Stored}
use Rattle.key_laws.specs.Turns.{odd_word}
use Rattle.key_laws.proofs.Stores.{stored_none}
use Rattle.key_laws.proofs.Loops.{odd_turn_lem}
use Rattle.odd_keys.proofs.odd_key.Goals as goal

pub loop-j-init : goal.loop-j-init
loop-j-init c = (omega arith, stored_none (c.args.at + c.args.c) (λ j. odd_word c.args.c (get_or c.args.ks.now (c.args.at + (j + c.args.c / 4) % c.args.c) 0) (get_or c.args.ks.now (c.args.at + (j + c.args.c / 4 + 1) % c.args.c) 0)) c.args.ks.now)

pub overflow_add-j : goal.overflow_add-j
overflow_add-j c = omega (arith, width_le c.args.c c.requires.0)

pub around-requires : goal.around-requires
around-requires c = c.requires.0

pub overflow_add-x : goal.overflow_add-x
overflow_add-x c = omega (arith, c.well_formed, c.around.ensures.1)

pub offset_bounds-ks-at : goal.offset_bounds-ks-at
offset_bounds-ks-at c = omega (arith, c.well_formed, c.around.ensures.1)

pub bounds-ks-at : goal.bounds-ks-at
bounds-ks-at c = omega (arith, c.loop-j.invariant.1.long, c.around.ensures.1)

pub overflow_add-j-in-loop-j : goal.overflow_add-j-in-loop-j
overflow_add-j-in-loop-j c = omega (arith, width_le c.args.c c.requires.0)

pub overflow_add-j-in-loop-j-2 : goal.overflow_add-j-in-loop-j-2
overflow_add-j-in-loop-j-2 c = omega (arith, width_le c.args.c c.requires.0)

pub around-requires-in-loop-j : goal.around-requires-in-loop-j
around-requires-in-loop-j c = c.requires.0

pub overflow_add-y : goal.overflow_add-y
overflow_add-y c = omega (arith, c.well_formed, c.around-in-loop-j.ensures.1)

pub offset_bounds-ks-at-in-loop-j : goal.offset_bounds-ks-at-in-loop-j
offset_bounds-ks-at-in-loop-j c = omega (arith, c.well_formed, c.around-in-loop-j.ensures.1)

pub bounds-ks-at-in-loop-j : goal.bounds-ks-at-in-loop-j
bounds-ks-at-in-loop-j c = omega (arith, c.loop-j.invariant.1.long, c.around-in-loop-j.ensures.1)

pub overflow_add-ks : goal.overflow_add-ks
overflow_add-ks c = omega (arith, c.well_formed)

pub overflow_add-ks-in-loop-j : goal.overflow_add-ks-in-loop-j
overflow_add-ks-in-loop-j c = omega (arith, c.well_formed)

pub offset_bounds-ks-at-in-loop-j-2 : goal.offset_bounds-ks-at-in-loop-j-2
offset_bounds-ks-at-in-loop-j-2 c = omega (arith, c.well_formed)

pub bounds-ks-at-in-loop-j-2 : goal.bounds-ks-at-in-loop-j-2
bounds-ks-at-in-loop-j-2 c = omega (arith, c.loop-j.invariant.1.long)

pub loop-j-preserved : goal.loop-j-preserved
loop-j-preserved c = (omega arith, odd_turn_lem c.args.c c.args.at c.loop-j.j c.around.result c.around-in-loop-j.result c.odd_word.result c.args.ks.now c.loop-j.ks c.loop-j.invariant.1 (omega arith) c.requires.1 c.around.ensures.0 c.around-in-loop-j.ensures.0 c.odd_word.ensures)

pub returns : goal.returns
returns c = subst (λ m. Stored (c.args.at + c.args.c) m (λ j. odd_word c.args.c (get_or c.args.ks.now (c.args.at + (j + c.args.c / 4) % c.args.c) 0) (get_or c.args.ks.now (c.args.at + (j + c.args.c / 4 + 1) % c.args.c) 0)) c.args.ks.now c.loop-j.ks) (omega arith) c.loop-j.invariant.1
