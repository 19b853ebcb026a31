use mathlib.Core.Path.{ap, subst, ◌∙◌}
use Prim.Native.Nat.{◌+◌, ◌%◌, ◌^◌}
use native.Mathlib.Omega.{arith}
use lib.ListN.{get_or}
use Rattle.blocks.proofs.Widths.{width_le}
use Rattle.key_laws.specs.Stores.{Lane}
use Rattle.key_laws.proofs.Loops.{lane_none, lane_more, lane_long}
use Rattle.even_keys.proofs.lane.Goals as goal

pub loop-j-init : goal.loop-j-init
loop-j-init c = (omega arith, lane_none c.args.kc c.args.k.now c.args.h.now c.args.w c.args.u c.args.g c.args.a.now c.args.s.now)

pub overflow_add-a : goal.overflow_add-a
overflow_add-a c = omega (arith, c.well_formed)

pub offset_bounds-a-w : goal.offset_bounds-a-w
offset_bounds-a-w c = omega (arith, c.well_formed)

pub bounds-a-w : goal.bounds-a-w
bounds-a-w c = omega (arith, c.loop-j.invariant.1.addends.long)

pub overflow_add-j : goal.overflow_add-j
overflow_add-j c = omega arith

pub around-requires : goal.around-requires
around-requires c = c.requires.0

pub offset_bounds-k-around : goal.offset_bounds-k-around
offset_bounds-k-around c = omega (arith, width_le c.args.kc c.requires.0, c.around.ensures.1)

pub bounds-k-around : goal.bounds-k-around
bounds-k-around c = omega (arith, c.around.ensures.1)

pub put_word-requires : goal.put_word-requires
put_word-requires c = omega (arith, lane_long c.loop-j.j c.args.kc c.args.k.now c.args.h.now c.args.w c.args.u c.args.g c.args.a.now c.loop-j.a c.args.s.now c.loop-j.s c.loop-j.invariant.1)

pub loop-j-preserved : goal.loop-j-preserved
loop-j-preserved c = (omega arith, lane_more c.loop-j.j c.args.kc c.args.k.now c.args.h.now c.args.w c.args.u c.args.g c.args.a.now c.loop-j.a c.args.s.now c.loop-j.s c.put_word.new.s c.added-x.result c.added.result c.loop-j.invariant.1 (omega arith) (c.added-x.ensures ∙ ap (λ x. (x + c.args.g) % 2 ^ 64) c.word_at.ensures) (c.added.ensures ∙ ap (λ n. (get_or c.args.k.now n 0 + c.added-x.result) % 2 ^ 64) c.around.ensures.0) c.put_word.ensures)

pub returns : goal.returns
returns c = subst (λ m. Lane m c.args.kc c.args.k.now c.args.h.now c.args.w c.args.u c.args.g c.args.a.now c.loop-j.a c.args.s.now c.loop-j.s) (omega arith) c.loop-j.invariant.1
