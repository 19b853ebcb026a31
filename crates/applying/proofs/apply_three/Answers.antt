use native.Mathlib.Omega.{arith}
use mathlib.Core.Path.{refl}
use Prim.Native.Nat.{◌+◌}
use Rattle.applying.proofs.Loading.{part_lent, fits_slot, left_at, under, as_left}
use Rattle.applying.proofs.Dispatch.{three_led}
use Rattle.applying.proofs.apply_three.Goals as goal

pub leave-requires : goal.leave-requires
leave-requires c = (under _ _ (fits_slot c.call_three-t.result c.call_three-t.new.out _ (three_led c.args.k c.args.o c.args.work.now _ c.call_three-t.new.out c.call_three-t.result (λ i. omega (arith, c.slice_known-1.given i)) refl _ _ _ c.args.la c.args.lb c.args.lc c.requires.1 c.requires.2 c.requires.3 (part_lent c.args.work.now c.args.o c.args.la) (part_lent c.args.work.now (c.args.o + 1024) c.args.lb) (part_lent c.args.work.now (c.args.o + 2048) c.args.lc) c.call_three-t.ensures)) c.call_three-t.auto.out, omega (arith, fits_slot c.call_three-t.result c.call_three-t.new.out _ (three_led c.args.k c.args.o c.args.work.now _ c.call_three-t.new.out c.call_three-t.result (λ i. omega (arith, c.slice_known-1.given i)) refl _ _ _ c.args.la c.args.lb c.args.lc c.requires.1 c.requires.2 c.requires.3 (part_lent c.args.work.now c.args.o c.args.la) (part_lent c.args.work.now (c.args.o + 1024) c.args.lb) (part_lent c.args.work.now (c.args.o + 2048) c.args.lc) c.call_three-t.ensures), c.requires.0))

pub returns : goal.returns
returns c = as_left _ c.args.o c.leave.result c.call_three-t.result c.args.work.now _ _ c.leave.ensures.0 c.leave.ensures.1 (left_at c.call_three-t.result c.call_three-t.new.out _ c.args.o c.args.work.now (three_led c.args.k c.args.o c.args.work.now _ c.call_three-t.new.out c.call_three-t.result (λ i. omega (arith, c.slice_known-1.given i)) refl _ _ _ c.args.la c.args.lb c.args.lc c.requires.1 c.requires.2 c.requires.3 (part_lent c.args.work.now c.args.o c.args.la) (part_lent c.args.work.now (c.args.o + 1024) c.args.lb) (part_lent c.args.work.now (c.args.o + 2048) c.args.lc) c.call_three-t.ensures) c.call_three-t.auto.out (omega (arith, c.requires.0)))
