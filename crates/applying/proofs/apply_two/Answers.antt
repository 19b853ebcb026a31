use native.Mathlib.Omega.{arith}
use mathlib.Core.Path.{refl}
use Prim.Native.Nat.{◌+◌}
use Rattle.applying.proofs.Loading.{part_lent, fits_slot, left_at, under, as_left}
use Rattle.applying.proofs.Dispatch.{two_led}
use Rattle.applying.proofs.apply_two.Goals as goal

pub leave-requires : goal.leave-requires
leave-requires c = (under _ _ (fits_slot c.call_two-t.result c.call_two-t.new.out _ (two_led c.args.k c.args.o c.args.work.now _ c.call_two-t.new.out c.call_two-t.result (λ i. omega (arith, c.slice_known-1.given i)) refl _ _ c.args.la c.args.lb c.requires.1 c.requires.2 (part_lent c.args.work.now c.args.o c.args.la) (part_lent c.args.work.now (c.args.o + 1024) c.args.lb) c.call_two-t.ensures)) c.call_two-t.auto.out, omega (arith, fits_slot c.call_two-t.result c.call_two-t.new.out _ (two_led c.args.k c.args.o c.args.work.now _ c.call_two-t.new.out c.call_two-t.result (λ i. omega (arith, c.slice_known-1.given i)) refl _ _ c.args.la c.args.lb c.requires.1 c.requires.2 (part_lent c.args.work.now c.args.o c.args.la) (part_lent c.args.work.now (c.args.o + 1024) c.args.lb) c.call_two-t.ensures), c.requires.0))

pub returns : goal.returns
returns c = as_left _ c.args.o c.leave.result c.call_two-t.result c.args.work.now _ _ c.leave.ensures.0 c.leave.ensures.1 (left_at c.call_two-t.result c.call_two-t.new.out _ c.args.o c.args.work.now (two_led c.args.k c.args.o c.args.work.now _ c.call_two-t.new.out c.call_two-t.result (λ i. omega (arith, c.slice_known-1.given i)) refl _ _ c.args.la c.args.lb c.requires.1 c.requires.2 (part_lent c.args.work.now c.args.o c.args.la) (part_lent c.args.work.now (c.args.o + 1024) c.args.lb) c.call_two-t.ensures) c.call_two-t.auto.out (omega (arith, c.requires.0)))
