use mathlib.Core.Path.{subst}
use Prim.Native.Nat.{◌*◌}
use native.Mathlib.Omega.{arith}
use Rattle.common.proofs.Places.{length_tab}
use Rattle.common.proofs.Runs.{Run, run_none, run_sets, run_whole}
use Rattle.cells.proofs.Laws.{byte, eight_stored, eight_more}
use Rattle.cells.proofs.store.Goals as goal

pub loop-j-init : goal.loop-j-init
loop-j-init c = (omega arith, run_none (byte c.args.s.now c.args.w) c.args.at c.args.o.now)

pub put_bytes-requires : goal.put_bytes-requires
put_bytes-requires c = omega (arith, c.loop-j.invariant.1.long, c.requires)

pub loop-j-preserved : goal.loop-j-preserved
loop-j-preserved c = (omega arith, subst (λ n. Run (byte c.args.s.now c.args.w) c.args.at c.args.o.now n c.put_bytes.new.o) (eight_more c.loop-j.j) (run_sets (byte c.args.s.now c.args.w) c.args.at c.args.o.now (8 * c.loop-j.j) 8 c.loop-j.o c.put_bytes.new.o _ c.loop-j.invariant.1 (omega (arith, c.requires)) (length_tab 8 _) (eight_stored c.args.s.now c.args.w c.loop-j.j _ c.word_at.ensures) c.put_bytes.ensures))

pub returns : goal.returns
returns c = run_whole (byte c.args.s.now c.args.w) c.args.at c.args.o.now (8 * c.args.m) c.loop-j.o (subst (λ n. Run (byte c.args.s.now c.args.w) c.args.at c.args.o.now n c.loop-j.o) (omega arith) c.loop-j.invariant.1)
