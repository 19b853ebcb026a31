use Prim.Native.Nat.{◌-◌}
use native.Mathlib.Omega.{arith}
use Rattle.stream_laws.proofs.Cells as cells
use Rattle.stream_laws.proofs.Widths as widths
use Rattle.stream_laws.proofs.Modes as modes
use Rattle.kalyna.specs.State.{columns_of}
use Rattle.modes.specs.Blocks as Text
use Rattle.sealer.specs.Sealing.{block_size, sealed}
use Rattle.uncfb_mode.proofs.uncfb_gammas.Goals as goal

pub load-requires : goal.load-requires
load-requires c = (omega (arith, c.requires.1, c.requires.3, widths.next_block c.args.sealer.now.columns 0 c.args.n c.requires.1), omega (arith, c.requires.0))

pub overflow_mul-c : goal.overflow_mul-c
overflow_mul-c c = omega (arith, c.well_formed, c.requires.2, widths.bytes_columns c.args.sealer.now.columns (c.args.n - 1))

pub load-requires-2 : goal.load-requires-2
load-requires-2 c = (omega (arith, c.load.auto.s, c.requires.1, c.requires.3, widths.room c.args.sealer.now.columns c.args.n c.requires.1), omega (arith, c.requires.2, widths.bytes_columns c.args.sealer.now.columns (c.args.n - 1)))

pub seal-requires : goal.seal-requires
seal-requires c = omega (arith, c.load.auto.s, c.load-2.auto.s, c.requires.3)

pub returns : goal.returns
returns c = cells.laid_walked c.args.sealer.now.columns c.args.n (λ i. columns_of c.args.sealer.now.columns (Text.before (block_size c.args.sealer.now) c.args.iv.now c.args.text.now i)) (sealed c.args.sealer.now) c.args.s.now c.load-2.new.s c.seal.new.s (modes.befores_loaded c.args.sealer.now.columns c.args.n c.args.iv.now c.args.text.now c.args.s.now c.load.new.s c.load-2.new.s (λ n. omega (arith, c.type_inv.iv n)) (λ n. omega (arith, c.type_inv.text n)) c.requires.1 c.requires.3 c.load.ensures c.load-2.ensures (omega (arith, c.load.auto.s)) (omega (arith, c.load.auto.s, c.load-2.auto.s))) c.seal.ensures
