use Rattle.std.proofs.Common.{arith}
use Rattle.stream_laws.proofs.Modes as modes
use Rattle.sealer.specs.Sealing.{sealed}
use Rattle.ctr_mode.proofs.seal_bytes.Goals as goal

pub returns : goal.returns
returns c = modes.loaded_walked c.args.sealer.now.columns (sealed c.args.sealer.now) c.args.e.now c.load.new.s c.seal.new.s c.args.b.now (λ n. omega (arith, c.type_inv.b n)) c.requires.1 c.load.ensures c.seal.ensures
