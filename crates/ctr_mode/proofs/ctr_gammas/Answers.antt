use Rattle.std.proofs.Common.{arith}
use Rattle.stream_laws.proofs.Modes as modes
use Rattle.sealer.specs.Sealing.{round_keys}
use Rattle.ctr_mode.proofs.ctr_gammas.Goals as goal

pub seal_bytes-requires : goal.seal_bytes-requires
seal_bytes-requires c = (c.requires.0, c.requires.1)

pub counters-requires : goal.counters-requires
counters-requires c = (omega (arith, c.seal_bytes.auto.e, c.requires.1), c.requires.2, c.args.sealer.now.width)

pub seal-requires : goal.seal-requires
seal-requires c = omega (arith, c.counters.ensures.long, c.requires.2)

pub returns : goal.returns
returns c = modes.counters_sealed c.args.sealer.now.columns c.args.sealer.now.rounds (round_keys c.args.sealer.now) c.args.n c.args.iv.now c.seal_bytes.new.e c.args.s.now c.counters.new.s c.seal.new.s c.seal_bytes.ensures c.counters.ensures c.seal.ensures
