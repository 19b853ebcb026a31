use Rattle.std.proofs.Common.{◌+◌, ◌*◌, ◌≤◌, length, sym, subst, arith}
use Rattle.stream_laws.specs.Gammas.{Laid}
use Rattle.stream_laws.proofs.Widths as widths
use Rattle.stream_laws.proofs.Modes as modes
use Rattle.kalyna.specs.State.{columns_of}
use Rattle.modes.specs.Blocks as Text
use Rattle.modes.specs.Stream.{counter}
use Rattle.sealer.specs.Sealing.{block_size, round_keys, sealed, sealed_by}
use Rattle.sealer.proofs.Sizes.{columns_pos, columns_le}
use Rattle.ctr_mode.proofs.ctr.Goals as goal

pub ctr_gammas-requires : goal.ctr_gammas-requires
ctr_gammas-requires c = (c.requires.0, omega (arith, columns_pos c.args.sealer.now, columns_le c.args.sealer.now), subst (λ n. 4 * (c.args.sealer.now.columns * n) ≤ 512) (sym c.blocks_of.ensures) (widths.blocks_fit (length c.args.text.now) c.args.sealer.now.columns c.args.sealer.now.width c.requires.1))

pub add_front-requires : goal.add_front-requires
add_front-requires c = (omega (arith, c.ctr_gammas.ensures.long, c.requires.1), omega (arith, c.ctr_gammas.ensures.long), omega arith, omega (arith, c.requires.2))

pub returns : goal.returns
returns c = modes.ctr_is c.args.sealer.now.columns c.args.sealer.now.rounds (round_keys c.args.sealer.now) c.args.iv.now c.args.text.now _ c.ctr_gammas.new.s c.args.out.now c.add_front.new.out c.args.sealer.now.width (subst (λ n. Laid c.args.sealer.now.columns n (λ i. sealed c.args.sealer.now (columns_of c.args.sealer.now.columns (Text.block_of (block_size c.args.sealer.now) (counter (block_size c.args.sealer.now) (sealed_by c.args.sealer.now c.args.iv.now) (i + 1))))) _ c.ctr_gammas.new.s) c.blocks_of.ensures c.ctr_gammas.ensures) c.requires.2 c.add_front.ensures
