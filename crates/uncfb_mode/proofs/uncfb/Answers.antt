use mathlib.Core.Path.{refl, sym, subst}
use Prim.Native.Nat.{◌-◌, ◌*◌, ◌/◌, ◌≤◌, ◌<◌}
use native.Mathlib.Omega.{arith}
use lib.ListN.{length}
use Rattle.stream_laws.specs.Gammas.{Laid}
use Rattle.stream_laws.proofs.Widths as widths
use Rattle.stream_laws.proofs.Ends as ends
use Rattle.kalyna.specs.State.{columns_of}
use Rattle.modes.specs.Blocks as Text
use Rattle.sealer.specs.Sealing.{block_size, round_keys, sealed}
use Rattle.sealer.proofs.Sizes.{columns_pos, columns_le}
use Rattle.uncfb_mode.proofs.uncfb.Goals as goal

pub uncfb_gammas-requires : goal.uncfb_gammas-requires
uncfb_gammas-requires c = (c.requires.0, subst (λ n. 0 < n) (sym c.blocks_of.ensures) (widths.blocks_whole (length c.args.text.now) c.args.sealer.now.columns c.args.sealer.now.width c.requires.3).0, subst (λ n. (n - 1) * (block_size c.args.sealer.now) ≤ (length c.args.text.now)) (sym c.blocks_of.ensures) (widths.blocks_whole (length c.args.text.now) c.args.sealer.now.columns c.args.sealer.now.width c.requires.3).1, subst (λ n. 4 * (c.args.sealer.now.columns * n) ≤ 512) (sym c.blocks_of.ensures) (widths.blocks_fit (length c.args.text.now) c.args.sealer.now.columns c.args.sealer.now.width c.requires.1))

pub overflow_mul-at : goal.overflow_mul-at
overflow_mul-at c = omega (arith, widths.whole_le (length c.args.text.now) (block_size c.args.sealer.now), c.requires.1)

pub add_front-requires : goal.add_front-requires
add_front-requires c = (omega (arith, c.uncfb_gammas.ensures.long, widths.whole_le (length c.args.text.now) (block_size c.args.sealer.now), c.requires.1), omega (arith, c.uncfb_gammas.ensures.long), omega (arith, widths.whole_le (length c.args.text.now) (block_size c.args.sealer.now)), omega (arith, widths.whole_le (length c.args.text.now) (block_size c.args.sealer.now), c.requires.2))

pub returns-then-at-long : goal.returns-then-at-long
returns-then-at-long c = ends.uncfb_whole_is c.args.sealer.now.columns c.args.sealer.now.rounds (round_keys c.args.sealer.now) c.args.iv.now c.args.text.now ((length c.args.text.now) / (block_size c.args.sealer.now)) _ c.uncfb_gammas.new.s c.args.out.now c.add_front.new.out c.args.sealer.now.width refl c.if-at-long.true c.requires.2 (subst (λ n. Laid c.args.sealer.now.columns n (λ i. sealed c.args.sealer.now (columns_of c.args.sealer.now.columns (Text.before (block_size c.args.sealer.now) c.args.iv.now c.args.text.now i))) _ c.uncfb_gammas.new.s) c.blocks_of.ensures c.uncfb_gammas.ensures) c.add_front.ensures

pub overflow_sub-r : goal.overflow_sub-r
overflow_sub-r c = omega (arith, widths.whole_le (length c.args.text.now) (block_size c.args.sealer.now))

pub overflow_sub-b : goal.overflow_sub-b
overflow_sub-b c = omega (arith, widths.rest_lt (length c.args.text.now) (block_size c.args.sealer.now) (omega (arith, columns_pos c.args.sealer.now, columns_le c.args.sealer.now)))

pub overflow_add-at : goal.overflow_add-at
overflow_add-at c = omega (arith, widths.whole_le (length c.args.text.now) (block_size c.args.sealer.now), c.requires.1, columns_pos c.args.sealer.now, columns_le c.args.sealer.now)

pub xor_rest-requires : goal.xor_rest-requires
xor_rest-requires c = (omega (arith, c.uncfb_gammas.ensures.long, widths.rest_lt (length c.args.text.now) (block_size c.args.sealer.now) (omega (arith, columns_pos c.args.sealer.now, columns_le c.args.sealer.now)), widths.short_fit (length c.args.text.now) c.args.sealer.now.columns c.args.sealer.now.width c.requires.1 c.if-at-long.false), omega (arith, c.uncfb_gammas.ensures.long), omega (arith, widths.whole_le (length c.args.text.now) (block_size c.args.sealer.now)), omega (arith, widths.whole_le (length c.args.text.now) (block_size c.args.sealer.now), c.requires.2, c.add_front.auto.out))

pub returns : goal.returns
returns c = ends.uncfb_is c.args.sealer.now.columns c.args.sealer.now.rounds (round_keys c.args.sealer.now) c.args.iv.now c.args.text.now ((length c.args.text.now) / (block_size c.args.sealer.now)) _ c.uncfb_gammas.new.s c.args.out.now c.add_front.new.out c.xor_rest.new.o c.args.sealer.now.width refl c.if-at-long.false c.requires.2 (subst (λ n. Laid c.args.sealer.now.columns n (λ i. sealed c.args.sealer.now (columns_of c.args.sealer.now.columns (Text.before (block_size c.args.sealer.now) c.args.iv.now c.args.text.now i))) _ c.uncfb_gammas.new.s) c.blocks_of.ensures c.uncfb_gammas.ensures) c.add_front.ensures c.xor_rest.ensures
