use mathlib.Core.Path.{refl, ap, ◌∙◌}
use native.Mathlib.Omega.{arith}
use lib.ListN.{take, drop}
use lib.Seq.{take_at}
use Rattle.kalyna.proofs.Bytes.{seal_bytes_bytes}
use Rattle.chains.proofs.Laws.{given}
use Rattle.tags.proofs.Laws.{zero_held, last_room, mac_is}
use Rattle.sealer.specs.Sealing.{block_size, round_keys, sealed_by}
use Rattle.sealer.proofs.Sizes.{columns_le, size_pos}
use Rattle.tags.proofs.mac.Goals as goal

pub nonzero_div-q : goal.nonzero_div-q
nonzero_div-q c = omega (arith, size_pos c.args.sealer.now)

pub chain-requires : goal.chain-requires
chain-requires c = (omega (arith, columns_le c.args.sealer.now), last_room (block_size c.args.sealer.now) c.args.text.now (size_pos c.args.sealer.now) c.requires.0)

pub overflow_mul-q-2 : goal.overflow_mul-q-2
overflow_mul-q-2 c = omega (arith, c.well_formed, last_room (block_size c.args.sealer.now) c.args.text.now (size_pos c.args.sealer.now) c.requires.0)

pub add_last-requires : goal.add_last-requires
add_last-requires c = (c.args.sealer.now.width, omega (arith, columns_le c.args.sealer.now, c.chain.auto.s), c.requires.0, refl)

pub mask_number-requires : goal.mask_number-requires
mask_number-requires c = size_pos c.args.sealer.now

pub mask-requires : goal.mask-requires
mask-requires c = (c.mask_number.ensures.1, omega (arith, columns_le c.args.sealer.now))

pub add_in-requires : goal.add_in-requires
add_in-requires c = (omega (arith, columns_le c.args.sealer.now, c.chain.auto.s, c.add_last.auto.s), omega (arith, columns_le c.args.sealer.now, c.mask.auto.m))

pub seal_first-requires : goal.seal_first-requires
seal_first-requires c = omega (arith, columns_le c.args.sealer.now, c.chain.auto.s, c.add_last.auto.s, c.add_in.auto.s)

pub give_out-requires : goal.give_out-requires
give_out-requires c = (omega (arith, columns_le c.args.sealer.now, c.chain.auto.s, c.add_last.auto.s, c.add_in.auto.s, c.seal_first.auto.s), omega (arith, c.requires.1))

pub returns : goal.returns
returns c = given (block_size c.args.sealer.now) _ _ c.args.out.now _ c.give_out.ensures (mac_is (block_size c.args.sealer.now) c.args.text.now (size_pos c.args.sealer.now) c.requires.0 (sealed_by c.args.sealer.now) _ _ _ _ _ _ _ (zero_held c.args.sealer.now.columns c.args.sealer.now.width) c.chain.ensures c.add_last.ensures c.mask_number.ensures.0 (ap (λ x. take (block_size c.args.sealer.now) (drop 0 x)) c.mask.ensures ∙ take_at _ _ (block_size c.args.sealer.now) (seal_bytes_bytes c.args.sealer.now.columns c.args.sealer.now.rounds (round_keys c.args.sealer.now) _).long) c.add_in.ensures c.seal_first.ensures)
