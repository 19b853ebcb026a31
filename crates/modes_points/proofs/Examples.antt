-- Examples of Annex В.3 to В.7, computed from the definitions.
use mathlib.Core.Path.{◌≡◌, refl, ap, ◌∙◌}
use mathlib.Core.List.{[], ◌∷◌}
use Prim.Native.Nat.{ℕ, suc, ◌+◌, ◌-◌}
use native.Mathlib.Omega.{arith}
use Rattle.common.specs.Choice.{pick}
use Rattle.common.specs.Places.{tab}
use Rattle.common.specs.Answer.{Value}
use Rattle.common.specs.Answer.Answer.{value}
use Rattle.field.specs.Xor.{xor}
use Rattle.field.specs.Field.{times, times_digits, double}
use Rattle.field.specs.Column.{byte_of, pack}
use Rattle.field.specs.Mixing.{product, xsum, coef}
use Rattle.substitutions.specs.Tables.{sub, unsub, tables, inverses, pi0, pi1, pi2, pi3, inv0, inv1, inv2, inv3}
use Rattle.kalyna.specs.State.{columns_of, bytes_of}
use Rattle.kalyna.specs.Round.{add_key, sub_key, xor_key, substitute, unsubstitute, from, to, shift, unshift, mix, unmix, ssm, unssm}
use Rattle.kalyna.specs.Block.{moves, rounds, seal, unrounds, unseal, seal_bytes, unseal_bytes}
use Rattle.kalyna.specs.Keys.{start_number, start, first_half, second_half, helper_from, helper, constant, turn_key, even_input, even_from, even_key, odd_turn, odd_key, round_key_with, round_key}
use Rattle.suites.specs.Suites.{suite, suite_of}
use Rattle.suites.specs.declared.Suite.{Suite}
use Rattle.modes.specs.Blocks.{block_at, xor_block, number_of, block_of, before}
use Rattle.modes.specs.Stream.{add_gamma, front, rear, counter, ctr_gamma, ctr, ofb_gamma, ofb, cfb_gamma, cfb, uncfb_gamma, uncfb}
use Rattle.modes.specs.Chain.{chained, cbc, uncbc}
use Rattle.modes.specs.Fill.{fill, marked, unfill_at, unfill_from, unfill}
use Rattle.modes.specs.Mac.{mac_text, mac_mask, mac_of, mac, same, chk}
use Rattle.modes.specs.Cell.{Call, call_of, side_of, shape_of, key_wrong, iv_wrong, text_empty, text_long, text_partial, tag_wrong, among, repeated, blocks_in, wraps, made, sealing, opening, checked, suited, cell, arranged, cell_of}
use Rattle.modes.proofs.Checks.{passed}
use Rattle.modes.proofs.Cell.{cell_known, ctr_makes}
use Rattle.modes_points.proofs.Sharing.{listed, grown, joined, added, gamma_shared, ofb_shared, chain_shared}
use Rattle.modes_points.proofs.Gamma.{up, down, first, second, third, ctr41_by}

-- В.3.1: a short last block takes the front of its gamma
ctr41 : cell_of 2 1 ((up 0x00 16) ∷ (up 0x10 16) ∷ (up 0x20 41) ∷ []) ≡ value (0xA9 ∷ 0x0A ∷ 0x6B ∷ 0x97 ∷ 0x80 ∷ 0xAB ∷ 0xDF ∷ 0xDF ∷ 0xF6 ∷ 0x4D ∷ 0x14 ∷ 0xF5 ∷ 0x43 ∷ 0x9E ∷ 0x88 ∷ 0xF2 ∷ 0x66 ∷ 0xDC ∷ 0x50 ∷ 0xED ∷ 0xD3 ∷ 0x41 ∷ 0x52 ∷ 0x8D ∷ 0xD5 ∷ 0xE6 ∷ 0x98 ∷ 0xE2 ∷ 0xF0 ∷ 0x00 ∷ 0xCE ∷ 0x21 ∷ 0xF8 ∷ 0x72 ∷ 0xDA ∷ 0xF9 ∷ 0xFE ∷ 0x18 ∷ 0x11 ∷ 0x84 ∷ 0x4A ∷ [])
unfolding up tab pick suite_of call_of side_of shape_of ctr arranged cell_of
ctr41 =
    cell_known Call.ctr 1 first (up 0x00 16) (up 0x10 16) (up 0x20 41) refl
    ∙ passed Call.ctr first (up 0x00 16) (up 0x10 16) (up 0x20 41)
    (record { key_fits = refl; iv_fits = refl; text_some = omega arith; text_short = omega arith; text_whole = tt; tag_fits = tt })
    ∙ ctr_makes 1 first (up 0x00 16) (up 0x10 16) (up 0x20 41) refl (omega arith)
    ∙ ap value (gamma_shared 3 16 (omega arith) (up 0x20 41) (omega arith) (ctr_gamma 16 (sealing first (up 0x00 16)) (up 0x10 16)) (front 16) ∙ ctr41_by)

-- В.7.3 (first 152 bits)
ofb19_by : added 16 (grown (λ i g. sealing second (up 0x00 32) g) (sealing second (up 0x00 32) (up 0x20 16)) 0 2) (front 16) (up 0x30 19) ≡ 0x68 ∷ 0xDD ∷ 0x0C ∷ 0x3A ∷ 0x24 ∷ 0x35 ∷ 0x23 ∷ 0xBD ∷ 0x29 ∷ 0x71 ∷ 0xCD ∷ 0x2D ∷ 0x53 ∷ 0x0E ∷ 0x71 ∷ 0x2B ∷ 0x2C ∷ 0x53 ∷ 0xBE ∷ []
unfolding tab pick columns_of bytes_of byte_of pack add_key sub_key xor_key substitute unsubstitute from to shift unshift mix unmix ssm unssm moves rounds seal unrounds unseal seal_bytes unseal_bytes start_number start first_half second_half helper_from helper constant turn_key even_input even_from even_key odd_turn odd_key round_key_with round_key product xsum coef times times_digits double xor sub unsub tables inverses pi0 pi1 pi2 pi3 inv0 inv1 inv2 inv3 suite_of block_at xor_block number_of block_of before add_gamma front rear counter ctr_gamma ctr ofb_gamma ofb cfb_gamma cfb uncfb_gamma uncfb chained cbc uncbc fill marked unfill_at unfill_from unfill mac_text mac_mask mac_of mac same chk call_of side_of shape_of key_wrong iv_wrong text_empty text_long text_partial tag_wrong among repeated blocks_in wraps made sealing opening checked suited cell arranged cell_of up down listed grown joined added
ofb19_by = refl

ofb19 : cell_of 3 2 ((up 0x00 32) ∷ (up 0x20 16) ∷ (up 0x30 19) ∷ []) ≡ value (0x68 ∷ 0xDD ∷ 0x0C ∷ 0x3A ∷ 0x24 ∷ 0x35 ∷ 0x23 ∷ 0xBD ∷ 0x29 ∷ 0x71 ∷ 0xCD ∷ 0x2D ∷ 0x53 ∷ 0x0E ∷ 0x71 ∷ 0x2B ∷ 0x2C ∷ 0x53 ∷ 0xBE ∷ [])
unfolding up down tab pick suite_of call_of side_of shape_of key_wrong iv_wrong text_empty text_long text_partial tag_wrong made checked suited cell arranged cell_of ofb
ofb19 = ap value (ofb_shared 2 16 (omega arith) (up 0x30 19) (omega arith) (sealing second (up 0x00 32)) (up 0x20 16) (front 16) ∙ ofb19_by)

-- В.4.6: a short last block takes the last bytes of its gamma
uncfb81_by : added 32 (listed 3 (uncfb_gamma 32 (sealing third (down 0x1F 32)) (down 0x3F 32) (down 0x9F 81))) (rear 32 81) (down 0x9F 81) ≡ 0x77 ∷ 0x58 ∷ 0xA9 ∷ 0x39 ∷ 0xDD ∷ 0x6B ∷ 0xD0 ∷ 0x0C ∷ 0xAF ∷ 0x91 ∷ 0x53 ∷ 0xE5 ∷ 0xA5 ∷ 0xD5 ∷ 0xA6 ∷ 0x61 ∷ 0x29 ∷ 0x10 ∷ 0x5C ∷ 0xA1 ∷ 0xEA ∷ 0x54 ∷ 0xA9 ∷ 0x7C ∷ 0x06 ∷ 0xFA ∷ 0x4A ∷ 0x40 ∷ 0x96 ∷ 0x0A ∷ 0x06 ∷ 0x8F ∷ 0x61 ∷ 0xC3 ∷ 0xE4 ∷ 0x24 ∷ 0xDE ∷ 0x95 ∷ 0x01 ∷ 0x51 ∷ 0xAC ∷ 0x46 ∷ 0x87 ∷ 0x9D ∷ 0x84 ∷ 0xA3 ∷ 0xBC ∷ 0xC2 ∷ 0x4E ∷ 0xC8 ∷ 0xFB ∷ 0x69 ∷ 0x00 ∷ 0x8D ∷ 0xAF ∷ 0x01 ∷ 0x6E ∷ 0xF9 ∷ 0x83 ∷ 0x2F ∷ 0xFD ∷ 0x3D ∷ 0xB3 ∷ 0x9D ∷ 0x02 ∷ 0x18 ∷ 0x5F ∷ 0xDB ∷ 0x78 ∷ 0x2D ∷ 0xC2 ∷ 0x8E ∷ 0xAC ∷ 0x27 ∷ 0xB3 ∷ 0x51 ∷ 0x79 ∷ 0xFC ∷ 0xA4 ∷ 0x06 ∷ 0x40 ∷ []
unfolding tab pick columns_of bytes_of byte_of pack add_key sub_key xor_key substitute unsubstitute from to shift unshift mix unmix ssm unssm moves rounds seal unrounds unseal seal_bytes unseal_bytes start_number start first_half second_half helper_from helper constant turn_key even_input even_from even_key odd_turn odd_key round_key_with round_key product xsum coef times times_digits double xor sub unsub tables inverses pi0 pi1 pi2 pi3 inv0 inv1 inv2 inv3 suite_of block_at xor_block number_of block_of before add_gamma front rear counter ctr_gamma ctr ofb_gamma ofb cfb_gamma cfb uncfb_gamma uncfb chained cbc uncbc fill marked unfill_at unfill_from unfill mac_text mac_mask mac_of mac same chk call_of side_of shape_of key_wrong iv_wrong text_empty text_long text_partial tag_wrong among repeated blocks_in wraps made sealing opening checked suited cell arranged cell_of up down listed grown joined added
uncfb81_by = refl

uncfb81 : cell_of 5 3 ((down 0x1F 32) ∷ (down 0x3F 32) ∷ (down 0x9F 81) ∷ []) ≡ value (0x77 ∷ 0x58 ∷ 0xA9 ∷ 0x39 ∷ 0xDD ∷ 0x6B ∷ 0xD0 ∷ 0x0C ∷ 0xAF ∷ 0x91 ∷ 0x53 ∷ 0xE5 ∷ 0xA5 ∷ 0xD5 ∷ 0xA6 ∷ 0x61 ∷ 0x29 ∷ 0x10 ∷ 0x5C ∷ 0xA1 ∷ 0xEA ∷ 0x54 ∷ 0xA9 ∷ 0x7C ∷ 0x06 ∷ 0xFA ∷ 0x4A ∷ 0x40 ∷ 0x96 ∷ 0x0A ∷ 0x06 ∷ 0x8F ∷ 0x61 ∷ 0xC3 ∷ 0xE4 ∷ 0x24 ∷ 0xDE ∷ 0x95 ∷ 0x01 ∷ 0x51 ∷ 0xAC ∷ 0x46 ∷ 0x87 ∷ 0x9D ∷ 0x84 ∷ 0xA3 ∷ 0xBC ∷ 0xC2 ∷ 0x4E ∷ 0xC8 ∷ 0xFB ∷ 0x69 ∷ 0x00 ∷ 0x8D ∷ 0xAF ∷ 0x01 ∷ 0x6E ∷ 0xF9 ∷ 0x83 ∷ 0x2F ∷ 0xFD ∷ 0x3D ∷ 0xB3 ∷ 0x9D ∷ 0x02 ∷ 0x18 ∷ 0x5F ∷ 0xDB ∷ 0x78 ∷ 0x2D ∷ 0xC2 ∷ 0x8E ∷ 0xAC ∷ 0x27 ∷ 0xB3 ∷ 0x51 ∷ 0x79 ∷ 0xFC ∷ 0xA4 ∷ 0x06 ∷ 0x40 ∷ [])
unfolding up down tab pick suite_of call_of side_of shape_of key_wrong iv_wrong text_empty text_long text_partial tag_wrong made checked suited cell arranged cell_of uncfb
uncfb81 = ap value (gamma_shared 3 32 (omega arith) (down 0x9F 81) (omega arith) (uncfb_gamma 32 (sealing third (down 0x1F 32)) (down 0x3F 32) (down 0x9F 81)) (rear 32 81) ∙ uncfb81_by)

-- В.6.3: with the fill
cbp46_by : joined 16 48 (grown (λ i c. sealing second (up 0x00 32) (xor_block 16 c (block_at 16 (fill 16 (up 0x30 46)) (suc i)))) (sealing second (up 0x00 32) (xor_block 16 (up 0x20 16) (block_at 16 (fill 16 (up 0x30 46)) 0))) 0 3) ≡ 0x13 ∷ 0xEA ∷ 0x15 ∷ 0x84 ∷ 0x3A ∷ 0xD1 ∷ 0x4C ∷ 0x50 ∷ 0xBC ∷ 0x03 ∷ 0xEC ∷ 0xEF ∷ 0x1F ∷ 0x43 ∷ 0xE3 ∷ 0x98 ∷ 0xE4 ∷ 0x21 ∷ 0x77 ∷ 0x52 ∷ 0xD3 ∷ 0xEB ∷ 0x04 ∷ 0x6A ∷ 0xC3 ∷ 0x93 ∷ 0xDA ∷ 0xCC ∷ 0x5C ∷ 0xA1 ∷ 0xD6 ∷ 0xFA ∷ 0x0E ∷ 0xB9 ∷ 0xFC ∷ 0xEB ∷ 0x22 ∷ 0x93 ∷ 0x62 ∷ 0xB4 ∷ 0xF1 ∷ 0x56 ∷ 0x55 ∷ 0x27 ∷ 0xEE ∷ 0x3D ∷ 0x84 ∷ 0x33 ∷ []
unfolding tab pick columns_of bytes_of byte_of pack add_key sub_key xor_key substitute unsubstitute from to shift unshift mix unmix ssm unssm moves rounds seal unrounds unseal seal_bytes unseal_bytes start_number start first_half second_half helper_from helper constant turn_key even_input even_from even_key odd_turn odd_key round_key_with round_key product xsum coef times times_digits double xor sub unsub tables inverses pi0 pi1 pi2 pi3 inv0 inv1 inv2 inv3 suite_of block_at xor_block number_of block_of before add_gamma front rear counter ctr_gamma ctr ofb_gamma ofb cfb_gamma cfb uncfb_gamma uncfb chained cbc uncbc fill marked unfill_at unfill_from unfill mac_text mac_mask mac_of mac same chk call_of side_of shape_of key_wrong iv_wrong text_empty text_long text_partial tag_wrong among repeated blocks_in wraps made sealing opening checked suited cell arranged cell_of up down listed grown joined added
cbp46_by = refl

cbp46 : cell_of 8 2 ((up 0x00 32) ∷ (up 0x20 16) ∷ (up 0x30 46) ∷ []) ≡ value (0x13 ∷ 0xEA ∷ 0x15 ∷ 0x84 ∷ 0x3A ∷ 0xD1 ∷ 0x4C ∷ 0x50 ∷ 0xBC ∷ 0x03 ∷ 0xEC ∷ 0xEF ∷ 0x1F ∷ 0x43 ∷ 0xE3 ∷ 0x98 ∷ 0xE4 ∷ 0x21 ∷ 0x77 ∷ 0x52 ∷ 0xD3 ∷ 0xEB ∷ 0x04 ∷ 0x6A ∷ 0xC3 ∷ 0x93 ∷ 0xDA ∷ 0xCC ∷ 0x5C ∷ 0xA1 ∷ 0xD6 ∷ 0xFA ∷ 0x0E ∷ 0xB9 ∷ 0xFC ∷ 0xEB ∷ 0x22 ∷ 0x93 ∷ 0x62 ∷ 0xB4 ∷ 0xF1 ∷ 0x56 ∷ 0x55 ∷ 0x27 ∷ 0xEE ∷ 0x3D ∷ 0x84 ∷ 0x33 ∷ [])
unfolding up down tab pick suite_of call_of side_of shape_of key_wrong iv_wrong text_empty text_long text_partial tag_wrong made checked suited cell arranged cell_of fill
cbp46 = ap value (chain_shared 3 16 (omega arith) (fill 16 (up 0x30 46)) (omega arith) (sealing second (up 0x00 32)) (up 0x20 16) ∙ cbp46_by)

-- В.5.1: the mask of whole blocks
mac48 : cell_of 10 1 ((up 0x00 16) ∷ (up 0x20 48) ∷ []) ≡ value (0x12 ∷ 0x3B ∷ 0x4E ∷ 0xAB ∷ 0x8E ∷ 0x63 ∷ 0xEC ∷ 0xF3 ∷ 0xE6 ∷ 0x45 ∷ 0xA9 ∷ 0x9C ∷ 0x11 ∷ 0x15 ∷ 0xE2 ∷ 0x41 ∷ [])
unfolding tab pick columns_of bytes_of byte_of pack add_key sub_key xor_key substitute unsubstitute from to shift unshift mix unmix ssm unssm moves rounds seal unrounds unseal seal_bytes unseal_bytes start_number start first_half second_half helper_from helper constant turn_key even_input even_from even_key odd_turn odd_key round_key_with round_key product xsum coef times times_digits double xor sub unsub tables inverses pi0 pi1 pi2 pi3 inv0 inv1 inv2 inv3 suite_of block_at xor_block number_of block_of before add_gamma front rear counter ctr_gamma ctr ofb_gamma ofb cfb_gamma cfb uncfb_gamma uncfb chained cbc uncbc fill marked unfill_at unfill_from unfill mac_text mac_mask mac_of mac same chk call_of side_of shape_of key_wrong iv_wrong text_empty text_long text_partial tag_wrong among repeated blocks_in wraps made sealing opening checked suited cell arranged cell_of up down
mac48 = refl

-- В.5.2: the mask after a fill
mac94 : cell_of 10 2 ((up 0x00 32) ∷ (up 0x30 94) ∷ []) ≡ value (0x4C ∷ 0xF5 ∷ 0x2D ∷ 0x7D ∷ 0x5B ∷ 0x0C ∷ 0x47 ∷ 0xF0 ∷ 0x5F ∷ 0x6F ∷ 0x5F ∷ 0x5E ∷ 0x73 ∷ 0xC3 ∷ 0xB5 ∷ 0x08 ∷ [])
unfolding tab pick columns_of bytes_of byte_of pack add_key sub_key xor_key substitute unsubstitute from to shift unshift mix unmix ssm unssm moves rounds seal unrounds unseal seal_bytes unseal_bytes start_number start first_half second_half helper_from helper constant turn_key even_input even_from even_key odd_turn odd_key round_key_with round_key product xsum coef times times_digits double xor sub unsub tables inverses pi0 pi1 pi2 pi3 inv0 inv1 inv2 inv3 suite_of block_at xor_block number_of block_of before add_gamma front rear counter ctr_gamma ctr ofb_gamma ofb cfb_gamma cfb uncfb_gamma uncfb chained cbc uncbc fill marked unfill_at unfill_from unfill mac_text mac_mask mac_of mac same chk call_of side_of shape_of key_wrong iv_wrong text_empty text_long text_partial tag_wrong among repeated blocks_in wraps made sealing opening checked suited cell arranged cell_of up down
mac94 = refl
