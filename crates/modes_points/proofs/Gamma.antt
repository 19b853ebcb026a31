-- What the examples are computed from, and the gamma of a short last block.
use mathlib.Core.Path.{◌≡◌, refl}
use mathlib.Core.List.{List, [], ◌∷◌}
use Prim.Native.Nat.{ℕ, suc, ◌+◌, ◌-◌}
use Rattle.common.specs.Choice.{pick}
use Rattle.common.specs.Places.{tab}
use Rattle.common.specs.Answer.{Value}
use Rattle.field.specs.Xor.{xor}
use Rattle.field.specs.Field.{times, times_digits, double}
use Rattle.field.specs.Column.{byte_of, pack}
use Rattle.field.specs.Mixing.{product, xsum, coef}
use Rattle.substitutions.specs.Tables.{sub, unsub, tables, inverses, pi0, pi1, pi2, pi3, inv0, inv1, inv2, inv3}
use Rattle.kalyna.specs.State.{columns_of, bytes_of}
use Rattle.kalyna.specs.Round.{add_key, sub_key, xor_key, substitute, unsubstitute, from, to, shift, unshift, mix, unmix, ssm, unssm}
use Rattle.kalyna.specs.Block.{moves, rounds, seal, unrounds, unseal, seal_bytes, unseal_bytes}
use Rattle.kalyna.specs.Keys.{start_number, start, first_half, second_half, helper_from, helper, constant, turn_key, even_input, even_from, even_key, odd_turn, odd_key, round_key_with, round_key}
use Rattle.suites.specs.Suites.{suite, suite_of}
use Rattle.suites.specs.declared.Suite.{Suite}
use Rattle.modes.specs.Blocks.{block_at, xor_block, number_of, block_of, before}
use Rattle.modes.specs.Stream.{add_gamma, front, rear, counter, ctr_gamma, ctr, ofb_gamma, ofb, cfb_gamma, cfb, uncfb_gamma, uncfb}
use Rattle.modes.specs.Chain.{chained, cbc, uncbc}
use Rattle.modes.specs.Fill.{fill, marked, unfill_at, unfill_from, unfill}
use Rattle.modes.specs.Mac.{mac_text, mac_mask, mac_of, mac, same, chk}
use Rattle.modes.specs.Cell.{Call, call_of, side_of, shape_of, key_wrong, iv_wrong, text_empty, text_long, text_partial, tag_wrong, among, repeated, blocks_in, wraps, made, sealing, opening, checked, suited, cell, arranged, cell_of}
use Rattle.modes_points.proofs.Sharing.{listed, grown, joined, added}

-- n bytes that count up, and down
unfoldable pub up : ℕ → ℕ → Value
up a n = tab n (λ i. a + i)

unfoldable pub down : ℕ → ℕ → Value
down a n = tab n (λ i. a - i)

abbrev pub first : Suite
first = suite 128 128 10 2

abbrev pub second : Suite
second = suite 128 256 14 2

abbrev pub third : Suite
third = suite 256 256 14 4

-- В.3.1: a short last block takes the front of its gamma
pub ctr41_by : added 16 (listed 3 (ctr_gamma 16 (sealing first (up 0x00 16)) (up 0x10 16))) (front 16) (up 0x20 41) ≡ 0xA9 ∷ 0x0A ∷ 0x6B ∷ 0x97 ∷ 0x80 ∷ 0xAB ∷ 0xDF ∷ 0xDF ∷ 0xF6 ∷ 0x4D ∷ 0x14 ∷ 0xF5 ∷ 0x43 ∷ 0x9E ∷ 0x88 ∷ 0xF2 ∷ 0x66 ∷ 0xDC ∷ 0x50 ∷ 0xED ∷ 0xD3 ∷ 0x41 ∷ 0x52 ∷ 0x8D ∷ 0xD5 ∷ 0xE6 ∷ 0x98 ∷ 0xE2 ∷ 0xF0 ∷ 0x00 ∷ 0xCE ∷ 0x21 ∷ 0xF8 ∷ 0x72 ∷ 0xDA ∷ 0xF9 ∷ 0xFE ∷ 0x18 ∷ 0x11 ∷ 0x84 ∷ 0x4A ∷ []
unfolding tab pick columns_of bytes_of byte_of pack add_key sub_key xor_key substitute unsubstitute from to shift unshift mix unmix ssm unssm moves rounds seal unrounds unseal seal_bytes unseal_bytes start_number start first_half second_half helper_from helper constant turn_key even_input even_from even_key odd_turn odd_key round_key_with round_key product xsum coef times times_digits double xor sub unsub tables inverses pi0 pi1 pi2 pi3 inv0 inv1 inv2 inv3 suite_of block_at xor_block number_of block_of before add_gamma front rear counter ctr_gamma ctr ofb_gamma ofb cfb_gamma cfb uncfb_gamma uncfb chained cbc uncbc fill marked unfill_at unfill_from unfill mac_text mac_mask mac_of mac same chk call_of side_of shape_of key_wrong iv_wrong text_empty text_long text_partial tag_wrong among repeated blocks_in wraps made sealing opening checked suited cell arranged cell_of up down listed grown joined added
ctr41_by = refl
