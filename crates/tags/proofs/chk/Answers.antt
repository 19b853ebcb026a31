use native.Mathlib.Omega.{arith}
use Rattle.kalyna.proofs.Bytes.{seal_bytes_bytes}
use Rattle.modes.proofs.Mac.{mac_bytes}
use Rattle.tags.proofs.Same.{chk_is, chk_out}
use Rattle.sealer.specs.Sealing.{block_size, round_keys, sealed_by}
use Rattle.sealer.proofs.Sizes.{columns_le}
use Rattle.tags.proofs.chk.Goals as goal

pub mac-requires : goal.mac-requires
mac-requires c = (c.requires.1, omega (arith, columns_le c.args.sealer.now))

pub same_tag-requires : goal.same_tag-requires
same_tag-requires c = (omega (arith, columns_le c.args.sealer.now, c.requires.0, c.mac.auto.out), omega (arith, columns_le c.args.sealer.now, c.requires.0), c.requires.3)

pub returns : goal.returns
returns c = chk_out c.args.out.now _ _ c.requires.2 (chk_is (block_size c.args.sealer.now) (sealed_by c.args.sealer.now) c.args.tag.now c.args.text.now _ _ _ _ (mac_bytes (block_size c.args.sealer.now) (sealed_by c.args.sealer.now) c.args.text.now (λ b. seal_bytes_bytes c.args.sealer.now.columns c.args.sealer.now.rounds (round_keys c.args.sealer.now) b)).long c.requires.0 c.mac.ensures c.same_tag.ensures c.from.ensures)
