use mathlib.Core.Path.{◌≡◌, refl, subst}
use Prim.Native.Nat.{◌*◌}
use native.Mathlib.Omega.{arith}
use lib.ListN.{length}
use Rattle.words.specs.Words.{block_at}
use Rattle.stream_laws.specs.Gammas.{Written, added}
use Rattle.stream_laws.proofs.Out as out
use Rattle.stream_laws.proofs.Widths as widths
use Rattle.stream_laws.proofs.Modes as modes
use Rattle.stream_laws.proofs.Ends as ends
use Rattle.kalyna.specs.State.{columns_of}
use Rattle.modes.specs.Stream.{rear, cfb_gamma}
use Rattle.modes.proofs.Stream.{rear_whole}
use Rattle.stream_laws.specs.Gammas.{cfb_fed}
use Rattle.sealer.specs.Sealing.{block_size, round_keys, sealed_by}
use Rattle.sealer.proofs.Sizes.{columns_pos, columns_le}
use Rattle.cfb_mode.proofs.cfb_whole.Goals as goal

pub load-requires : goal.load-requires
load-requires c = (omega (arith, c.requires.1), omega (arith, c.requires.0))

pub loop-i-init : goal.loop-i-init
loop-i-init c = (omega (arith, c.load.auto.s), ends.cfb_start c.args.sealer.now.columns c.args.sealer.now.rounds (round_keys c.args.sealer.now) c.args.iv.now c.args.text.now c.args.e.now c.load.new.s (λ n. omega (arith, c.type_inv.iv n)) c.requires.1 c.load.ensures, out.written_no_block (added (block_size c.args.sealer.now) (cfb_gamma (block_size c.args.sealer.now) (sealed_by c.args.sealer.now) c.args.iv.now c.args.text.now) (rear (block_size c.args.sealer.now) (length c.args.text.now)) c.args.text.now) (block_size c.args.sealer.now) c.args.out.now)

pub seal-requires : goal.seal-requires
seal-requires c = omega (arith, c.loop-i.invariant.0, c.load.auto.s, c.requires.1)

pub xor_out-requires : goal.xor_out-requires
xor_out-requires c = (omega (arith, c.seal.auto.s, c.loop-i.invariant.0, c.load.auto.s, c.requires.1), omega (arith, widths.next_whole (block_size c.args.sealer.now) c.loop-i.i c.args.q (length c.args.text.now) (omega arith) c.requires.2), omega (arith, c.loop-i.invariant.2.long, c.requires.3, widths.next_whole (block_size c.args.sealer.now) c.loop-i.i c.args.q (length c.args.text.now) (omega arith) c.requires.2))

pub xor_in-requires : goal.xor_in-requires
xor_in-requires c = (omega (arith, c.seal.auto.s, c.loop-i.invariant.0, c.load.auto.s, c.requires.1), omega (arith, widths.next_whole (block_size c.args.sealer.now) c.loop-i.i c.args.q (length c.args.text.now) (omega arith) c.requires.2))

pub overflow_mul-at : goal.overflow_mul-at
overflow_mul-at c = omega (arith, columns_pos c.args.sealer.now, columns_le c.args.sealer.now)

pub overflow_mul-at-in-loop-i : goal.overflow_mul-at-in-loop-i
overflow_mul-at-in-loop-i c = omega (arith, c.well_formed, widths.next_whole (block_size c.args.sealer.now) c.loop-i.i c.args.q (length c.args.text.now) (omega arith) c.requires.2)

pub loop-i-preserved : goal.loop-i-preserved
loop-i-preserved c = (omega (arith, c.xor_in.auto.s, c.seal.auto.s, c.loop-i.invariant.0), ends.cfb_next c.args.sealer.now.columns c.args.sealer.now.rounds (round_keys c.args.sealer.now) c.args.iv.now c.args.text.now c.loop-i.i (c.loop-i.i * block_size c.args.sealer.now) c.loop-i.e c.seal.new.s c.xor_in.new.s (λ n. omega (arith, c.type_inv.text n)) (omega (arith, c.seal.auto.s, c.loop-i.invariant.0, c.load.auto.s, c.requires.1)) refl c.loop-i.invariant.1 c.seal.ensures c.xor_in.ensures, out.written_block (added (block_size c.args.sealer.now) (cfb_gamma (block_size c.args.sealer.now) (sealed_by c.args.sealer.now) c.args.iv.now c.args.text.now) (rear (block_size c.args.sealer.now) (length c.args.text.now)) c.args.text.now) (block_size c.args.sealer.now) c.loop-i.i c.args.out.now _ (ends.whole_added c.args.sealer.now.columns (cfb_gamma (block_size c.args.sealer.now) (sealed_by c.args.sealer.now) c.args.iv.now c.args.text.now) (rear (block_size c.args.sealer.now) (length c.args.text.now)) c.args.text.now c.loop-i.i (c.loop-i.i * block_size c.args.sealer.now) c.seal.new.s c.args.out.now c.loop-i.out c.xor_out.new.o c.loop-i.invariant.2 refl (modes.cfb_sealed c.args.sealer.now.columns c.args.sealer.now.rounds (round_keys c.args.sealer.now) c.args.iv.now c.args.text.now c.loop-i.e c.seal.new.s c.loop-i.i c.loop-i.invariant.1 c.seal.ensures) (λ j l. rear_whole (block_size c.args.sealer.now) (length c.args.text.now) c.loop-i.i j (ends.ends_in (block_size c.args.sealer.now) c.loop-i.i c.args.q (length c.args.text.now) (omega arith) c.requires.2) l) c.xor_out.ensures (omega (arith, c.requires.3, widths.next_whole (block_size c.args.sealer.now) c.loop-i.i c.args.q (length c.args.text.now) (omega arith) c.requires.2))))

pub returns : goal.returns
returns c = (subst (λ n. block_at c.args.sealer.now.columns c.loop-i.e 0 ≡ columns_of c.args.sealer.now.columns (cfb_fed (block_size c.args.sealer.now) (sealed_by c.args.sealer.now) c.args.iv.now c.args.text.now n)) (omega arith) c.loop-i.invariant.1, subst (λ n. Written (added (block_size c.args.sealer.now) (cfb_gamma (block_size c.args.sealer.now) (sealed_by c.args.sealer.now) c.args.iv.now c.args.text.now) (rear (block_size c.args.sealer.now) (length c.args.text.now)) c.args.text.now) n c.args.out.now c.loop-i.out) (widths.ended (block_size c.args.sealer.now) c.loop-i.i c.args.q _ (omega arith) refl) c.loop-i.invariant.2)
