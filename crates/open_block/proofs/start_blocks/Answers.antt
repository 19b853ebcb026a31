use Rattle.std.proofs.Common.{◌+◌, ◌-◌, ◌%◌, ◌^◌, length, get_or, refl}
use Rattle.rounds.specs.Rounds.{key_at}
use Rattle.blocks.proofs.Laws.{room, block_more}
use Rattle.open_laws.specs.Opening.{first_round, swapped}
use Rattle.open_laws.proofs.Swaps.{swapped_lt}
use Rattle.open_laws.proofs.Cells.{started}
use Rattle.open_block.proofs.start_blocks.Goals as goal

pub loop-i-preserved : goal.loop-i-preserved
loop-i-preserved c = block_more c.args.c c.loop-i.i (first_round c.args.c (key_at c.args.c c.args.ks.now c.args.at)) c.args.s.now c.loop-i.s c.start_block.new.s (λ x j. swapped c.args.t.now c.args.p.now ((x + 2 ^ 64 - get_or c.args.ks.now (c.args.at + j) 0 % 2 ^ 64) % 2 ^ 64)) _ c.loop-i.invariant (room c.args.c c.loop-i.i c.args.n (length c.args.s.now) c.loop-i-test.true c.requires.2) refl c.start_block.ensures (λ x j. swapped_lt c.args.t.now c.args.p.now _ c.requires.0 c.requires.1) (λ b. started c.args.c c.args.t.now c.args.p.now c.args.ks.now c.args.at b c.requires.0 c.requires.1)
