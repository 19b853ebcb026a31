use Rattle.std.proofs.Common.{◌+◌, ◌%◌, ◌^◌, length, get_or, refl}
use Rattle.kalyna.specs.Round.{add_key}
use Rattle.rounds.specs.Rounds.{key_at}
use Rattle.blocks.proofs.Laws.{room, block_more, added, below}
use Rattle.blocks.proofs.add_keys.Goals as goal

pub loop-i-preserved : goal.loop-i-preserved
loop-i-preserved c = block_more c.args.c c.loop-i.i (add_key c.args.c (key_at c.args.c c.args.ks.now c.args.at)) c.args.s.now c.loop-i.s c.add_block.new.s (λ x j. (x + get_or c.args.ks.now (c.args.at + j) 0) % 2 ^ 64) _ c.loop-i.invariant (room c.args.c c.loop-i.i c.args.n (length c.args.s.now) c.loop-i-test.true c.requires.0) refl c.add_block.ensures (λ x j. below _) (added c.args.c c.args.ks.now c.args.at)
