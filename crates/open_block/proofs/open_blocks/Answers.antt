use Rattle.open_laws.proofs.Cells.{walk_whole}
use Rattle.open_block.proofs.open_blocks.Goals as goal

pub returns : goal.returns
returns c = walk_whole c.args.c c.args.n c.args.r c.args.ks.now c.args.s.now c.start_blocks.new.s c.walks.new.s c.last_blocks.new.s c.start_blocks.ensures c.walks.ensures c.last_blocks.ensures
