use Rattle.open_laws.proofs.Cells.{swap_is}
use Rattle.open_block.proofs.swap.Goals as goal

pub returns : goal.returns
returns c = swap_is c.args.t.now c.args.p.now c.args.w c.column.result _ _ _ _ _ _ _ _ c.low_at-a.ensures c.high_at-b.ensures c.low_at-c.ensures c.high_at-d.ensures c.low_at-e.ensures c.high_at-f.ensures c.low_at-g.ensures c.high_at-h.ensures c.column.ensures
