use Rattle.record_out.proofs.Put as puts
use Rattle.record_out.proofs.put_leaf.Goals as goal

pub returns : goal.returns
returns c = puts.leaf_stores c.args.out.now c.put_head.new.out c.args.o c.args.k c.args.b c.requires.0 c.put_head.ensures
