use Rattle.record_out.specs.Put.{put}
use lib.ListN.{length}
use mathlib.Core.Path.{refl}
use Rattle.record_out.proofs.Put.{head_before}
use Rattle.record_out.proofs.put_record.Goals as goal

pub returns : goal.returns
unfolding put
returns c = head_before c.args.out.now c.put.new.out c.put_head.new.out c.args.o c.args.k (length c.args.v.now) c.args.v.now c.requires.0 c.put.ensures refl c.put_head.ensures
