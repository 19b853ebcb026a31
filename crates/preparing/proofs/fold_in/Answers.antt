use native.Mathlib.Omega.{arith}
use Rattle.fold_size.specs.Folded.{folded_at}
use Rattle.preparing.proofs.Giving.{ready_longer, gives_long, gives_room, made_fitting, gives_made}
use Rattle.preparing.proofs.fold_in.Goals as goal

pub size-n-requires : goal.size-n-requires
size-n-requires c = c.requires

pub returns-then-n-gt16384 : goal.returns-then-n-gt16384
returns-then-n-gt16384 c = rw c.from.ensures (gives_long (folded_at c.args.list.now c.args.records.now) c.args.out.now c.size-n.result c.size-n.ensures (omega arith))

pub returns-then-out-n : goal.returns-then-out-n
returns-then-out-n c = rw c.from-then-out-n.ensures (gives_room (folded_at c.args.list.now c.args.records.now) c.args.out.now c.size-n.result c.size-n.ensures (omega arith) (omega arith))

pub write-requires : goal.write-requires
write-requires c = (ready_longer c.args.records.now c.args.list.now c.args.tables.now _ _ c.requires (omega (arith, c.size-n.auto.work)), made_fitting (folded_at c.args.list.now c.args.records.now) c.args.out.now c.size-n.result c.size-n.ensures (omega arith) (omega arith))

pub returns : goal.returns
returns c = gives_made (folded_at c.args.list.now c.args.records.now) c.args.out.now c.size-n.result c.size-n.ensures (omega arith) (omega arith) c.write.result c.write.new.out c.write.ensures
