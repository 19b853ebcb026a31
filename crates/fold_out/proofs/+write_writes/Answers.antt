use mathlib.Core.Path.{ap, sym, ◌∙◌}
use mathlib.Core.List.{[], ◌++◌}
use Prim.Native.Nat.{◌+◌, ◌-◌}
use native.Mathlib.Omega.{arith}
use lib.ListN.{length, take, drop, length-take, length-drop}
use Rattle.records.specs.Record.{record_of}
use Rattle.record_out.specs.Put.{put}
use Rattle.fold_size.specs.Folded.{folded_at, folded_past}
use Rattle.fold_size.proofs.Sizing.{constant_way, side_way, leaf_way, call_way, constant_folded, leaf_folded, leaf_size, side_ready, side_folded, call_ready, call_folded, past_none, not_cut, part_ready, next_within, rest_ready, past_more}
use Rattle.fold_out.proofs.Writing.{same_fitting, same_written, was_written, none_written, record_room, record_few, payload_fitting, record_written, head_written, first_fitting, second_fitting, both_written}
use Rattle.fold_out.proofs.+write_writes.Goals as goal

pub write-way_of-requires : goal.write-way_of-requires
write-way_of-requires t c = c.requires.0

pub write-slice_bounds-v-end : goal.write-slice_bounds-v-end
write-slice_bounds-v-end t c = let w = (constant_way c.args.s.now c.args.list.now c.args.tables.now (length c.args.work.now) c.requires.0 c.way_of.result c.way_of.new.work c.way_of.ensures c.in-Constant.length c.in-Constant.is) in let x = ap length w.stands in let y = w.size in let z = length-take c.in-Constant.length c.way_of.new.work in omega arith

pub write-slice_bounds-v-end-in-Constant : goal.write-slice_bounds-v-end-in-Constant
write-slice_bounds-v-end-in-Constant t c = let w = (constant_way c.args.s.now c.args.list.now c.args.tables.now (length c.args.work.now) c.requires.0 c.way_of.result c.way_of.new.work c.way_of.ensures c.in-Constant.length c.in-Constant.is) in let x = ap length w.stands in let y = w.size in let z = length-take c.in-Constant.length c.way_of.new.work in omega arith

pub write-put_record-requires : goal.write-put_record-requires
write-put_record-requires t c = let w = (constant_way c.args.s.now c.args.list.now c.args.tables.now (length c.args.work.now) c.requires.0 c.way_of.result c.way_of.new.work c.way_of.ensures c.in-Constant.length c.in-Constant.is) in let x = ap length w.stands in let y = record_room c.args.o 1 w.held c.args.out.now (same_fitting c.args.o (folded_at c.args.list.now c.args.s.now) (record_of 1 (constant_way c.args.s.now c.args.list.now c.args.tables.now (length c.args.work.now) c.requires.0 c.way_of.result c.way_of.new.work c.way_of.ensures c.in-Constant.length c.in-Constant.is).held) c.args.out.now (constant_folded c.args.s.now c.args.list.now c.args.tables.now (length c.args.work.now) c.requires.0 c.in-Constant.length c.way_of.new.work (constant_way c.args.s.now c.args.list.now c.args.tables.now (length c.args.work.now) c.requires.0 c.way_of.result c.way_of.new.work c.way_of.ensures c.in-Constant.length c.in-Constant.is)) c.requires.1) in let z = record_few c.args.o 1 w.held c.args.out.now (same_fitting c.args.o (folded_at c.args.list.now c.args.s.now) (record_of 1 (constant_way c.args.s.now c.args.list.now c.args.tables.now (length c.args.work.now) c.requires.0 c.way_of.result c.way_of.new.work c.way_of.ensures c.in-Constant.length c.in-Constant.is).held) c.args.out.now (constant_folded c.args.s.now c.args.list.now c.args.tables.now (length c.args.work.now) c.requires.0 c.in-Constant.length c.way_of.new.work (constant_way c.args.s.now c.args.list.now c.args.tables.now (length c.args.work.now) c.requires.0 c.way_of.result c.way_of.new.work c.way_of.ensures c.in-Constant.length c.in-Constant.is)) c.requires.1) in omega arith

pub write-overflow_add-result : goal.write-overflow_add-result
write-overflow_add-result t c = let y = record_room c.args.o 1 (constant_way c.args.s.now c.args.list.now c.args.tables.now (length c.args.work.now) c.requires.0 c.way_of.result c.way_of.new.work c.way_of.ensures c.in-Constant.length c.in-Constant.is).held c.args.out.now (same_fitting c.args.o (folded_at c.args.list.now c.args.s.now) (record_of 1 (constant_way c.args.s.now c.args.list.now c.args.tables.now (length c.args.work.now) c.requires.0 c.way_of.result c.way_of.new.work c.way_of.ensures c.in-Constant.length c.in-Constant.is).held) c.args.out.now (constant_folded c.args.s.now c.args.list.now c.args.tables.now (length c.args.work.now) c.requires.0 c.in-Constant.length c.way_of.new.work (constant_way c.args.s.now c.args.list.now c.args.tables.now (length c.args.work.now) c.requires.0 c.way_of.result c.way_of.new.work c.way_of.ensures c.in-Constant.length c.in-Constant.is)) c.requires.1) in omega (arith, c.well_formed)

pub write-overflow_add-result-in-Constant : goal.write-overflow_add-result-in-Constant
write-overflow_add-result-in-Constant t c = let y = record_room c.args.o 1 (constant_way c.args.s.now c.args.list.now c.args.tables.now (length c.args.work.now) c.requires.0 c.way_of.result c.way_of.new.work c.way_of.ensures c.in-Constant.length c.in-Constant.is).held c.args.out.now (same_fitting c.args.o (folded_at c.args.list.now c.args.s.now) (record_of 1 (constant_way c.args.s.now c.args.list.now c.args.tables.now (length c.args.work.now) c.requires.0 c.way_of.result c.way_of.new.work c.way_of.ensures c.in-Constant.length c.in-Constant.is).held) c.args.out.now (constant_folded c.args.s.now c.args.list.now c.args.tables.now (length c.args.work.now) c.requires.0 c.in-Constant.length c.way_of.new.work (constant_way c.args.s.now c.args.list.now c.args.tables.now (length c.args.work.now) c.requires.0 c.way_of.result c.way_of.new.work c.way_of.ensures c.in-Constant.length c.in-Constant.is)) c.requires.1) in let s = (constant_way c.args.s.now c.args.list.now c.args.tables.now (length c.args.work.now) c.requires.0 c.way_of.result c.way_of.new.work c.way_of.ensures c.in-Constant.length c.in-Constant.is).size in omega (arith, c.well_formed)

pub write-slice_bounds-q-count : goal.write-slice_bounds-q-count
write-slice_bounds-q-count t c = let w = (side_way c.args.s.now c.args.list.now c.args.tables.now (length c.args.work.now) c.requires.0 c.way_of.result c.way_of.new.work c.way_of.ensures c.in-Side.start c.in-Side.end c.in-Side.is).order in omega arith

pub write-slice_bounds-q-start : goal.write-slice_bounds-q-start
write-slice_bounds-q-start t c = let w = (side_way c.args.s.now c.args.list.now c.args.tables.now (length c.args.work.now) c.requires.0 c.way_of.result c.way_of.new.work c.way_of.ensures c.in-Side.start c.in-Side.end c.in-Side.is).order in omega arith

pub write-slice_bounds-q-end : goal.write-slice_bounds-q-end
write-slice_bounds-q-end t c = let w = (side_way c.args.s.now c.args.list.now c.args.tables.now (length c.args.work.now) c.requires.0 c.way_of.result c.way_of.new.work c.way_of.ensures c.in-Side.start c.in-Side.end c.in-Side.is).end in omega arith

pub write-write-requires : goal.write-write-requires
write-write-requires t c = let w = (side_way c.args.s.now c.args.list.now c.args.tables.now (length c.args.work.now) c.requires.0 c.way_of.result c.way_of.new.work c.way_of.ensures c.in-Side.start c.in-Side.end c.in-Side.is) in let x = w.start in let y = w.end in let z = w.order in let l1 = length-take (c.in-Side.end - c.in-Side.start) (drop c.in-Side.start c.args.s.now) in let l2 = length-drop c.in-Side.start c.args.s.now in (omega (arith, c.decreases), (side_ready c.args.s.now c.args.list.now c.args.tables.now (length c.args.work.now) c.requires.0 c.in-Side.start c.in-Side.end w _ (omega (arith, c.way_of.auto.work)), same_fitting c.args.o (folded_at c.args.list.now c.args.s.now) (folded_at c.args.list.now (take (c.in-Side.end - c.in-Side.start) (drop c.in-Side.start c.args.s.now))) c.args.out.now (sym (side_folded c.args.s.now c.args.list.now c.args.tables.now (length c.args.work.now) c.requires.0 c.in-Side.start c.in-Side.end w)) c.requires.1))

pub write-slice_bounds-q-end-in-Leaf : goal.write-slice_bounds-q-end-in-Leaf
write-slice_bounds-q-end-in-Leaf t c = let w = (leaf_way c.args.s.now c.args.list.now c.args.tables.now (length c.args.work.now) c.requires.0 c.way_of.result c.way_of.new.work c.way_of.ensures c.in-Leaf.end c.in-Leaf.is).end in let z = length-take c.in-Leaf.end c.args.s.now in omega arith

pub write-put-requires : goal.write-put-requires
write-put-requires t c = let x = ap length (leaf_folded c.args.s.now c.args.list.now c.args.tables.now (length c.args.work.now) c.requires.0 c.in-Leaf.end (leaf_way c.args.s.now c.args.list.now c.args.tables.now (length c.args.work.now) c.requires.0 c.way_of.result c.way_of.new.work c.way_of.ensures c.in-Leaf.end c.in-Leaf.is)) in let y = c.requires.1.fits in omega arith

pub write-overflow_add-result-in-Leaf : goal.write-overflow_add-result-in-Leaf
write-overflow_add-result-in-Leaf t c = let x = leaf_size c.args.s.now c.args.list.now c.args.tables.now (length c.args.work.now) c.requires.0 c.in-Leaf.end (leaf_way c.args.s.now c.args.list.now c.args.tables.now (length c.args.work.now) c.requires.0 c.way_of.result c.way_of.new.work c.way_of.ensures c.in-Leaf.end c.in-Leaf.is) in let y = c.requires.1.fits in omega (arith, c.well_formed)

pub write-slice_bounds-q-count-in-Call : goal.write-slice_bounds-q-count-in-Call
write-slice_bounds-q-count-in-Call t c = let w = (call_way c.args.s.now c.args.list.now c.args.tables.now (length c.args.work.now) c.requires.0 c.way_of.result c.way_of.new.work c.way_of.ensures c.in-Call.kind c.in-Call.count c.in-Call.end c.in-Call.is).start in omega arith

pub write-slice_bounds-q-start-in-Call : goal.write-slice_bounds-q-start-in-Call
write-slice_bounds-q-start-in-Call t c = let w = (call_way c.args.s.now c.args.list.now c.args.tables.now (length c.args.work.now) c.requires.0 c.way_of.result c.way_of.new.work c.way_of.ensures c.in-Call.kind c.in-Call.count c.in-Call.end c.in-Call.is).start in omega arith

pub write-slice_bounds-q-end-in-Call : goal.write-slice_bounds-q-end-in-Call
write-slice_bounds-q-end-in-Call t c = let w = (call_way c.args.s.now c.args.list.now c.args.tables.now (length c.args.work.now) c.requires.0 c.way_of.result c.way_of.new.work c.way_of.ensures c.in-Call.kind c.in-Call.count c.in-Call.end c.in-Call.is).end in omega arith

pub write-overflow_add-o : goal.write-overflow_add-o
write-overflow_add-o t c = let y = record_room c.args.o c.in-Call.kind (folded_past c.args.list.now (take (c.in-Call.end - 4) (drop 4 c.args.s.now)) c.in-Call.count 0) c.args.out.now (same_fitting c.args.o (folded_at c.args.list.now c.args.s.now) (record_of c.in-Call.kind (folded_past c.args.list.now (take (c.in-Call.end - 4) (drop 4 c.args.s.now)) c.in-Call.count 0)) c.args.out.now (call_folded c.args.s.now c.args.list.now c.args.tables.now (length c.args.work.now) c.requires.0 c.in-Call.kind c.in-Call.count c.in-Call.end (call_way c.args.s.now c.args.list.now c.args.tables.now (length c.args.work.now) c.requires.0 c.way_of.result c.way_of.new.work c.way_of.ensures c.in-Call.kind c.in-Call.count c.in-Call.end c.in-Call.is)) c.requires.1) in omega (arith, c.well_formed)

pub write-writes-after-requires : goal.write-writes-after-requires
write-writes-after-requires t c = let w = (call_way c.args.s.now c.args.list.now c.args.tables.now (length c.args.work.now) c.requires.0 c.way_of.result c.way_of.new.work c.way_of.ensures c.in-Call.kind c.in-Call.count c.in-Call.end c.in-Call.is) in let x = w.start in let y = w.end in let z = w.few in let l1 = length-take (c.in-Call.end - 4) (drop 4 c.args.s.now) in let l2 = length-drop 4 c.args.s.now in (omega (arith, c.decreases), (call_ready c.args.s.now c.args.list.now c.args.tables.now (length c.args.work.now) c.requires.0 c.in-Call.kind c.in-Call.count c.in-Call.end w _ (omega (arith, c.way_of.auto.work)), payload_fitting c.args.o c.in-Call.kind (folded_past c.args.list.now (take (c.in-Call.end - 4) (drop 4 c.args.s.now)) c.in-Call.count 0) c.args.out.now (same_fitting c.args.o (folded_at c.args.list.now c.args.s.now) (record_of c.in-Call.kind (folded_past c.args.list.now (take (c.in-Call.end - 4) (drop 4 c.args.s.now)) c.in-Call.count 0)) c.args.out.now (call_folded c.args.s.now c.args.list.now c.args.tables.now (length c.args.work.now) c.requires.0 c.in-Call.kind c.in-Call.count c.in-Call.end (call_way c.args.s.now c.args.list.now c.args.tables.now (length c.args.work.now) c.requires.0 c.way_of.result c.way_of.new.work c.way_of.ensures c.in-Call.kind c.in-Call.count c.in-Call.end c.in-Call.is)) c.requires.1)))

pub write-overflow_sub-after : goal.write-overflow_sub-after
write-overflow_sub-after t c = let x = c.writes-after.ensures.next in omega arith

pub write-overflow_sub-after-in-Call : goal.write-overflow_sub-after-in-Call
write-overflow_sub-after-in-Call t c = let x = c.writes-after.ensures.next in omega arith

pub write-put_head-requires : goal.write-put_head-requires
write-put_head-requires t c = let x = c.writes-after.ensures.next in let y = record_room c.args.o c.in-Call.kind (folded_past c.args.list.now (take (c.in-Call.end - 4) (drop 4 c.args.s.now)) c.in-Call.count 0) c.args.out.now (same_fitting c.args.o (folded_at c.args.list.now c.args.s.now) (record_of c.in-Call.kind (folded_past c.args.list.now (take (c.in-Call.end - 4) (drop 4 c.args.s.now)) c.in-Call.count 0)) c.args.out.now (call_folded c.args.s.now c.args.list.now c.args.tables.now (length c.args.work.now) c.requires.0 c.in-Call.kind c.in-Call.count c.in-Call.end (call_way c.args.s.now c.args.list.now c.args.tables.now (length c.args.work.now) c.requires.0 c.way_of.result c.way_of.new.work c.way_of.ensures c.in-Call.kind c.in-Call.count c.in-Call.end c.in-Call.is)) c.requires.1) in let z = record_few c.args.o c.in-Call.kind (folded_past c.args.list.now (take (c.in-Call.end - 4) (drop 4 c.args.s.now)) c.in-Call.count 0) c.args.out.now (same_fitting c.args.o (folded_at c.args.list.now c.args.s.now) (record_of c.in-Call.kind (folded_past c.args.list.now (take (c.in-Call.end - 4) (drop 4 c.args.s.now)) c.in-Call.count 0)) c.args.out.now (call_folded c.args.s.now c.args.list.now c.args.tables.now (length c.args.work.now) c.requires.0 c.in-Call.kind c.in-Call.count c.in-Call.end (call_way c.args.s.now c.args.list.now c.args.tables.now (length c.args.work.now) c.requires.0 c.way_of.result c.way_of.new.work c.way_of.ensures c.in-Call.kind c.in-Call.count c.in-Call.end c.in-Call.is)) c.requires.1) in let q = c.writes-after.auto.out in let h = (call_way c.args.s.now c.args.list.now c.args.tables.now (length c.args.work.now) c.requires.0 c.way_of.result c.way_of.new.work c.way_of.ensures c.in-Call.kind c.in-Call.count c.in-Call.end c.in-Call.is).kind in omega arith

pub write-returns-in-Constant : goal.write-returns-in-Constant
write-returns-in-Constant t c = let w = (constant_way c.args.s.now c.args.list.now c.args.tables.now (length c.args.work.now) c.requires.0 c.way_of.result c.way_of.new.work c.way_of.ensures c.in-Constant.length c.in-Constant.is) in let s = w.size in same_written c.args.o (record_of 1 w.held) (folded_at c.args.list.now c.args.s.now) _ c.args.out.now c.put_record.new.out (sym (constant_folded c.args.s.now c.args.list.now c.args.tables.now (length c.args.work.now) c.requires.0 c.in-Constant.length c.way_of.new.work w)) (record_written c.args.o 1 w.held c.args.out.now (same_fitting c.args.o (folded_at c.args.list.now c.args.s.now) (record_of 1 (constant_way c.args.s.now c.args.list.now c.args.tables.now (length c.args.work.now) c.requires.0 c.way_of.result c.way_of.new.work c.way_of.ensures c.in-Constant.length c.in-Constant.is).held) c.args.out.now (constant_folded c.args.s.now c.args.list.now c.args.tables.now (length c.args.work.now) c.requires.0 c.in-Constant.length c.way_of.new.work (constant_way c.args.s.now c.args.list.now c.args.tables.now (length c.args.work.now) c.requires.0 c.way_of.result c.way_of.new.work c.way_of.ensures c.in-Constant.length c.in-Constant.is)) c.requires.1) _ c.put_record.new.out (c.put_record.ensures ∙ ap (λ v. put c.args.out.now c.args.o (record_of 1 v)) w.stands) (omega arith))

pub write-returns-in-Side : goal.write-returns-in-Side
write-returns-in-Side t c = same_written c.args.o (folded_at c.args.list.now (take (c.in-Side.end - c.in-Side.start) (drop c.in-Side.start c.args.s.now))) (folded_at c.args.list.now c.args.s.now) c.write.result c.args.out.now c.write.new.out (side_folded c.args.s.now c.args.list.now c.args.tables.now (length c.args.work.now) c.requires.0 c.in-Side.start c.in-Side.end (side_way c.args.s.now c.args.list.now c.args.tables.now (length c.args.work.now) c.requires.0 c.way_of.result c.way_of.new.work c.way_of.ensures c.in-Side.start c.in-Side.end c.in-Side.is)) c.write.ensures

pub write-returns-in-Leaf : goal.write-returns-in-Leaf
unfolding put
write-returns-in-Leaf t c = let x = leaf_size c.args.s.now c.args.list.now c.args.tables.now (length c.args.work.now) c.requires.0 c.in-Leaf.end (leaf_way c.args.s.now c.args.list.now c.args.tables.now (length c.args.work.now) c.requires.0 c.way_of.result c.way_of.new.work c.way_of.ensures c.in-Leaf.end c.in-Leaf.is) in was_written c.args.o (folded_at c.args.list.now c.args.s.now) _ c.args.out.now c.put.new.out (c.put.ensures ∙ ap (put c.args.out.now c.args.o) (sym (leaf_folded c.args.s.now c.args.list.now c.args.tables.now (length c.args.work.now) c.requires.0 c.in-Leaf.end (leaf_way c.args.s.now c.args.list.now c.args.tables.now (length c.args.work.now) c.requires.0 c.way_of.result c.way_of.new.work c.way_of.ensures c.in-Leaf.end c.in-Leaf.is)))) (omega arith)

pub write-returns-in-Call : goal.write-returns-in-Call
write-returns-in-Call t c = same_written c.args.o (record_of c.in-Call.kind (folded_past c.args.list.now (take (c.in-Call.end - 4) (drop 4 c.args.s.now)) c.in-Call.count 0)) (folded_at c.args.list.now c.args.s.now) c.writes-after.result c.args.out.now c.put_head.new.out (sym (call_folded c.args.s.now c.args.list.now c.args.tables.now (length c.args.work.now) c.requires.0 c.in-Call.kind c.in-Call.count c.in-Call.end (call_way c.args.s.now c.args.list.now c.args.tables.now (length c.args.work.now) c.requires.0 c.way_of.result c.way_of.new.work c.way_of.ensures c.in-Call.kind c.in-Call.count c.in-Call.end c.in-Call.is))) (head_written c.args.o c.in-Call.kind (folded_past c.args.list.now (take (c.in-Call.end - 4) (drop 4 c.args.s.now)) c.in-Call.count 0) c.args.out.now (same_fitting c.args.o (folded_at c.args.list.now c.args.s.now) (record_of c.in-Call.kind (folded_past c.args.list.now (take (c.in-Call.end - 4) (drop 4 c.args.s.now)) c.in-Call.count 0)) c.args.out.now (call_folded c.args.s.now c.args.list.now c.args.tables.now (length c.args.work.now) c.requires.0 c.in-Call.kind c.in-Call.count c.in-Call.end (call_way c.args.s.now c.args.list.now c.args.tables.now (length c.args.work.now) c.requires.0 c.way_of.result c.way_of.new.work c.way_of.ensures c.in-Call.kind c.in-Call.count c.in-Call.end c.in-Call.is)) c.requires.1) c.writes-after.result c.writes-after.new.out c.put_head.new.out c.writes-after.ensures c.put_head.ensures)

pub writes-returns-then-left-eq0 : goal.writes-returns-then-left-eq0
writes-returns-then-left-eq0 t c = same_written c.args.o [] (folded_past c.args.list.now c.args.s.now c.args.left c.args.at) c.args.o c.args.out.now c.args.out.now (sym (past_none c.args.left c.args.at c.args.s.now c.args.list.now c.args.tables.now (length c.args.work.now) c.requires.0 c.if-left-eq0.true)) (none_written c.args.o c.args.out.now)

pub writes-slice_bounds-q-count : goal.writes-slice_bounds-q-count
writes-slice_bounds-q-count t c = let w = c.requires.0.within in omega arith

pub writes-slice_bounds-q-start : goal.writes-slice_bounds-q-start
writes-slice_bounds-q-start t c = let w = c.requires.0.within in omega arith

pub writes-slice_bounds-q-end : goal.writes-slice_bounds-q-end
writes-slice_bounds-q-end t c = let w = c.requires.0.within in omega arith

pub writes-write-end-requires : goal.writes-write-end-requires
writes-write-end-requires t c = let l1 = length-take (length c.args.s.now - c.args.at) (drop c.args.at c.args.s.now) in let l2 = length-drop c.args.at c.args.s.now in (omega (arith, c.decreases), (part_ready c.args.left c.args.at c.args.s.now c.args.list.now c.args.tables.now (length c.args.work.now) c.requires.0 c.if-left-eq0.false _ (omega arith), first_fitting c.args.o (folded_at c.args.list.now (take (length c.args.s.now - c.args.at) (drop c.args.at c.args.s.now))) (folded_past c.args.list.now c.args.s.now (c.args.left - 1) (c.args.at + 4 + c.in-Some.head.length)) c.args.out.now (same_fitting c.args.o (folded_past c.args.list.now c.args.s.now c.args.left c.args.at) ((folded_at c.args.list.now (take (length c.args.s.now - c.args.at) (drop c.args.at c.args.s.now))) ++ (folded_past c.args.list.now c.args.s.now (c.args.left - 1) (c.args.at + 4 + c.in-Some.head.length))) c.args.out.now (past_more c.args.left c.args.at c.args.s.now c.args.list.now c.args.tables.now (length c.args.work.now) c.requires.0 c.if-left-eq0.false c.in-Some.head.kind c.in-Some.head.length (sym c.head_at.ensures ∙ c.in-Some.is)) c.requires.1)))

pub writes-overflow_add-next : goal.writes-overflow_add-next
writes-overflow_add-next t c = let w = next_within c.args.left c.args.at c.args.s.now c.args.list.now c.args.tables.now (length c.args.work.now) c.requires.0 c.if-left-eq0.false c.in-Some.head.kind c.in-Some.head.length (sym c.head_at.ensures ∙ c.in-Some.is) (λ i. omega (arith, c.type_inv.s i)) in omega (arith, c.well_formed)

pub writes-overflow_add-next-2 : goal.writes-overflow_add-next-2
writes-overflow_add-next-2 t c = let w = next_within c.args.left c.args.at c.args.s.now c.args.list.now c.args.tables.now (length c.args.work.now) c.requires.0 c.if-left-eq0.false c.in-Some.head.kind c.in-Some.head.length (sym c.head_at.ensures ∙ c.in-Some.is) (λ i. omega (arith, c.type_inv.s i)) in omega (arith, c.well_formed)

pub writes-writes-requires : goal.writes-writes-requires
writes-writes-requires t c = (omega (arith, c.decreases, c.if-left-eq0.false), (rest_ready c.args.left c.args.at c.args.s.now c.args.list.now c.args.tables.now (length c.args.work.now) c.requires.0 c.if-left-eq0.false c.in-Some.head.kind c.in-Some.head.length (sym c.head_at.ensures ∙ c.in-Some.is) _ (omega (arith, c.write-end.auto.work)) (λ i. omega (arith, c.type_inv.s i)), second_fitting c.args.o (folded_at c.args.list.now (take (length c.args.s.now - c.args.at) (drop c.args.at c.args.s.now))) (folded_past c.args.list.now c.args.s.now (c.args.left - 1) (c.args.at + 4 + c.in-Some.head.length)) c.args.out.now (same_fitting c.args.o (folded_past c.args.list.now c.args.s.now c.args.left c.args.at) ((folded_at c.args.list.now (take (length c.args.s.now - c.args.at) (drop c.args.at c.args.s.now))) ++ (folded_past c.args.list.now c.args.s.now (c.args.left - 1) (c.args.at + 4 + c.in-Some.head.length))) c.args.out.now (past_more c.args.left c.args.at c.args.s.now c.args.list.now c.args.tables.now (length c.args.work.now) c.requires.0 c.if-left-eq0.false c.in-Some.head.kind c.in-Some.head.length (sym c.head_at.ensures ∙ c.in-Some.is)) c.requires.1) c.write-end.result c.write-end.new.out c.write-end.ensures))

pub writes-returns-in_default : goal.writes-returns-in_default
writes-returns-in_default t c = absurd (not_cut c.args.left c.args.at c.args.s.now c.args.list.now c.args.tables.now (length c.args.work.now) c.requires.0 c.if-left-eq0.false (sym c.head_at.ensures ∙ c.in_default.is))

pub writes-returns : goal.writes-returns
writes-returns t c = same_written c.args.o ((folded_at c.args.list.now (take (length c.args.s.now - c.args.at) (drop c.args.at c.args.s.now))) ++ (folded_past c.args.list.now c.args.s.now (c.args.left - 1) (c.args.at + 4 + c.in-Some.head.length))) (folded_past c.args.list.now c.args.s.now c.args.left c.args.at) c.writes.result c.args.out.now c.writes.new.out (sym (past_more c.args.left c.args.at c.args.s.now c.args.list.now c.args.tables.now (length c.args.work.now) c.requires.0 c.if-left-eq0.false c.in-Some.head.kind c.in-Some.head.length (sym c.head_at.ensures ∙ c.in-Some.is))) (both_written c.args.o (folded_at c.args.list.now (take (length c.args.s.now - c.args.at) (drop c.args.at c.args.s.now))) (folded_past c.args.list.now c.args.s.now (c.args.left - 1) (c.args.at + 4 + c.in-Some.head.length)) c.args.out.now (same_fitting c.args.o (folded_past c.args.list.now c.args.s.now c.args.left c.args.at) ((folded_at c.args.list.now (take (length c.args.s.now - c.args.at) (drop c.args.at c.args.s.now))) ++ (folded_past c.args.list.now c.args.s.now (c.args.left - 1) (c.args.at + 4 + c.in-Some.head.length))) c.args.out.now (past_more c.args.left c.args.at c.args.s.now c.args.list.now c.args.tables.now (length c.args.work.now) c.requires.0 c.if-left-eq0.false c.in-Some.head.kind c.in-Some.head.length (sym c.head_at.ensures ∙ c.in-Some.is)) c.requires.1) c.write-end.result c.write-end.new.out c.write-end.ensures c.writes.result c.writes.new.out c.writes.ensures)
