use mathlib.Core.Path.{ap, sym, ◌∙◌}
use Prim.Native.Nat.{◌-◌}
use native.Mathlib.Omega.{arith}
use lib.ListN.{length, drop, length-take, length-drop}
use Rattle.fold_size.proofs.Sizing.{folded_few, constant_way, side_way, leaf_way, call_way, constant_size, leaf_size, side_ready, side_folded, call_ready, call_size, none_left, not_cut, part_ready, next_within, rest_ready, past_size, past_few}
use Rattle.fold_size.proofs.+size_sizes.Goals as goal

pub size-way_of-requires : goal.size-way_of-requires
size-way_of-requires t c = c.requires

pub size-overflow_add-result : goal.size-overflow_add-result
size-overflow_add-result t c = let x = constant_size c.args.s.now c.args.list.now c.args.tables.now (length c.args.work.now) c.requires c.in-Constant.length _ (constant_way c.args.s.now c.args.list.now c.args.tables.now (length c.args.work.now) c.requires c.way_of.result c.way_of.new.work c.way_of.ensures c.in-Constant.length c.in-Constant.is) in let m = folded_few c.args.s.now c.args.list.now c.args.tables.now (length c.args.work.now) c.requires (λ i. omega (arith, c.type_inv.s i)) (λ i. omega (arith, c.type_inv.list i)) in omega arith

pub size-slice_bounds-q-count : goal.size-slice_bounds-q-count
size-slice_bounds-q-count t c = let w = (side_way c.args.s.now c.args.list.now c.args.tables.now (length c.args.work.now) c.requires c.way_of.result c.way_of.new.work c.way_of.ensures c.in-Side.start c.in-Side.end c.in-Side.is).order in omega arith

pub size-slice_bounds-q-start : goal.size-slice_bounds-q-start
size-slice_bounds-q-start t c = let w = (side_way c.args.s.now c.args.list.now c.args.tables.now (length c.args.work.now) c.requires c.way_of.result c.way_of.new.work c.way_of.ensures c.in-Side.start c.in-Side.end c.in-Side.is).order in omega arith

pub size-slice_bounds-q-end : goal.size-slice_bounds-q-end
size-slice_bounds-q-end t c = let w = (side_way c.args.s.now c.args.list.now c.args.tables.now (length c.args.work.now) c.requires c.way_of.result c.way_of.new.work c.way_of.ensures c.in-Side.start c.in-Side.end c.in-Side.is).end in omega arith

pub size-size-requires : goal.size-size-requires
size-size-requires t c = let w = (side_way c.args.s.now c.args.list.now c.args.tables.now (length c.args.work.now) c.requires c.way_of.result c.way_of.new.work c.way_of.ensures c.in-Side.start c.in-Side.end c.in-Side.is) in let x = w.start in let y = w.end in let z = w.order in let l1 = length-take (c.in-Side.end - c.in-Side.start) (drop c.in-Side.start c.args.s.now) in let l2 = length-drop c.in-Side.start c.args.s.now in (omega (arith, c.decreases), side_ready c.args.s.now c.args.list.now c.args.tables.now (length c.args.work.now) c.requires c.in-Side.start c.in-Side.end w _ (omega (arith, c.way_of.auto.work)))

pub size-slice_bounds-q-count-in-Call : goal.size-slice_bounds-q-count-in-Call
size-slice_bounds-q-count-in-Call t c = let w = (call_way c.args.s.now c.args.list.now c.args.tables.now (length c.args.work.now) c.requires c.way_of.result c.way_of.new.work c.way_of.ensures c.in-Call.kind c.in-Call.count c.in-Call.end c.in-Call.is).start in omega arith

pub size-slice_bounds-q-start-in-Call : goal.size-slice_bounds-q-start-in-Call
size-slice_bounds-q-start-in-Call t c = let w = (call_way c.args.s.now c.args.list.now c.args.tables.now (length c.args.work.now) c.requires c.way_of.result c.way_of.new.work c.way_of.ensures c.in-Call.kind c.in-Call.count c.in-Call.end c.in-Call.is).start in omega arith

pub size-slice_bounds-q-end-in-Call : goal.size-slice_bounds-q-end-in-Call
size-slice_bounds-q-end-in-Call t c = let w = (call_way c.args.s.now c.args.list.now c.args.tables.now (length c.args.work.now) c.requires c.way_of.result c.way_of.new.work c.way_of.ensures c.in-Call.kind c.in-Call.count c.in-Call.end c.in-Call.is).end in omega arith

pub size-sizes-requires : goal.size-sizes-requires
size-sizes-requires t c = let w = (call_way c.args.s.now c.args.list.now c.args.tables.now (length c.args.work.now) c.requires c.way_of.result c.way_of.new.work c.way_of.ensures c.in-Call.kind c.in-Call.count c.in-Call.end c.in-Call.is) in let x = w.start in let y = w.end in let z = w.few in let l1 = length-take (c.in-Call.end - 4) (drop 4 c.args.s.now) in let l2 = length-drop 4 c.args.s.now in (omega (arith, c.decreases), call_ready c.args.s.now c.args.list.now c.args.tables.now (length c.args.work.now) c.requires c.in-Call.kind c.in-Call.count c.in-Call.end w _ (omega (arith, c.way_of.auto.work)))

pub size-overflow_add-result-in-Call : goal.size-overflow_add-result-in-Call
size-overflow_add-result-in-Call t c = let x = call_size c.args.s.now c.args.list.now c.args.tables.now (length c.args.work.now) c.requires c.in-Call.kind c.in-Call.count c.in-Call.end (call_way c.args.s.now c.args.list.now c.args.tables.now (length c.args.work.now) c.requires c.way_of.result c.way_of.new.work c.way_of.ensures c.in-Call.kind c.in-Call.count c.in-Call.end c.in-Call.is) c.sizes.result c.sizes.ensures in let m = folded_few c.args.s.now c.args.list.now c.args.tables.now (length c.args.work.now) c.requires (λ i. omega (arith, c.type_inv.s i)) (λ i. omega (arith, c.type_inv.list i)) in omega arith

pub size-returns-in-Constant : goal.size-returns-in-Constant
size-returns-in-Constant t c = constant_size c.args.s.now c.args.list.now c.args.tables.now (length c.args.work.now) c.requires c.in-Constant.length _ (constant_way c.args.s.now c.args.list.now c.args.tables.now (length c.args.work.now) c.requires c.way_of.result c.way_of.new.work c.way_of.ensures c.in-Constant.length c.in-Constant.is)

pub size-returns-in-Side : goal.size-returns-in-Side
size-returns-in-Side t c = c.size.ensures ∙ ap length (side_folded c.args.s.now c.args.list.now c.args.tables.now (length c.args.work.now) c.requires c.in-Side.start c.in-Side.end (side_way c.args.s.now c.args.list.now c.args.tables.now (length c.args.work.now) c.requires c.way_of.result c.way_of.new.work c.way_of.ensures c.in-Side.start c.in-Side.end c.in-Side.is))

pub size-returns-in-Leaf : goal.size-returns-in-Leaf
size-returns-in-Leaf t c = leaf_size c.args.s.now c.args.list.now c.args.tables.now (length c.args.work.now) c.requires c.in-Leaf.end (leaf_way c.args.s.now c.args.list.now c.args.tables.now (length c.args.work.now) c.requires c.way_of.result c.way_of.new.work c.way_of.ensures c.in-Leaf.end c.in-Leaf.is)

pub size-returns-in-Call : goal.size-returns-in-Call
size-returns-in-Call t c = call_size c.args.s.now c.args.list.now c.args.tables.now (length c.args.work.now) c.requires c.in-Call.kind c.in-Call.count c.in-Call.end (call_way c.args.s.now c.args.list.now c.args.tables.now (length c.args.work.now) c.requires c.way_of.result c.way_of.new.work c.way_of.ensures c.in-Call.kind c.in-Call.count c.in-Call.end c.in-Call.is) c.sizes.result c.sizes.ensures

pub sizes-returns-then-left-eq0 : goal.sizes-returns-then-left-eq0
sizes-returns-then-left-eq0 t c = none_left c.args.left c.args.at c.args.s.now c.args.list.now c.args.tables.now (length c.args.work.now) c.requires c.if-left-eq0.true

pub sizes-slice_bounds-q-count : goal.sizes-slice_bounds-q-count
sizes-slice_bounds-q-count t c = let w = c.requires.within in omega arith

pub sizes-slice_bounds-q-start : goal.sizes-slice_bounds-q-start
sizes-slice_bounds-q-start t c = let w = c.requires.within in omega arith

pub sizes-slice_bounds-q-end : goal.sizes-slice_bounds-q-end
sizes-slice_bounds-q-end t c = let w = c.requires.within in omega arith

pub sizes-size-a-requires : goal.sizes-size-a-requires
sizes-size-a-requires t c = let l1 = length-take (length c.args.s.now - c.args.at) (drop c.args.at c.args.s.now) in let l2 = length-drop c.args.at c.args.s.now in (omega (arith, c.decreases), part_ready c.args.left c.args.at c.args.s.now c.args.list.now c.args.tables.now (length c.args.work.now) c.requires c.if-left-eq0.false _ (omega arith))

pub sizes-overflow_add-at : goal.sizes-overflow_add-at
sizes-overflow_add-at t c = let w = next_within c.args.left c.args.at c.args.s.now c.args.list.now c.args.tables.now (length c.args.work.now) c.requires c.if-left-eq0.false c.in-Some.head.kind c.in-Some.head.length (sym c.head_at.ensures ∙ c.in-Some.is) (λ i. omega (arith, c.type_inv.s i)) in omega (arith, c.well_formed)

pub sizes-overflow_add-at-2 : goal.sizes-overflow_add-at-2
sizes-overflow_add-at-2 t c = let w = next_within c.args.left c.args.at c.args.s.now c.args.list.now c.args.tables.now (length c.args.work.now) c.requires c.if-left-eq0.false c.in-Some.head.kind c.in-Some.head.length (sym c.head_at.ensures ∙ c.in-Some.is) (λ i. omega (arith, c.type_inv.s i)) in omega (arith, c.well_formed)

pub sizes-sizes-requires : goal.sizes-sizes-requires
sizes-sizes-requires t c = (omega (arith, c.decreases, c.if-left-eq0.false), rest_ready c.args.left c.args.at c.args.s.now c.args.list.now c.args.tables.now (length c.args.work.now) c.requires c.if-left-eq0.false c.in-Some.head.kind c.in-Some.head.length (sym c.head_at.ensures ∙ c.in-Some.is) _ (omega (arith, c.size-a.auto.work)) (λ i. omega (arith, c.type_inv.s i)))

pub sizes-overflow_add-result : goal.sizes-overflow_add-result
sizes-overflow_add-result t c = let x = past_size c.args.left c.args.at c.args.s.now c.args.list.now c.args.tables.now (length c.args.work.now) c.requires c.if-left-eq0.false c.in-Some.head.kind c.in-Some.head.length (sym c.head_at.ensures ∙ c.in-Some.is) c.size-a.result c.sizes.result c.size-a.ensures c.sizes.ensures in let m = past_few c.args.left c.args.at c.args.s.now c.args.list.now c.args.tables.now (length c.args.work.now) c.requires (λ i. omega (arith, c.type_inv.s i)) (λ i. omega (arith, c.type_inv.list i)) in omega arith

pub sizes-returns-in_default : goal.sizes-returns-in_default
sizes-returns-in_default t c = absurd (not_cut c.args.left c.args.at c.args.s.now c.args.list.now c.args.tables.now (length c.args.work.now) c.requires c.if-left-eq0.false (sym c.head_at.ensures ∙ c.in_default.is))

pub sizes-returns : goal.sizes-returns
sizes-returns t c = past_size c.args.left c.args.at c.args.s.now c.args.list.now c.args.tables.now (length c.args.work.now) c.requires c.if-left-eq0.false c.in-Some.head.kind c.in-Some.head.length (sym c.head_at.ensures ∙ c.in-Some.is) c.size-a.result c.sizes.result c.size-a.ensures c.sizes.ensures
