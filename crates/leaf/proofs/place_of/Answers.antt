use Rattle.std.proofs.Common.{◌+◌, ◌≤◌, ◌∙◌, length, arith}
use Rattle.leaf.proofs.Ways.{place_room, place_image, place_row, place_run, place_bound, place_other, place_cut, place_wide}
use Rattle.leaf.proofs.place_of.Goals as goal
use Rattle.leaf.proofs.place_of.Goals.{In_ok-head}

-- the record is whole
room : (c : In_ok-head) → c.args.at + 4 + c.in_ok-head.head.length ≤ length c.args.image.now
room c = place_room c.args.image.now c.args.at c.args.list.now _ c.head_at.ensures _ _ c.in_ok-head.was

pub returns-in_err-head : goal.returns-in_err-head
returns-in_err-head c = c.from_residual.ensures ∙ place_cut c.args.image.now c.args.at c.args.list.now _ c.head_at.ensures c.in_err-head.was

pub overflow_add-result : goal.overflow_add-result
overflow_add-result c = omega (arith, room (goal.at.overflow_add-result c).In_ok-head, c.well_formed)

pub returns-then-head-eq1 : goal.returns-then-head-eq1
returns-then-head-eq1 c = place_image c.args.image.now c.args.at c.args.list.now _ c.head_at.ensures _ _ c.in_ok-head.was c.if-head-eq1.true

pub overflow_add-d : goal.overflow_add-d
overflow_add-d c = omega (arith, room (goal.at.overflow_add-d c).In_ok-head, c.well_formed)

pub bounds-image-at : goal.bounds-image-at
bounds-image-at c = omega (arith, room (goal.at.bounds-image-at c).In_ok-head, c.if-head-eq1-2.true)

pub returns-in-2 : goal.returns-in-2
returns-in-2 c = place_row c.args.image.now c.args.at c.args.list.now _ c.head_at.ensures _ _ c.in_ok-head.was c.if-head-eq1.false c.if-head-eq1-2.true _ c.in-2.is c.named.ensures

pub returns-in-3 : goal.returns-in-3
returns-in-3 c = place_run c.args.image.now c.args.at c.args.list.now _ c.head_at.ensures _ _ c.in_ok-head.was c.if-head-eq1.false c.if-head-eq1-2.true (λ q. omega arith) _ c.in-3.is c.named-in-3.ensures

pub returns-in-4 : goal.returns-in-4
returns-in-4 c = place_bound c.args.image.now c.args.at c.args.list.now _ c.head_at.ensures _ _ c.in_ok-head.was c.if-head-eq1.false c.if-head-eq1-2.true (λ q. omega arith) (λ q. omega arith) _ c.in-4.is c.named-in-4.ensures

pub returns-in_default : goal.returns-in_default
returns-in_default c = place_other c.args.image.now c.args.at c.args.list.now _ c.head_at.ensures _ _ c.in_ok-head.was c.if-head-eq1.false c.if-head-eq1-2.true (λ q. omega arith) (λ q. omega arith) (λ q. omega arith)

pub returns : goal.returns
returns c = place_wide c.args.image.now c.args.at c.args.list.now _ c.head_at.ensures _ _ c.in_ok-head.was c.if-head-eq1.false c.if-head-eq1-2.false
