use mathlib.Core.Path.{sym, ◌∙◌}
use Rattle.std.specs.Prelude.{◌≡◌, true, false, Some}
use native.Mathlib.Omega.{arith}
use lib.ListN.{length}
use Rattle.ways.proofs.Choosing.{condition_there, yes_within, yes_there, no_within, condition_ready, slot_within, first_way, second_way, open_way, neither_way}
use Rattle.ways.proofs.side_of.Goals as goal

pub returns-in_default : goal.returns-in_default
returns-in_default c = absurd (condition_there c.args.s.now c.args.list.now c.args.tables.now c.args.end (length c.args.work.now) c.requires (λ i. omega (arith, c.type_inv.s i)) (sym c.head_at.ensures ∙ c.in_default.is))

pub overflow_add-yes : goal.overflow_add-yes
overflow_add-yes c = let a = yes_within c.args.s.now c.args.list.now c.args.tables.now c.args.end (length c.args.work.now) c.requires (λ i. omega (arith, c.type_inv.s i)) c.in-Some.condition.kind c.in-Some.condition.length (sym c.head_at.ensures ∙ c.in-Some.is) in omega (arith, c.well_formed)

pub returns-in_default-head_at : goal.returns-in_default-head_at
returns-in_default-head_at c = absurd (yes_there c.args.s.now c.args.list.now c.args.tables.now c.args.end (length c.args.work.now) c.requires (λ i. omega (arith, c.type_inv.s i)) c.in-Some.condition.kind c.in-Some.condition.length (sym c.head_at.ensures ∙ c.in-Some.is) (sym c.head_at-2.ensures ∙ c.in_default-head_at.is))

pub overflow_add-no : goal.overflow_add-no
overflow_add-no c = let a = no_within c.args.s.now c.args.list.now c.args.tables.now c.args.end (length c.args.work.now) c.requires (λ i. omega (arith, c.type_inv.s i)) c.in-Some.condition.kind c.in-Some.condition.length (sym c.head_at.ensures ∙ c.in-Some.is) c.in-Some-head_at.first.kind c.in-Some-head_at.first.length (sym c.head_at-2.ensures ∙ c.in-Some-head_at.is) in omega (arith, c.well_formed)

pub overflow_add-no-2 : goal.overflow_add-no-2
overflow_add-no-2 c = let a = no_within c.args.s.now c.args.list.now c.args.tables.now c.args.end (length c.args.work.now) c.requires (λ i. omega (arith, c.type_inv.s i)) c.in-Some.condition.kind c.in-Some.condition.length (sym c.head_at.ensures ∙ c.in-Some.is) c.in-Some-head_at.first.kind c.in-Some-head_at.first.length (sym c.head_at-2.ensures ∙ c.in-Some-head_at.is) in omega (arith, c.well_formed)

pub eval-requires : goal.eval-requires
eval-requires c = condition_ready c.args.s.now c.args.list.now c.args.tables.now c.args.end (length c.args.work.now) c.requires (λ i. omega (arith, c.type_inv.s i)) c.in-Some.condition.kind c.in-Some.condition.length (sym c.head_at.ensures ∙ c.in-Some.is)

pub side-requires : goal.side-requires
side-requires c = omega (arith, slot_within c.args.s.now c.args.list.now c.args.tables.now c.args.end (length c.args.work.now) c.requires (λ i. omega (arith, c.type_inv.s i)) c.in-Some.condition.kind c.in-Some.condition.length (sym c.head_at.ensures ∙ c.in-Some.is) c.in-Some-head_at.first.kind c.in-Some-head_at.first.length (sym c.head_at-2.ensures ∙ c.in-Some-head_at.is) (λ i. omega (arith, c.type_inv.list i)) c.eval.result c.args.work.now c.eval.new.work c.eval.ensures c.in-Ok.l c.in-Ok.is (let r = c.requires.rooms.slots in omega (arith, c.eval.auto.work)))

pub returns-in-Some-true : goal.returns-in-Some-true
returns-in-Some-true c = first_way c.args.s.now c.args.list.now c.args.tables.now c.args.end (length c.args.work.now) c.requires (λ i. omega (arith, c.type_inv.s i)) c.in-Some.condition.kind c.in-Some.condition.length (sym c.head_at.ensures ∙ c.in-Some.is) c.in-Some-head_at.first.kind c.in-Some-head_at.first.length (sym c.head_at-2.ensures ∙ c.in-Some-head_at.is) (λ i. omega (arith, c.type_inv.list i)) c.eval.result c.args.work.now c.eval.new.work c.eval.ensures c.in-Ok.l c.in-Ok.is c.side.result c.side.ensures (let q : c.side.result ≡ Some true = cc in q) c.eval.new.work

pub returns-in-Some-false : goal.returns-in-Some-false
returns-in-Some-false c = second_way c.args.s.now c.args.list.now c.args.tables.now c.args.end (length c.args.work.now) c.requires (λ i. omega (arith, c.type_inv.s i)) c.in-Some.condition.kind c.in-Some.condition.length (sym c.head_at.ensures ∙ c.in-Some.is) c.in-Some-head_at.first.kind c.in-Some-head_at.first.length (sym c.head_at-2.ensures ∙ c.in-Some-head_at.is) (λ i. omega (arith, c.type_inv.list i)) c.eval.result c.args.work.now c.eval.new.work c.eval.ensures c.in-Ok.l c.in-Ok.is c.side.result c.side.ensures (let q : c.side.result ≡ Some false = cc in q) c.eval.new.work

pub returns-in_default-eval : goal.returns-in_default-eval
returns-in_default-eval c = open_way c.args.s.now c.args.list.now c.args.tables.now c.args.end (length c.args.work.now) c.requires (λ i. omega (arith, c.type_inv.s i)) c.in-Some.condition.kind c.in-Some.condition.length (sym c.head_at.ensures ∙ c.in-Some.is) c.in-Some-head_at.first.kind c.in-Some-head_at.first.length (sym c.head_at-2.ensures ∙ c.in-Some-head_at.is) (λ i. omega (arith, c.type_inv.list i)) c.eval.result c.args.work.now c.eval.new.work c.eval.ensures _ c.in_default-eval.is c.eval.new.work

pub returns-in-None : goal.returns-in-None
returns-in-None c = neither_way c.args.s.now c.args.list.now c.args.tables.now c.args.end (length c.args.work.now) c.requires (λ i. omega (arith, c.type_inv.s i)) c.in-Some.condition.kind c.in-Some.condition.length (sym c.head_at.ensures ∙ c.in-Some.is) c.in-Some-head_at.first.kind c.in-Some-head_at.first.length (sym c.head_at-2.ensures ∙ c.in-Some-head_at.is) (λ i. omega (arith, c.type_inv.list i)) c.eval.result c.args.work.now c.eval.new.work c.eval.ensures c.in-Ok.l c.in-Ok.is c.side.result c.side.ensures c.in-None.is c.eval.new.work
