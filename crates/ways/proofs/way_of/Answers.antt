use mathlib.Core.Path.{refl, sym, ◌∙◌}
use Rattle.kinds.proofs.Quick.{if_none, if_some}
use native.Mathlib.Omega.{arith}
use lib.ListN.{length}
use Rattle.ways.proofs.Evaluated.{head_is_there, whole_stretch, whole_ready}
use Rattle.ways.proofs.Taken.{taken_constant, taken_leaf, taken_call, taken_when}
use Rattle.ways.proofs.way_of.Goals as goal

pub returns-in_default : goal.returns-in_default
returns-in_default c = absurd (head_is_there c.args.s.now c.args.list.now c.args.tables.now (length c.args.work.now) c.requires (sym c.head_at.ensures ∙ c.in_default.is))

pub overflow_add-end : goal.overflow_add-end
overflow_add-end c = let a = (whole_stretch c.args.s.now c.args.list.now c.args.tables.now (length c.args.work.now) c.requires c.in-Some.head.kind c.in-Some.head.length (λ i. omega (arith, c.type_inv.s i)) (sym c.head_at.ensures ∙ c.in-Some.is)).inside in omega (arith, c.well_formed)

pub eval-requires : goal.eval-requires
eval-requires c = whole_ready c.args.s.now c.args.list.now c.args.tables.now (length c.args.work.now) c.requires c.in-Some.head.kind c.in-Some.head.length (λ i. omega (arith, c.type_inv.s i)) (sym c.head_at.ensures ∙ c.in-Some.is)

pub returns-in_default-arguments : goal.returns-in_default-arguments
returns-in_default-arguments c = taken_leaf c.args.s.now c.args.list.now c.args.tables.now (length c.args.work.now) c.requires c.in-Some.head.kind c.in-Some.head.length (λ i. omega (arith, c.type_inv.s i)) (λ i. omega (arith, c.type_inv.list i)) (sym c.head_at.ensures ∙ c.in-Some.is) c.eval.result c.args.work.now c.eval.new.work c.eval.ensures _ c.in_default-eval.is _ refl (if_none _ (sym c.arguments.ensures ∙ c.in_default-arguments.is)) c.eval.new.work

pub side_of-requires : goal.side_of-requires
side_of-requires c = taken_when c.args.s.now c.args.list.now c.args.tables.now (length c.args.work.now) c.requires c.in-Some.head.kind c.in-Some.head.length (λ i. omega (arith, c.type_inv.s i)) (λ i. omega (arith, c.type_inv.list i)) (sym c.head_at.ensures ∙ c.in-Some.is) c.eval.result c.args.work.now c.eval.new.work c.eval.ensures _ c.in_default-eval.is _ refl c.if-kind-eq20.true _ (omega (arith, c.eval.auto.work))

pub returns-then-kind-eq20 : goal.returns-then-kind-eq20
returns-then-kind-eq20 c = c.side_of.ensures

pub returns-in-Ok : goal.returns-in-Ok
returns-in-Ok c = taken_constant c.args.s.now c.args.list.now c.args.tables.now (length c.args.work.now) c.requires c.in-Some.head.kind c.in-Some.head.length (λ i. omega (arith, c.type_inv.s i)) (λ i. omega (arith, c.type_inv.list i)) (sym c.head_at.ensures ∙ c.in-Some.is) c.eval.result c.args.work.now c.eval.new.work c.eval.ensures c.in-Ok.length c.in-Ok.is

pub returns : goal.returns
returns c = taken_call c.args.s.now c.args.list.now c.args.tables.now (length c.args.work.now) c.requires c.in-Some.head.kind c.in-Some.head.length (λ i. omega (arith, c.type_inv.s i)) (λ i. omega (arith, c.type_inv.list i)) (sym c.head_at.ensures ∙ c.in-Some.is) c.eval.result c.args.work.now c.eval.new.work c.eval.ensures _ c.in_default-eval.is c.in-Some-arguments.count (if_some _ _ (sym c.arguments.ensures ∙ c.in-Some-arguments.is)).0 (if_some _ _ (sym c.arguments.ensures ∙ c.in-Some-arguments.is)).1 c.if-kind-eq20.false c.eval.new.work
