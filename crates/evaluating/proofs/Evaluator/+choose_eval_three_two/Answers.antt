use mathlib.Core.Path.{sym, ◌∙◌}
use Prim.Native.Nat.{◌+◌}
use native.Mathlib.Omega.{arith}
use lib.ListN.{length}
use Rattle.std.specs.Prelude.{◌≡◌, true, false, Some}
use Rattle.std.proofs.lemmas.Result.{err_from_is_err_and}
use Rattle.evaluating.proofs.Readied.{ready_head, ready_order, ready_slot, ready_in, two_after, two_lent, two_slots, two_between, two_first, two_second, three_takes, three_after, three_lent, three_slots, three_after_2, three_between, three_first, three_second, three_third, when_after, when_after_2, when_between, when_condition, when_first, when_second}
use Rattle.evaluating.proofs.Ways.{takes_two, takes_others, told_small, two_refused_first, two_refused_second, two_applied, three_refused_first, three_refused_second, three_refused_third, three_applied, when_refused, when_took_first, when_took_second, when_took_neither}
use Rattle.evaluating.proofs.Evaluator.+choose_eval_three_two.Goals as goal

pub choose-overflow_add-first : goal.choose-overflow_add-first
choose-overflow_add-first t c = omega (arith, ready_head c.args.self.now.image.now c.args.self.now.list.now c.args.self.now.tables.now c.args.start c.args.end c.args.o (length c.args.work.now) c.requires.0)

pub choose-after-second-requires : goal.choose-after-second-requires
choose-after-second-requires t c = when_after c.args.self.now.image.now c.args.self.now.list.now c.args.self.now.tables.now c.args.start c.args.end c.args.o (length c.args.work.now) c.requires.0 c.requires.1

pub choose-after-third-requires : goal.choose-after-third-requires
choose-after-third-requires t c = when_after_2 c.args.self.now.image.now c.args.self.now.list.now c.args.self.now.tables.now c.args.start c.args.end c.args.o (length c.args.work.now) c.requires.0 c.requires.1 c.after-second.result c.after-second.ensures

pub choose-eval-requires : goal.choose-eval-requires
choose-eval-requires t c = (omega (arith, when_between c.args.self.now.image.now c.args.self.now.list.now c.args.self.now.tables.now c.args.start c.args.end c.args.o (length c.args.work.now) c.requires.0 c.requires.1 c.after-second.result c.after-second.ensures c.after-third.result c.after-third.ensures, ready_order c.args.self.now.image.now c.args.self.now.list.now c.args.self.now.tables.now c.args.start c.args.end c.args.o (length c.args.work.now) c.requires.0, c.requires.0), when_condition c.args.self.now.image.now c.args.self.now.list.now c.args.self.now.tables.now c.args.start c.args.end c.args.o (length c.args.work.now) c.requires.0 c.requires.1 c.after-second.result c.after-second.ensures c.after-third.result c.after-third.ensures)

pub choose-side-requires : goal.choose-side-requires
choose-side-requires t c = omega (arith, told_small c.args.self.now.image.now c.args.self.now.list.now c.args.self.now.tables.now (c.args.start + 4) c.after-second.result c.args.o c.args.o (length c.args.work.now) c.in_ok-n.n _ _ c.eval.result (when_condition c.args.self.now.image.now c.args.self.now.list.now c.args.self.now.tables.now c.args.start c.args.end c.args.o (length c.args.work.now) c.requires.0 c.requires.1 c.after-second.result c.after-second.ensures c.after-third.result c.after-third.ensures) c.eval.ensures c.in_ok-n.was, ready_slot c.args.self.now.image.now c.args.self.now.list.now c.args.self.now.tables.now c.args.start c.args.end c.args.o (length c.args.work.now) c.requires.0, c.eval.auto.work)

pub choose-eval-requires-in-Some-true : goal.choose-eval-requires-in-Some-true
choose-eval-requires-in-Some-true t c = (omega (arith, when_between c.args.self.now.image.now c.args.self.now.list.now c.args.self.now.tables.now c.args.start c.args.end c.args.o (length c.args.work.now) c.requires.0 c.requires.1 c.after-second.result c.after-second.ensures c.after-third.result c.after-third.ensures, ready_order c.args.self.now.image.now c.args.self.now.list.now c.args.self.now.tables.now c.args.start c.args.end c.args.o (length c.args.work.now) c.requires.0, c.requires.0), ready_in c.args.self.now.image.now c.args.self.now.list.now c.args.self.now.tables.now c.after-second.result c.after-third.result c.args.o (length c.args.work.now) _ c.eval.auto.work (when_first c.args.self.now.image.now c.args.self.now.list.now c.args.self.now.tables.now c.args.start c.args.end c.args.o (length c.args.work.now) c.requires.0 c.requires.1 c.after-second.result c.after-second.ensures c.after-third.result c.after-third.ensures))

pub choose-returns-in-Some-true : goal.choose-returns-in-Some-true
choose-returns-in-Some-true t c = when_took_first c.args.self.now.image.now c.args.self.now.list.now c.args.start c.args.end c.args.o c.requires.1 c.after-second.result c.after-second.ensures c.after-third.result c.after-third.ensures c.args.work.now _ c.eval.result c.eval.ensures c.in_ok-n.n c.side.result c.in_ok-n.was c.side.ensures (let q : c.side.result ≡ Some true = cc in q) _ c.eval-in-Some-true.result c.eval-in-Some-true.ensures

pub choose-eval-requires-in-Some-false : goal.choose-eval-requires-in-Some-false
choose-eval-requires-in-Some-false t c = (omega (arith, when_between c.args.self.now.image.now c.args.self.now.list.now c.args.self.now.tables.now c.args.start c.args.end c.args.o (length c.args.work.now) c.requires.0 c.requires.1 c.after-second.result c.after-second.ensures c.after-third.result c.after-third.ensures, ready_order c.args.self.now.image.now c.args.self.now.list.now c.args.self.now.tables.now c.args.start c.args.end c.args.o (length c.args.work.now) c.requires.0, c.requires.0), ready_in c.args.self.now.image.now c.args.self.now.list.now c.args.self.now.tables.now c.after-third.result c.args.end c.args.o (length c.args.work.now) _ c.eval.auto.work (when_second c.args.self.now.image.now c.args.self.now.list.now c.args.self.now.tables.now c.args.start c.args.end c.args.o (length c.args.work.now) c.requires.0 c.requires.1 c.after-second.result c.after-second.ensures c.after-third.result c.after-third.ensures))

pub choose-returns-in-Some-false : goal.choose-returns-in-Some-false
choose-returns-in-Some-false t c = when_took_second c.args.self.now.image.now c.args.self.now.list.now c.args.start c.args.end c.args.o c.requires.1 c.after-second.result c.after-second.ensures c.after-third.result c.after-third.ensures c.args.work.now _ c.eval.result c.eval.ensures c.in_ok-n.n c.side.result c.in_ok-n.was c.side.ensures (let q : c.side.result ≡ Some false = cc in q) _ c.eval-in-Some-false.result c.eval-in-Some-false.ensures

pub choose-returns-in_err-n : goal.choose-returns-in_err-n
choose-returns-in_err-n t c = let p = err_from_is_err_and c.from_residual.result c.from_residual.ensures.1 in rw (p.1, p.2) (when_refused c.args.self.now.image.now c.args.self.now.list.now c.args.start c.args.end c.args.o c.requires.1 c.after-second.result c.after-second.ensures c.after-third.result c.after-third.ensures c.args.work.now _ c.eval.result c.eval.ensures _ c.in_err-n.was)

pub choose-returns-in-None : goal.choose-returns-in-None
choose-returns-in-None t c = when_took_neither c.args.self.now.image.now c.args.self.now.list.now c.args.start c.args.end c.args.o c.requires.1 c.after-second.result c.after-second.ensures c.after-third.result c.after-third.ensures c.args.work.now _ c.eval.result c.eval.ensures c.in_ok-n.n c.side.result c.in_ok-n.was c.side.ensures c.in-None.is

pub eval-overflow_add-start : goal.eval-overflow_add-start
eval-overflow_add-start t c = omega (arith, ready_head c.args.self.now.image.now c.args.self.now.list.now c.args.self.now.tables.now c.args.start c.args.end c.args.o (length c.args.work.now) c.requires)

pub eval-word_at-k-requires : goal.eval-word_at-k-requires
eval-word_at-k-requires t c = omega (arith, ready_head c.args.self.now.image.now c.args.self.now.list.now c.args.self.now.tables.now c.args.start c.args.end c.args.o (length c.args.work.now) c.requires)

pub eval-put_leaf-requires : goal.eval-put_leaf-requires
eval-put_leaf-requires t c = (omega (arith, c.word_at-k.ensures.0, c.if-k-lt16.true), ready_slot c.args.self.now.image.now c.args.self.now.list.now c.args.self.now.tables.now c.args.start c.args.end c.args.o (length c.args.work.now) c.requires)

pub eval-returns-then-k-lt16 : goal.eval-returns-then-k-lt16
eval-returns-then-k-lt16 t c = c.put_leaf.ensures

pub eval-choose-requires : goal.eval-choose-requires
eval-choose-requires t c = (omega (arith, ready_order c.args.self.now.image.now c.args.self.now.list.now c.args.self.now.tables.now c.args.start c.args.end c.args.o (length c.args.work.now) c.requires, c.decreases), (c.requires, sym c.word_at-k.ensures.0 ∙ c.if-k-eq20.true))

pub eval-returns-then-k-eq20 : goal.eval-returns-then-k-eq20
eval-returns-then-k-eq20 t c = c.choose.ensures

pub eval-two-requires : goal.eval-two-requires
eval-two-requires t c = (omega (arith, ready_order c.args.self.now.image.now c.args.self.now.list.now c.args.self.now.tables.now c.args.start c.args.end c.args.o (length c.args.work.now) c.requires, c.decreases), (c.requires, sym c.word_at-k.ensures.0, takes_two _ _ c.arguments.ensures (sym c.eq.ensures ∙ c.if-eq.true)))

pub eval-returns-then-eq : goal.eval-returns-then-eq
eval-returns-then-eq t c = c.two.ensures

pub eval-three-requires : goal.eval-three-requires
eval-three-requires t c = (omega (arith, ready_order c.args.self.now.image.now c.args.self.now.list.now c.args.self.now.tables.now c.args.start c.args.end c.args.o (length c.args.work.now) c.requires, c.decreases), (c.requires, sym c.word_at-k.ensures.0, omega (arith, c.if-k-lt16.false), c.if-k-eq20.false, takes_others _ _ c.arguments.ensures (sym c.eq.ensures ∙ c.if-eq.false)))

pub eval-returns : goal.eval-returns
eval-returns t c = c.three.ensures

pub three-overflow_add-first : goal.three-overflow_add-first
three-overflow_add-first t c = omega (arith, ready_head c.args.self.now.image.now c.args.self.now.list.now c.args.self.now.tables.now c.args.start c.args.end c.args.o (length c.args.work.now) c.requires.0)

pub three-after-second-requires : goal.three-after-second-requires
three-after-second-requires t c = three_after c.args.self.now.image.now c.args.self.now.list.now c.args.self.now.tables.now c.args.start c.args.end c.args.o (length c.args.work.now) c.requires.0 c.args.k c.requires.1 c.requires.2 c.requires.3 c.requires.4

pub three-after-third-requires : goal.three-after-third-requires
three-after-third-requires t c = three_after_2 c.args.self.now.image.now c.args.self.now.list.now c.args.self.now.tables.now c.args.start c.args.end c.args.o (length c.args.work.now) c.requires.0 c.args.k c.requires.1 c.requires.2 c.requires.3 c.requires.4 c.after-second.result c.after-second.ensures

pub three-eval-requires : goal.three-eval-requires
three-eval-requires t c = (omega (arith, three_between c.args.self.now.image.now c.args.self.now.list.now c.args.self.now.tables.now c.args.start c.args.end c.args.o (length c.args.work.now) c.requires.0 c.args.k c.requires.1 c.requires.2 c.requires.3 c.requires.4 c.after-second.result c.after-second.ensures c.after-third.result c.after-third.ensures, ready_order c.args.self.now.image.now c.args.self.now.list.now c.args.self.now.tables.now c.args.start c.args.end c.args.o (length c.args.work.now) c.requires.0, c.requires.0), three_first c.args.self.now.image.now c.args.self.now.list.now c.args.self.now.tables.now c.args.start c.args.end c.args.o (length c.args.work.now) c.requires.0 c.args.k c.requires.1 c.requires.2 c.requires.3 c.requires.4 c.after-second.result c.after-second.ensures c.after-third.result c.after-third.ensures)

pub three-overflow_add-o : goal.three-overflow_add-o
three-overflow_add-o t c = omega (arith, three_slots c.args.self.now.image.now c.args.self.now.list.now c.args.self.now.tables.now c.args.start c.args.end c.args.o (length c.args.work.now) c.requires.0 c.args.k c.requires.1 c.requires.2 c.requires.3 c.requires.4)

pub three-eval-requires-2 : goal.three-eval-requires-2
three-eval-requires-2 t c = (omega (arith, three_between c.args.self.now.image.now c.args.self.now.list.now c.args.self.now.tables.now c.args.start c.args.end c.args.o (length c.args.work.now) c.requires.0 c.args.k c.requires.1 c.requires.2 c.requires.3 c.requires.4 c.after-second.result c.after-second.ensures c.after-third.result c.after-third.ensures, ready_order c.args.self.now.image.now c.args.self.now.list.now c.args.self.now.tables.now c.args.start c.args.end c.args.o (length c.args.work.now) c.requires.0, c.requires.0), ready_in c.args.self.now.image.now c.args.self.now.list.now c.args.self.now.tables.now c.after-second.result c.after-third.result (c.args.o + 1024) (length c.args.work.now) _ c.eval.auto.work (three_second c.args.self.now.image.now c.args.self.now.list.now c.args.self.now.tables.now c.args.start c.args.end c.args.o (length c.args.work.now) c.requires.0 c.args.k c.requires.1 c.requires.2 c.requires.3 c.requires.4 c.after-second.result c.after-second.ensures c.after-third.result c.after-third.ensures))

pub three-overflow_add-o-2 : goal.three-overflow_add-o-2
three-overflow_add-o-2 t c = omega (arith, c.well_formed, three_slots c.args.self.now.image.now c.args.self.now.list.now c.args.self.now.tables.now c.args.start c.args.end c.args.o (length c.args.work.now) c.requires.0 c.args.k c.requires.1 c.requires.2 c.requires.3 c.requires.4, c.eval.auto.work, c.eval-2.auto.work)

pub three-eval-requires-3 : goal.three-eval-requires-3
three-eval-requires-3 t c = (omega (arith, three_between c.args.self.now.image.now c.args.self.now.list.now c.args.self.now.tables.now c.args.start c.args.end c.args.o (length c.args.work.now) c.requires.0 c.args.k c.requires.1 c.requires.2 c.requires.3 c.requires.4 c.after-second.result c.after-second.ensures c.after-third.result c.after-third.ensures, ready_order c.args.self.now.image.now c.args.self.now.list.now c.args.self.now.tables.now c.args.start c.args.end c.args.o (length c.args.work.now) c.requires.0, c.requires.0), ready_in c.args.self.now.image.now c.args.self.now.list.now c.args.self.now.tables.now c.after-third.result c.args.end (c.args.o + 2048) (length c.args.work.now) _ (c.eval-2.auto.work ∙ c.eval.auto.work) (three_third c.args.self.now.image.now c.args.self.now.list.now c.args.self.now.tables.now c.args.start c.args.end c.args.o (length c.args.work.now) c.requires.0 c.args.k c.requires.1 c.requires.2 c.requires.3 c.requires.4 c.after-second.result c.after-second.ensures c.after-third.result c.after-third.ensures))

pub three-apply_three-requires : goal.three-apply_three-requires
three-apply_three-requires t c = (omega (arith, three_slots c.args.self.now.image.now c.args.self.now.list.now c.args.self.now.tables.now c.args.start c.args.end c.args.o (length c.args.work.now) c.requires.0 c.args.k c.requires.1 c.requires.2 c.requires.3 c.requires.4, c.eval.auto.work, c.eval-2.auto.work, c.eval-3.auto.work), told_small c.args.self.now.image.now c.args.self.now.list.now c.args.self.now.tables.now (c.args.start + 4) c.after-second.result c.args.o c.args.o (length c.args.work.now) c.in_ok-la.la _ _ c.eval.result (three_first c.args.self.now.image.now c.args.self.now.list.now c.args.self.now.tables.now c.args.start c.args.end c.args.o (length c.args.work.now) c.requires.0 c.args.k c.requires.1 c.requires.2 c.requires.3 c.requires.4 c.after-second.result c.after-second.ensures c.after-third.result c.after-third.ensures) c.eval.ensures c.in_ok-la.was, told_small c.args.self.now.image.now c.args.self.now.list.now c.args.self.now.tables.now c.after-second.result c.after-third.result (c.args.o + 1024) (c.args.o + 1024) (length c.args.work.now) c.in_ok-lb.lb _ _ c.eval-2.result (three_second c.args.self.now.image.now c.args.self.now.list.now c.args.self.now.tables.now c.args.start c.args.end c.args.o (length c.args.work.now) c.requires.0 c.args.k c.requires.1 c.requires.2 c.requires.3 c.requires.4 c.after-second.result c.after-second.ensures c.after-third.result c.after-third.ensures) c.eval-2.ensures c.in_ok-lb.was, told_small c.args.self.now.image.now c.args.self.now.list.now c.args.self.now.tables.now c.after-third.result c.args.end (c.args.o + 2048) (c.args.o + 2048) (length c.args.work.now) c.in_ok-lc.lc _ _ c.eval-3.result (three_third c.args.self.now.image.now c.args.self.now.list.now c.args.self.now.tables.now c.args.start c.args.end c.args.o (length c.args.work.now) c.requires.0 c.args.k c.requires.1 c.requires.2 c.requires.3 c.requires.4 c.after-second.result c.after-second.ensures c.after-third.result c.after-third.ensures) c.eval-3.ensures c.in_ok-lc.was, three_takes c.args.self.now.image.now c.args.self.now.list.now c.args.self.now.tables.now c.args.start c.args.end c.args.o (length c.args.work.now) c.requires.0 c.args.k c.requires.1 c.requires.2 c.requires.3 c.requires.4, c.requires.3, three_lent c.args.self.now.image.now c.args.self.now.list.now c.args.self.now.tables.now c.args.start c.args.end c.args.o (length c.args.work.now) c.requires.0 c.args.k c.requires.1 c.requires.2 c.requires.3 c.requires.4)

pub three-returns-in_err-la : goal.three-returns-in_err-la
three-returns-in_err-la t c = let p = err_from_is_err_and c.from_residual.result c.from_residual.ensures.1 in rw (p.1, p.2) (three_refused_first c.args.self.now.image.now c.args.self.now.list.now c.args.start c.args.end c.args.o c.args.k c.requires.1 c.requires.2 c.requires.3 c.requires.4 c.after-second.result c.after-second.ensures c.after-third.result c.after-third.ensures c.args.work.now _ c.eval.result c.eval.ensures _ c.in_err-la.was)

pub three-returns-in_err-lb : goal.three-returns-in_err-lb
three-returns-in_err-lb t c = let p = err_from_is_err_and c.from_residual-in_err-lb.result c.from_residual-in_err-lb.ensures.1 in rw (p.1, p.2) (three_refused_second c.args.self.now.image.now c.args.self.now.list.now c.args.start c.args.end c.args.o c.args.k c.requires.1 c.requires.2 c.requires.3 c.requires.4 c.after-second.result c.after-second.ensures c.after-third.result c.after-third.ensures c.args.work.now _ c.eval.result c.eval.ensures c.in_ok-la.la c.in_ok-la.was _ c.eval-2.result c.eval-2.ensures _ c.in_err-lb.was)

pub three-returns-in_err-lc : goal.three-returns-in_err-lc
three-returns-in_err-lc t c = let p = err_from_is_err_and c.from_residual-in_err-lc.result c.from_residual-in_err-lc.ensures.1 in rw (p.1, p.2) (three_refused_third c.args.self.now.image.now c.args.self.now.list.now c.args.start c.args.end c.args.o c.args.k c.requires.1 c.requires.2 c.requires.3 c.requires.4 c.after-second.result c.after-second.ensures c.after-third.result c.after-third.ensures c.args.work.now _ c.eval.result c.eval.ensures c.in_ok-la.la c.in_ok-la.was _ c.eval-2.result c.eval-2.ensures c.in_ok-lb.lb c.in_ok-lb.was _ c.eval-3.result c.eval-3.ensures _ c.in_err-lc.was)

pub three-returns : goal.three-returns
three-returns t c = three_applied c.args.self.now.image.now c.args.self.now.list.now c.args.start c.args.end c.args.o c.args.k c.requires.1 c.requires.2 c.requires.3 c.requires.4 c.after-second.result c.after-second.ensures c.after-third.result c.after-third.ensures c.args.work.now _ c.eval.result c.eval.ensures c.in_ok-la.la c.in_ok-la.was _ c.eval-2.result c.eval-2.ensures c.in_ok-lb.lb c.in_ok-lb.was _ c.eval-3.result c.eval-3.ensures c.in_ok-lc.lc c.in_ok-lc.was (omega (arith, three_slots c.args.self.now.image.now c.args.self.now.list.now c.args.self.now.tables.now c.args.start c.args.end c.args.o (length c.args.work.now) c.requires.0 c.args.k c.requires.1 c.requires.2 c.requires.3 c.requires.4, c.eval.auto.work)) (omega (arith, three_slots c.args.self.now.image.now c.args.self.now.list.now c.args.self.now.tables.now c.args.start c.args.end c.args.o (length c.args.work.now) c.requires.0 c.args.k c.requires.1 c.requires.2 c.requires.3 c.requires.4, c.eval.auto.work, c.eval-2.auto.work)) (omega (arith, three_slots c.args.self.now.image.now c.args.self.now.list.now c.args.self.now.tables.now c.args.start c.args.end c.args.o (length c.args.work.now) c.requires.0 c.args.k c.requires.1 c.requires.2 c.requires.3 c.requires.4, c.eval.auto.work, c.eval-2.auto.work, c.eval-3.auto.work)) _ c.apply_three.result c.apply_three.ensures

pub two-overflow_add-first : goal.two-overflow_add-first
two-overflow_add-first t c = omega (arith, ready_head c.args.self.now.image.now c.args.self.now.list.now c.args.self.now.tables.now c.args.start c.args.end c.args.o (length c.args.work.now) c.requires.0)

pub two-after-second-requires : goal.two-after-second-requires
two-after-second-requires t c = two_after c.args.self.now.image.now c.args.self.now.list.now c.args.self.now.tables.now c.args.start c.args.end c.args.o (length c.args.work.now) c.requires.0 c.args.k c.requires.1 c.requires.2

pub two-eval-requires : goal.two-eval-requires
two-eval-requires t c = (omega (arith, two_between c.args.self.now.image.now c.args.self.now.list.now c.args.self.now.tables.now c.args.start c.args.end c.args.o (length c.args.work.now) c.requires.0 c.args.k c.requires.1 c.requires.2 c.after-second.result c.after-second.ensures, ready_order c.args.self.now.image.now c.args.self.now.list.now c.args.self.now.tables.now c.args.start c.args.end c.args.o (length c.args.work.now) c.requires.0, c.requires.0), two_first c.args.self.now.image.now c.args.self.now.list.now c.args.self.now.tables.now c.args.start c.args.end c.args.o (length c.args.work.now) c.requires.0 c.args.k c.requires.1 c.requires.2 c.after-second.result c.after-second.ensures)

pub two-overflow_add-o : goal.two-overflow_add-o
two-overflow_add-o t c = omega (arith, two_slots c.args.self.now.image.now c.args.self.now.list.now c.args.self.now.tables.now c.args.start c.args.end c.args.o (length c.args.work.now) c.requires.0 c.args.k c.requires.1 c.requires.2)

pub two-eval-requires-2 : goal.two-eval-requires-2
two-eval-requires-2 t c = (omega (arith, two_between c.args.self.now.image.now c.args.self.now.list.now c.args.self.now.tables.now c.args.start c.args.end c.args.o (length c.args.work.now) c.requires.0 c.args.k c.requires.1 c.requires.2 c.after-second.result c.after-second.ensures, ready_order c.args.self.now.image.now c.args.self.now.list.now c.args.self.now.tables.now c.args.start c.args.end c.args.o (length c.args.work.now) c.requires.0, c.requires.0), ready_in c.args.self.now.image.now c.args.self.now.list.now c.args.self.now.tables.now c.after-second.result c.args.end (c.args.o + 1024) (length c.args.work.now) _ c.eval.auto.work (two_second c.args.self.now.image.now c.args.self.now.list.now c.args.self.now.tables.now c.args.start c.args.end c.args.o (length c.args.work.now) c.requires.0 c.args.k c.requires.1 c.requires.2 c.after-second.result c.after-second.ensures))

pub two-apply_two-requires : goal.two-apply_two-requires
two-apply_two-requires t c = (omega (arith, two_slots c.args.self.now.image.now c.args.self.now.list.now c.args.self.now.tables.now c.args.start c.args.end c.args.o (length c.args.work.now) c.requires.0 c.args.k c.requires.1 c.requires.2, c.eval.auto.work, c.eval-2.auto.work), told_small c.args.self.now.image.now c.args.self.now.list.now c.args.self.now.tables.now (c.args.start + 4) c.after-second.result c.args.o c.args.o (length c.args.work.now) c.in_ok-la.la _ _ c.eval.result (two_first c.args.self.now.image.now c.args.self.now.list.now c.args.self.now.tables.now c.args.start c.args.end c.args.o (length c.args.work.now) c.requires.0 c.args.k c.requires.1 c.requires.2 c.after-second.result c.after-second.ensures) c.eval.ensures c.in_ok-la.was, told_small c.args.self.now.image.now c.args.self.now.list.now c.args.self.now.tables.now c.after-second.result c.args.end (c.args.o + 1024) (c.args.o + 1024) (length c.args.work.now) c.in_ok-lb.lb _ _ c.eval-2.result (two_second c.args.self.now.image.now c.args.self.now.list.now c.args.self.now.tables.now c.args.start c.args.end c.args.o (length c.args.work.now) c.requires.0 c.args.k c.requires.1 c.requires.2 c.after-second.result c.after-second.ensures) c.eval-2.ensures c.in_ok-lb.was, c.requires.2, two_lent c.args.self.now.image.now c.args.self.now.list.now c.args.self.now.tables.now c.args.start c.args.end c.args.o (length c.args.work.now) c.requires.0 c.args.k c.requires.1 c.requires.2)

pub two-returns-in_err-la : goal.two-returns-in_err-la
two-returns-in_err-la t c = let p = err_from_is_err_and c.from_residual.result c.from_residual.ensures.1 in rw (p.1, p.2) (two_refused_first c.args.self.now.image.now c.args.self.now.list.now c.args.start c.args.end c.args.o c.args.k c.requires.1 c.requires.2 c.after-second.result c.after-second.ensures c.args.work.now _ c.eval.result c.eval.ensures _ c.in_err-la.was)

pub two-returns-in_err-lb : goal.two-returns-in_err-lb
two-returns-in_err-lb t c = let p = err_from_is_err_and c.from_residual-in_err-lb.result c.from_residual-in_err-lb.ensures.1 in rw (p.1, p.2) (two_refused_second c.args.self.now.image.now c.args.self.now.list.now c.args.start c.args.end c.args.o c.args.k c.requires.1 c.requires.2 c.after-second.result c.after-second.ensures c.args.work.now _ c.eval.result c.eval.ensures c.in_ok-la.la c.in_ok-la.was _ c.eval-2.result c.eval-2.ensures _ c.in_err-lb.was)

pub two-returns : goal.two-returns
two-returns t c = two_applied c.args.self.now.image.now c.args.self.now.list.now c.args.start c.args.end c.args.o c.args.k c.requires.1 c.requires.2 c.after-second.result c.after-second.ensures c.args.work.now _ c.eval.result c.eval.ensures c.in_ok-la.la c.in_ok-la.was _ c.eval-2.result c.eval-2.ensures c.in_ok-lb.lb c.in_ok-lb.was (omega (arith, two_slots c.args.self.now.image.now c.args.self.now.list.now c.args.self.now.tables.now c.args.start c.args.end c.args.o (length c.args.work.now) c.requires.0 c.args.k c.requires.1 c.requires.2, c.eval.auto.work)) (omega (arith, two_slots c.args.self.now.image.now c.args.self.now.list.now c.args.self.now.tables.now c.args.start c.args.end c.args.o (length c.args.work.now) c.requires.0 c.args.k c.requires.1 c.requires.2, c.eval.auto.work, c.eval-2.auto.work)) _ c.apply_two.result c.apply_two.ensures
