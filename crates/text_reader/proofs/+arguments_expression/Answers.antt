use Rattle.text_reader.proofs.Steps as steps
use Rattle.text_reader.proofs.Calls as calls
use Rattle.text_reader.specs.Reader.{told, encodes, in_records}
use Rattle.std.proofs.Common.{◌≡◌, rules, Err}
use Rattle.answers.specs.Told.{table, fault_number}
use Rattle.records.specs.Encode.{encode}
use Rattle.tokens.proofs.Laws as tokens
use Rattle.tokens.proofs.Heads.{head_opened, head_syntax}
use Rattle.texts.specs.Reading.{due_at, expr_at, args_at}
use Rattle.texts.proofs.Standing.{due_is_lem}
use Rattle.texts.proofs.Ways as ways
use Prim.Native.Nat.{◌+◌, ◌-◌}
use lib.ListN.{length}
use native.Mathlib.Omega.{arith}
use mathlib.Core.Path.{sym, ap, ◌∙◌}
use Rattle.text_reader.proofs.+arguments_expression.Goals as goal

pub arguments-returns-in_err-due_at : goal.arguments-returns-in_err-due_at
arguments-returns-in_err-due_at t c =
    let h : c.from_residual.result ≡ Err c.in_err-due_at.field-0.0 = search rules in
    steps.reads_err encodes c.args.o (args_at (expr_at c.args.d c.args.s.now) c.args.s.now c.args.left c.args.c c.args.p c.args.n) _ _ _ _ h
    (steps.due_bad c.args.s.now 41 41 c.args.p _ _ (sym c.due_at.ensures ∙ c.in_err-due_at.was)
    (λ w e. calls.args_last (expr_at c.args.d c.args.s.now) c.args.s.now c.args.left c.args.c c.args.p c.args.n c.if-left-eq0.true ∙ ways.args_open (expr_at c.args.d c.args.s.now) c.args.s.now c.args.c c.args.p c.args.n w e))

pub arguments-returns-then-left-eq0 : goal.arguments-returns-then-left-eq0
arguments-returns-then-left-eq0 t c = steps.args_none c.args.o (args_at (expr_at c.args.d c.args.s.now) c.args.s.now c.args.left c.args.c c.args.p c.args.n) (c.args.p + 1) c.args.n c.args.out.now (calls.args_last (expr_at c.args.d c.args.s.now) c.args.s.now c.args.left c.args.c c.args.p c.args.n (omega (arith, c.if-left-eq0.true)) ∙ ways.args_closed (expr_at c.args.d c.args.s.now) c.args.s.now c.args.c c.args.p c.args.n (tokens.due_stood (due_at c.args.s.now 41 41 c.args.p) _ (sym c.due_at.ensures ∙ c.in_ok-due_at.was)))

pub arguments-returns-in_err-due_at-2 : goal.arguments-returns-in_err-due_at-2
arguments-returns-in_err-due_at-2 t c =
    let h : c.from_residual-in_err-due_at-2.result ≡ Err c.in_err-due_at-2.field-0.0 = search rules in
    steps.reads_err encodes c.args.o (args_at (expr_at c.args.d c.args.s.now) c.args.s.now c.args.left c.args.c c.args.p c.args.n) _ _ _ _ h
    (steps.due_bad c.args.s.now c.args.c c.args.c c.args.p _ _ (sym c.due_at-2.ensures ∙ c.in_err-due_at-2.was)
    (λ w e. calls.args_absent (expr_at c.args.d c.args.s.now) c.args.s.now c.args.left c.args.c c.args.p c.args.n w (omega (arith, c.if-left-eq0.false)) e))

pub arguments-expression-requires : goal.arguments-expression-requires
arguments-expression-requires t c = let d = due_is_lem c.args.s.now c.args.c c.args.c c.args.p (tokens.due_stood (due_at c.args.s.now c.args.c c.args.c c.args.p) _ (sym c.due_at-2.ensures ∙ c.in_ok-due_at-2.was)) in let i = d.inside in let M = c.requires.0 in let R = c.requires in omega arith

pub arguments-returns-in_err-a : goal.arguments-returns-in_err-a
arguments-returns-in_err-a t c =
    let h : c.from_residual-in_err-a.result ≡ Err c.in_err-a.field-0.0 = search rules in
    steps.reads_err encodes c.args.o (args_at (expr_at c.args.d c.args.s.now) c.args.s.now c.args.left c.args.c c.args.p c.args.n) _ _ _ _ h
    (calls.args_some (expr_at c.args.d c.args.s.now) c.args.s.now c.args.left c.args.c c.args.p c.args.n _ _ (omega (arith, c.if-left-eq0.false)) (tokens.due_stood (due_at c.args.s.now c.args.c c.args.c c.args.p) _ (sym c.due_at-2.ensures ∙ c.in_ok-due_at-2.was))
    (steps.bad_of encode c.args.o ((expr_at c.args.d c.args.s.now) (c.args.p + 1) c.args.n) (told c.expression.result) _ _ c.args.out.now c.expression.new.out c.expression.ensures (ap told c.in_err-a.was)))

pub arguments-arguments-requires : goal.arguments-arguments-requires
arguments-arguments-requires t c = let G = (steps.got_of encode c.args.o ((expr_at c.args.d c.args.s.now) (c.args.p + 1) c.args.n) (told c.expression.result) c.in_ok-a.a.place c.in_ok-a.a.nodes c.in_ok-a.a.end c.args.out.now c.expression.new.out c.expression.ensures (ap told c.in_ok-a.was)) in let T = calls.expr_sized c.args.d c.args.s.now (c.args.p + 1) c.args.n G.tree c.in_ok-a.a.place c.in_ok-a.a.nodes G.is in let E = G.end in let T1 = T.more in let T2 = T.most in let T3 = T.size in let K = c.expression.auto.out in let M = c.requires.0 in let R = c.requires in omega arith

pub arguments-returns : goal.arguments-returns
arguments-returns t c = let G = (steps.got_of encode c.args.o ((expr_at c.args.d c.args.s.now) (c.args.p + 1) c.args.n) (told c.expression.result) c.in_ok-a.a.place c.in_ok-a.a.nodes c.in_ok-a.a.end c.args.out.now c.expression.new.out c.expression.ensures (ap told c.in_ok-a.was)) in let T = calls.expr_sized c.args.d c.args.s.now (c.args.p + 1) c.args.n G.tree c.in_ok-a.a.place c.in_ok-a.a.nodes G.is in let E = G.end in let T1 = T.more in let T2 = T.most in let T3 = T.size in let M = c.requires.0 in let R = c.requires in steps.reads_as c.args.o _ _ (told c.arguments.result) c.args.out.now c.arguments.new.out (ap (in_records encodes) (calls.args_on (expr_at c.args.d c.args.s.now) c.args.s.now c.args.left c.args.c c.args.p c.args.n G.tree c.in_ok-a.a.place c.in_ok-a.a.nodes (omega (arith, c.if-left-eq0.false)) (tokens.due_stood (due_at c.args.s.now c.args.c c.args.c c.args.p) _ (sym c.due_at-2.ensures ∙ c.in_ok-due_at-2.was)) G.is)) (steps.args_join c.args.o c.in_ok-a.a.end G.tree (args_at (expr_at c.args.d c.args.s.now) c.args.s.now (c.args.left - 1) 44 c.in_ok-a.a.place c.in_ok-a.a.nodes) (told c.arguments.result) c.args.out.now c.expression.new.out c.arguments.new.out E (omega arith) G.wrote c.arguments.ensures)

pub expression-returns-then-d-eq0 : goal.expression-returns-then-d-eq0
unfolding fault_number table
expression-returns-then-d-eq0 t c = steps.reads_told _ _ _ _ _ _ c.refused.ensures (steps.reads_bad encode c.args.o (expr_at c.args.d c.args.s.now c.args.p c.args.n) 22 c.args.p c.args.out.now c.args.out.now (ways.expr_deep c.args.d c.args.s.now c.args.p c.args.n (omega (arith, c.if-d-eq0.true))))

pub expression-returns-then-n-ge128 : goal.expression-returns-then-n-ge128
unfolding fault_number table
expression-returns-then-n-ge128 t c = steps.reads_told _ _ _ _ _ _ c.refused-then-n-ge128.ensures (steps.reads_bad encode c.args.o (expr_at c.args.d c.args.s.now c.args.p c.args.n) 23 c.args.p c.args.out.now c.args.out.now (ways.expr_many c.args.d c.args.s.now c.args.p c.args.n (omega (arith, c.if-d-eq0.false)) (omega (arith, c.if-n-ge128.true))))

pub expression-returns-then-s-p : goal.expression-returns-then-s-p
unfolding fault_number table
expression-returns-then-s-p t c = steps.reads_told _ _ _ _ _ _ c.refused-then-s-p.ensures (steps.reads_bad encode c.args.o (expr_at c.args.d c.args.s.now c.args.p c.args.n) 20 (length c.args.s.now) c.args.out.now c.args.out.now (ways.expr_end c.args.d c.args.s.now c.args.p c.args.n (omega (arith, c.if-d-eq0.false)) (omega (arith, c.if-n-ge128.false)) c.if-s-p.true))

pub expression-returns-in-39 : goal.expression-returns-in-39
expression-returns-in-39 t c = steps.reads_as c.args.o _ _ (told c.literal_at.result) c.args.out.now c.literal_at.new.out (ap (in_records encode) (calls.expr_quote c.args.d c.args.s.now c.args.p c.args.n (omega (arith, c.if-d-eq0.false)) (omega (arith, c.if-n-ge128.false)) c.if-s-p.false c.in-39.is)) c.literal_at.ensures

pub expression-returns-in-35 : goal.expression-returns-in-35
expression-returns-in-35 t c = steps.reads_as c.args.o _ _ (told c.name_at.result) c.args.out.now c.name_at.new.out (calls.expr_hash c.args.d c.args.s.now c.args.p c.args.n (omega (arith, c.if-d-eq0.false)) (omega (arith, c.if-n-ge128.false)) c.if-s-p.false (λ e. omega arith) c.in-35.is) c.name_at.ensures

pub expression-returns-in-36 : goal.expression-returns-in-36
expression-returns-in-36 t c = steps.reads_as c.args.o _ _ (told c.name_at-in-36.result) c.args.out.now c.name_at-in-36.new.out (calls.expr_dollar c.args.d c.args.s.now c.args.p c.args.n (omega (arith, c.if-d-eq0.false)) (omega (arith, c.if-n-ge128.false)) c.if-s-p.false (λ e. omega arith) (λ e. omega arith) c.in-36.is) c.name_at-in-36.ensures

pub expression-returns-in-64 : goal.expression-returns-in-64
expression-returns-in-64 t c = steps.reads_as c.args.o _ _ (told c.name_at-in-64.result) c.args.out.now c.name_at-in-64.new.out (calls.expr_sign c.args.d c.args.s.now c.args.p c.args.n (omega (arith, c.if-d-eq0.false)) (omega (arith, c.if-n-ge128.false)) c.if-s-p.false (λ e. omega arith) (λ e. omega arith) (λ e. omega arith) c.in-64.is) c.name_at-in-64.ensures

pub expression-returns-in_err-h-in_default : goal.expression-returns-in_err-h-in_default
expression-returns-in_err-h-in_default t c =
    let h : c.from_residual.result ≡ Err c.in_err-h-in_default.field-0.0 = search rules in
    let e = sym c.head_at.ensures ∙ c.in_err-h-in_default.was in
    let q = head_syntax _ _ _ e in
    steps.reads_err encode c.args.o (expr_at c.args.d c.args.s.now c.args.p c.args.n) _ _ _ _ h
    (steps.bad_syntax _ _ q (calls.call_not c.args.d c.args.s.now c.args.p c.args.n _ (calls.expr_head c.args.d c.args.s.now c.args.p c.args.n (omega (arith, c.if-d-eq0.false)) (omega (arith, c.if-n-ge128.false)) c.if-s-p.false (λ e. omega arith) (λ e. omega arith) (λ e. omega arith) (λ e. omega arith)) (e ∙ ap Err q)))

pub expression-arguments-requires : goal.expression-arguments-requires
expression-arguments-requires t c = let M = c.requires.0 in let R = c.requires in let B = (head_opened c.args.s.now c.args.p c.in_ok-h-in_default.h.kind c.in_ok-h-in_default.h.arguments c.in_ok-h-in_default.h.place (omega arith) (sym c.head_at.ensures ∙ c.in_ok-h-in_default.was)) in let B1 = B.far in let B2 = B.within in let B3 = B.kind in omega arith

pub expression-returns-in_err-a-in_default : goal.expression-returns-in_err-a-in_default
expression-returns-in_err-a-in_default t c =
    let h : c.from_residual-in_err-a-in_default.result ≡ Err c.in_err-a-in_default.field-0.0 = search rules in
    steps.reads_err encode c.args.o (expr_at c.args.d c.args.s.now c.args.p c.args.n) _ _ _ _ h
    (calls.call_refused c.args.d c.args.s.now c.args.p c.args.n _ _ _ _ _ (calls.expr_head c.args.d c.args.s.now c.args.p c.args.n (omega (arith, c.if-d-eq0.false)) (omega (arith, c.if-n-ge128.false)) c.if-s-p.false (λ e. omega arith) (λ e. omega arith) (λ e. omega arith) (λ e. omega arith)) (sym c.head_at.ensures ∙ c.in_ok-h-in_default.was)
    (steps.bad_of encodes (c.args.o + 4) _ (told c.arguments.result) _ _ c.args.out.now c.arguments.new.out c.arguments.ensures (ap told c.in_err-a-in_default.was)))

pub expression-overflow_sub-a : goal.expression-overflow_sub-a
expression-overflow_sub-a t c = let G = (steps.got_of encodes (c.args.o + 4) (args_at (expr_at (c.args.d - 1) c.args.s.now) c.args.s.now c.in_ok-h-in_default.h.arguments 40 c.in_ok-h-in_default.h.place (c.args.n + 1)) (told c.arguments.result) c.in_ok-a-in_default.a.place c.in_ok-a-in_default.a.nodes c.in_ok-a-in_default.a.end c.args.out.now c.arguments.new.out c.arguments.ensures (ap told c.in_ok-a-in_default.was)) in let E = G.end in let T = calls.args_sized (c.args.d - 1) c.args.s.now c.in_ok-h-in_default.h.arguments 40 c.in_ok-h-in_default.h.place (c.args.n + 1) G.tree c.in_ok-a-in_default.a.place c.in_ok-a-in_default.a.nodes G.is in let T1 = T.size in let K = c.arguments.auto.out in omega arith

pub expression-overflow_sub-a-in_default : goal.expression-overflow_sub-a-in_default
expression-overflow_sub-a-in_default t c = let G = (steps.got_of encodes (c.args.o + 4) (args_at (expr_at (c.args.d - 1) c.args.s.now) c.args.s.now c.in_ok-h-in_default.h.arguments 40 c.in_ok-h-in_default.h.place (c.args.n + 1)) (told c.arguments.result) c.in_ok-a-in_default.a.place c.in_ok-a-in_default.a.nodes c.in_ok-a-in_default.a.end c.args.out.now c.arguments.new.out c.arguments.ensures (ap told c.in_ok-a-in_default.was)) in let E = G.end in let T = calls.args_sized (c.args.d - 1) c.args.s.now c.in_ok-h-in_default.h.arguments 40 c.in_ok-h-in_default.h.place (c.args.n + 1) G.tree c.in_ok-a-in_default.a.place c.in_ok-a-in_default.a.nodes G.is in let T1 = T.size in let K = c.arguments.auto.out in omega arith

pub expression-put_head-requires : goal.expression-put_head-requires
expression-put_head-requires t c = let M = c.requires.0 in let R = c.requires in let B = (head_opened c.args.s.now c.args.p c.in_ok-h-in_default.h.kind c.in_ok-h-in_default.h.arguments c.in_ok-h-in_default.h.place (omega arith) (sym c.head_at.ensures ∙ c.in_ok-h-in_default.was)) in let B1 = B.far in let B2 = B.within in let B3 = B.kind in let G = (steps.got_of encodes (c.args.o + 4) (args_at (expr_at (c.args.d - 1) c.args.s.now) c.args.s.now c.in_ok-h-in_default.h.arguments 40 c.in_ok-h-in_default.h.place (c.args.n + 1)) (told c.arguments.result) c.in_ok-a-in_default.a.place c.in_ok-a-in_default.a.nodes c.in_ok-a-in_default.a.end c.args.out.now c.arguments.new.out c.arguments.ensures (ap told c.in_ok-a-in_default.was)) in let E = G.end in let T = calls.args_sized (c.args.d - 1) c.args.s.now c.in_ok-h-in_default.h.arguments 40 c.in_ok-h-in_default.h.place (c.args.n + 1) G.tree c.in_ok-a-in_default.a.place c.in_ok-a-in_default.a.nodes G.is in let T1 = T.size in let K = c.arguments.auto.out in omega arith

pub expression-returns-in_ok-a-in_default : goal.expression-returns-in_ok-a-in_default
expression-returns-in_ok-a-in_default t c = let M = c.requires.0 in let R = c.requires in let B = (head_opened c.args.s.now c.args.p c.in_ok-h-in_default.h.kind c.in_ok-h-in_default.h.arguments c.in_ok-h-in_default.h.place (omega arith) (sym c.head_at.ensures ∙ c.in_ok-h-in_default.was)) in let B1 = B.far in let B2 = B.within in let B3 = B.kind in calls.call_done c.args.d c.args.s.now c.args.p c.args.n c.in_ok-h-in_default.h.kind c.in_ok-h-in_default.h.arguments c.in_ok-h-in_default.h.place c.args.o c.in_ok-a-in_default.a.place c.in_ok-a-in_default.a.nodes c.in_ok-a-in_default.a.end c.args.out.now c.arguments.new.out c.put_head.new.out (calls.expr_head c.args.d c.args.s.now c.args.p c.args.n (omega (arith, c.if-d-eq0.false)) (omega (arith, c.if-n-ge128.false)) c.if-s-p.false (λ e. omega arith) (λ e. omega arith) (λ e. omega arith) (λ e. omega arith)) (sym c.head_at.ensures ∙ c.in_ok-h-in_default.was) B R.2 (steps.got_of encodes (c.args.o + 4) (args_at (expr_at (c.args.d - 1) c.args.s.now) c.args.s.now c.in_ok-h-in_default.h.arguments 40 c.in_ok-h-in_default.h.place (c.args.n + 1)) (told c.arguments.result) c.in_ok-a-in_default.a.place c.in_ok-a-in_default.a.nodes c.in_ok-a-in_default.a.end c.args.out.now c.arguments.new.out c.arguments.ensures (ap told c.in_ok-a-in_default.was)) c.put_head.ensures
