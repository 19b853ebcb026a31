use Rattle.std.proofs.Common.{◌≡◌, ◌+◌, sym, ap, ◌∙◌, arith, rules, Err}
use Rattle.tokens.specs.Tokens.{Opens}
use Rattle.texts.proofs.Standing.{Stood, due_is_lem}
use Rattle.tokens.proofs.Laws as laws
use Rattle.tokens.proofs.suite_at.Goals as goal
use Rattle.tokens.proofs.suite_at.Goals.{In_ok-due_at, In_ok-due_at-2}

-- the `.` and the suite digit
dot : (c : In_ok-due_at) → Stood c.args.s.now 46 46 c.args.q
dot c = due_is_lem _ _ _ _ (laws.due_stood _ _ (sym c.due_at.ensures ∙ c.in_ok-due_at.was))

digit : (c : In_ok-due_at-2) → Stood c.args.s.now 49 53 (c.args.q + 1)
digit c = due_is_lem _ _ _ _ (laws.due_stood _ _ (sym c.due_at-2.ensures ∙ c.in_ok-due_at-2.was))

pub returns-in_err-due_at : goal.returns-in_err-due_at
returns-in_err-due_at c = let h : c.from_residual.result ≡ Err c.in_err-due_at.field-0.0 = search rules in h ∙ laws.suite_no_dot _ _ _ _ _ (sym c.due_at.ensures ∙ c.in_err-due_at.was)

pub overflow_add-q : goal.overflow_add-q
overflow_add-q c = let i = (dot (goal.at.overflow_add-q c).In_ok-due_at).inside in omega arith

pub returns-in_err-due_at-2 : goal.returns-in_err-due_at-2
returns-in_err-due_at-2 c =
    let h : c.from_residual-in_err-due_at-2.result ≡ Err c.in_err-due_at-2.field-0.0 = search rules in
    h ∙ laws.suite_no_digit _ _ _ _ _ _ (sym c.due_at.ensures ∙ c.in_ok-due_at.was) (sym c.due_at-2.ensures ∙ c.in_err-due_at-2.was)

pub overflow_add-q-2 : goal.overflow_add-q-2
overflow_add-q-2 c = let i = (dot (goal.at.overflow_add-q-2 c).In_ok-due_at).inside in omega arith

pub bounds-s-q : goal.bounds-s-q
bounds-s-q c = let i = (digit (goal.at.bounds-s-q c).In_ok-due_at-2).inside in omega arith

pub overflow_sub-s : goal.overflow_sub-s
overflow_sub-s c = let i = (digit (goal.at.overflow_sub-s c).In_ok-due_at-2).low in omega arith

pub overflow_add-result-2 : goal.overflow_add-result-2
overflow_add-result-2 c = let i = (digit (goal.at.overflow_add-result-2 c).In_ok-due_at-2).inside in omega arith

pub returns : goal.returns
returns c =
    ap (λ x. Opens (c.args.k + x) c.args.c (c.args.q + 2)) c.from.ensures
    ∙ laws.suite_done _ _ _ _ _ _ (sym c.due_at.ensures ∙ c.in_ok-due_at.was) (sym c.due_at-2.ensures ∙ c.in_ok-due_at-2.was)
