use Rattle.text_reader.proofs.Steps as steps
use Rattle.tokens.proofs.Laws as tokens
use Rattle.texts.specs.Reading.{due_at}
use Rattle.texts.proofs.Standing.{due_is_lem}
use Prim.Native.Nat.{◌+◌}
use native.Mathlib.Omega.{arith}
use mathlib.Core.Path.{sym, ◌∙◌}
use Rattle.std.proofs.Common.{◌≡◌, rules, Err}
use Rattle.text_reader.proofs.name_at.Goals as goal

pub bounds-s-p : goal.bounds-s-p
bounds-s-p c = let d = due_is_lem c.args.s.now 48 c.args.hi (c.args.p + 1) (tokens.due_stood (due_at c.args.s.now 48 c.args.hi (c.args.p + 1)) _ (sym c.due_at.ensures ∙ c.in_ok-due_at.was)) in let i = d.inside in let l = d.low in omega arith

pub overflow_sub-s : goal.overflow_sub-s
overflow_sub-s c = let d = due_is_lem c.args.s.now 48 c.args.hi (c.args.p + 1) (tokens.due_stood (due_at c.args.s.now 48 c.args.hi (c.args.p + 1)) _ (sym c.due_at.ensures ∙ c.in_ok-due_at.was)) in let i = d.inside in let l = d.low in omega arith

pub put_leaf-requires : goal.put_leaf-requires
put_leaf-requires c = let d = due_is_lem c.args.s.now 48 c.args.hi (c.args.p + 1) (tokens.due_stood (due_at c.args.s.now 48 c.args.hi (c.args.p + 1)) _ (sym c.due_at.ensures ∙ c.in_ok-due_at.was)) in let i = d.inside in let l = d.low in omega arith

pub returns-in_err-due_at : goal.returns-in_err-due_at
returns-in_err-due_at c =
    let h : c.from_residual.result ≡ Err c.in_err-due_at.field-0.0 = search rules in
    steps.leaf_missing c.args.k c.args.hi c.args.s.now c.args.p c.args.n c.args.o _ _ c.args.out.now c.args.out.now h (sym c.due_at.ensures ∙ c.in_err-due_at.was)

pub returns : goal.returns
returns c = steps.leaf_done c.args.k c.args.hi c.args.s.now c.args.p c.args.n c.args.o c.args.out.now c.put_leaf.new.out (tokens.due_stood (due_at c.args.s.now 48 c.args.hi (c.args.p + 1)) _ (sym c.due_at.ensures ∙ c.in_ok-due_at.was)) c.put_leaf.ensures
