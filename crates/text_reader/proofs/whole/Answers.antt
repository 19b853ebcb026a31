use Rattle.std.proofs.Common.{◌≡◌, ap, sym, subst, rules, Err}
use Rattle.text_reader.proofs.Steps as steps
use Rattle.text_reader.proofs.Answers as answers
use Rattle.text_reader.specs.Reader.{told, parsed, Whole}
use Rattle.answers.specs.Told.{table, fault_number}
use Rattle.records.specs.Encode.{encode}
use Rattle.texts.specs.Reading.{expr_at, read_text}
use Rattle.text_reader.proofs.whole.Goals as goal
use Rattle.text_reader.proofs.whole.Goals.{In_ok-root}

-- the root that was read
root : (c : In_ok-root) → steps.Got encode 0 (expr_at 16 c.args.text.now 0 0) c.in_ok-root.root.place c.in_ok-root.root.nodes c.in_ok-root.root.end c.args.out.now c.expression.new.out
root c = steps.got_of encode 0 (expr_at 16 c.args.text.now 0 0) (told c.expression.result) _ _ _ _ _ c.expression.ensures (ap told c.in_ok-root.was)

pub returns-in_err-root : goal.returns-in_err-root
returns-in_err-root c =
    let h : c.from_residual.result ≡ Err c.in_err-root.field-0.0 = search rules in
    subst (λ r. Whole (read_text c.args.text.now) (parsed r) c.args.out.now c.expression.new.out) (sym h)
    (answers.whole_bad c.args.text.now c.args.out.now c.expression.new.out _ _ (steps.bad_of encode 0 (expr_at 16 c.args.text.now 0 0) (told c.expression.result) _ _ _ _ c.expression.ensures (ap told c.in_err-root.was)))

pub returns-then-root-text : goal.returns-then-root-text
unfolding fault_number table
returns-then-root-text c = answers.whole_more c.args.text.now c.args.out.now c.expression.new.out _ _ _ (root (goal.at.returns-then-root-text c).In_ok-root) c.if-root-text.true

pub returns : goal.returns
returns c = answers.whole_fine c.args.text.now c.args.out.now c.expression.new.out _ _ _ (root (goal.at.returns c).In_ok-root) c.if-root-text.false
