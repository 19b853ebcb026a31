use Rattle.std.proofs.Common.{◌≡◌, ◌+◌, ◌<◌, sym, ◌∙◌, arith}
use Rattle.tokens.proofs.Laws as laws
use Rattle.tokens.specs.Tokens.{digit_at}
use Rattle.tokens.proofs.pair_at.Goals as goal
use Rattle.tokens.proofs.pair_at.Goals.{In_ok-a, In_ok-b}

-- the two digits
first : (c : In_ok-a) → (c.in_ok-a.a ≡ digit_at c.args.s.now c.args.p) × (c.in_ok-a.a < 16)
first c = laws.below_some _ _ _ (sym c.digit_at.ensures ∙ c.in_ok-a.was)

second : (c : In_ok-b) → (c.in_ok-b.b ≡ digit_at c.args.s.now (c.args.p + 1)) × (c.in_ok-b.b < 16)
second c = laws.below_some _ _ _ (sym c.digit_at-2.ensures ∙ c.in_ok-b.was)

pub returns-in_err-a : goal.returns-in_err-a
returns-in_err-a c = c.from_residual.ensures ∙ sym (laws.pair_none _ _ (laws.below_none 16 _ (sym c.digit_at.ensures ∙ c.in_err-a.was)))

pub overflow_add-p : goal.overflow_add-p
overflow_add-p c = let (e, l) = first (goal.at.overflow_add-p c).In_ok-a in let i = (laws.digit_there c.args.s.now c.args.p (omega arith)).inside in omega arith

pub returns-in_err-b : goal.returns-in_err-b
returns-in_err-b c =
    let (e, l) = first (goal.at.returns-in_err-b c).In_ok-a in
    c.from_residual-in_err-b.ensures ∙ sym (laws.pair_half _ _ (omega arith) (laws.below_none 16 _ (sym c.digit_at-2.ensures ∙ c.in_err-b.was)))

pub overflow_mul-result : goal.overflow_mul-result
overflow_mul-result c = let (e, l) = first (goal.at.overflow_mul-result c).In_ok-a in omega arith

pub overflow_add-result : goal.overflow_add-result
overflow_add-result c = let (e, l) = first (goal.at.overflow_add-result c).In_ok-a in let (f, m) = second (goal.at.overflow_add-result c).In_ok-b in omega arith

pub returns : goal.returns
returns c =
    let (e, l) = first (goal.at.returns c).In_ok-a in
    let (f, m) = second (goal.at.returns c).In_ok-b in
    sym (laws.pair_some _ _ _ _ e f l m)
