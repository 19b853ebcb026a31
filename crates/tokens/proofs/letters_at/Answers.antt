use Rattle.std.proofs.Common.{◌≡◌, ◌+◌, ◌<◌, sym, ◌∙◌, arith}
use Rattle.tokens.proofs.Laws as laws
use Rattle.tokens.specs.Tokens.{letter_at}
use Rattle.tokens.proofs.letters_at.Goals as goal
use Rattle.tokens.proofs.letters_at.Goals.{In-Some}

-- the letter there
there : (c : In-Some) → (c.in-Some.b ≡ letter_at c.args.s.now (c.args.p + c.loop-b.k)) × (0 < c.in-Some.b)
there c = laws.if_some _ _ (sym c.letter_at.ensures ∙ c.in-Some.is)

pub loop-b-init : goal.loop-b-init
loop-b-init c = laws.letters_none c.args.s.now c.args.p

pub loop-b-smaller : goal.loop-b-smaller
loop-b-smaller c = let (e, h) = there (goal.at.loop-b-smaller c).In-Some in let i = laws.letter_inside _ _ _ e h in omega arith

pub loop-b-preserved : goal.loop-b-preserved
loop-b-preserved c = let (e, h) = there (goal.at.loop-b-preserved c).In-Some in laws.letters_more _ _ _ _ _ _ c.loop-b.invariant e h c.more-w.ensures

pub returns-then-k-gt5 : goal.returns-then-k-gt5
returns-then-k-gt5 c = laws.letters_long _ _ _ _ c.loop-b.invariant (laws.if_none _ (sym c.letter_at.ensures ∙ c.in_default.is)) c.if-k-gt5.true

pub returns : goal.returns
returns c = laws.letters_short _ _ _ _ c.loop-b.invariant (laws.if_none _ (sym c.letter_at.ensures ∙ c.in_default.is)) c.if-k-gt5.false
