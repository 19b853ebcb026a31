use Rattle.std.proofs.Common.{◌≡◌, ℕ, ◌+◌, ◌*◌, ◌<◌, ◌≤◌, sym, ◌∙◌, arith, rules, true, false, Option, Some, None, Err}
use Rattle.std.specs.Option.{is_some}
use Rattle.text_reader.proofs.Literals as literals
use Rattle.text_reader.proofs.Steps as steps
use Rattle.answers.specs.Told.{table, fault_number}
use Rattle.records.specs.Encode.{encode}
use Rattle.tokens.proofs.Laws as tokens
use Rattle.tokens.specs.Tokens.{pair_of, some_below}
use Rattle.texts.specs.Reading.{literal_at}
use Rattle.texts.proofs.Standing.{Stood, due_is_lem}
use Rattle.text_reader.proofs.literal_at.Goals as goal
use Rattle.text_reader.proofs.literal_at.Goals.{In-Some, In_ok-due_at}

-- a pair that was read
pair : (c : In-Some) → (c.in-Some.b ≡ pair_of c.args.s.now (c.args.p + 1 + 2 * c.loop-b.j)) × (c.in-Some.b < 256)
pair c = tokens.below_some _ _ _ (sym c.pair_at.ensures ∙ c.in-Some.is)

-- the closing quote
quote : (c : In_ok-due_at) → Stood c.args.s.now 39 39 (c.args.p + 1 + 2 * c.loop-b.j)
quote c = due_is_lem _ _ _ _ (tokens.due_stood _ _ (sym c.due_at.ensures ∙ c.in_ok-due_at.was))

-- whether a digit stands there
digit_low : (o : Option ℕ) (n : ℕ) → o ≡ some_below 16 n → is_some o ≡ true → n < 16
digit_low (Some d) n e h = let (q, l) = tokens.below_some 16 n d (sym e) in omega arith
digit_low None n e h = cc

digit_none : (o : Option ℕ) (n : ℕ) → o ≡ some_below 16 n → is_some o ≡ false → 16 ≤ n
digit_none (Some d) n e h = cc
digit_none None n e h = tokens.below_none 16 n (sym e)

pub loop-b-init : goal.loop-b-init
loop-b-init c = literals.pairs_none c.args.s.now c.args.p c.args.o c.args.out.now _ (omega arith) c.requires.0

pub bounds-out-o : goal.bounds-out-o
bounds-out-o c =
    let (e, l) = pair (goal.at.bounds-out-o c).In-Some in
    let i = literals.pair_inside c.args.s.now c.args.p c.args.o c.args.out.now _ _ e l in
    let lg = c.loop-b.invariant.stored.long in
    let pre = c.requires in omega arith

pub loop-b-preserved : goal.loop-b-preserved
loop-b-preserved c =
    let (e, l) = pair (goal.at.loop-b-preserved c).In-Some in
    literals.pairs_more c.args.s.now c.args.p c.args.o c.args.out.now c.loop-b.j _ _ _ c.loop-b.out c.loop-b.invariant e l (omega arith) c.requires.3

pub returns-then-is_some : goal.returns-then-is_some
unfolding fault_number table
returns-then-is_some c = steps.reads_told _ _ _ _ _ _ c.refused.ensures (literals.literal_odd c.args.s.now c.args.p c.args.o c.args.n c.args.out.now c.loop-b.j _ c.loop-b.out c.loop-b.invariant (tokens.below_none 256 _ (sym c.pair_at.ensures ∙ c.in_default.is)) (digit_low _ _ c.digit_at.ensures (sym c.is_some.ensures ∙ c.if-is_some.true)))

pub returns-in_err-due_at : goal.returns-in_err-due_at
returns-in_err-due_at c =
    let h : c.from_residual.result ≡ Err c.in_err-due_at.field-0.0 = search rules in
    steps.reads_err encode c.args.o (literal_at c.args.s.now c.args.p c.args.n) _ _ _ _ h
    (steps.due_bad c.args.s.now 39 39 _ _ _ (sym c.due_at.ensures ∙ c.in_err-due_at.was)
    (literals.literal_open c.args.s.now c.args.p c.args.o c.args.n c.args.out.now c.loop-b.j _ c.loop-b.out c.loop-b.invariant (digit_none _ _ c.digit_at.ensures (sym c.is_some.ensures ∙ c.if-is_some.false))))

pub returns-then-j-gt1024 : goal.returns-then-j-gt1024
unfolding fault_number table
returns-then-j-gt1024 c = steps.reads_told _ _ _ _ _ _ c.refused-then-j-gt1024.ensures (literals.literal_long c.args.s.now c.args.p c.args.o c.args.n c.args.out.now c.loop-b.j _ c.loop-b.out c.loop-b.invariant (digit_none _ _ c.digit_at.ensures (sym c.is_some.ensures ∙ c.if-is_some.false)) (tokens.due_stood _ _ (sym c.due_at.ensures ∙ c.in_ok-due_at.was)) c.if-j-gt1024.true)

pub put_head-requires : goal.put_head-requires
put_head-requires c =
    let i = (quote (goal.at.put_head-requires c).In_ok-due_at).inside in
    let lg = c.loop-b.invariant.stored.long in
    let pre = c.requires in omega arith

pub returns : goal.returns
returns c =
    let i = (quote (goal.at.returns c).In_ok-due_at).inside in
    let lg = c.loop-b.invariant.stored.long in
    let pre = c.requires in
    literals.literal_done c.args.s.now c.args.p c.args.o c.args.n c.args.out.now c.loop-b.j _ c.loop-b.out c.loop-b.invariant c.put_head.new.out (digit_none _ _ c.digit_at.ensures (sym c.is_some.ensures ∙ c.if-is_some.false)) (tokens.due_stood _ _ (sym c.due_at.ensures ∙ c.in_ok-due_at.was)) c.if-j-gt1024.false (omega arith) c.put_head.ensures
