use mathlib.Core.Path.{ap, sym, ◌∙◌}
use Rattle.judging.proofs.Steps as steps
use Rattle.judging.proofs.judge_known.Goals as goal

pub length_before-requires : goal.length_before-requires
length_before-requires c =
    let z = steps.sizes c.args.s c.from-b.result.0 c.requires (ap (λ x. x.0) c.from-b.ensures) in
    (z.some, z.small, steps.filled_under c.args.f c.from-b.result.0 c.args.text z (sym c.text_long.ensures ∙ c.if-text_long.false))
