use mathlib.Core.Path.{sym}
use native.Mathlib.Omega.{arith}
use lib.ListN.{length}
use lib.Seq.{length-take-le}
use Rattle.opener.specs.Opening.{block_size, opened_by}
use Rattle.opener.proofs.Sizes.{columns_le}
use Rattle.modes.specs.Chain.{uncbc}
use Rattle.modes.proofs.Chain.{length_uncbc}
use Rattle.openings.proofs.Laws.{whole_least, none_ended, ended_handed, end_in}
use Rattle.openings.proofs.unfilled.Goals as goal

pub uncbc-requires : goal.uncbc-requires
uncbc-requires c = (c.requires.0, c.requires.1, c.requires.2, c.requires.3, omega (arith, c.requires.2))

pub overflow_mul-opener : goal.overflow_mul-opener
overflow_mul-opener c = omega (arith, columns_le c.args.opener.now)

pub text_end-requires : goal.text_end-requires
text_end-requires c = (whole_least (block_size c.args.opener.now) (length c.args.text.now) c.requires.1 c.requires.3, omega (arith, c.requires.2, c.uncbc.auto.out))

pub slice_bounds-plain-end : goal.slice_bounds-plain-end
slice_bounds-plain-end c = omega (arith, end_in _ (length c.args.text.now) c.in-Some.n c.text_end.ensures.1 c.in-Some.is, c.requires.2, c.uncbc.auto.out)

pub slice_bounds-hand-end : goal.slice_bounds-hand-end
slice_bounds-hand-end c = sym (length-take-le c.in-Some.n _ (omega (arith, end_in _ (length c.args.text.now) c.in-Some.n c.text_end.ensures.1 c.in-Some.is, c.requires.2, c.uncbc.auto.out)))

pub returns-in-Some : goal.returns-in-Some
returns-in-Some c = λ k un. ended_handed (block_size c.args.opener.now) (length c.args.text.now) c.text_end.result (uncbc (block_size c.args.opener.now) (opened_by c.args.opener.now k) c.args.iv.now c.args.text.now) _ c.uncbc.new.out c.args.out.now (length_uncbc (block_size c.args.opener.now) (opened_by c.args.opener.now k) c.args.iv.now c.args.text.now) (c.uncbc.ensures k un) c.text_end.ensures.0 _ c.in-Some.n c.in-Some.is (end_in _ (length c.args.text.now) c.in-Some.n c.text_end.ensures.1 c.in-Some.is) c.hand.ensures

pub returns-in-None : goal.returns-in-None
returns-in-None c = λ k un. none_ended (block_size c.args.opener.now) (length c.args.text.now) c.text_end.result (uncbc (block_size c.args.opener.now) (opened_by c.args.opener.now k) c.args.iv.now c.args.text.now) _ c.uncbc.new.out c.args.out.now (length_uncbc (block_size c.args.opener.now) (opened_by c.args.opener.now k) c.args.iv.now c.args.text.now) (c.uncbc.ensures k un) c.text_end.ensures.0 c.in-None.is
