use Rattle.std.proofs.Common.{length, refl, ap, ◌∙◌, arith}
use Rattle.words.specs.Words.{put_words}
use Rattle.words.proofs.Walks.{length_puts, puts_more}
use Rattle.stream_laws.specs.Gammas.{carry, counted}
use Rattle.stream_laws.proofs.Counting as counting
use Rattle.ctr_mode.proofs.count.Goals as goal

pub loop-j-init : goal.loop-j-init
unfolding put_words carry
loop-j-init c = (omega arith, refl, refl)

pub put_word-requires : goal.put_word-requires
put_word-requires c = omega (arith, ap length c.loop-j.invariant.1, length_puts c.args.s.now c.args.w c.loop-j.j (counted c.args.e.now c.args.x))

pub loop-j-preserved : goal.loop-j-preserved
loop-j-preserved c = (omega arith, puts_more c.args.s.now c.loop-j.s c.put_word.new.s c.args.w c.loop-j.j (counted c.args.e.now c.args.x) _ c.loop-j.invariant.1 c.put_word.ensures (counting.counted_next c.args.e.now c.args.x c.loop-j.j _ c.loop-j.more _ c.word_at-y.ensures c.loop-j.invariant.2 c.wrapping_add_u64.ensures.value), counting.carry_next c.args.e.now c.args.x c.loop-j.j _ c.loop-j.more _ c.word_at-y.ensures c.loop-j.invariant.2 c.over-next.ensures)

pub returns : goal.returns
returns c = c.loop-j.invariant.1 ∙ ap (λ n. put_words c.args.s.now c.args.w n (counted c.args.e.now c.args.x)) (omega arith)
