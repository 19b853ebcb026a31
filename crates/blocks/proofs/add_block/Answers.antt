use Rattle.std.proofs.Common.{◌+◌, ◌%◌, ◌^◌, get_or, refl, ap, ◌∙◌}
use Rattle.words.specs.Words.{word_at, put_words}
use Rattle.words.proofs.Walks.{puts_more, puts_next}
use Rattle.blocks.proofs.add_block.Goals as goal

pub loop-j-init : goal.loop-j-init
unfolding put_words
loop-j-init c = refl

pub loop-j-preserved : goal.loop-j-preserved
loop-j-preserved c = puts_more c.args.s.now c.loop-j.s c.put_word.new.s c.args.w c.loop-j.j (λ j. (word_at c.args.s.now (c.args.w + j) + get_or c.args.ks.now (c.args.at + j) 0) % 2 ^ 64) _ c.loop-j.invariant c.put_word.ensures (c.wrapping_add_u64.ensures.value ∙ ap (λ x. (x + get_or c.args.ks.now (c.args.at + c.loop-j.j) 0) % 2 ^ 64) (c.word_at-x.ensures ∙ puts_next c.args.s.now c.loop-j.s c.args.w c.loop-j.j (λ j. (word_at c.args.s.now (c.args.w + j) + get_or c.args.ks.now (c.args.at + j) 0) % 2 ^ 64) c.loop-j.invariant))
