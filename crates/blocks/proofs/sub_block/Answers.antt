use Rattle.std.proofs.Common.{◌+◌, ◌-◌, ◌%◌, ◌^◌, get_or, refl, ap, ◌∙◌, arith}
use Rattle.words.specs.Words.{word_at, put_words}
use Rattle.words.proofs.Walks.{puts_more, puts_next}
use Rattle.blocks.proofs.Laws.{sub_is}
use Rattle.blocks.proofs.sub_block.Goals as goal

pub loop-j-init : goal.loop-j-init
unfolding put_words
loop-j-init c = refl

pub loop-j-preserved : goal.loop-j-preserved
loop-j-preserved c = puts_more c.args.s.now c.loop-j.s c.put_word.new.s c.args.w c.loop-j.j (λ j. (word_at c.args.s.now (c.args.w + j) + 2 ^ 64 - get_or c.args.ks.now (c.args.at + j) 0 % 2 ^ 64) % 2 ^ 64) _ c.loop-j.invariant c.put_word.ensures (sub_is (get_or c.args.ks.now (c.args.at + c.loop-j.j) 0) _ _ c.wrapping_sub_u64.ensures.value (omega (arith, c.type_inv.ks (c.args.at + c.loop-j.j))) c.wrapping_sub_u64.type_inv ∙ ap (λ x. (x + 2 ^ 64 - get_or c.args.ks.now (c.args.at + c.loop-j.j) 0 % 2 ^ 64) % 2 ^ 64) (c.word_at-x.ensures ∙ puts_next c.args.s.now c.loop-j.s c.args.w c.loop-j.j (λ j. (word_at c.args.s.now (c.args.w + j) + 2 ^ 64 - get_or c.args.ks.now (c.args.at + j) 0 % 2 ^ 64) % 2 ^ 64) c.loop-j.invariant))
