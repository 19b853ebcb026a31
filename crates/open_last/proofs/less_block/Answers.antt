use Rattle.std.proofs.Common.{◌+◌, ◌-◌, ◌%◌, ◌^◌, get_or, refl, arith}
use Rattle.words.specs.Words.{put_words}
use Rattle.words.proofs.Walks.{puts_more}
use Rattle.blocks.proofs.Laws.{sub_is}
use Rattle.open_last.proofs.less_block.Goals as goal

pub loop-j-init : goal.loop-j-init
unfolding put_words
loop-j-init g c = refl

pub loop-j-preserved : goal.loop-j-preserved
loop-j-preserved g c = puts_more c.args.s.now c.loop-j.s c.put_word.new.s c.args.w c.loop-j.j (λ j. (get_or c.args.x j 0 + 2 ^ 64 - get_or c.args.ks.now (c.args.at + j) 0 % 2 ^ 64) % 2 ^ 64) _ c.loop-j.invariant c.put_word.ensures (sub_is (get_or c.args.ks.now (c.args.at + c.loop-j.j) 0) _ _ c.wrapping_sub_u64.ensures.value (omega (arith, c.type_inv.ks (c.args.at + c.loop-j.j))) c.wrapping_sub_u64.type_inv)
