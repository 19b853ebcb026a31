use mathlib.Core.Path.{refl, ap, ap₂, ◌∙◌}
use native.Mathlib.Omega.{arith}
use lib.ListN.{get_or}
use Rattle.words.specs.Words.{put_word, put_words}
use Rattle.words.proofs.Walks.{puts_more}
use Rattle.seal_alone.proofs.put.Goals as goal

pub loop-j-init : goal.loop-j-init
unfolding put_words
loop-j-init g c = refl

pub loop-j-preserved : goal.loop-j-preserved
loop-j-preserved g c = puts_more c.args.s.now c.loop-j.s c.put_word.new.s 0 c.loop-j.j (λ j. get_or c.args.x j 0) _ c.loop-j.invariant (c.put_word.ensures ∙ ap₂ (λ n j. put_word c.loop-j.s n (get_or c.args.x j 0)) (omega arith) (omega arith)) refl
