use mathlib.Core.Path.{refl, ap, ◌∙◌}
use native.Mathlib.Omega.{arith}
use lib.ListN.{get_or}
use Rattle.field.specs.Xor.{xor}
use Rattle.words.specs.Words.{put_words}
use Rattle.words.proofs.Walks.{puts_more}
use Rattle.rounds.proofs.keyed.Goals as goal

pub loop-j-init : goal.loop-j-init
unfolding put_words
loop-j-init g c = refl

pub loop-j-preserved : goal.loop-j-preserved
loop-j-preserved g c = puts_more c.args.s.now c.loop-j.s c.put_word.new.s _ c.loop-j.j _ _ c.loop-j.invariant c.put_word.ensures (c.x64.ensures ∙ ap (λ k. xor (get_or c.args.x c.loop-j.j 0) (get_or c.args.ks.now k 0)) (omega arith))
