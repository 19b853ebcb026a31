use mathlib.Core.Path.{refl}
use Rattle.words.specs.Words.{word_at}
use Rattle.words.proofs.word_at.Goals as goal

pub returns : goal.returns
unfolding word_at
returns c = refl
