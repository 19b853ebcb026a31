use Prim.Native.Nat.{◌*◌}
use native.Mathlib.Omega.{arith}
use lib.ListN.{length-set}
use Rattle.words.specs.Words.{put_word, pieces}
use Rattle.words.proofs.Laws.{sets_four}
use Rattle.words.proofs.put_word.Goals as goal

pub bounds-s-at-2 : goal.bounds-s-at-2
bounds-s-at-2 c = simp length-set (omega arith)

pub bounds-s-at-3 : goal.bounds-s-at-3
bounds-s-at-3 c = simp length-set (omega arith)

pub bounds-s-at-4 : goal.bounds-s-at-4
bounds-s-at-4 c = simp length-set (omega arith)

pub returns : goal.returns
unfolding put_word pieces
returns c = sets_four c.args.s.now (4 * c.args.j) _ _ _ _
