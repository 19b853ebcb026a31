use Prim.Native.Nat.{◌+◌}
use native.Mathlib.Nat.{mul-le-mul_left, mul-suc}
use native.Mathlib.Omega.{arith}
use lib.ListN.{get_or}
use Rattle.field.specs.Xor.{xor}
use Rattle.field.proofs.XorLaws.{bound}
use Rattle.words.specs.Words.{block_at}
use Rattle.words.proofs.Walks.{walk_more}
use Rattle.rounds.specs.Rounds.{key_at, round_of}
use Rattle.rounds.proofs.Laws.{round_cols}
use Rattle.rounds.proofs.walk.Goals as goal

pub loop-i-preserved : goal.loop-i-preserved
loop-i-preserved g c = let at = g.D.Direction.places g.row.C in
    walk_more g.row.C c.loop-i.i (round_of c.args.t.now g.row.C at (key_at g.row.C c.args.ks.now c.args.at)) c.args.s.now c.loop-i.s c.keyed.new.s (λ j. xor (get_or c.mix-x.result j 0) (get_or c.args.ks.now (c.args.at + j) 0))
    c.loop-i.invariant (omega (arith, mul-le-mul_left g.row.C c.loop-i-test.true, mul-suc g.row.C c.loop-i.i, c.requires.1)) c.keyed.ensures (λ k h. bound 64 _ _ (c.mix-x.ensures.fits k h) (omega (arith, c.type_inv.ks (c.args.at + k)))) (round_cols c.args.t.now g.row.C at c.args.ks.now c.mix-x.result (block_at g.row.C c.loop-i.s c.loop-i.i) c.args.at c.mix-x.ensures.says)
