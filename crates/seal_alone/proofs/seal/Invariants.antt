use Prim.Native.Nat.{◌+◌}
use Rattle.words.specs.Words.{block_at}
use Rattle.seal_alone.proofs.Rounds.{Reached}
use Rattle.seal_alone.proofs.seal.Given as goal

abbrev pub invariant-loop-m : goal.invariant-loop-m
invariant-loop-m g l = Reached g.row.C l.t l.ks (block_at g.row.C l.s 0) (l.m + 1) l.x
