use Prim.Native.Nat.{◌-◌, ◌≤◌}
use Rattle.words.specs.Words.{Walked}
use Rattle.kalyna.specs.Block.{rounds}
use Rattle.blocks.specs.Blocks.{keys_of}
use Rattle.seal_block.proofs.middle_rounds.Given as goal

abbrev pub invariant-loop-m : goal.invariant-loop-m
invariant-loop-m g l = (1 ≤ l.m) × Walked g.row.C l.n (λ x. rounds g.row.C (keys_of g.row.C l.ks) x (l.m - 1)) l.initial.s l.s
