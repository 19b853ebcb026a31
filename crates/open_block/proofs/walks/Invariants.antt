use Rattle.std.proofs.Common.{◌-◌, ◌≤◌}
use Rattle.blocks.specs.Blocks.{keys_of}
use Rattle.open_laws.specs.Opening.{open_rounds}
use Rattle.open_laws.proofs.Cells.{Nears}
use Rattle.open_block.proofs.walks.Given as goal

abbrev pub invariant-loop-v : goal.invariant-loop-v
invariant-loop-v l = (1 ≤ l.v) × Nears l.c l.n (open_rounds l.c (keys_of l.c l.ks) (l.v - 1)) (open_rounds l.c (keys_of l.c l.ks) (l.r - 1)) l.initial.s l.s
