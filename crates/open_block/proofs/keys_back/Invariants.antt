use Rattle.std.proofs.Common.{◌*◌, ◌≤◌}
use Rattle.open_laws.specs.Opening.{Unmixed}
use Rattle.open_block.proofs.keys_back.Given as goal

abbrev pub invariant-loop-k : goal.invariant-loop-k
invariant-loop-k l = (l.c ≤ l.k) × (l.k ≤ l.c * l.r) × Unmixed l.c l.k l.initial.ks l.ks
