use Rattle.std.proofs.Common.{◌≡◌, ◌+◌, ◌-◌, ◌%◌, ◌^◌, get_or}
use Rattle.words.specs.Words.{put_words}
use Rattle.open_last.proofs.less_block.Given as goal

abbrev pub invariant-loop-j : goal.invariant-loop-j
invariant-loop-j g l = l.s ≡ put_words l.initial.s l.w l.j (λ j. (get_or l.x j 0 + 2 ^ 64 - get_or l.ks (l.at + j) 0 % 2 ^ 64) % 2 ^ 64)
