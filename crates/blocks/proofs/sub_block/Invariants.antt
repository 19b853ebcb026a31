use Rattle.std.proofs.Common.{◌≡◌, ◌+◌, ◌-◌, ◌%◌, ◌^◌, get_or}
use Rattle.words.specs.Words.{word_at, put_words}
use Rattle.blocks.proofs.sub_block.Given as goal

abbrev pub invariant-loop-j : goal.invariant-loop-j
invariant-loop-j l = l.s ≡ put_words l.initial.s l.w l.j (λ j. (word_at l.initial.s (l.w + j) + 2 ^ 64 - get_or l.ks (l.at + j) 0 % 2 ^ 64) % 2 ^ 64)
