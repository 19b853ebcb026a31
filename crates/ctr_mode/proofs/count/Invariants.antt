use Rattle.std.proofs.Common.{◌≡◌, ◌≤◌}
use Rattle.words.specs.Words.{word_at, put_words}
use Rattle.stream_laws.specs.Gammas.{carry, counted}
use Rattle.ctr_mode.proofs.count.Given as goal

abbrev pub invariant-loop-j : goal.invariant-loop-j
invariant-loop-j l = (l.j ≤ l.c) × (l.s ≡ put_words l.initial.s l.w l.j (counted l.e l.x)) × (l.more ≡ carry (word_at l.e) l.x l.j)
