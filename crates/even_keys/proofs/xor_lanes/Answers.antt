use mathlib.Core.Path.{refl, ap}
use native.Mathlib.Omega.{arith}
use lib.ListN.{get_or, length}
use Rattle.field.specs.Xor.{xor}
use Rattle.words.specs.Words.{word_at, put_words}
use Rattle.words.proofs.Walks.{length_puts, word_lt}
use Rattle.key_laws.proofs.Loops.{xor_more}
use Rattle.key_laws.proofs.Lanes.{xored}
use Rattle.even_keys.proofs.xor_lanes.Goals as goal

pub overflow_mul-m : goal.overflow_mul-m
overflow_mul-m c = omega (arith, c.well_formed)

pub loop-j-init : goal.loop-j-init
unfolding put_words
loop-j-init c = (omega arith, refl)

pub word_at-x-requires : goal.word_at-x-requires
word_at-x-requires c = omega (arith, ap length c.loop-j.invariant.1, length_puts c.args.s.now 0 c.loop-j.j (λ j. xor (word_at c.args.s.now j) (get_or c.args.a.now j 0)))

pub offset_bounds-a-j : goal.offset_bounds-a-j
offset_bounds-a-j c = omega (arith, c.well_formed)

pub put_word-requires : goal.put_word-requires
put_word-requires c = omega (arith, ap length c.loop-j.invariant.1, length_puts c.args.s.now 0 c.loop-j.j (λ j. xor (word_at c.args.s.now j) (get_or c.args.a.now j 0)))

pub loop-j-preserved : goal.loop-j-preserved
loop-j-preserved c = (omega arith, xor_more c.args.s.now c.loop-j.s c.put_word.new.s c.args.a.now c.loop-j.j c.word_at-x.result c.x64.result c.loop-j.invariant.1 c.put_word.ensures c.word_at-x.ensures c.x64.ensures)

pub returns : goal.returns
returns c = xored c.args.c c.args.n c.loop-j.j c.args.a.now c.args.s.now c.loop-j.s (omega arith) (omega arith) (λ j. word_lt c.args.s.now j (λ i. omega (arith, c.slice_known-1.given i))) (λ j. omega (arith, c.type_inv.a j)) c.loop-j.invariant.1
