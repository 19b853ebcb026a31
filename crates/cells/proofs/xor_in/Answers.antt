use mathlib.Core.Path.{refl, ap, ap₂, ◌∙◌}
use Prim.Native.Nat.{◌+◌, ◌*◌}
use native.Mathlib.Omega.{arith}
use lib.ListN.{get_or, length}
use Rattle.field.specs.Xor.{xor}
use Rattle.field.specs.Column.{pack}
use Rattle.words.specs.Words.{word_at, put_words}
use Rattle.words.proofs.Walks.{length_puts, puts_more, puts_next}
use Rattle.cells.proofs.xor_in.Goals as goal

pub loop-j-init : goal.loop-j-init
unfolding put_words
loop-j-init c = (omega arith, refl)

pub word_at-x-requires : goal.word_at-x-requires
word_at-x-requires c = omega (arith, ap length c.loop-j.invariant.1, length_puts c.args.s.now c.args.w c.loop-j.j (λ j. xor (word_at c.args.s.now (c.args.w + j)) (pack 8 (λ i. get_or c.args.b.now (c.args.at + 8 * j + i) 0))), c.requires)

pub put_word-requires : goal.put_word-requires
put_word-requires c = omega (arith, ap length c.loop-j.invariant.1, length_puts c.args.s.now c.args.w c.loop-j.j (λ j. xor (word_at c.args.s.now (c.args.w + j)) (pack 8 (λ i. get_or c.args.b.now (c.args.at + 8 * j + i) 0))), c.requires)

pub loop-j-preserved : goal.loop-j-preserved
loop-j-preserved c = (omega arith, puts_more c.args.s.now c.loop-j.s c.put_word.new.s c.args.w c.loop-j.j (λ j. xor (word_at c.args.s.now (c.args.w + j)) (pack 8 (λ i. get_or c.args.b.now (c.args.at + 8 * j + i) 0))) _ c.loop-j.invariant.1 c.put_word.ensures (c.x64.ensures ∙ ap₂ xor (c.word_at-x.ensures ∙ puts_next c.args.s.now c.loop-j.s c.args.w c.loop-j.j (λ j. xor (word_at c.args.s.now (c.args.w + j)) (pack 8 (λ i. get_or c.args.b.now (c.args.at + 8 * j + i) 0))) c.loop-j.invariant.1) c.bytes_at.ensures))

pub returns : goal.returns
returns c = c.loop-j.invariant.1 ∙ ap (λ n. put_words c.args.s.now c.args.w n (λ j. xor (word_at c.args.s.now (c.args.w + j)) (pack 8 (λ i. get_or c.args.b.now (c.args.at + 8 * j + i) 0)))) (omega arith)
