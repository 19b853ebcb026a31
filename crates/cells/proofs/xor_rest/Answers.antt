use mathlib.Core.Path.{ap, subst, ◌∙◌}
use Prim.Native.Nat.{◌+◌, ◌/◌, ◌%◌}
use native.Mathlib.Omega.{arith}
use lib.ListN.{get_or}
use Rattle.common.proofs.Runs.{Run, run_none, run_more, run_whole}
use Rattle.field.specs.Xor.{xor}
use Rattle.field.specs.Column.{byte_of}
use Rattle.words.specs.Words.{word_at}
use Rattle.cells.proofs.xor_rest.Goals as goal

pub loop-i-init : goal.loop-i-init
loop-i-init c = (omega arith, run_none (λ i. xor (get_or c.args.b.now (c.args.at + i) 0) (byte_of (word_at c.args.s.now ((c.args.k + i) / 8)) ((c.args.k + i) % 8))) c.args.at c.args.o.now)

pub byte_at-requires : goal.byte_at-requires
byte_at-requires c = omega (arith, c.requires)

pub bounds-o-at : goal.bounds-o-at
bounds-o-at c = omega (arith, c.loop-i.invariant.1.long, c.requires)

pub loop-i-preserved : goal.loop-i-preserved
loop-i-preserved c = (omega arith, run_more (λ i. xor (get_or c.args.b.now (c.args.at + i) 0) (byte_of (word_at c.args.s.now ((c.args.k + i) / 8)) ((c.args.k + i) % 8))) c.args.at c.args.o.now c.loop-i.i c.loop-i.o _ c.loop-i.invariant.1 (omega (arith, c.requires)) (c.x8.ensures ∙ ap (xor (get_or c.args.b.now (c.args.at + c.loop-i.i) 0)) c.byte_at.ensures))

pub returns : goal.returns
returns c = run_whole (λ i. xor (get_or c.args.b.now (c.args.at + i) 0) (byte_of (word_at c.args.s.now ((c.args.k + i) / 8)) ((c.args.k + i) % 8))) c.args.at c.args.o.now c.args.n c.loop-i.o (subst (λ n. Run (λ i. xor (get_or c.args.b.now (c.args.at + i) 0) (byte_of (word_at c.args.s.now ((c.args.k + i) / 8)) ((c.args.k + i) % 8))) c.args.at c.args.o.now n c.loop-i.o) (omega arith) c.loop-i.invariant.1)
