use mathlib.Core.Path.{ap, subst, ◌∙◌}
use Prim.Native.Nat.{◌+◌, ◌%◌, ◌^◌}
use native.Mathlib.Omega.{arith}
use lib.ListN.{get_or}
use Rattle.words.specs.Words.{word_at}
use Rattle.key_laws.specs.Stores.{Stored}
use Rattle.key_laws.proofs.Stores.{stored_none, stored_more}
use Rattle.even_keys.proofs.keep.Goals as goal

pub loop-j-init : goal.loop-j-init
loop-j-init c = (omega arith, stored_none c.args.at (λ j. (word_at c.args.s.now (c.args.w + j) + get_or c.args.a.now (c.args.w + j) 0) % 2 ^ 64) c.args.ks.now)

pub offset_bounds-ks-at : goal.offset_bounds-ks-at
offset_bounds-ks-at c = omega (arith, c.well_formed)

pub bounds-ks-at : goal.bounds-ks-at
bounds-ks-at c = omega (arith, c.loop-j.invariant.1.long)

pub loop-j-preserved : goal.loop-j-preserved
loop-j-preserved c = (omega arith, stored_more c.args.at c.loop-j.j (λ j. (word_at c.args.s.now (c.args.w + j) + get_or c.args.a.now (c.args.w + j) 0) % 2 ^ 64) c.args.ks.now c.loop-j.ks c.added.result c.loop-j.invariant.1 (omega arith) (c.added.ensures ∙ ap (λ x. (x + get_or c.args.a.now (c.args.w + c.loop-j.j) 0) % 2 ^ 64) c.word_at.ensures))

pub returns : goal.returns
returns c = subst (λ m. Stored c.args.at m (λ j. (word_at c.args.s.now (c.args.w + j) + get_or c.args.a.now (c.args.w + j) 0) % 2 ^ 64) c.args.ks.now c.loop-j.ks) (omega arith) c.loop-j.invariant.1
