use mathlib.Core.Path.{◌≡◌, sym, ap, ◌∙◌}
use native.Mathlib.Omega.{arith}
use lib.ListN.{take}
use Rattle.words.specs.Words.{word_at, block_at}
use Rattle.kalyna.specs.Keys.{helper}
use Rattle.key_laws.proofs.Loops.{loaded, loaded_long}
use Rattle.key_laws.proofs.Rounds.{noughts}
use Rattle.key_laws.proofs.Filled.{up_to, none_yet, one_more, from_block}
use Rattle.blocks.proofs.Widths.{width_le}
use Rattle.keys.proofs.helper_columns.Goals as goal

pub slice_bounds-helper_key-end : goal.slice_bounds-helper_key-end
slice_bounds-helper_key-end c = sym (loaded_long c.args.kc c.args.key.now c.load.new.k (noughts 8) c.load.ensures)

pub helper_key-h-requires : goal.helper_key-h-requires
helper_key-h-requires c = (c.requires.0, c.requires.1, (loaded_long c.args.kc c.args.key.now c.load.new.k (noughts 8) c.load.ensures))

pub loop-j-init : goal.loop-j-init
loop-j-init c = (omega arith, none_yet (word_at c.helper_key-h.result))

pub word_at-requires : goal.word_at-requires
word_at-requires c = omega (arith, width_le c.args.c c.requires.1.width)

pub offset_bounds-o-j : goal.offset_bounds-o-j
offset_bounds-o-j c = omega (arith, width_le c.args.c c.requires.1.width)

pub bounds-o-j : goal.bounds-o-j
bounds-o-j c = omega (arith, width_le c.args.c c.requires.1.width)

pub loop-j-preserved : goal.loop-j-preserved
loop-j-preserved c = (omega arith, one_more c.loop-j.j (word_at c.helper_key-h.result) c.loop-j.o _ (omega (arith, width_le c.args.c c.requires.1.width)) c.loop-j.invariant.1 c.word_at.ensures)

pub returns : goal.returns
returns c = let e : block_at c.args.c c.helper_key-h.result 0 ≡ helper c.args.c c.args.kc (take c.args.kc c.load.new.k) = c.helper_key-h.ensures.1 in
    c.loop-j.invariant.1 ∙ ap (λ n. up_to n (word_at c.helper_key-h.result)) (omega arith) ∙ from_block c.args.c c.helper_key-h.result _ (e ∙ ap (helper c.args.c c.args.kc) (loaded c.args.kc c.args.key.now c.load.new.k (noughts 8) c.load.ensures))
