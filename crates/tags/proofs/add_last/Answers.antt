use mathlib.Core.Path.{ap, ◌∙◌}
use Prim.Native.Nat.{◌-◌, ◌*◌, ◌/◌}
use native.Mathlib.Nat.{suc-mul}
use native.Mathlib.Omega.{arith}
use lib.ListN.{take, drop, length}
use Rattle.modes.specs.Blocks.{xor_block}
use Rattle.one_block.specs.Held.{held}
use Rattle.tags.proofs.Laws.{last_whole, last_begun, added_whole, added_filled}
use Rattle.blocks.proofs.Widths.{width_lt}
use Rattle.tags.proofs.add_last.Goals as goal

pub add_in-requires : goal.add_in-requires
add_in-requires c = (c.requires.1, omega (arith, c.requires.3, last_whole (8 * c.args.c) c.args.text.now (width_lt c.args.c c.requires.0) c.requires.2 c.if-text-c-eq0.true, suc-mul ((length c.args.text.now - 1) / (8 * c.args.c)) (8 * c.args.c)))

pub returns-then-text-c-eq0 : goal.returns-then-text-c-eq0
returns-then-text-c-eq0 c = c.add_in.ensures ∙ ap (xor_block (8 * c.args.c) (held c.args.c c.args.s.now)) (ap (λ n. take (8 * c.args.c) (drop n c.args.text.now)) c.requires.3 ∙ added_whole (8 * c.args.c) c.args.text.now (width_lt c.args.c c.requires.0) c.requires.2 c.if-text-c-eq0.true)

pub add_filled-requires : goal.add_filled-requires
add_filled-requires c = (c.requires.0, c.requires.1, c.requires.3 ∙ ap (λ q. q * (8 * c.args.c)) (last_begun (8 * c.args.c) c.args.text.now (width_lt c.args.c c.requires.0) c.requires.2 c.if-text-c-eq0.false))

pub returns : goal.returns
returns c = c.add_filled.ensures ∙ ap (xor_block (8 * c.args.c) (held c.args.c c.args.s.now)) (added_filled (8 * c.args.c) c.args.text.now (width_lt c.args.c c.requires.0) c.requires.2 c.if-text-c-eq0.false)
