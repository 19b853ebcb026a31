use mathlib.Core.Path.{refl, ap, ◌∙◌}
use Prim.Native.Nat.{◌*◌}
use native.Mathlib.Omega.{arith}
use lib.ListN.{take, drop, length}
use Rattle.modes.specs.Blocks.{xor_block}
use Rattle.one_block.specs.Held.{held}
use Rattle.fills.proofs.Laws.{filled_block, last_le, last_lt}
use Rattle.blocks.proofs.Widths.{width_le, width_lt}
use Rattle.fills.proofs.add_filled.Goals as goal

pub last_block-requires : goal.last_block-requires
last_block-requires c = (refl, last_le (8 * c.args.c) (length c.args.text.now) _ c.requires.2, last_lt (8 * c.args.c) (length c.args.text.now) _ c.requires.2 (width_lt c.args.c c.requires.0) (omega (arith, width_le c.args.c c.requires.0)))

pub add_in-requires : goal.add_in-requires
add_in-requires c = (c.requires.1, omega (arith, width_le c.args.c c.requires.0, c.last_block.auto.last))

pub returns : goal.returns
returns c = c.add_in.ensures ∙ ap (xor_block (8 * c.args.c) (held c.args.c c.args.s.now)) (ap (λ x. take (8 * c.args.c) (drop 0 x)) c.last_block.ensures ∙ filled_block (8 * c.args.c) c.args.text.now (width_lt c.args.c c.requires.0) c.args.at c.requires.2 (omega (arith, width_le c.args.c c.requires.0)))
