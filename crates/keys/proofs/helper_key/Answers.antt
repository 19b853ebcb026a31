use mathlib.Core.Path.{ap, ◌∙◌}
use native.Mathlib.Omega.{arith}
use lib.ListN.{length}
use Rattle.words.proofs.Laws.{length_put}
use Rattle.key_laws.proofs.Turns.{halves_le}
use Rattle.key_laws.proofs.Rounds.{noughts, start_is, helper_is}
use Rattle.blocks.proofs.Widths.{width_le}
use Rattle.keys.proofs.helper_key.Goals as goal

pub overflow_add-c : goal.overflow_add-c
overflow_add-c c = omega (arith, width_le c.args.c c.requires.1.width, c.requires.1.most)

pub overflow_add-c-2 : goal.overflow_add-c-2
overflow_add-c-2 c = omega (arith, width_le c.args.c c.requires.1.width, c.requires.1.most)

pub add_keys-requires : goal.add_keys-requires
add_keys-requires c = (omega (arith, width_le c.args.c c.requires.1.width, c.requires.1.most, ap length c.put_word.ensures ∙ length_put (noughts 32) 0 _), omega (arith, halves_le c.args.c c.args.kc c.requires.1.halves))

pub overflow_sub-kc : goal.overflow_sub-kc
overflow_sub-kc c = omega (arith, halves_le c.args.c c.args.kc c.requires.1.halves)

pub round-requires : goal.round-requires
round-requires c = (c.requires.0, c.requires.1.width, omega (arith, width_le c.args.c c.requires.1.width, c.requires.1.most, ap length c.put_word.ensures ∙ length_put (noughts 32) 0 _, c.add_keys.ensures.long), omega (arith, halves_le c.args.c c.args.kc c.requires.1.halves))

pub round-requires-2 : goal.round-requires-2
round-requires-2 c = (c.requires.0, c.requires.1.width, omega (arith, width_le c.args.c c.requires.1.width, c.requires.1.most, ap length c.put_word.ensures ∙ length_put (noughts 32) 0 _, c.add_keys.ensures.long, c.round.ensures.long), omega (arith, width_le c.args.c c.requires.1.width, c.requires.1.most))

pub add_keys-requires-2 : goal.add_keys-requires-2
add_keys-requires-2 c = (omega (arith, width_le c.args.c c.requires.1.width, c.requires.1.most, ap length c.put_word.ensures ∙ length_put (noughts 32) 0 _, c.add_keys.ensures.long, c.round.ensures.long, c.round-2.ensures.long), omega (arith, halves_le c.args.c c.args.kc c.requires.1.halves))

pub round-requires-3 : goal.round-requires-3
round-requires-3 c = (c.requires.0, c.requires.1.width, omega (arith, width_le c.args.c c.requires.1.width, c.requires.1.most, ap length c.put_word.ensures ∙ length_put (noughts 32) 0 _, c.add_keys.ensures.long, c.round.ensures.long, c.round-2.ensures.long, c.add_keys-2.ensures.long), omega (arith, width_le c.args.c c.requires.1.width, c.requires.1.most))

pub returns : goal.returns
returns c = (c.round-3.ensures.long ∙ c.add_keys-2.ensures.long ∙ c.round-2.ensures.long ∙ c.round.ensures.long ∙ c.add_keys.ensures.long ∙ ap length c.put_word.ensures ∙ length_put (noughts 32) 0 _, helper_is c.args.c c.args.kc c.args.k.now c.put_word.new.s c.add_keys.new.s c.round.new.s c.round-2.new.s c.add_keys-2.new.s c.round-3.new.s (width_le c.args.c c.requires.1.width) (start_is c.args.c c.args.kc _ c.put_word.new.s c.put_word.ensures (omega arith) (width_le c.args.c c.requires.1.width) c.requires.1.most) c.add_keys.ensures c.round.ensures c.round-2.ensures c.add_keys-2.ensures c.round-3.ensures)
