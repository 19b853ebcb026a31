use mathlib.Core.Path.{sym, ap, ◌∙◌}
use native.Mathlib.Omega.{arith}
use lib.ListN.{length, take}
use Rattle.blocks.proofs.Widths.{width_le}
use Rattle.words.specs.Words.{block_at}
use Rattle.key_laws.specs.Schedule.{schedule_of}
use Rattle.key_laws.proofs.Loops.{keys_fit, odd_fit, loaded, loaded_long}
use Rattle.key_laws.proofs.Rounds.{noughts}
use Rattle.key_laws.proofs.Schedule.{schedule_is}
use Rattle.keys.proofs.schedule_for.Goals as goal

pub slice_bounds-helper_key-end : goal.slice_bounds-helper_key-end
slice_bounds-helper_key-end c = sym (loaded_long c.args.kc c.args.key.now c.load.new.k (noughts 8) c.load.ensures)

pub helper_key-h-requires : goal.helper_key-h-requires
helper_key-h-requires c = (c.requires.0, c.requires.1, (loaded_long c.args.kc c.args.key.now c.load.new.k (noughts 8) c.load.ensures))

pub slice_bounds-even_keys-end-3 : goal.slice_bounds-even_keys-end-3
slice_bounds-even_keys-end-3 c = sym (loaded_long c.args.kc c.args.key.now c.load.new.k (noughts 8) c.load.ensures)

pub even_keys-requires : goal.even_keys-requires
even_keys-requires c = (c.requires.0, c.requires.1, (loaded_long c.args.kc c.args.key.now c.load.new.k (noughts 8) c.load.ensures), omega (arith, c.requires.4), omega (arith, (width_le c.args.c c.requires.1.width), c.helper_key-h.ensures.0), keys_fit c.args.c c.args.r (width_le c.args.c c.requires.1.width) c.requires.4)

pub odd_keys-requires : goal.odd_keys-requires
odd_keys-requires c = (c.requires.1.width, odd_fit c.args.c c.args.r (length c.even_keys.new.ks) (width_le c.args.c c.requires.1.width) c.requires.4 c.even_keys.ensures.long)

pub returns : goal.returns
returns c = schedule_is c.args.c c.args.kc c.args.r (take c.args.kc c.load.new.k) (block_at c.args.c c.helper_key-h.result 0) c.even_keys.new.ks c.odd_keys.new.ks c.requires.1 c.requires.3 c.helper_key-h.ensures.1 c.even_keys.ensures c.odd_keys.ensures ∙ ap (schedule_of c.args.c c.args.kc c.args.r) (loaded c.args.kc c.args.key.now c.load.new.k (noughts 8) c.load.ensures)
