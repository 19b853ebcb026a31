use mathlib.Core.Path.{ap, ◌∙◌}
use mathlib.Core.List.{◌++◌}
use Prim.Native.Nat.{◌+◌, ◌*◌}
use lib.ListN.{take, drop}
use Rattle.one_block.proofs.Laws.{stored}
use Rattle.one_block.proofs.give_out.Goals as goal

pub returns : goal.returns
returns c = c.store.ensures ∙ ap (λ x. take c.args.at c.args.o.now ++ (x ++ drop (c.args.at + 8 * c.args.c) c.args.o.now)) (stored c.args.c c.args.s.now)
