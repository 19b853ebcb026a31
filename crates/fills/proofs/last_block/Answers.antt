use mathlib.Core.Path.{ap}
use mathlib.Core.List.{◌++◌}
use native.Mathlib.Omega.{arith}
use Prim.Native.Nat.{◌-◌}
use lib.ListN.{length, drop}
use Rattle.fills.proofs.Laws.{filled, filled_mark, last_is, last_long, run_copied, run_store}
use Rattle.fills.proofs.last_block.Goals as goal

pub returns : goal.returns
returns c =
    last_is c.args.text.now c.args.at (length c.args.text.now - c.args.at) c.args.last.now _ c.requires.0 (omega (arith, c.requires.1)) (omega (arith, c.requires.2))
    (run_store (filled c.args.text.now c.args.at) c.args.last.now _ (length c.args.text.now - c.args.at) _ (run_copied c.args.text.now c.args.last.now _ c.args.at c.requires.1 (omega (arith, last_long c.args.last.now c.requires.0, c.requires.2)) (ap (λ x. x ++ drop (length c.args.text.now - c.args.at) c.args.last.now) c.copy_from_slice.ensures.after)) (omega (arith, last_long c.args.last.now c.requires.0, c.requires.1, c.requires.2)) (filled_mark c.args.text.now c.args.at (length c.args.text.now - c.args.at) (omega (arith, c.requires.1))))
