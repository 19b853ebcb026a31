use mathlib.Core.Path.{ap, ◌∙◌}
use mathlib.Core.List.{[], ◌∷◌}
use Prim.Native.Nat.{◌/◌, ◌%◌}
use lib.ListN.{get_or}
use Rattle.lookup.specs.Table.{entry}
use Rattle.columns.proofs.Lookup.{four_rows}
use Rattle.columns.proofs.half_on.Goals as goal

pub returns : goal.returns
returns c = four_rows c.args.t.now (λ i. get_or (c.args.a % 256 ∷ c.args.b / 256 ∷ c.args.c % 256 ∷ c.args.d / 256 ∷ []) i 0) c.args.w _ _ _ _ _ _ _ _ (c.entry_at.ensures ∙ ap (entry c.args.t.now 0) c.low.ensures.0) (c.entry_at-2.ensures ∙ ap (entry c.args.t.now 1) c.high.ensures.0) (c.entry_at-3.ensures ∙ ap (entry c.args.t.now 2) c.low-2.ensures.0) (c.entry_at-4.ensures ∙ ap (entry c.args.t.now 3) c.high-2.ensures.0) c.x64-x.ensures c.x64-y.ensures c.x64-z.ensures c.x64.ensures
