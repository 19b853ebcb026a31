use mathlib.Core.Path.{sym, ap, ◌∙◌}
use Prim.Native.Nat.{◌+◌}
use native.Mathlib.Nat.{add-zero}
use lib.ListN.{get_or}
use Rattle.field.proofs.PackLaws.{eight_bytes}
use Rattle.cells.proofs.bytes_at.Goals as goal

pub returns : goal.returns
returns c = eight_bytes (λ k. get_or c.args.b.now (c.args.at + k) 0) _ _ _ _ _ _ _ _ c.from.ensures c.from-2.ensures c.from-3.ensures c.from-4.ensures c.from-5.ensures c.from-6.ensures c.from-7.ensures (c.from-8.ensures ∙ ap (λ n. get_or c.args.b.now n 0) (sym (add-zero c.args.at)))
