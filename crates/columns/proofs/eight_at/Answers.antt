use mathlib.Core.Path.{refl, sym, ap}
use Prim.Native.Nat.{◌+◌}
use native.Mathlib.Nat.{add-zero}
use lib.ListN.{get_or}
use Rattle.field.proofs.PackLaws.{eight_bytes}
use Rattle.columns.proofs.eight_at.Goals as goal

pub returns : goal.returns
returns c = eight_bytes (λ k. get_or c.args.t.now (c.args.p + k) 0) _ _ _ _ _ _ _ _ refl refl refl refl refl refl refl (ap (λ n. get_or c.args.t.now n 0) (sym (add-zero c.args.p)))
