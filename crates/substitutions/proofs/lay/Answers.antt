use mathlib.Core.Path.{sym, ap, ◌∙◌}
use mathlib.Core.List.{◌++◌}
use Prim.Native.Nat.{◌+◌, ◌-◌}
use native.Mathlib.Omega.{arith}
use lib.ListN.{get_or, take, drop}
use lib.Seq.{drop-drop}
use borrow.Rule.Slice.PartMut.{put_mid}
use Rattle.common.specs.Places.{tab}
use Rattle.common.proofs.Places.{tab_self}
use Rattle.substitutions.proofs.lay.Goals as goal

pub returns : goal.returns
returns c = let t = c.args.t.now in
    ap (put_mid c.args.at (c.args.at + 256 - c.args.at) t) (c.copy_from_slice.ensures.after ∙ sym (tab_self 256 c.args.p (omega arith)))
    ∙ ap (λ x. take c.args.at t ++ (tab 256 (λ k. get_or c.args.p k 0) ++ x)) (drop-drop (c.args.at + 256 - c.args.at) c.args.at t ∙ ap (λ n. drop n t) (omega arith))
