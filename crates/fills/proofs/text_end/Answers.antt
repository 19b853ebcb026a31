use mathlib.Core.Path.{refl, sym, ap, subst, ◌∙◌}
use Prim.Native.Nat.{◌+◌, ◌-◌, ◌<◌, ◌≤◌}
use native.Mathlib.Omega.{arith}
use lib.ListN.{get_or, take}
use Rattle.std.specs.Prelude.{IfSome}
use Rattle.fills.specs.Ended.{ended}
use Rattle.fills.proofs.Ends.{from_end, found, found_none, passed, stopped, end_within}
use Rattle.fills.proofs.text_end.Goals as goal

pub loop-k-init : goal.loop-k-init
loop-k-init c = from_end c.args.n c.args.b c.args.p.now c.requires.0 c.requires.1

pub returns-then-x : goal.returns-then-x
returns-then-x c = (c.loop-k.invariant ∙ found c.args.n c.args.b c.args.p.now c.requires.0 c.requires.1 c.loop-k.k (c.loop-k.k - 1) (get_or c.args.p.now (c.args.n - c.args.b + (c.loop-k.k - 1)) 0) (omega arith) (omega arith) refl (omega arith) ∙ ap (λ r. ended r (take c.args.n c.args.p.now)) (sym c.some_length.ensures), subst (λ r. IfSome r (λ m. (0 < m) × (m ≤ c.args.n))) (sym c.some_length.ensures) (end_within _ c.args.n (omega (arith, c.requires.0))))

pub returns-then-x-ne0 : goal.returns-then-x-ne0
returns-then-x-ne0 c = (c.loop-k.invariant ∙ stopped c.args.n c.args.b c.args.p.now c.requires.0 c.requires.1 c.loop-k.k (c.loop-k.k - 1) (get_or c.args.p.now (c.args.n - c.args.b + (c.loop-k.k - 1)) 0) (omega arith) (omega arith) refl (λ q. omega arith) (λ q. omega arith), tt)

pub loop-k-preserved : goal.loop-k-preserved
loop-k-preserved c = c.loop-k.invariant ∙ passed c.args.n c.args.b c.args.p.now c.requires.0 c.requires.1 c.loop-k.k (c.loop-k.k - 1) (get_or c.args.p.now (c.args.n - c.args.b + (c.loop-k.k - 1)) 0) (omega arith) (omega arith) refl (omega arith)

pub returns : goal.returns
returns c = (c.loop-k.invariant ∙ found_none c.args.n c.args.b c.args.p.now c.requires.0 c.requires.1 c.loop-k.k (omega arith), tt)
