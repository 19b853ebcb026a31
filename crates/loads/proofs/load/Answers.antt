use mathlib.Core.Path.{◌≡◌, refl, sym, ap₂, subst, ◌∙◌}
use mathlib.Core.List.{List, ◌++◌}
use Prim.Native.Nat.{ℕ, ◌+◌, ◌*◌}
use native.Mathlib.Omega.{arith}
use lib.ListN.{get_or, drop, length-set, take-append-drop}
use lib.Seq.{drop-set-lt}
use Rattle.common.specs.Places.{tab}
use Rattle.common.proofs.Places.{fill}
use Rattle.loads.proofs.Laws.{drop_more}
use Rattle.field.specs.Column.{pack}
use Rattle.kalyna.specs.State.{columns_of}
use Rattle.loads.proofs.load.Goals as goal

pub loop-j-init : goal.loop-j-init
unfolding columns_of tab
loop-j-init c = (omega arith, refl, refl, refl)

pub offset_bounds-k-j : goal.offset_bounds-k-j
offset_bounds-k-j c = omega (arith, c.loop-j.invariant.1, c.well_formed)

pub bounds-k-j : goal.bounds-k-j
bounds-k-j c = omega (arith, c.loop-j.invariant.1)

pub loop-j-preserved : goal.loop-j-preserved
unfolding columns_of
loop-j-preserved c = (omega arith, length-set c.loop-j.k c.loop-j.j c.bytes_at.result ∙ c.loop-j.invariant.1, fill (λ j. pack 8 (λ i. get_or c.args.b.now (8 * j + i) 0)) c.loop-j.k c.loop-j.j c.bytes_at.result c.loop-j.invariant.2 (omega (arith, c.loop-j.invariant.1)) c.bytes_at.ensures, drop-set-lt (c.loop-j.j + 1) c.loop-j.k c.loop-j.j c.bytes_at.result (omega arith) ∙ drop_more c.loop-j.j c.loop-j.k c.args.k.now c.loop-j.invariant.3)

pub returns : goal.returns
returns c = sym (take-append-drop c.loop-j.j c.loop-j.k) ∙ ap₂ (λ (x y : List ℕ). x ++ y) c.loop-j.invariant.2 c.loop-j.invariant.3 ∙ subst (λ m. columns_of c.loop-j.j c.args.b.now ++ drop c.loop-j.j c.args.k.now ≡ columns_of m c.args.b.now ++ drop m c.args.k.now) (omega arith) refl
