use mathlib.Core.Path.{subst}
use Prim.Native.Nat.{◌+◌, ◌*◌, ◌≤◌}
use native.Mathlib.Omega.{arith}
use lib.ListN.{length}
use Rattle.blocks.proofs.Widths.{eight_is}
use Rattle.seal_block.proofs.Laws.{round_at}
use Rattle.seal_block.proofs.round.Goals as goal

pub walk-requires : goal.walk-requires
walk-requires c = (omega arith, subst (λ d. 4 * (d * c.args.n) ≤ length c.args.s.now) c.if-c-eq2.true c.requires.2, subst (λ d. c.args.at + d ≤ length c.args.ks.now) c.if-c-eq2.true c.requires.3)

pub returns-then-c-eq2 : goal.returns-then-c-eq2
returns-then-c-eq2 c = round_at c.args.c 2 c.args.n c.args.tab.now c.args.ks.now c.args.s.now c.walk.new.s c.args.at c.if-c-eq2.true c.requires.0 c.walk.ensures

pub walk-requires-then-c-eq4 : goal.walk-requires-then-c-eq4
walk-requires-then-c-eq4 c = (omega arith, subst (λ d. 4 * (d * c.args.n) ≤ length c.args.s.now) c.if-c-eq4.true c.requires.2, subst (λ d. c.args.at + d ≤ length c.args.ks.now) c.if-c-eq4.true c.requires.3)

pub returns-then-c-eq4 : goal.returns-then-c-eq4
returns-then-c-eq4 c = round_at c.args.c 4 c.args.n c.args.tab.now c.args.ks.now c.args.s.now c.walk-then-c-eq4.new.s c.args.at c.if-c-eq4.true c.requires.0 c.walk-then-c-eq4.ensures

pub walk-requires-2 : goal.walk-requires-2
walk-requires-2 c = (omega arith, subst (λ d. 4 * (d * c.args.n) ≤ length c.args.s.now) (eight_is c.args.c c.requires.1 c.if-c-eq2.false c.if-c-eq4.false) c.requires.2, subst (λ d. c.args.at + d ≤ length c.args.ks.now) (eight_is c.args.c c.requires.1 c.if-c-eq2.false c.if-c-eq4.false) c.requires.3)

pub returns : goal.returns
returns c = round_at c.args.c 8 c.args.n c.args.tab.now c.args.ks.now c.args.s.now c.walk-2.new.s c.args.at (eight_is c.args.c c.requires.1 c.if-c-eq2.false c.if-c-eq4.false) c.requires.0 c.walk-2.ensures
