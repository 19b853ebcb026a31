use mathlib.Core.Path.{ap, ap₂, subst}
use Prim.Native.Nat.{◌-◌, ◌*◌}
use native.Mathlib.Omega.{arith}
use lib.ListN.{length}
use Rattle.words.specs.Words.{Walked}
use Rattle.kalyna.specs.Block.{rounds}
use Rattle.rounds.specs.Rounds.{seal_places, key_at, round_of}
use Rattle.blocks.specs.Blocks.{keys_of}
use Rattle.seal_block.proofs.Laws.{round_is, rounds_more, rounds_none, product_room}
use Rattle.seal_block.proofs.middle_rounds.Goals as goal

pub loop-m-init : goal.loop-m-init
loop-m-init g c = (omega arith, rounds_none g.row.C c.args.n (keys_of g.row.C c.args.ks.now) c.args.s.now)

pub walk-requires : goal.walk-requires
walk-requires g c = (c.requires.1, omega (arith, c.requires.3, c.loop-m.invariant.1.long), product_room g.row.C _ _ c.args.t (length c.args.ks.now) (omega arith) (omega arith) c.requires.4)

pub loop-m-preserved : goal.loop-m-preserved
loop-m-preserved g c = (
  omega arith,
  subst (λ m. Walked g.row.C c.args.n (λ x. rounds g.row.C (keys_of g.row.C c.args.ks.now) x m) c.args.s.now c.walk.new.s) (omega arith)
      (rounds_more g.row.C c.args.n (c.loop-m.m - 1) c.args.ks.now c.args.s.now c.loop-m.s c.walk.new.s (g.row.C * c.loop-m.m) (ap (λ k. g.row.C * k) (omega arith)) c.loop-m.invariant.1
      (round_is g.row.C c.args.n c.args.tab.now (key_at g.row.C c.args.ks.now (g.row.C * c.loop-m.m)) c.loop-m.s c.walk.new.s c.requires.0
      (subst (λ k. Walked g.row.C c.args.n (round_of c.args.tab.now g.row.C (seal_places g.row.C) (key_at g.row.C c.args.ks.now k)) c.loop-m.s c.walk.new.s) (ap₂ (λ a b. a * b) (omega arith) (omega arith)) c.walk.ensures))),
)

pub returns : goal.returns
returns g c = subst (λ m. Walked g.row.C c.args.n (λ x. rounds g.row.C (keys_of g.row.C c.args.ks.now) x m) c.args.s.now c.loop-m.s) (omega arith) c.loop-m.invariant.1
