use mathlib.Core.Path.{refl, ap₂, ◌∙◌}
use Prim.Native.Nat.{◌+◌, ◌*◌}
use native.Mathlib.Omega.{arith}
use lib.Dec.{ltb}
use Rattle.common.specs.Choice.{pick}
use Rattle.kalyna.specs.Round.{add_key, xor_key}
use Rattle.rounds.specs.Rounds.{key_at}
use Rattle.words.specs.Words.{block_at}
use Rattle.seal_alone.proofs.Rounds.{reached_first, reached_next, put_back}
use Rattle.seal_alone.proofs.seal.Goals as goal

pub loop-m-init : goal.loop-m-init
loop-m-init g c = reached_first g.row.C c.args.t c.args.ks.now (block_at g.row.C c.args.s.now 0) c.first-x.result c.requires.2 c.first-x.ensures

pub loop-m-preserved : goal.loop-m-preserved
loop-m-preserved g c = reached_next g.row.C c.args.t (c.loop-m.m + 1) (g.row.C * (c.loop-m.m + 1)) c.args.tab.now c.args.ks.now (block_at g.row.C c.args.s.now 0) c.loop-m.x c.mixed.result c.keyed-x.result c.requires.0 (omega arith) (omega arith) refl c.loop-m.invariant c.mixed.ensures
    (c.keyed-x.ensures ∙ ap₂ (λ k n. pick (ltb n c.args.t) (xor_key g.row.C (key_at g.row.C c.args.ks.now (g.row.C * k)) c.mixed.result) (add_key g.row.C (key_at g.row.C c.args.ks.now (g.row.C * k)) c.mixed.result)) (omega arith) (omega arith))

pub returns : goal.returns
returns g c = put_back g.row.C c.args.t c.args.ks.now c.args.s.now c.put.new.s c.loop-m.x c.requires.3 c.put.ensures (c.loop-m.invariant.done (omega arith))
