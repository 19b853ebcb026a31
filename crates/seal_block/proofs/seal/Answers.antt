use mathlib.Core.Path.{subst}
use Prim.Native.Nat.{◌*◌}
use native.Mathlib.Omega.{arith}
use Rattle.words.specs.Words.{Walked}
use Rattle.kalyna.specs.Round.{add_key, ssm}
use Rattle.kalyna.specs.Block.{moves}
use Rattle.rounds.specs.Rounds.{key_at}
use Rattle.seal_block.proofs.Laws.{seal_is}
use Rattle.seal_block.proofs.seal.Goals as goal

pub returns : goal.returns
returns g c = seal_is g.row.C c.args.n c.args.t c.args.ks.now c.args.s.now c.add_keys.new.s c.middle_rounds.new.s c.last_round.new.s c.add_keys.ensures c.middle_rounds.ensures
    (subst (λ k. Walked g.row.C c.args.n (λ x. add_key g.row.C (key_at g.row.C c.args.ks.now (g.row.C * k)) (ssm (moves g.row.C) g.row.C x)) c.middle_rounds.new.s c.last_round.new.s) (omega arith) c.last_round.ensures)
