use mathlib.Core.Path.{refl, ◌∙◌}
use lib.ListN.{get_or, replicate}
use Rattle.common.specs.Places.{tab}
use Rattle.common.proofs.Places.{length_tab}
use Rattle.substitutions.specs.Tables.{pi0, pi1, pi2, pi3}
use Rattle.substitutions.proofs.Rows.{four, forward_row}
use Rattle.substitutions.proofs.forward.Goals as goal

pub returns : goal.returns
unfolding pi0 pi1 pi2 pi3
returns c = four (tab 256 (λ k. get_or pi0 k 0)) (tab 256 (λ k. get_or pi1 k 0)) (tab 256 (λ k. get_or pi2 k 0)) (tab 256 (λ k. get_or pi3 k 0)) (replicate 1024 0) c.lay.new.t c.lay-2.new.t c.lay-3.new.t c.lay-4.new.t
    (length_tab 256 _) (length_tab 256 _) (length_tab 256 _) (length_tab 256 _) refl c.lay.auto.t (c.lay-2.auto.t ∙ c.lay.auto.t) (c.lay-3.auto.t ∙ c.lay-2.auto.t ∙ c.lay.auto.t) (c.lay-4.auto.t ∙ c.lay-3.auto.t ∙ c.lay-2.auto.t ∙ c.lay.auto.t)
    c.lay.ensures c.lay-2.ensures c.lay-3.ensures c.lay-4.ensures
    ∙ forward_row
