use mathlib.Core.Path.{refl, ◌∙◌}
use lib.ListN.{get_or, replicate}
use Rattle.common.specs.Places.{tab}
use Rattle.common.proofs.Places.{length_tab}
use Rattle.substitutions.specs.Tables.{inv0, inv1, inv2, inv3}
use Rattle.substitutions.proofs.Rows.{four, backward_row}
use Rattle.substitutions.proofs.backward.Goals as goal

pub returns : goal.returns
unfolding inv0 inv1 inv2 inv3
returns c = four (tab 256 (λ k. get_or inv0 k 0)) (tab 256 (λ k. get_or inv1 k 0)) (tab 256 (λ k. get_or inv2 k 0)) (tab 256 (λ k. get_or inv3 k 0)) (replicate 1024 0) c.lay.new.t c.lay-2.new.t c.lay-3.new.t c.lay-4.new.t
    (length_tab 256 _) (length_tab 256 _) (length_tab 256 _) (length_tab 256 _) refl c.lay.auto.t (c.lay-2.auto.t ∙ c.lay.auto.t) (c.lay-3.auto.t ∙ c.lay-2.auto.t ∙ c.lay.auto.t) (c.lay-4.auto.t ∙ c.lay-3.auto.t ∙ c.lay-2.auto.t ∙ c.lay.auto.t)
    c.lay.ensures c.lay-2.ensures c.lay-3.ensures c.lay-4.ensures
    ∙ backward_row
