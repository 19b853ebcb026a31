-- A number is a width in one way only, so that a type may keep it.
use mathlib.Core.Path.{sym, ap, subst, ◌∙◌}
use mathlib.Core.Logic.{inl, inr}
use Rattle.std.specs.Prelude.{ℕ, zero, suc, ⊤}
use Rattle.std.specs.Coded.{Coded-set, coded_ℕ}
use Rattle.blocks.specs.Blocks.{Width}

is_two : ℕ → Type 0
is_two (suc (suc zero)) = ⊤
is_two _ = ⊥

is_four : ℕ → Type 0
is_four (suc (suc n)) = is_two n
is_four _ = ⊥

pub width_prop : (c : ℕ) → IsProp (Width c)
unfolding is_two is_four
width_prop c (inl a) (inl b) = ap inl (Coded-set coded_ℕ c 2 a b)
width_prop c (inl a) (inr (inl b)) = absurd (subst is_two (sym a ∙ b) tt)
width_prop c (inl a) (inr (inr b)) = absurd (subst is_two (sym a ∙ b) tt)
width_prop c (inr (inl a)) (inl b) = absurd (subst is_two (sym b ∙ a) tt)
width_prop c (inr (inl a)) (inr (inl b)) = ap (λ e. inr (inl e)) (Coded-set coded_ℕ c 4 a b)
width_prop c (inr (inl a)) (inr (inr b)) = absurd (subst is_four (sym a ∙ b) tt)
width_prop c (inr (inr a)) (inl b) = absurd (subst is_two (sym b ∙ a) tt)
width_prop c (inr (inr a)) (inr (inl b)) = absurd (subst is_four (sym b ∙ a) tt)
width_prop c (inr (inr a)) (inr (inr b)) = ap (λ e. inr (inr e)) (Coded-set coded_ℕ c 8 a b)
