-- Four tables laid one after another are the row of four.
use mathlib.Core.Path.{◌≡◌, refl, sym, ap, ap₂, ◌∙◌}
use mathlib.Core.List.{List, [], ◌++◌, append_assoc}
use Prim.Native.Nat.{ℕ, ◌+◌, ◌≤◌}
use native.Mathlib.Omega.{arith}
use lib.ListN.{get_or, take, drop, length, length-append}
use lib.Seq.{take_at, take_all, length-take-le}
use Rattle.common.specs.Places.{tab}
use Rattle.substitutions.specs.Tables.{pi0, pi1, pi2, pi3, inv0, inv1, inv2, inv3, tables, inverses, sub, unsub, substitutions, unsubstitutions}

-- one more table is laid behind x
laid : (n : ℕ) (x a t t' : List ℕ) → length a ≡ 256 → n + 256 ≤ length t → take n t ≡ x → t' ≡ take n t ++ (a ++ drop (n + 256) t) → take (n + 256) t' ≡ x ++ a
laid n x a t t' la lt e e' =
    ap (take (n + 256)) (e' ∙ sym (append_assoc (take n t) a (drop (n + 256) t)))
    ∙ take_at (take n t ++ a) (drop (n + 256) t) (n + 256) (length-append (take n t) a ∙ ap₂ (λ (p q : ℕ). p + q) (length-take-le n t (omega arith)) la)
    ∙ ap (λ y. y ++ a) e

pub four : (p q r s z t₁ t₂ t₃ t₄ : List ℕ) → length p ≡ 256 → length q ≡ 256 → length r ≡ 256 → length s ≡ 256
    → length z ≡ 1024 → length t₁ ≡ 1024 → length t₂ ≡ 1024 → length t₃ ≡ 1024 → length t₄ ≡ 1024
    → t₁ ≡ take 0 z ++ (p ++ drop 256 z) → t₂ ≡ take 256 t₁ ++ (q ++ drop 512 t₁) → t₃ ≡ take 512 t₂ ++ (r ++ drop 768 t₂) → t₄ ≡ take 768 t₃ ++ (s ++ drop 1024 t₃)
    → t₄ ≡ p ++ q ++ r ++ s
four p q r s z t₁ t₂ t₃ t₄ lp lq lr ls lz l₁ l₂ l₃ l₄ e₁ e₂ e₃ e₄ =
    sym (take_all 1024 t₄ (omega arith))
    ∙ laid 768 (p ++ q ++ r) s t₃ t₄ ls (omega arith)
    (laid 512 (p ++ q) r t₂ t₃ lr (omega arith) (laid 256 p q t₁ t₂ lq (omega arith) (laid 0 [] p z t₁ lp (omega arith) refl e₁) e₂) e₃) e₄

pub forward_row : tab 256 (λ k. get_or pi0 k 0) ++ tab 256 (λ k. get_or pi1 k 0) ++ tab 256 (λ k. get_or pi2 k 0) ++ tab 256 (λ k. get_or pi3 k 0) ≡ substitutions
unfolding tab substitutions sub tables pi0 pi1 pi2 pi3
forward_row = refl

pub backward_row : tab 256 (λ k. get_or inv0 k 0) ++ tab 256 (λ k. get_or inv1 k 0) ++ tab 256 (λ k. get_or inv2 k 0) ++ tab 256 (λ k. get_or inv3 k 0) ≡ unsubstitutions
unfolding tab unsubstitutions unsub inverses inv0 inv1 inv2 inv3
backward_row = refl
