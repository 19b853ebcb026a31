-- The calls that seal, by their numbers.
use mathlib.Core.Path.{◌≡◌, refl, ap}
use Prim.Native.Nat.{ℕ}
use native.Mathlib.Omega.{arith}
use Rattle.common.specs.Choice.{pick}
use Rattle.lent.specs.Lent.{need_of}
use Rattle.modes.specs.Cell.{Call, call_of}
use Rattle.judging.proofs.Calls.{by_call}

pub is_blk : (f : ℕ) → f ≡ 0 → call_of f ≡ Call.blk
unfolding call_of
is_blk f e = ap call_of e

pub is_ctr : (f : ℕ) → f ≡ 2 → call_of f ≡ Call.ctr
unfolding call_of
is_ctr f e = ap call_of e

pub is_ofb : (f : ℕ) → f ≡ 3 → call_of f ≡ Call.ofb
unfolding call_of
is_ofb f e = ap call_of e

pub is_cfb : (f : ℕ) → f ≡ 4 → call_of f ≡ Call.cfb
unfolding call_of
is_cfb f e = ap call_of e

pub is_uncfb : (f : ℕ) → f ≡ 5 → call_of f ≡ Call.uncfb
unfolding call_of
is_uncfb f e = ap call_of e

pub is_cbc : (f : ℕ) → f ≡ 6 → call_of f ≡ Call.cbc
unfolding call_of
is_cbc f e = ap call_of e

pub is_cbp : (f : ℕ) → f ≡ 8 → call_of f ≡ Call.cbp
unfolding call_of
is_cbp f e = ap call_of e

pub is_mac : (f : ℕ) → f ≡ 10 → call_of f ≡ Call.mac
unfolding call_of
is_mac f e = ap call_of e

-- all else that needs no opened block
pub is_chk : (f : ℕ) → need_of f ≡ 1 → (f ≡ 0 → ⊥) → (f ≡ 2 → ⊥) → (f ≡ 3 → ⊥) → (f ≡ 4 → ⊥) → (f ≡ 5 → ⊥) → (f ≡ 6 → ⊥) → (f ≡ 8 → ⊥) → (f ≡ 10 → ⊥) → call_of f ≡ Call.chk
unfolding need_of pick
is_chk f =
    by_call (λ g k. need_of g ≡ 1 → (g ≡ 0 → ⊥) → (g ≡ 2 → ⊥) → (g ≡ 3 → ⊥) → (g ≡ 4 → ⊥) → (g ≡ 5 → ⊥) → (g ≡ 6 → ⊥) → (g ≡ 8 → ⊥) → (g ≡ 10 → ⊥) → k ≡ Call.chk)
    (λ n h0 h2 h3 h4 h5 h6 h8 h10. absurd (h0 refl))
    (λ n h0 h2 h3 h4 h5 h6 h8 h10. absurd (two n))
    (λ n h0 h2 h3 h4 h5 h6 h8 h10. absurd (h2 refl))
    (λ n h0 h2 h3 h4 h5 h6 h8 h10. absurd (h3 refl))
    (λ n h0 h2 h3 h4 h5 h6 h8 h10. absurd (h4 refl))
    (λ n h0 h2 h3 h4 h5 h6 h8 h10. absurd (h5 refl))
    (λ n h0 h2 h3 h4 h5 h6 h8 h10. absurd (h6 refl))
    (λ n h0 h2 h3 h4 h5 h6 h8 h10. absurd (two n))
    (λ n h0 h2 h3 h4 h5 h6 h8 h10. absurd (h8 refl))
    (λ n h0 h2 h3 h4 h5 h6 h8 h10. absurd (two n))
    (λ n h0 h2 h3 h4 h5 h6 h8 h10. absurd (h10 refl))
    (λ g l n h0 h2 h3 h4 h5 h6 h8 h10. refl) f
  where
    two : ◌≡◌ {A = ℕ} 2 1 → ⊥
    two e = omega arith
