-- Two results of storing keys at every second place are equal.
use mathlib.Core.Path.{◌≡◌, sym, ap, ◌∙◌}
use mathlib.Core.List.{List}
use Prim.Native.Nat.{ℕ, ◌+◌, ◌-◌, ◌*◌, ◌/◌, ◌%◌, ◌<◌, ◌≤◌}
use native.Mathlib.Nat.{div-add-mod, mod-lt}
use native.Mathlib.Decide.{dec_lt, ℕ_discrete}
use native.Mathlib.Omega.{arith}
use lib.ListN.{get_or}
use lib.Seq.{ext_get_or}
use Rattle.common.proofs.Places.{get_d_tab}
use Rattle.rounds.specs.Rounds.{key_at}
use Rattle.blocks.specs.Blocks.{keys_of}
use Rattle.key_laws.specs.Stores.{Spread}

-- place k of the keys is place k % c of key k / c
at : (c : ℕ) (ks : List ℕ) (k : ℕ) → 0 < c → get_or (keys_of c ks (k / c)) (k % c) 0 ≡ get_or ks k 0
unfolding keys_of key_at
at c ks k h = get_d_tab c (λ j. get_or ks (c * (k / c) + j) 0) (k % c) (mod-lt k h) ∙ ap (λ i. get_or ks i 0) (div-add-mod k c)

pub spread_unique : (c p n : ℕ) (K : ℕ → List ℕ) (before x y : List ℕ) → 0 < c → Spread c p n K before x → Spread c p n K before y → x ≡ y
spread_unique c p n K before x y h s t = ext_get_or 0 x y (s.long ∙ sym t.long) (λ k l. sym (at c x k h) ∙ ap (λ v. get_or v (k % c) 0) (key (k / c) (ℕ_discrete (k / c) (2 * ((k / c - p) / 2) + p)) (dec_lt ((k / c - p) / 2) n)) ∙ at c y k h)
  where
    other : (v : ℕ) → (v ≡ 2 * ((v - p) / 2) + p → n ≤ (v - p) / 2) → (e : ℕ) → e < n → v ≡ 2 * e + p → ⊥
    other v g e l q = apart (g same) here
      where
        here : (v - p) / 2 ≡ e
        here = omega arith

        same : v ≡ 2 * ((v - p) / 2) + p
        same = omega arith

        apart : n ≤ (v - p) / 2 → (v - p) / 2 ≡ e → ⊥
        apart a b = omega arith

    key : (v : ℕ) → Dec (v ≡ 2 * ((v - p) / 2) + p) → Dec ((v - p) / 2 < n) → keys_of c x v ≡ keys_of c y v
    key v (yes q) (yes l) = ap (keys_of c x) q ∙ s.done ((v - p) / 2) l ∙ sym (t.done ((v - p) / 2) l) ∙ ap (keys_of c y) (sym q)
    key v (yes q) (no l) = s.kept v (other v (λ r. omega arith)) ∙ sym (t.kept v (other v (λ r. omega arith)))
    key v (no q) d = s.kept v (other v (λ r. absurd (q r))) ∙ sym (t.kept v (other v (λ r. absurd (q r))))
