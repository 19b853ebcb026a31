-- Opening with keys that are mixed back is opening as the standard says, for every number of columns and rounds, keys and state.
use mathlib.Core.Path.{◌≡◌, refl, sym, ap, ap₂, ◌∙◌}
use mathlib.Core.Logic.{◌⊎◌}
use mathlib.Core.List.{List}
use Prim.Native.Nat.{ℕ, zero, suc, ◌+◌, ◌-◌, ◌*◌, ◌<◌, ◌≤◌}
use native.Mathlib.Nat.{mul-le-mul_left, mul-suc}
use native.Mathlib.Omega.{arith}
use lib.ListN.{get_or}
use Rattle.common.proofs.Places.{get_d_tab, tab_ext}
use Rattle.field.specs.Column.{byte_of, pack}
use Rattle.field.specs.Mixing.{product, backward}
use Rattle.kalyna.specs.Round.{sub_key, xor_key, unmix, unssm}
use Rattle.kalyna.specs.Block.{moves, unrounds, unseal}
use Rattle.kalyna.proofs.Rows.{back, unmix_xor}
use Rattle.rounds.specs.Rounds.{key_at}
use Rattle.blocks.specs.Blocks.{keys_of}
use Rattle.words.specs.Words.{Walked}
use Rattle.words.proofs.Walks.{walk_as}
use Rattle.open_laws.specs.Opening.{first_round, open_round, open_rounds, last_round, open_with, unmixed, Unmixed}

-- the standard's round, after a mixing back
unssm_back : (c : ℕ) (s : List ℕ) → unssm (moves c) c s ≡ back (moves c) c (unmix c s)
unfolding unssm back
unssm_back c s = refl

-- L is K with keys 1 to n mixed back
abbrev pub Inner : ℕ → ℕ → (ℕ → List ℕ) → (ℕ → List ℕ) → Type 0
Inner c n K L = (v : ℕ) → 0 < v → v ≤ n → L v ≡ unmix c (K v)

-- the inverse mixing passes over each key
pub rounds_back : (c n : ℕ) (K L : ℕ → List ℕ) (y : List ℕ) → Inner c n K L → unrounds c K n (back (moves c) c y) ≡ back (moves c) c (open_rounds c L n y)
unfolding unrounds open_rounds open_round
rounds_back c zero K L y h = refl
rounds_back c (suc n) K L y h =
    ap (unrounds c K n)
    (unssm_back c (xor_key c (K (suc n)) (back (moves c) c y))
    ∙ ap (back (moves c) c)
    (unmix_xor c (K (suc n)) (back (moves c) c y) ∙ ap (λ k. xor_key c k (unmix c (back (moves c) c y))) (sym (h (suc n) (omega arith) (omega arith)))))
    ∙ rounds_back c n K L (xor_key c (L (suc n)) (unmix c (back (moves c) c y))) (λ v l m. h v l (omega arith))

-- keys mixed back open as the keys do
pub open_unseal : (c t : ℕ) (K L : ℕ → List ℕ) (s : List ℕ) → L 0 ≡ K 0 → L t ≡ K t → Inner c (t - 1) K L → open_with c t L s ≡ unseal c t K s
unfolding open_with first_round last_round unseal
open_unseal c t K L s e₀ eₜ h =
    ap₂ (λ (k m : List ℕ). sub_key c k (back (moves c) c (open_rounds c L (t - 1) (unmix c (sub_key c m s))))) e₀ eₜ
    ∙ ap (sub_key c (K 0))
    (sym (rounds_back c (t - 1) K L (unmix c (sub_key c (K t) s)) h) ∙ ap (unrounds c K (t - 1)) (sym (unssm_back c (sub_key c (K t) s))))

-- ---- round keys that stand one after another

module _ (c t : ℕ) (ks ks' : List ℕ) (u : Unmixed c (c * t) ks ks') where
  first : keys_of c ks' 0 ≡ keys_of c ks 0
  unfolding keys_of key_at
  first = tab_ext c _ _ (λ j l. u.outer (c * 0 + j) (◌⊎◌.inl (omega arith)))

  last : keys_of c ks' t ≡ keys_of c ks t
  unfolding keys_of key_at
  last = tab_ext c _ _ (λ j l. u.outer (c * t + j) (◌⊎◌.inr (omega arith)))

  between : Inner c (t - 1) (keys_of c ks) (keys_of c ks')
  unfolding keys_of key_at unmix unmixed
  between v l m =
      tab_ext c _ _ (λ j h.
      u.inner (c * v + j) (lower j) (upper j h)
      ∙ ap (λ w. pack 8 (product backward (byte_of w))) (sym (get_d_tab c (λ j. get_or ks (c * v + j) 0) j h)))
    where
      lower : (j : ℕ) → c ≤ c * v + j
      lower j = omega (arith, mul-le-mul_left c l, mul-suc c 0)

      below : suc v ≤ t
      below = omega arith

      upper : (j : ℕ) → j < c → c * v + j < c * t
      upper j h = omega (arith, mul-le-mul_left c below, mul-suc c v)

  -- keys mixed back in place open as the keys before
  pub open_is : (s : List ℕ) → open_with c t (keys_of c ks') s ≡ unseal c t (keys_of c ks) s
  open_is s = open_unseal c t (keys_of c ks) (keys_of c ks') s first last between

  -- all blocks of a cell
  pub walk_unseal : (n : ℕ) (s s' : List ℕ) → Walked c n (open_with c t (keys_of c ks')) s s' → Walked c n (unseal c t (keys_of c ks)) s s'
  walk_unseal n s s' w = walk_as c n _ _ s s' (λ i l. open_is _) w
