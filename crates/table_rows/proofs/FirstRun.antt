-- The first run that a text spells.
use Rattle.std.proofs.Common.{arith, refl, sym, ◌∙◌, ap, ◌≡◌, ◌≤◌, ◌-◌, ◌&&◌, Bool, true, false, List, [], ◌∷◌, ℕ, nat_eq, leb, length, take, drop, get_or, Some, if◌then◌else◌}
use Rattle.std.proofs.lemmas.Bool.{le-leb, false≢true}
use Rattle.std.proofs.lemmas.List.{take_all, length-drop}
use Rattle.table_rows.specs.Spelling.{pair_of, is_counted, count_in, run_first, runs_of}

runs_pair : (strict : Bool) (a b : ℕ) (s : List ℕ)
    → runs_of strict (a ∷ b ∷ s)
    ≡ run_first (pair_of strict a b) (if is_counted s then count_in strict s else 1) (runs_of strict (if is_counted s then drop 5 s else s))
unfolding runs_of
runs_pair strict a b [] = refl
runs_pair strict a b (m ∷ []) = refl
runs_pair strict a b (m ∷ c ∷ []) = refl
runs_pair strict a b (m ∷ c ∷ d ∷ []) = refl
runs_pair strict a b (m ∷ c ∷ d ∷ e ∷ []) = refl
runs_pair strict a b (m ∷ c ∷ d ∷ e ∷ f ∷ s) = by (leb 5 (length (m ∷ c ∷ d ∷ e ∷ f ∷ s))) (le-leb _ _ (omega arith)) (nat_eq m 42)
  where
    by : (u : Bool) → u ≡ true → (t : Bool)
        → (if t then run_first (pair_of strict a b) (count_in strict (m ∷ c ∷ d ∷ e ∷ f ∷ [])) (runs_of strict s)
        else run_first (pair_of strict a b) 1 (runs_of strict (m ∷ c ∷ d ∷ e ∷ f ∷ s)))
        ≡ run_first (pair_of strict a b) (if u && t then count_in strict (m ∷ c ∷ d ∷ e ∷ f ∷ s) else 1) (runs_of strict (if u && t then s else m ∷ c ∷ d ∷ e ∷ f ∷ s))
    by true h true = refl
    by true h false = refl
    by false h t = absurd (false≢true h)

rest_of : (s u : List ℕ) → u ≡ take (length s - 2) (drop 2 s) → u ≡ drop 2 s
rest_of s u h = h ∙ take_all (length s - 2) (drop 2 s) (omega (arith, length-drop 2 s))

-- u is what stands behind the first two bytes of s
pub first_run : (strict : Bool) (s : List ℕ) (byte count : ℕ) (u rest : List ℕ) → 2 ≤ length s → u ≡ take (length s - 2) (drop 2 s)
    → pair_of strict (get_or s 0 0) (get_or s 1 0) ≡ Some byte
    → count ≡ (if is_counted u then count_in strict u else 1)
    → rest ≡ (if is_counted u then drop 5 u else u)
    → runs_of strict s ≡ record { byte = byte; count = count } ∷ runs_of strict rest
first_run strict [] byte count u rest h f p n r = absurd (omega arith)
first_run strict (a ∷ []) byte count u rest h f p n r = absurd (omega arith)
first_run strict (a ∷ b ∷ s) byte count u rest h f p n r =
    runs_pair strict a b s
    ∙ ap (λ v. run_first (pair_of strict a b) (if is_counted v then count_in strict v else 1) (runs_of strict (if is_counted v then drop 5 v else v))) (sym (rest_of (a ∷ b ∷ s) u f))
    ∙ ap (λ q. run_first q (if is_counted u then count_in strict u else 1) (runs_of strict (if is_counted u then drop 5 u else u))) p
    ∙ ap (λ k. record { byte = byte; count = k } ∷ runs_of strict (if is_counted u then drop 5 u else u)) (sym n)
    ∙ ap (λ t. record { byte = byte; count = count } ∷ runs_of strict t) (sym r)
