-- Lists by their places: equality of lists is equality at each place.
use mathlib.Core.Path.{◌≡◌, refl, sym, ap, ap₂, ◌∙◌, subst}
use mathlib.Core.List.{List, [], ◌∷◌, ◌++◌}
use Prim.Native.Nat.{ℕ, zero, suc, ◌+◌, ◌<◌}
use native.Mathlib.Nat.{not-suc-le-zero, le_of_suc-le-suc, zero-lt-suc, zero-add, suc-add}
use native.Mathlib.Numerals.{add-one}
use native.Mathlib.Omega.{arith}
use lib.ListN.{get_or, take, length, set}
use lib.Seq.{ext_get_or, take-suc-set}
use Rattle.common.specs.Places.{tab}

pub get_d_tab : (n : ℕ) (f : ℕ → ℕ) (i : ℕ) → i < n → get_or (tab n f) i 0 ≡ f i
unfolding tab
get_d_tab zero f i h = absurd (not-suc-le-zero h)
get_d_tab (suc n) f zero h = refl
get_d_tab (suc n) f (suc i) h = get_d_tab n (λ i. f (suc i)) i (le_of_suc-le-suc h)

pub length_tab : (n : ℕ) (f : ℕ → ℕ) → length (tab n f) ≡ n
unfolding tab
length_tab zero f = refl
length_tab (suc n) f = ap suc (length_tab n (λ i. f (suc i)))

pub tab_ext : (n : ℕ) (f g : ℕ → ℕ) → ((i : ℕ) → i < n → f i ≡ g i) → tab n f ≡ tab n g
unfolding tab
tab_ext zero f g h = refl
tab_ext (suc n) f g h =
    ap₂ (λ (x : ℕ) (l : List ℕ). x ∷ l) (h 0 (zero-lt-suc n)) (tab_ext n (λ i. f (suc i)) (λ i. g (suc i)) (λ i l. h (suc i) (omega arith)))

-- one more at the end
pub tab_snoc : (n : ℕ) (f : ℕ → ℕ) → tab (suc n) f ≡ tab n f ++ (f n ∷ [])
unfolding tab
tab_snoc zero f = refl
tab_snoc (suc n) f = ap (λ l. f 0 ∷ l) (tab_snoc n (λ i. f (suc i)))

-- m more at the end
pub tab_add : (n m : ℕ) (f : ℕ → ℕ) → tab (n + m) f ≡ tab n f ++ tab m (λ i. f (n + i))
unfolding tab
tab_add zero m f = ap (λ k. tab k f) (zero-add m) ∙ tab_ext m f (λ i. f (0 + i)) (λ i h. ap f (sym (zero-add i)))
tab_add (suc n) m f =
    ap (λ k. tab k f) (suc-add n m)
    ∙ ap (λ l. f 0 ∷ l) (tab_add n m (λ i. f (suc i)) ∙ ap (λ l. tab n (λ i. f (suc i)) ++ l) (tab_ext m _ _ (λ i h. ap f (sym (suc-add n i)))))

-- a list is what stands at its places
pub tab_self : (n : ℕ) (s : List ℕ) → length s ≡ n → tab n (λ j. get_or s j 0) ≡ s
tab_self n s e =
    ext_get_or 0 (tab n (λ j. get_or s j 0)) s (length_tab n (λ j. get_or s j 0) ∙ sym e)
    (λ i h. get_d_tab n (λ j. get_or s j 0) i (subst (λ m. i < m) (length_tab n (λ j. get_or s j 0)) h))

-- a loop that fills a list from the front: one more is stored
pub fill : (f : ℕ → ℕ) (o : List ℕ) (j v : ℕ) → take j o ≡ tab j f → j < length o → v ≡ f j → take (j + 1) (set o j v) ≡ tab (j + 1) f
fill f o j v e h q =
    ap (λ n. take n (set o j v)) (add-one j) ∙ take-suc-set o j v h ∙ ap₂ (λ (l : List ℕ) (x : ℕ). l ++ (x ∷ [])) e q ∙ sym (tab_snoc j f) ∙ ap (λ n. tab n f) (sym (add-one j))
