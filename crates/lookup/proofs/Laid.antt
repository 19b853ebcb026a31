-- The table laid entry by entry, in a form that is computed fast: each entry doubles its byte once for all eight products.
use mathlib.Core.Path.{◌≡◌, refl, sym, ap, ap₂, ◌∙◌}
use mathlib.Core.List.{List, [], ◌∷◌, ◌++◌, append_assoc}
use Prim.Native.Nat.{ℕ, zero, suc, ◌+◌, ◌*◌, ◌/◌, ◌%◌, ◌<◌}
use native.Mathlib.Omega.{arith}
use lib.ListN.{get_or, length}
use Rattle.common.specs.Places.{tab}
use Rattle.common.proofs.Places.{tab_ext, tab_add}
use Rattle.field.specs.Xor.{xor}
use Rattle.field.specs.Field.{double, times_digits, times}
use Rattle.field.specs.Mixing.{coef, forward, backward}
use Rattle.substitutions.specs.Tables.{pi0, pi1, pi2, pi3, inv0, inv1, inv2, inv3, tables, inverses, sub, unsub}
use Rattle.lookup.specs.Table.{table_of, seal_table, open_table}

-- b, doubled 0 .. n - 1 times
unfoldable pub doubles : ℕ → ℕ → List ℕ
doubles zero b = []
doubles (suc n) b = b ∷ doubles n (double b)

-- a times the byte whose doubles these are
unfoldable pub weigh : List ℕ → ℕ → ℕ
weigh [] a = 0
weigh (d ∷ ds) zero = 0
weigh (d ∷ ds) (suc a) = xor (suc a % 2 * d) (weigh ds (suc a / 2))

-- before the list r: the products of one byte by each of the numbers
unfoldable pub products : List ℕ → List ℕ → List ℕ → List ℕ
products ds [] r = r
products ds (c ∷ cs) r = weigh ds c ∷ products ds cs r

-- before the list r: the products of each byte of the list s
unfoldable pub row : List ℕ → List ℕ → List ℕ → List ℕ
row cs [] r = r
row cs (x ∷ s) r = products (doubles 8 x) cs (row cs s r)

-- four rows
unfoldable pub laid : List ℕ → List ℕ → List ℕ → List ℕ → List ℕ → List ℕ
laid v s0 s1 s2 s3 = row (tab 8 (λ k. coef v k 0)) s0 (row (tab 8 (λ k. coef v k 1)) s1 (row (tab 8 (λ k. coef v k 2)) s2 (row (tab 8 (λ k. coef v k 3)) s3 [])))

weigh_is : (n a b : ℕ) → weigh (doubles n b) a ≡ times_digits n a b
unfolding doubles weigh times_digits
weigh_is zero a b = refl
weigh_is (suc n) zero b = refl
weigh_is (suc n) (suc a) b = ap (xor (suc a % 2 * b)) (weigh_is n (suc a / 2) (double b))

products_is : (m : ℕ) (c : ℕ → ℕ) (x : ℕ) (r : List ℕ) → products (doubles 8 x) (tab m c) r ≡ tab m (λ k. times (c k) x) ++ r
unfolding products tab times
products_is zero c x r = refl
products_is (suc m) c x r = ap₂ (λ (y : ℕ) (l : List ℕ). y ∷ l) (weigh_is 8 (c 0) x) (products_is m (λ k. c (suc k)) x r)

row_is_lem : (c : ℕ → ℕ) (s r : List ℕ) → row (tab 8 c) s r ≡ tab (length s * 8) (λ n. times (c (n % 8)) (get_or s (n / 8) 0)) ++ r
unfolding row
row_is_lem c [] r = unfold tab in refl
row_is_lem c (x ∷ s) r =
    products_is 8 c x (row (tab 8 c) s r)
    ∙ ap₂ (λ (a b : List ℕ). a ++ b) (tab_ext 8 _ g (λ k h. ap₂ (λ (p q : ℕ). times (c p) (get_or (x ∷ s) q 0)) (low k h) (none k h)))
    (row_is_lem c s r ∙ ap (λ a. a ++ r) (tab_ext (length s * 8) _ (λ n. g (8 + n)) (λ n h. ap₂ (λ (p q : ℕ). times (c p) (get_or (x ∷ s) q 0)) (same n) (more n))))
    ∙ sym (append_assoc (tab 8 g) (tab (length s * 8) (λ n. g (8 + n))) r)
    ∙ ap (λ a. a ++ r) (sym (tab_add 8 (length s * 8) g) ∙ ap (λ n. tab n g) (eight (length s)))
  where
    g : ℕ → ℕ
    g n = times (c (n % 8)) (get_or (x ∷ s) (n / 8) 0)

    low : (k : ℕ) → k < 8 → k ≡ k % 8
    low k h = omega arith

    none : (k : ℕ) → k < 8 → 0 ≡ k / 8
    none k h = omega arith

    same : (n : ℕ) → n % 8 ≡ (8 + n) % 8
    same n = omega arith

    more : (n : ℕ) → suc (n / 8) ≡ (8 + n) / 8
    more n = omega arith

    eight : (n : ℕ) → 8 + n * 8 ≡ suc n * 8
    eight n = omega arith

-- row i of the rule
rule : List ℕ → (ℕ → ℕ) → ℕ → List ℕ
rule v s i = tab 2048 (λ n. times (coef v (n % 8) i) (s (n / 8)))

append_nil : (l : List ℕ) → l ++ [] ≡ l
append_nil [] = refl
append_nil (x ∷ l) = ap (λ k. x ∷ k) (append_nil l)

-- the rule's table is its four rows
four : (v : List ℕ) (f : ℕ → ℕ → ℕ) → rule v (f 0) 0 ++ (rule v (f 1) 1 ++ (rule v (f 2) 2 ++ rule v (f 3) 3)) ≡ table_of v f
unfolding rule table_of
four v f =
    ap₂ (λ (a b : List ℕ). a ++ b) (tab_ext 2048 _ g (λ n h. place n n 0 refl (omega arith) (omega arith)))
    (ap₂ (λ (a b : List ℕ). a ++ b) (tab_ext 2048 _ (λ n. g (2048 + n)) (λ n h. place n (2048 + n) 1 (omega arith) (omega arith) (omega arith)))
    (ap₂ (λ (a b : List ℕ). a ++ b) (tab_ext 2048 _ (λ n. g (2048 + (2048 + n))) (λ n h. place n (2048 + (2048 + n)) 2 (omega arith) (omega arith) (omega arith)))
    (tab_ext 2048 _ (λ n. g (2048 + (2048 + (2048 + n)))) (λ n h. place n (2048 + (2048 + (2048 + n))) 3 (omega arith) (omega arith) (omega arith)))
    ∙ sym (tab_add 2048 2048 (λ n. g (2048 + (2048 + n)))))
    ∙ sym (tab_add 2048 4096 (λ n. g (2048 + n))))
    ∙ sym (tab_add 2048 6144 g)
  where
    g : ℕ → ℕ
    g n = times (coef v (n % 8) (n / 2048)) (f (n / 2048) (n / 8 % 256))

    place : (n m i : ℕ) → n % 8 ≡ m % 8 → i ≡ m / 2048 → n / 8 ≡ m / 8 % 256 → times (coef v (n % 8) i) (f i (n / 8)) ≡ g m
    place n m i e₁ e₂ e₃ = ap₂ times (ap₂ (coef v) e₁ e₂) (ap₂ f e₂ e₃)

-- a row laid is the row of the rule
row_rule : (v : List ℕ) (i : ℕ) (s r : List ℕ) → length s ≡ 256 → row (tab 8 (λ k. coef v k i)) s r ≡ rule v (λ x. get_or s x 0) i ++ r
unfolding rule
row_rule v i s r e = row_is_lem (λ k. coef v k i) s r ∙ ap (λ n. tab (n * 8) (λ n. times (coef v (n % 8) i) (get_or s (n / 8) 0)) ++ r) e

laid_is : (v s0 s1 s2 s3 : List ℕ) → length s0 ≡ 256 → length s1 ≡ 256 → length s2 ≡ 256 → length s3 ≡ 256
    → laid v s0 s1 s2 s3 ≡ rule v (λ x. get_or s0 x 0) 0 ++ (rule v (λ x. get_or s1 x 0) 1 ++ (rule v (λ x. get_or s2 x 0) 2 ++ rule v (λ x. get_or s3 x 0) 3))
unfolding laid
laid_is v s0 s1 s2 s3 e0 e1 e2 e3 =
    row_rule v 0 s0 _ e0
    ∙ ap (λ l. rule v (λ x. get_or s0 x 0) 0 ++ l) (row_rule v 1 s1 _ e1
    ∙ ap (λ l. rule v (λ x. get_or s1 x 0) 1 ++ l) (row_rule v 2 s2 _ e2
    ∙ ap (λ l. rule v (λ x. get_or s2 x 0) 2 ++ l) (row_rule v 3 s3 [] e3 ∙ append_nil _)))

pub laid_seal : laid forward pi0 pi1 pi2 pi3 ≡ seal_table
unfolding seal_table sub tables
laid_seal = laid_is forward pi0 pi1 pi2 pi3 (unfold pi0 in refl) (unfold pi1 in refl) (unfold pi2 in refl) (unfold pi3 in refl) ∙ four forward sub

pub laid_open : laid backward inv0 inv1 inv2 inv3 ≡ open_table
unfolding open_table unsub inverses
laid_open = laid_is backward inv0 inv1 inv2 inv3 (unfold inv0 in refl) (unfold inv1 in refl) (unfold inv2 in refl) (unfold inv3 in refl) ∙ four backward unsub
