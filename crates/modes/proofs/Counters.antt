-- The counters of one CTR cell are never equal, and the two readings of the counter agree but near the top of the low half.
use mathlib.Core.Bool.{Bool, true, false}
use mathlib.Core.Logic.{◌↔◌}
use mathlib.Core.Path.{◌≡◌, refl, sym, ap, ◌∙◌, subst}
use mathlib.Core.List.{List}
use Prim.Native.Nat.{ℕ, zero, suc, ◌+◌, ◌-◌, ◌*◌, ◌/◌, ◌%◌, ◌^◌, ◌<◌, ◌≤◌}
use native.Mathlib.Nat.{suc-mul, div-add-mod', mul-le-mul_right, div-lt_iff_lt-mul, pow-le-pow_right, mod-eq_of_lt, not-suc-le-zero}
use native.Mathlib.Omega.{arith}
use native.Mathlib.Decide.{dec_le}
use borrow.Author.Tests.{eqb-true, eqb-false, ne_eqb}
use lib.Arith.{digits_mod, digits_lt}
use lib.Pow.{pow-add}
use lib.Dec.{eqb}
use lib.ListN.{get_or, length}
use Rattle.common.specs.Choice.{pick}
use Rattle.common.specs.Places.{tab}
use Rattle.common.proofs.Places.{tab_ext}
use Rattle.field.specs.Column.{pack}
use Rattle.field.proofs.PackLaws.{pack_lt}
use Rattle.kalyna.specs.State.{Bytes}
use Rattle.field.specs.Xor.{xor}
use Rattle.modes.specs.Blocks.{number_of, block_of}
use Rattle.modes.specs.Stream.{add_gamma, front, counter, ctr_gamma, ctr}
use Rattle.modes.specs.Cell.{among, repeated, blocks_in, wraps}

-- ---- 13

-- less than M steps apart, two sums differ modulo M
pub apart : (M a i j : ℕ) → i < j → j < i + M → (a + i) % M ≡ (a + j) % M → ⊥
apart M a i j l h e = go (dec_le ((a + j) / M) ((a + i) / M))
  where
    go : Dec ((a + j) / M ≤ (a + i) / M) → ⊥
    go (yes d) = omega (arith, mul-le-mul_right M d, div-add-mod' (a + i) M, div-add-mod' (a + j) M)
    go (no d) = omega (arith, mul-le-mul_right M (more d), suc-mul ((a + i) / M) M, div-add-mod' (a + i) M, div-add-mod' (a + j) M)
      where
        more : ¬ ((a + j) / M ≤ (a + i) / M) → suc ((a + i) / M) ≤ (a + j) / M
        more d = omega arith

not_among : (x n : ℕ) (f : ℕ → ℕ) → ((i : ℕ) → i < n → x ≡ f i → ⊥) → among x (tab n f) ≡ false
unfolding among tab pick
not_among x zero f h = refl
not_among x (suc n) f h =
    ap (λ t. pick t true (among x (tab n (λ i. f (suc i))))) (ne_eqb x (f 0) (h 0 (omega arith))) ∙ not_among x n (λ i. f (suc i)) (λ i l. h (suc i) (omega arith))

not_repeated : (n : ℕ) (f : ℕ → ℕ) → ((i j : ℕ) → i < j → j < n → f i ≡ f j → ⊥) → repeated (tab n f) ≡ false
unfolding repeated tab pick
not_repeated zero f h = refl
not_repeated (suc n) f h =
    ap (λ t. pick t true (repeated (tab n (λ i. f (suc i))))) (not_among (f 0) n (λ i. f (suc i)) (λ i l. h 0 (suc i) (omega arith) (omega arith)))
    ∙ not_repeated n (λ i. f (suc i)) (λ i j l m. h (suc i) (suc j) (omega arith) (omega arith))

pub blocks_few : (B n : ℕ) → 0 < B → n ≤ 64 * B → blocks_in B n ≤ 64
unfolding blocks_in
blocks_few B n p h = let l : (n + (B - 1)) / B < 65 = (div-lt_iff_lt-mul p).1 (omega (arith, suc-mul 64 B)) in omega arith

many : (B : ℕ) → 0 < B → 256 ≤ 256 ^ B
many B p = pow-le-pow_right {n = 256} (omega arith) {i = 1} {j = B} p

-- a cell has at most 64 blocks, so its counters differ
pub never_wraps : (B n : ℕ) (s : List ℕ) → 0 < B → n ≤ 64 * B → wraps B s n ≡ false
unfolding wraps counter
never_wraps B n s p h =
    not_repeated (blocks_in B n) (λ i. (number_of B s + (i + 1)) % 256 ^ B)
    (λ i j l m e. apart (256 ^ B) (number_of B s) (i + 1) (j + 1) (omega arith) (omega (arith, blocks_few B n p h, many B p)) e)

-- two of the counters of blocks 1 to m are equal
pub record Twice (B : ℕ) (s : List ℕ) (m : ℕ) : Type 0 where
  pub one : ℕ
  pub other : ℕ
  pub first : 1 ≤ one
  pub less : one < other
  pub last : other ≤ m
  pub equal : counter B s one ≡ counter B s other

pub never_twice : (B n : ℕ) (s : List ℕ) → 0 < B → n ≤ 64 * B → Twice B s (blocks_in B n) → ⊥
unfolding counter
never_twice B n s p h t =
    apart (256 ^ B) (number_of B s) t.one t.other t.less (omega (arith, t.last, t.first, blocks_few B n p h, many B p)) t.equal

-- the test finds two equal counters exactly where there are two
pub record Pair (m : ℕ) (f : ℕ → ℕ) : Type 0 where
  pub one : ℕ
  pub other : ℕ
  pub less : one < other
  pub last : other < m
  pub equal : f one ≡ f other

among_found : (x n : ℕ) (f : ℕ → ℕ) → among x (tab n f) ≡ true → (i : ℕ) × (i < n) × (x ≡ f i)
unfolding among tab pick
among_found x zero f e = let z : ◌≡◌ {A = ℕ} 0 1 = cc in absurd (omega arith)
among_found x (suc n) f e = go (eqb x (f 0)) refl (among_found x n (λ i. f (suc i))) e
  where
    go : (t : Bool) → eqb x (f 0) ≡ t → (among x (tab n (λ i. f (suc i))) ≡ true → (i : ℕ) × (i < n) × (x ≡ f (suc i)))
        → pick t true (among x (tab n (λ i. f (suc i)))) ≡ true → (i : ℕ) × (i < suc n) × (x ≡ f i)
    go true et ih e = (0, omega arith, eqb-true x (f 0) et)
    go false et ih e = (suc (ih e).0, omega (arith, (ih e).1), (ih e).2)

repeated_found : (m : ℕ) (f : ℕ → ℕ) → repeated (tab m f) ≡ true → Pair m f
unfolding repeated tab pick
repeated_found zero f e = let z : ◌≡◌ {A = ℕ} 0 1 = cc in absurd (omega arith)
repeated_found (suc m) f e = go (among (f 0) (tab m (λ i. f (suc i)))) refl (repeated_found m (λ i. f (suc i))) e
  where
    go : (t : Bool) → among (f 0) (tab m (λ i. f (suc i))) ≡ t → (repeated (tab m (λ i. f (suc i))) ≡ true → Pair m (λ i. f (suc i)))
        → pick t true (repeated (tab m (λ i. f (suc i)))) ≡ true → Pair (suc m) f
    go true et ih e = from (among_found (f 0) m (λ i. f (suc i)) et)
      where
        from : (i : ℕ) × (i < m) × (f 0 ≡ f (suc i)) → Pair (suc m) f
        from r = record { one = 0; other = suc r.0; less = omega arith; last = omega (arith, r.1); equal = r.2 }
    go false et ih e = up (ih e)
      where
        up : Pair m (λ i. f (suc i)) → Pair (suc m) f
        up r = record { one = suc r.one; other = suc r.other; less = omega (arith, r.less); last = omega (arith, r.last); equal = r.equal }

among_none : (x n : ℕ) (f : ℕ → ℕ) → among x (tab n f) ≡ false → (i : ℕ) → i < n → x ≡ f i → ⊥
unfolding among tab pick
among_none x zero f e i l q = not-suc-le-zero l
among_none x (suc n) f e i l q = go (eqb x (f 0)) refl (among_none x n (λ i. f (suc i))) e i l q
  where
    go : (t : Bool) → eqb x (f 0) ≡ t → (among x (tab n (λ i. f (suc i))) ≡ false → (i : ℕ) → i < n → x ≡ f (suc i) → ⊥)
        → pick t true (among x (tab n (λ i. f (suc i)))) ≡ false → (i : ℕ) → i < suc n → x ≡ f i → ⊥
    go true et ih e i l q = let z : ◌≡◌ {A = ℕ} 0 1 = cc in omega arith
    go false et ih e zero l q = eqb-false x (f 0) et q
    go false et ih e (suc i) l q = ih e i (omega arith) q

repeated_none : (m : ℕ) (f : ℕ → ℕ) → repeated (tab m f) ≡ false → (i j : ℕ) → i < j → j < m → f i ≡ f j → ⊥
unfolding repeated tab pick
repeated_none zero f e i j l h q = not-suc-le-zero h
repeated_none (suc m) f e i j l h q = go (among (f 0) (tab m (λ i. f (suc i)))) refl (repeated_none m (λ i. f (suc i))) e i j l h q
  where
    go : (t : Bool) → among (f 0) (tab m (λ i. f (suc i))) ≡ t → (repeated (tab m (λ i. f (suc i))) ≡ false → (i j : ℕ) → i < j → j < m → f (suc i) ≡ f (suc j) → ⊥)
        → pick t true (repeated (tab m (λ i. f (suc i)))) ≡ false → (i j : ℕ) → i < j → j < suc m → f i ≡ f j → ⊥
    go true et ih e i j l h q = let z : ◌≡◌ {A = ℕ} 0 1 = cc in omega arith
    go false et ih e i zero l h q = not-suc-le-zero l
    go false et ih e zero (suc j) l h q = among_none (f 0) m (λ i. f (suc i)) et j (omega arith) q
    go false et ih e (suc i) (suc j) l h q = ih e i j (omega arith) (omega arith) q

pub wraps_twice : (B n : ℕ) (s : List ℕ) → (wraps B s n ≡ true) ↔ Twice B s (blocks_in B n)
unfolding wraps
wraps_twice B n s = (λ e. from (repeated_found (blocks_in B n) (λ i. counter B s (i + 1)) e), λ t. given t (wraps B s n) refl)
  where
    from : Pair (blocks_in B n) (λ i. counter B s (i + 1)) → Twice B s (blocks_in B n)
    from r =
        record { one = r.one + 1; other = r.other + 1; first = omega arith; less = omega (arith, r.less); last = omega (arith, r.last); equal = r.equal }

    given : Twice B s (blocks_in B n) → (t : Bool) → wraps B s n ≡ t → wraps B s n ≡ true
    given t true e = e
    given t false e =
        absurd (repeated_none (blocks_in B n) (λ i. counter B s (i + 1)) e (t.one - 1) (t.other - 1) (omega (arith, t.first, t.less)) (omega (arith, t.first, t.less, t.last))
        (ap (counter B s) (let z : t.one - 1 + 1 ≡ t.one = omega (arith, t.first) in z) ∙ t.equal
        ∙ ap (counter B s) (let z : t.other ≡ t.other - 1 + 1 = omega (arith, t.first, t.less) in z)))

-- ---- the two readings of the counter: document 003 lets only the low half of the block count, of h bytes

unfoldable pub half_counter : ℕ → List ℕ → ℕ → ℕ
half_counter h s i = number_of (h + h) s / 256 ^ h * 256 ^ h + (number_of (h + h) s + i) % 256 ^ h

unfoldable pub half_ctr : ℕ → (List ℕ → List ℕ) → List ℕ → List ℕ → List ℕ
half_ctr h E iv text = add_gamma (h + h) (λ i. E (block_of (h + h) (half_counter h (E iv) (i + 1)))) (front (h + h)) text

-- the low half of the block as a number
unfoldable pub low_half : ℕ → List ℕ → ℕ
low_half h s = number_of (h + h) s % 256 ^ h

half_sum : (H x i : ℕ) → x % H + i < H → x < H * H → (x + i) % (H * H) ≡ x / H * H + (x + i) % H
half_sum H x i l b =
    mod-eq_of_lt {n = x + i} {m = H * H} (subst (λ y. y < H * H) (sym sum) (digits_lt {q = x / H} {m = H} {r = x % H + i} {c = H} ((div-lt_iff_lt-mul pos).1 b) l))
    ∙ sum
    ∙ ap (λ y. x / H * H + y) (sym (ap (λ y. y % H) sum ∙ digits_mod (x / H) l))
  where
    pos : 0 < H
    pos = omega arith

    sum : x + i ≡ x / H * H + (x % H + i)
    sum = omega (arith, div-add-mod' x H)

pub counters_agree : (h : ℕ) (s : List ℕ) (i : ℕ) → Bytes (h + h) s → low_half h s + i < 256 ^ h → counter (h + h) s i ≡ half_counter h s i
unfolding counter half_counter low_half
counters_agree h s i b l =
    ap (λ M. (number_of (h + h) s + i) % M) (pow-add 256 h h) ∙ half_sum (256 ^ h) (number_of (h + h) s) i l small
  where
    small : number_of (h + h) s < 256 ^ h * 256 ^ h
    small = unfold number_of in subst (λ M. pack (h + h) (λ n. get_or s n 0) < M) (pow-add 256 h h) (pack_lt (h + h) (λ n. get_or s n 0) b.fits)

-- a cell of at most 64 blocks is the same by both, unless the low half of the encrypted IV is within 64 of its top
pub readings_agree : (h : ℕ) (E : List ℕ → List ℕ) (iv text : List ℕ) → 0 < h → Bytes (h + h) (E iv) → length text ≤ 64 * (h + h)
    → low_half h (E iv) + 64 < 256 ^ h → half_ctr h E iv text ≡ ctr (h + h) E iv text
unfolding half_ctr ctr add_gamma ctr_gamma
readings_agree h E iv text p b few l =
    tab_ext (length text) _ _ (λ n m.
    ap (λ x. xor (get_or text n 0) (get_or (E (block_of (h + h) x)) (front (h + h) n) 0))
    (sym (counters_agree h (E iv) (n / (h + h) + 1) b (low (n / (h + h)) ((div-lt_iff_lt-mul (omega arith)).1 (omega arith))))))
  where
    low : (i : ℕ) → i < 64 → low_half h (E iv) + (i + 1) < 256 ^ h
    low i m = omega arith
