-- The laws of the table: what its rows hold, the turn by half a column, and that a gathered column is the mixed one.
use mathlib.Core.Path.{◌≡◌, refl, sym, ap, ap₂, ◌∙◌, subst}
use mathlib.Core.List.{List, []}
use Prim.Native.Nat.{ℕ, zero, suc, ◌+◌, ◌-◌, ◌*◌, ◌/◌, ◌%◌, ◌^◌, ◌<◌}
use native.Mathlib.Nat.{mod-lt, div-lt_iff_lt-mul, zero-add, suc-add}
use native.Mathlib.Omega.{arith}
use lib.Arith.{digits_div, digits_mod}
use lib.ListN.{get_or}
use Rattle.common.specs.Places.{tab}
use Rattle.common.proofs.Places.{get_d_tab}
use Rattle.field.specs.Xor.{xor}
use Rattle.field.specs.Field.{times}
use Rattle.field.specs.Column.{pack}
use Rattle.field.specs.Mixing.{coef, forward, backward, xsum, product}
use Rattle.field.proofs.XorLaws as X
use Rattle.field.proofs.FieldLaws.{times_lt}
use Rattle.field.proofs.MixingLaws.{xsum_ext, xsum_lt}
use Rattle.field.proofs.PackLaws.{AllBytes, pack_ext, pack_lt, pack_xsum, product_lt}
use Rattle.substitutions.specs.Tables.{sub, unsub, tables, inverses}
use Rattle.substitutions.proofs.Inverse.{sub_lt, unsub_lt}
use Rattle.lookup.specs.Table.{table_of, seal_table, open_table, turned, entry, half, gather}

-- ---- sums

-- n terms and m more
xsum_add : (n m : ℕ) (f : ℕ → ℕ) → xsum (m + n) f ≡ xor (xsum n f) (xsum m (λ i. f (i + n)))
unfolding xsum
xsum_add n zero f = ap (λ k. xsum k f) (zero-add n) ∙ sym (X.zero_r (xsum n f))
xsum_add n (suc m) f =
    ap (λ k. xsum k f) (suc-add m n) ∙ ap (λ x. xor x (f (m + n))) (xsum_add n m f) ∙ X.assoc (xsum n f) (xsum m (λ i. f (i + n))) (f (m + n))

-- ---- the turn by half a column

small : (w : ℕ) → w < 2 ^ 64 → w / 4294967296 < 4294967296
small w l = (div-lt_iff_lt-mul {k = 4294967296} {x = w} {y = 4294967296} (omega arith)).1 l

pub turned_lt : (w : ℕ) → w < 2 ^ 64 → turned w < 2 ^ 64
unfolding turned
turned_lt w l = sums (w % 4294967296) (w / 4294967296) (mod-lt w (omega arith)) (small w l)
  where
    sums : (p q : ℕ) → p < 4294967296 → q < 4294967296 → p * 4294967296 + q < 2 ^ 64
    sums p q lp lq = omega arith

-- the turn goes through xor
pub turned_xor : (a b : ℕ) → a < 2 ^ 64 → b < 2 ^ 64 → turned (xor a b) ≡ xor (turned a) (turned b)
unfolding turned
turned_xor a b la lb =
    ap₂ (λ x y. x * 4294967296 + y) (X.low 32 a b) (X.high 32 a b)
    ∙ sym (X.block 32 (a % 4294967296) (b % 4294967296) (a / 4294967296) (b / 4294967296) (small a la) (small b lb))

turned_zero : turned 0 ≡ 0
unfolding turned
turned_zero = refl

-- the turn goes through a sum
pub turned_xsum : (n : ℕ) (f : ℕ → ℕ) → ((i : ℕ) → i < n → f i < 2 ^ 64) → turned (xsum n f) ≡ xsum n (λ i. turned (f i))
unfolding xsum
turned_xsum zero f h = turned_zero
turned_xsum (suc n) f h =
    turned_xor (xsum n f) (f n) (xsum_lt 64 n f (λ i l. h i (omega arith))) (h n (omega arith))
    ∙ ap (λ x. xor x (turned (f n))) (turned_xsum n f (λ i l. h i (omega arith)))

halves : (h l : ℕ) → l < 4294967296 → turned (h * 4294967296 + l) ≡ l * 4294967296 + h
unfolding turned
halves h l ll = ap₂ (λ x y. x * 4294967296 + y) (digits_mod h ll) (digits_div h ll)

four : (a b c d : ℕ) → a < 256 → b < 256 → c < 256 → d < 256 → ((d * 256 + c) * 256 + b) * 256 + a < 4294967296
four a b c d la lb lc ld = omega arith

up : (h a b c d : ℕ) → (((h * 256 + d) * 256 + c) * 256 + b) * 256 + a ≡ h * 4294967296 + (((d * 256 + c) * 256 + b) * 256 + a)
up h a b c d = omega arith

-- the turn moves the bytes by four rows
pub turned_pack : (f : ℕ → ℕ) → AllBytes 8 f → turned (pack 8 f) ≡ pack 8 (λ k. f ((k + 4) % 8))
unfolding pack
turned_pack f l =
    ap turned (up (((((0 * 256 + f 7) * 256 + f 6) * 256 + f 5) * 256 + f 4)) (f 0) (f 1) (f 2) (f 3))
    ∙ halves _ _ (four (f 0) (f 1) (f 2) (f 3) (l 0 (omega arith)) (l 1 (omega arith)) (l 2 (omega arith)) (l 3 (omega arith)))
    ∙ sym (up (((((0 * 256 + f 3) * 256 + f 2) * 256 + f 1) * 256 + f 0)) (f 4) (f 5) (f 6) (f 7) ∙ omega arith)

-- ---- the rows of the table

place : (k i : ℕ) → k < 8 → i < 4 → (i + 8 - (k + 4) % 8) % 8 ≡ (i + 4 + 8 - k) % 8
place k i lk li = omega arith

module _ (v : List ℕ) (f : ℕ → ℕ → ℕ) where
  -- what row i at the byte x adds to the mixed column
  abbrev pub added : ℕ → ℕ → ℕ
  added i x = pack 8 (λ k. times (coef v k i) (f i x))

  -- the table holds what its rows add
  pub entry_is : (i x : ℕ) → i < 4 → x < 256 → entry (table_of v f) i x ≡ added i x
  unfolding entry table_of
  entry_is i x li lx = pack_ext 8 _ _ (λ k lk. at k lk (omega arith) (omega arith) (omega arith))
    where
      g : ℕ → ℕ
      g n = times (coef v (n % 8) (n / 2048)) (f (n / 2048) (n / 8 % 256))

      at : (k : ℕ) → k < 8 → (2048 * i + 8 * x + k) % 8 ≡ k → (2048 * i + 8 * x + k) / 2048 ≡ i → (2048 * i + 8 * x + k) / 8 % 256 ≡ x
          → get_or (tab 8192 g) (2048 * i + 8 * x + k) 0 ≡ times (coef v k i) (f i x)
      at k lk ek ei ex =
          get_d_tab 8192 g (2048 * i + 8 * x + k) (omega arith) ∙ ap₂ times (ap₂ (coef v) ek ei) (ap₂ f ei ex)

module _ (v : List ℕ) (f : ℕ → ℕ → ℕ) (bytes : (i x : ℕ) → x < 256 → f i x < 256) where
  added_lt : (i x : ℕ) → x < 256 → added v f i x < 2 ^ 64
  added_lt i x lx = pack_lt 8 _ (λ k lk. times_lt (coef v k i) (f i x) (bytes i x lx))

  -- a mixed column is the sum of what its rows add
  pub by_rows : (b : ℕ → ℕ) → AllBytes 8 b → pack 8 (product v (λ i. f i (b i))) ≡ xsum 8 (λ i. added v f i (b i))
  unfolding product
  by_rows b lb = pack_xsum 8 8 (λ k i. times (coef v k i) (f i (b i))) (λ k i lk li. times_lt (coef v k i) (f i (b i)) (bytes i (b i) (lb i li)))

  module _ (rows : (i x : ℕ) → f (i + 4) x ≡ f i x) where
    -- rows 4 to 7 are rows 0 to 3, turned
    pub turned_row : (i x : ℕ) → i < 4 → x < 256 → turned (added v f i x) ≡ added v f (i + 4) x
    unfolding coef
    turned_row i x li lx =
        turned_pack (λ k. times (coef v k i) (f i x)) (λ k lk. times_lt (coef v k i) (f i x) (bytes i x lx))
        ∙ pack_ext 8 _ _ (λ k lk. ap₂ times (ap (λ n. get_or v n 0) (place k i lk li)) (sym (rows i x)))

    half_is : (b : ℕ → ℕ) → ((i : ℕ) → i < 4 → b i < 256) → half (table_of v f) b ≡ xsum 4 (λ i. added v f i (b i))
    unfolding half
    half_is b lb = xsum_ext 4 _ _ (λ i li. entry_is v f i (b i) li (lb i li))

    -- a gathered column is the substituted column, mixed
    pub gather_is : (b : ℕ → ℕ) → AllBytes 8 b → gather (table_of v f) b ≡ pack 8 (product v (λ i. f i (b i)))
    unfolding gather
    gather_is b lb =
        ap₂ xor (half_is b (λ i li. lb i (omega arith)))
        (ap turned (half_is (λ i. b (i + 4)) (λ i li. lb (i + 4) (omega arith)))
        ∙ turned_xsum 4 (λ i. added v f i (b (i + 4))) (λ i li. added_lt i (b (i + 4)) (lb (i + 4) (omega arith)))
        ∙ xsum_ext 4 _ _ (λ i li. turned_row i (b (i + 4)) li (lb (i + 4) (omega arith))))
        ∙ sym (xsum_add 4 4 (λ i. added v f i (b i)))
        ∙ sym (by_rows b lb)

    pub gather_lt : (b : ℕ → ℕ) → AllBytes 8 b → gather (table_of v f) b < 2 ^ 64
    gather_lt b lb =
        subst (λ w. w < 2 ^ 64) (sym (gather_is b lb))
        (pack_lt 8 _ (λ k lk. product_lt v (λ i. f i (b i)) (λ i li. bytes i (b i) (lb i li)) k))

-- only rows 0 to 7 count
pub half_ext : (t : List ℕ) (b b' : ℕ → ℕ) → ((i : ℕ) → i < 4 → b i ≡ b' i) → half t b ≡ half t b'
unfolding half
half_ext t b b' e = xsum_ext 4 _ _ (λ i li. ap (entry t i) (e i li))

pub gather_ext : (t : List ℕ) (b b' : ℕ → ℕ) → ((i : ℕ) → i < 8 → b i ≡ b' i) → gather t b ≡ gather t b'
unfolding gather
gather_ext t b b' e =
    ap₂ xor (half_ext t b b' (λ i li. e i (omega arith)))
    (ap turned (half_ext t (λ i. b (i + 4)) (λ i. b' (i + 4)) (λ i li. e (i + 4) (omega arith))))

-- ---- the two tables

quarter : (i : ℕ) → (i + 4) % 4 ≡ i % 4
quarter i = omega arith

pub sub_rows : (i x : ℕ) → sub (i + 4) x ≡ sub i x
unfolding sub
sub_rows i x = ap (λ n. get_or (get_or tables n []) x 0) (quarter i)

pub unsub_rows : (i x : ℕ) → unsub (i + 4) x ≡ unsub i x
unfolding unsub
unsub_rows i x = ap (λ n. get_or (get_or inverses n []) x 0) (quarter i)

module _ (b : ℕ → ℕ) (lb : (i : ℕ) → i < 8 → b i < 256) where
  pub gather_seal : gather seal_table b ≡ pack 8 (product forward (λ i. sub i (b i)))
  unfolding seal_table
  gather_seal = gather_is forward sub sub_lt sub_rows b lb

  pub gather_open : gather open_table b ≡ pack 8 (product backward (λ i. unsub i (b i)))
  unfolding open_table
  gather_open = gather_is backward unsub unsub_lt unsub_rows b lb

  pub gather_seal_lt : gather seal_table b < 2 ^ 64
  unfolding seal_table
  gather_seal_lt = gather_lt forward sub sub_lt sub_rows b lb

  pub gather_open_lt : gather open_table b < 2 ^ 64
  unfolding open_table
  gather_open_lt = gather_lt backward unsub unsub_lt unsub_rows b lb
