-- One turn of each loop.
use mathlib.Core.Path.{◌≡◌, refl, sym, ap, ap₂, ◌∙◌, subst}
use mathlib.Core.Logic.{◌⊎◌}
use mathlib.Core.List.{List, ◌++◌}
use Prim.Native.Nat.{ℕ, suc, ◌+◌, ◌*◌, ◌/◌, ◌%◌, ◌^◌, ◌<◌, ◌≤◌}
use native.Mathlib.Nat.{mul-le-mul, mul-le-mul_left, mul-suc, zero-add, mod-lt}
use native.Mathlib.Omega.{arith}
use lib.ListN.{get_or, length, set, take, drop}
use lib.Seq.{take_at}
use Rattle.common.proofs.Places.{length_tab}
use Rattle.kalyna.specs.State.{columns_of}
use Rattle.field.specs.Xor.{xor}
use Rattle.words.specs.Words.{word_at, put_word, put_words}
use Rattle.words.proofs.Walks.{length_puts, puts_more, puts_next}
use Rattle.key_laws.specs.Stores.{Stored, Lane}
use Rattle.key_laws.specs.Turns.{odd_word}
use Rattle.key_laws.proofs.Stores.{stored_none, stored_more}

-- ---- a lane

pub lane_none : (kc : ℕ) (k h : List ℕ) (w u g : ℕ) (a s : List ℕ) → Lane 0 kc k h w u g a a s s
unfolding put_words
lane_none kc k h w u g a s = record { addends = stored_none w _ a; inputs = refl }

pub lane_more : (j kc : ℕ) (k h : List ℕ) (w u g : ℕ) (a₀ a s₀ s s' : List ℕ) (x y : ℕ) → Lane j kc k h w u g a₀ a s₀ s → w + j < length a₀ → x ≡ (word_at h j + g) % 2 ^ 64
    → y ≡ (get_or k ((j + u) % kc) 0 + x) % 2 ^ 64 → s' ≡ put_word s (w + j) y → Lane (j + 1) kc k h w u g a₀ (set a (w + j) x) s₀ s'
lane_more j kc k h w u g a₀ a s₀ s s' x y L r ex ey es =
    record {
      addends = stored_more w j (λ j. (word_at h j + g) % 2 ^ 64) a₀ a x L.addends r ex;
      inputs = puts_more s₀ s s' w j (λ j. (get_or k ((j + u) % kc) 0 + (word_at h j + g) % 2 ^ 64) % 2 ^ 64) y L.inputs es
          (ey ∙ ap (λ x. (get_or k ((j + u) % kc) 0 + x) % 2 ^ 64) ex);
    }

pub lane_long : (j kc : ℕ) (k h : List ℕ) (w u g : ℕ) (a₀ a s₀ s : List ℕ) → Lane j kc k h w u g a₀ a s₀ s → length s ≡ length s₀
lane_long j kc k h w u g a₀ a s₀ s L = ap length L.inputs ∙ length_puts s₀ w j _

-- ---- the addends added modulo 2

pub xor_more : (s₀ s s' a : List ℕ) (j x v : ℕ) → s ≡ put_words s₀ 0 j (λ j. xor (word_at s₀ j) (get_or a j 0)) → s' ≡ put_word s j v → x ≡ word_at s j → v ≡ xor x (get_or a j 0)
    → s' ≡ put_words s₀ 0 (j + 1) (λ j. xor (word_at s₀ j) (get_or a j 0))
xor_more s₀ s s' a j x v e r ex ev =
    puts_more s₀ s s' 0 j f v e (r ∙ ap (λ n. put_word s n v) (sym (zero-add j)))
    (ev ∙ ap (λ x. xor x (get_or a j 0)) (ex ∙ ap (word_at s) (sym (zero-add j)) ∙ puts_next s₀ s 0 j f e ∙ ap (word_at s₀) (zero-add j)))
  where
    f : ℕ → ℕ
    f j = xor (word_at s₀ j) (get_or a j 0)

-- ---- an odd key

pub odd_turn_lem : (c at j p q v : ℕ) (ks₀ ks : List ℕ) → Stored (at + c) j (λ j. odd_word c (get_or ks₀ (at + (j + c / 4) % c) 0) (get_or ks₀ (at + (j + c / 4 + 1) % c) 0)) ks₀ ks → j < c
    → at + 2 * c ≤ length ks₀ → p ≡ (j + c / 4) % c → q ≡ (j + c / 4 + 1) % c → v ≡ odd_word c (get_or ks (at + p) 0) (get_or ks (at + q) 0)
    → Stored (at + c) (j + 1) (λ j. odd_word c (get_or ks₀ (at + (j + c / 4) % c) 0) (get_or ks₀ (at + (j + c / 4 + 1) % c) 0)) ks₀ (set ks (at + c + j) v)
odd_turn_lem c at j p q v ks₀ ks a l r ep eq ev =
    stored_more (at + c) j (λ j. odd_word c (get_or ks₀ (at + (j + c / 4) % c) 0) (get_or ks₀ (at + (j + c / 4 + 1) % c) 0)) ks₀ ks v a (omega arith)
    (ev ∙ ap₂ (odd_word c) (same p (j + c / 4) ep) (same q (j + c / 4 + 1) eq))
  where
    same : (p n : ℕ) → p ≡ n % c → get_or ks (at + p) 0 ≡ get_or ks₀ (at + n % c) 0
    same p n e = a.kept (at + p) (◌⊎◌.inl (omega (arith, e, mod-lt n {m = c} (omega arith)))) ∙ ap (λ x. get_or ks₀ (at + x) 0) e

-- ---- places

-- key 2 i + p of 2 n
pub place_room : (c i n p at l : ℕ) → p ≤ 1 → at ≡ c * (2 * i + p) → i < n → c * (2 * n) ≤ l → at + c ≤ l
place_room c i n p at l hp e h r = omega (arith, mul-le-mul_left c inside, mul-suc c (2 * i + p))
  where
    inside : suc (2 * i + p) ≤ 2 * n
    inside = omega arith

-- keys 2 i and 2 i + 1 of 2 n
pub pair_room : (c i n at l : ℕ) → at ≡ c * (2 * i + 0) → i < n → c * (2 * n) ≤ l → at + 2 * c ≤ l
pair_room c i n at l e h r = omega (arith, mul-le-mul_left c inside, mul-suc c (suc (2 * i + 0)), mul-suc c (2 * i + 0))
  where
    inside : suc (suc (2 * i + 0)) ≤ 2 * n
    inside = omega arith

-- lane i of n
pub lane_room : (c i n w l : ℕ) → w ≡ c * i → i < n → c * n ≤ l → w + c ≤ l
lane_room c i n w l e h r = omega (arith, mul-le-mul_left c h, mul-suc c i)

-- ---- the arrays' lengths

pub lanes_fit : (c n : ℕ) → c ≤ 8 → n ≤ 10 → c * n ≤ 80
lanes_fit c n h l = mul-le-mul h l

pub keys_fit : (c r : ℕ) → c ≤ 8 → r ≤ 18 → c * (2 * (r / 2 + 1)) ≤ 160
keys_fit c r h l = mul-le-mul {n₁ = c} {m₁ = 2 * (r / 2 + 1)} {n₂ = 8} {m₂ = 20} h (omega arith)

pub odd_fit : (c r l : ℕ) → c ≤ 8 → r ≤ 18 → l ≡ 160 → c * (2 * (r / 2)) ≤ l
odd_fit c r l h m e = subst (λ l. c * (2 * (r / 2)) ≤ l) (sym e) (mul-le-mul {n₁ = c} {m₁ = 2 * (r / 2)} {n₂ = 8} {m₂ = 20} h (omega arith))

columns_long : (n : ℕ) (b : List ℕ) → length (columns_of n b) ≡ n
unfolding columns_of
columns_long n b = length_tab n _

-- the columns of the key, loaded at the front
pub loaded : (n : ℕ) (b k k₀ : List ℕ) → k ≡ columns_of n b ++ drop n k₀ → take n k ≡ columns_of n b
loaded n b k k₀ e = ap (take n) e ∙ take_at (columns_of n b) (drop n k₀) n (columns_long n b)

pub loaded_long : (n : ℕ) (b k k₀ : List ℕ) → k ≡ columns_of n b ++ drop n k₀ → length (take n k) ≡ n
loaded_long n b k k₀ e = ap length (loaded n b k k₀ e) ∙ columns_long n b
