-- Even and odd keys in their places are the schedule, and the schedule has every round key in its place.
use mathlib.Core.Path.{◌≡◌, sym, ap, ap₂, ◌∙◌, subst}
use mathlib.Core.List.{List}
use Prim.Native.Nat.{ℕ, suc, ◌+◌, ◌*◌, ◌/◌, ◌%◌, ◌<◌, ◌≤◌}
use native.Mathlib.Nat.{mod-lt, div-add-mod, mul_comm, mul-suc, mul-le-mul_left, mul-le-mul_right}
use native.Mathlib.Numerals.{add-one}
use native.Mathlib.Decide.{dec_lt, ℕ_discrete}
use native.Mathlib.Omega.{arith}
use lib.Dec.{ltb}
use lib.Arith.{digits_div, digits_mod}
use lib.ListN.{get_or, get_or-replicate}
use borrow.Author.Tests.{eq-eqb, ne_eqb, lt-ltb, le-ltb}
use Rattle.common.specs.Choice.{pick}
use Rattle.common.proofs.Places.{get_d_tab, tab_ext, tab_self}
use Rattle.kalyna.specs.Keys.{helper, even_key, odd_key, round_key_with, round_key}
use Rattle.kalyna.proofs.Bytes.{keys_good}
use Rattle.rounds.specs.Rounds.{key_at}
use Rattle.blocks.specs.Blocks.{keys_of}
use Rattle.blocks.proofs.Widths.{width_pos, width_le}
use Rattle.key_laws.specs.Stores.{Spread}
use Rattle.key_laws.specs.Turns.{Sized}
use Rattle.key_laws.specs.Schedule.{schedule_of}
use Rattle.key_laws.proofs.Stores.{key_column}
use Rattle.key_laws.proofs.Rounds.{noughts}

-- ---- round keys by their parity

even_round : (c kc : ℕ) (k h : List ℕ) (v : ℕ) → v % 2 ≡ 0 → round_key_with c kc k h v ≡ even_key c kc k h (v / 2)
unfolding round_key_with pick
even_round c kc k h v e = ap (λ b. pick b (even_key c kc k h (v / 2)) (odd_key c (even_key c kc k h (v / 2)))) (eq-eqb (v % 2) 0 e)

odd_round : (c kc : ℕ) (k h : List ℕ) (v : ℕ) → (v % 2 ≡ 0 → ⊥) → round_key_with c kc k h v ≡ odd_key c (even_key c kc k h (v / 2))
unfolding round_key_with pick
odd_round c kc k h v e = ap (λ b. pick b (even_key c kc k h (v / 2)) (odd_key c (even_key c kc k h (v / 2)))) (ne_eqb (v % 2) 0 e)

-- ---- from the two passes to the keys

-- the even keys stored, and after them the odd keys
module _ (c kc r : ℕ) (k h ks₀ ks₁ ks₂ : List ℕ) (er : r % 2 ≡ 0) (E : Spread c 0 (r / 2 + 1) (even_key c kc k h) ks₀ ks₁)
    (O : Spread c 1 (r / 2) (λ e. odd_key c (keys_of c ks₁ (2 * e))) ks₁ ks₂) where
  -- key v up to r
  key_in : (v : ℕ) → v ≤ r → keys_of c ks₂ v ≡ round_key_with c kc k h v
  key_in v l = go (ℕ_discrete (v % 2) 0)
    where
      go : Dec (v % 2 ≡ 0) → keys_of c ks₂ v ≡ round_key_with c kc k h v
      go (yes e) =
          O.kept v (λ i m q. omega arith) ∙ ap (keys_of c ks₁) place ∙ E.done (v / 2) (omega arith) ∙ sym (even_round c kc k h v e)
        where
          place : v ≡ 2 * (v / 2) + 0
          place = omega arith
      go (no e) =
          ap (keys_of c ks₂) place ∙ O.done (v / 2) (omega arith) ∙ ap (odd_key c) (ap (keys_of c ks₁) below ∙ E.done (v / 2) (omega arith)) ∙ sym (odd_round c kc k h v e)
        where
          place : v ≡ 2 * (v / 2) + 1
          place = omega arith

          below : 2 * (v / 2) ≡ 2 * (v / 2) + 0
          below = omega arith

  -- and above
  key_above : (v : ℕ) → r < v → keys_of c ks₂ v ≡ keys_of c ks₀ v
  key_above v l = O.kept v (λ i m q. omega arith) ∙ E.kept v (λ i m q. omega arith)

-- place n is column n mod c of key n / c
place_is_lem : (c : ℕ) (ks : List ℕ) (n : ℕ) → 0 < c → get_or ks n 0 ≡ get_or (keys_of c ks (n / c)) (n % c) 0
place_is_lem c ks n p = ap (λ m. get_or ks m 0) (sym (div-add-mod n c)) ∙ sym (key_column c ks (n / c) (n % c) (mod-lt n p))

before : (c r n : ℕ) → 0 < c → n < c * (r + 1) → n / c ≤ r
before c r n p h = last ((native.Mathlib.Nat.div-lt_iff_lt-mul {k = c} {x = n} {y = r + 1} p).1 (subst (λ x. n < x) (mul_comm c (r + 1)) h))
  where
    last : n / c < r + 1 → n / c ≤ r
    last l = omega arith

after : (c r n : ℕ) → 0 < c → (n < c * (r + 1) → ⊥) → r < n / c
after c r n p h = go (dec_lt r (n / c))
  where
    go : Dec (r < n / c) → r < n / c
    go (yes l) = l
    go (no l) = absurd (h (omega (arith, mul-le-mul_left c (small (omega arith)), mul-suc c (n / c), ap (λ x. c * x) (add-one r), mul-suc c r, div-add-mod n c, mod-lt n p)))
      where
        small : n / c < suc r → n / c ≤ r
        small m = omega arith

-- the two passes over a fresh array of 160 columns make the schedule
pub schedule_is : (c kc r : ℕ) (k h ks₁ ks₂ : List ℕ) → Sized c kc → r % 2 ≡ 0 → h ≡ helper c kc k → Spread c 0 (r / 2 + 1) (even_key c kc k h) (noughts 160) ks₁
    → Spread c 1 (r / 2) (λ e. odd_key c (keys_of c ks₁ (2 * e))) ks₁ ks₂ → ks₂ ≡ schedule_of c kc r k
unfolding schedule_of round_key pick
schedule_is c kc r k h ks₁ ks₂ z er e E O =
    sym (tab_self 160 ks₂ (O.long ∙ E.long)) ∙ tab_ext 160 _ _ (λ n l. one n l (dec_lt n (c * (r + 1))))
  where
    p : 0 < c
    p = width_pos c z.width

    fresh : (n : ℕ) → n < 160 → get_or (noughts 160) n 0 ≡ 0
    fresh n l = get_or-replicate 160 n 0 0 l

    one : (n : ℕ) → n < 160 → Dec (n < c * (r + 1)) → get_or ks₂ n 0 ≡ pick (ltb n (c * (r + 1))) (get_or (round_key_with c kc k (helper c kc k) (n / c)) (n % c) 0) 0
    one n l (yes m) =
        place_is_lem c ks₂ n p ∙ ap (λ x. get_or x (n % c) 0) (key_in c kc r k h (noughts 160) ks₁ ks₂ er E O (n / c) (before c r n p m) ∙ ap (λ h. round_key_with c kc k h (n / c)) e)
        ∙ sym (ap (λ b. pick b (get_or (round_key_with c kc k (helper c kc k) (n / c)) (n % c) 0) 0) (lt-ltb n (c * (r + 1)) m))
    one n l (no m) =
        place_is_lem c ks₂ n p ∙ ap (λ x. get_or x (n % c) 0) (key_above c kc r k h (noughts 160) ks₁ ks₂ er E O (n / c) (after c r n p m)) ∙ sym (place_is_lem c (noughts 160) n p) ∙ fresh n l
        ∙ sym (ap (λ b. pick b (get_or (round_key_with c kc k (helper c kc k) (n / c)) (n % c) 0) 0) (le-ltb n (c * (r + 1)) (omega arith)))

-- ---- the keys of the schedule

-- round key v stands at its place
pub schedule_keys : (c kc r : ℕ) (k : List ℕ) (v : ℕ) → Sized c kc → r ≤ 18 → v ≤ r → keys_of c (schedule_of c kc r k) v ≡ round_key c kc k v
unfolding keys_of key_at schedule_of pick
schedule_keys c kc r k v z few l =
    tab_ext c _ (λ j. get_or (round_key c kc k v) j 0) (λ j h.
    get_d_tab 160 (λ n. pick (ltb n (c * (r + 1))) (get_or (round_key c kc k (n / c)) (n % c) 0) 0) (c * v + j) (inside j h)
    ∙ ap (λ b. pick b (get_or (round_key c kc k ((c * v + j) / c)) ((c * v + j) % c) 0) 0) (lt-ltb (c * v + j) (c * (r + 1)) (within j h))
    ∙ ap₂ (λ (a b : ℕ). get_or (round_key c kc k a) b 0) (ap (λ x. (x + j) / c) (mul_comm c v) ∙ digits_div v h) (ap (λ x. (x + j) % c) (mul_comm c v) ∙ digits_mod v h))
    ∙ tab_self c (round_key c kc k v) (keys_good c kc k v v (omega arith)).long
  where
    within : (j : ℕ) → j < c → c * v + j < c * (r + 1)
    within j h = omega (arith, mul-le-mul_left c l, ap (λ x. c * x) (add-one r), mul-suc c r)

    most : c * (r + 1) ≤ 8 * (r + 1)
    most = mul-le-mul_right (r + 1) (width_le c z.width)

    inside : (j : ℕ) → j < c → c * v + j < 160
    inside j h = omega (arith, within j h, most, few)
