-- Each layer and its inverse undo each other, and so do sealing and opening a block, for every number of columns and rounds.
use mathlib.Core.Path.{◌≡◌, refl, ap, ◌∙◌}
use mathlib.Core.List.{List}
use Prim.Native.Nat.{ℕ, zero, suc, ◌+◌, ◌-◌, ◌%◌, ◌^◌, ◌<◌, ◌≤◌}
use native.Mathlib.Nat.{mod-lt}
use native.Mathlib.Omega.{arith}
use lib.ListN.{get_or}
use Rattle.common.proofs.Places.{get_d_tab, tab_ext, tab_self}
use Rattle.field.specs.Xor.{xor}
use Rattle.field.specs.Column.{byte_of}
use Rattle.field.specs.Mixing.{forward, backward}
use Rattle.field.proofs.XorLaws as X
use Rattle.field.proofs.PackLaws.{byte_of_lt}
use Rattle.field.proofs.MixingLaws.{product_ext, unmix_mix, mix_unmix}
use Rattle.substitutions.specs.Tables.{sub, unsub}
use Rattle.substitutions.proofs.Inverse.{unsub_sub, sub_unsub}
use Rattle.kalyna.specs.State.{State}
use Rattle.kalyna.specs.Round.{add_key, sub_key, xor_key, substitute, unsubstitute, from, to, shift, unshift, mix, unmix, ssm, unssm}
use Rattle.kalyna.specs.Block.{moves, rounds, unrounds, seal, unseal}
use Rattle.kalyna.proofs.Rows.{row_at, made_ext, made_self, tab_state, made_state, from_lt, to_lt, from_to, to_from, sub_rows, unsub_rows, place_rows, mix_rows}

-- ---- what each layer makes is a state

pub substitute_state : (c : ℕ) (s : List ℕ) → State c (substitute c s)
unfolding substitute
substitute_state c s = made_state c _ (sub_rows s)

pub unsubstitute_state : (c : ℕ) (s : List ℕ) → State c (unsubstitute c s)
unfolding unsubstitute
unsubstitute_state c s = made_state c _ (unsub_rows s)

pub shift_state : (δ : ℕ → ℕ) (c : ℕ) (s : List ℕ) → State c (shift δ c s)
unfolding shift
shift_state δ c s = made_state c (λ j i. byte_of (get_or s (from c (δ i) j) 0) i) (place_rows s (λ i j. from c (δ i) j))

pub unshift_state : (δ : ℕ → ℕ) (c : ℕ) (s : List ℕ) → State c (unshift δ c s)
unfolding unshift
unshift_state δ c s = made_state c (λ j i. byte_of (get_or s (to c (δ i) j) 0) i) (place_rows s (λ i j. to c (δ i) j))

pub mix_state : (c : ℕ) (s : List ℕ) → State c (mix c s)
unfolding mix
mix_state c s = made_state c _ (mix_rows forward s)

pub unmix_state : (c : ℕ) (s : List ℕ) → State c (unmix c s)
unfolding unmix
unmix_state c s = made_state c _ (mix_rows backward s)

pub ssm_state : (δ : ℕ → ℕ) (c : ℕ) (s : List ℕ) → State c (ssm δ c s)
unfolding ssm
ssm_state δ c s = mix_state c (shift δ c (substitute c s))

pub unssm_state : (δ : ℕ → ℕ) (c : ℕ) (s : List ℕ) → State c (unssm δ c s)
unfolding unssm
unssm_state δ c s = unsubstitute_state c (unshift δ c (unmix c s))

pub add_state : (c : ℕ) (k s : List ℕ) → State c (add_key c k s)
unfolding add_key
add_state c k s = tab_state c _ (λ j l. mod-lt _ (omega arith))

pub subtract_state : (c : ℕ) (k s : List ℕ) → State c (sub_key c k s)
unfolding sub_key
subtract_state c k s = tab_state c _ (λ j l. mod-lt _ (omega arith))

pub xor_state : (c : ℕ) (k s : List ℕ) → State c k → State c s → State c (xor_key c k s)
unfolding xor_key
xor_state c k s kt st = tab_state c _ (λ j l. X.bound 64 _ _ (st.fits j l) (kt.fits j l))

-- ---- each layer is undone, both ways

pub unsubstitute_substitute : (c : ℕ) (s : List ℕ) → State c s → unsubstitute c (substitute c s) ≡ s
unfolding unsubstitute substitute
unsubstitute_substitute c s st =
    made_ext c _ (λ j. byte_of (get_or s j 0)) (λ j i hj hi. ap (unsub i) (row_at c _ (sub_rows s) j i hj hi) ∙ unsub_sub i _ (byte_of_lt (get_or s j 0) i)) ∙ made_self c s st

pub substitute_unsubstitute : (c : ℕ) (s : List ℕ) → State c s → substitute c (unsubstitute c s) ≡ s
unfolding unsubstitute substitute
substitute_unsubstitute c s st =
    made_ext c _ (λ j. byte_of (get_or s j 0)) (λ j i hj hi. ap (sub i) (row_at c _ (unsub_rows s) j i hj hi) ∙ sub_unsub i _ (byte_of_lt (get_or s j 0) i)) ∙ made_self c s st

pub unshift_shift : (δ : ℕ → ℕ) (c : ℕ) (s : List ℕ) → State c s → unshift δ c (shift δ c s) ≡ s
unfolding unshift shift
unshift_shift δ c s st =
    made_ext c _ (λ j. byte_of (get_or s j 0))
    (λ j i hj hi.
    row_at c (λ j i. byte_of (get_or s (from c (δ i) j) 0) i) (place_rows s (λ i j. from c (δ i) j)) (to c (δ i) j) i (to_lt c (δ i) j (omega arith)) hi
    ∙ ap (λ n. byte_of (get_or s n 0) i) (from_to c (δ i) j hj))
    ∙ made_self c s st

pub shift_unshift : (δ : ℕ → ℕ) (c : ℕ) (s : List ℕ) → State c s → shift δ c (unshift δ c s) ≡ s
unfolding unshift shift
shift_unshift δ c s st =
    made_ext c _ (λ j. byte_of (get_or s j 0))
    (λ j i hj hi.
    row_at c (λ j i. byte_of (get_or s (to c (δ i) j) 0) i) (place_rows s (λ i j. to c (δ i) j)) (from c (δ i) j) i (from_lt c (δ i) j (omega arith)) hi
    ∙ ap (λ n. byte_of (get_or s n 0) i) (to_from c (δ i) j hj))
    ∙ made_self c s st

pub unmix_mixed : (c : ℕ) (s : List ℕ) → State c s → unmix c (mix c s) ≡ s
unfolding unmix mix
unmix_mixed c s st =
    made_ext c _ (λ j. byte_of (get_or s j 0))
    (λ j i hj hi. product_ext backward _ _ (λ k hk. row_at c _ (mix_rows forward s) j k hj hk) i ∙ unmix_mix (byte_of (get_or s j 0)) (λ k hk. byte_of_lt _ k) i hi)
    ∙ made_self c s st

pub mix_unmixed : (c : ℕ) (s : List ℕ) → State c s → mix c (unmix c s) ≡ s
unfolding unmix mix
mix_unmixed c s st =
    made_ext c _ (λ j. byte_of (get_or s j 0))
    (λ j i hj hi. product_ext forward _ _ (λ k hk. row_at c _ (mix_rows backward s) j k hj hk) i ∙ mix_unmix (byte_of (get_or s j 0)) (λ k hk. byte_of_lt _ k) i hi)
    ∙ made_self c s st

pub unssm_ssm : (δ : ℕ → ℕ) (c : ℕ) (s : List ℕ) → State c s → unssm δ c (ssm δ c s) ≡ s
unfolding unssm ssm
unssm_ssm δ c s st =
    ap (λ x. unsubstitute c (unshift δ c x)) (unmix_mixed c (shift δ c (substitute c s)) (shift_state δ c _))
    ∙ ap (unsubstitute c) (unshift_shift δ c (substitute c s) (substitute_state c s))
    ∙ unsubstitute_substitute c s st

pub ssm_unssm : (δ : ℕ → ℕ) (c : ℕ) (s : List ℕ) → State c s → ssm δ c (unssm δ c s) ≡ s
unfolding unssm ssm
ssm_unssm δ c s st =
    ap (λ x. mix c (shift δ c x)) (substitute_unsubstitute c (unshift δ c (unmix c s)) (unshift_state δ c _))
    ∙ ap (mix c) (shift_unshift δ c (unmix c s) (unmix_state c s))
    ∙ mix_unmixed c s st

add_back : (a k : ℕ) → a < 2 ^ 64 → ((a + k) % 2 ^ 64 + 2 ^ 64 - k % 2 ^ 64) % 2 ^ 64 ≡ a
add_back a k h = omega arith

back_add : (a k : ℕ) → a < 2 ^ 64 → ((a + 2 ^ 64 - k % 2 ^ 64) % 2 ^ 64 + k) % 2 ^ 64 ≡ a
back_add a k h = omega arith

pub sub_add : (c : ℕ) (k s : List ℕ) → State c s → sub_key c k (add_key c k s) ≡ s
unfolding sub_key add_key
sub_add c k s st =
    tab_ext c _ (λ j. get_or s j 0)
    (λ j h. ap (λ x. (x + 2 ^ 64 - get_or k j 0 % 2 ^ 64) % 2 ^ 64) (get_d_tab c _ j h) ∙ add_back (get_or s j 0) (get_or k j 0) (st.fits j h))
    ∙ tab_self c s st.long

pub add_sub : (c : ℕ) (k s : List ℕ) → State c s → add_key c k (sub_key c k s) ≡ s
unfolding sub_key add_key
add_sub c k s st =
    tab_ext c _ (λ j. get_or s j 0)
    (λ j h. ap (λ x. (x + get_or k j 0) % 2 ^ 64) (get_d_tab c _ j h) ∙ back_add (get_or s j 0) (get_or k j 0) (st.fits j h))
    ∙ tab_self c s st.long

pub xor_xor : (c : ℕ) (k s : List ℕ) → State c s → xor_key c k (xor_key c k s) ≡ s
unfolding xor_key
xor_xor c k s st =
    tab_ext c _ (λ j. get_or s j 0) (λ j h. ap (λ x. xor x (get_or k j 0)) (get_d_tab c _ j h) ∙ X.twice (get_or s j 0) (get_or k j 0)) ∙ tab_self c s st.long

-- ---- the block

-- round keys 0 .. t are states of c columns
abbrev pub Keys : ℕ → ℕ → (ℕ → List ℕ) → Type 0
Keys c t K = (v : ℕ) → v ≤ t → State c (K v)

pub rounds_state : (c t : ℕ) (K : ℕ → List ℕ) (s : List ℕ) (n : ℕ) → n ≤ t → Keys c t K → State c s → State c (rounds c K s n)
unfolding rounds
rounds_state c t K s zero l kt st = st
rounds_state c t K s (suc n) l kt st = xor_state c (K (suc n)) (ssm (moves c) c (rounds c K s n)) (kt (suc n) l) (ssm_state (moves c) c _)

unrounds_rounds : (c t : ℕ) (K : ℕ → List ℕ) (s : List ℕ) (n : ℕ) → n ≤ t → Keys c t K → State c s → unrounds c K n (rounds c K s n) ≡ s
unfolding rounds unrounds
unrounds_rounds c t K s zero l kt st = refl
unrounds_rounds c t K s (suc n) l kt st =
    ap (λ x. unrounds c K n (unssm (moves c) c x)) (xor_xor c (K (suc n)) (ssm (moves c) c (rounds c K s n)) (ssm_state (moves c) c _))
    ∙ ap (unrounds c K n) (unssm_ssm (moves c) c (rounds c K s n) (rounds_state c t K s n (omega arith) kt st))
    ∙ unrounds_rounds c t K s n (omega arith) kt st

unrounds_state : (c t : ℕ) (K : ℕ → List ℕ) (n : ℕ) (s : List ℕ) → n ≤ t → State c s → State c (unrounds c K n s)
unfolding unrounds
unrounds_state c t K zero s l st = st
unrounds_state c t K (suc n) s l st = unrounds_state c t K n (unssm (moves c) c (xor_key c (K (suc n)) s)) (omega arith) (unssm_state (moves c) c _)

rounds_unrounds : (c t : ℕ) (K : ℕ → List ℕ) (n : ℕ) (s : List ℕ) → n ≤ t → Keys c t K → State c s → rounds c K (unrounds c K n s) n ≡ s
unfolding rounds unrounds
rounds_unrounds c t K zero s l kt st = refl
rounds_unrounds c t K (suc n) s l kt st =
    ap (λ x. xor_key c (K (suc n)) (ssm (moves c) c x)) (rounds_unrounds c t K n (unssm (moves c) c (xor_key c (K (suc n)) s)) (omega arith) kt (unssm_state (moves c) c _))
    ∙ ap (xor_key c (K (suc n))) (ssm_unssm (moves c) c (xor_key c (K (suc n)) s) (xor_state c (K (suc n)) s (kt (suc n) l) st))
    ∙ xor_xor c (K (suc n)) s st

-- opening a block undoes sealing it
pub unseal_seal : (c t : ℕ) (K : ℕ → List ℕ) (s : List ℕ) → Keys c t K → State c s → unseal c t K (seal c t K s) ≡ s
unfolding unseal seal
unseal_seal c t K s kt st =
    ap (λ x. sub_key c (K 0) (unrounds c K (t - 1) (unssm (moves c) c x))) (sub_add c (K t) (ssm (moves c) c m) (ssm_state (moves c) c m))
    ∙ ap (λ x. sub_key c (K 0) (unrounds c K (t - 1) x))
    (unssm_ssm (moves c) c m (rounds_state c t K (add_key c (K 0) s) (t - 1) (omega arith) kt (add_state c (K 0) s)))
    ∙ ap (sub_key c (K 0)) (unrounds_rounds c t K (add_key c (K 0) s) (t - 1) (omega arith) kt (add_state c (K 0) s))
    ∙ sub_add c (K 0) s st
  where
    m : List ℕ
    m = rounds c K (add_key c (K 0) s) (t - 1)

-- and sealing undoes opening
pub seal_unseal : (c t : ℕ) (K : ℕ → List ℕ) (s : List ℕ) → Keys c t K → State c s → seal c t K (unseal c t K s) ≡ s
unfolding unseal seal
seal_unseal c t K s kt st =
    ap (λ x. add_key c (K t) (ssm (moves c) c (rounds c K x (t - 1)))) (add_sub c (K 0) (unrounds c K (t - 1) m) (unrounds_state c t K (t - 1) m (omega arith) (unssm_state (moves c) c _)))
    ∙ ap (λ x. add_key c (K t) (ssm (moves c) c x)) (rounds_unrounds c t K (t - 1) m (omega arith) kt (unssm_state (moves c) c _))
    ∙ ap (add_key c (K t)) (ssm_unssm (moves c) c (sub_key c (K t) s) (subtract_state c (K t) s))
    ∙ add_sub c (K t) s st
  where
    m : List ℕ
    m = unssm (moves c) c (sub_key c (K t) s)
