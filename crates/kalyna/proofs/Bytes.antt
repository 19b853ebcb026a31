-- Bytes and columns are each other's, so the theorems on blocks hold on bytes; round keys are states.
use mathlib.Core.Bool.{Bool, true, false}
use mathlib.Core.Path.{◌≡◌, sym, ap, ap₂, ◌∙◌, subst}
use mathlib.Core.List.{List}
use Prim.Native.Nat.{ℕ, ◌+◌, ◌*◌, ◌/◌, ◌%◌, ◌<◌}
use native.Mathlib.Nat.{mod-lt}
use native.Mathlib.Omega.{arith}
use lib.Dec.{eqb}
use lib.ListN.{get_or}
use Rattle.common.specs.Choice.{pick}
use Rattle.common.proofs.Places.{get_d_tab, length_tab, tab_ext, tab_self}
use Rattle.field.specs.Column.{byte_of, pack}
use Rattle.field.proofs.PackLaws.{byte_of_lt, byte_pack, pack_byte, pack_ext, pack_lt, quotient, remainder}
use Rattle.kalyna.specs.State.{State, Bytes, columns_of, bytes_of}
use Rattle.kalyna.specs.Block.{seal, unseal, seal_bytes, unseal_bytes}
use Rattle.kalyna.specs.Keys.{even_from, even_key, odd_turn, odd_key, round_key_with, round_key}
use Rattle.kalyna.proofs.Rows.{tab_state}
use Rattle.kalyna.proofs.Undo.{Keys, add_state, subtract_state, unseal_seal, seal_unseal}

place : (n : ℕ) → 8 * (n / 8) + n % 8 ≡ n
place n = omega arith

pub bytes_of_bytes : (c : ℕ) (s : List ℕ) → Bytes (8 * c) (bytes_of c s)
unfolding bytes_of
bytes_of_bytes c s =
    record {
      long = length_tab (8 * c) _;
      fits = λ n l. subst (λ x. x < 256) (sym (get_d_tab (8 * c) (λ n. byte_of (get_or s (n / 8) 0) (n % 8)) n l)) (byte_of_lt (get_or s (n / 8) 0) (n % 8));
    }

pub columns_of_state : (c : ℕ) (b : List ℕ) → ((n : ℕ) → n < 8 * c → get_or b n 0 < 256) → State c (columns_of c b)
unfolding columns_of
columns_of_state c b h = tab_state c _ (λ j hj. pack_lt 8 (λ i. get_or b (8 * j + i) 0) (λ i hi. h (8 * j + i) (omega arith)))

-- bytes to columns and back
pub bytes_columns : (c : ℕ) (b : List ℕ) → Bytes (8 * c) b → bytes_of c (columns_of c b) ≡ b
unfolding bytes_of columns_of
bytes_columns c b bs =
    tab_ext (8 * c) _ (λ n. get_or b n 0) (λ n hn. one n hn) ∙ tab_self (8 * c) b bs.long
  where
    one : (n : ℕ) → n < 8 * c → byte_of (get_or (columns_of c b) (n / 8) 0) (n % 8) ≡ get_or b n 0
    one n hn =
        ap (λ x. byte_of x (n % 8)) (get_d_tab c (λ j. pack 8 (λ i. get_or b (8 * j + i) 0)) (n / 8) (omega arith))
        ∙ byte_pack 8 (λ i. get_or b (8 * (n / 8) + i) 0) (λ i hi. bs.fits (8 * (n / 8) + i) (omega arith)) (n % 8) (omega arith)
        ∙ ap (λ m. get_or b m 0) (place n)

-- columns to bytes and back
pub columns_bytes : (c : ℕ) (s : List ℕ) → State c s → columns_of c (bytes_of c s) ≡ s
unfolding bytes_of columns_of
columns_bytes c s st =
    tab_ext c _ (λ j. get_or s j 0) (λ j hj. one j hj) ∙ tab_self c s st.long
  where
    one : (j : ℕ) → j < c → pack 8 (λ i. get_or (bytes_of c s) (8 * j + i) 0) ≡ get_or s j 0
    one j hj =
        pack_ext 8 _ (byte_of (get_or s j 0)) (λ i hi.
        get_d_tab (8 * c) (λ n. byte_of (get_or s (n / 8) 0) (n % 8)) (8 * j + i) (omega arith)
        ∙ ap₂ (λ (a b : ℕ). byte_of (get_or s a 0) b) (quotient j i hi) (remainder j i hi))
        ∙ pack_byte 8 (get_or s j 0) (st.fits j hj)

-- ---- round keys

pub odd_state : (c : ℕ) (k : List ℕ) → State c (odd_key c k)
unfolding odd_key
odd_state c k =
    columns_of_state c _ (λ n hn.
    subst (λ x. x < 256) (sym (get_d_tab (8 * c) (λ n. get_or (bytes_of c k) ((n + odd_turn c) % (8 * c)) 0) n hn))
    ((bytes_of_bytes c k).fits _ (mod-lt (n + odd_turn c) (omega arith))))

pick_state : (c : ℕ) (b : Bool) (x y : List ℕ) → State c x → State c y → State c (pick b x y)
unfolding pick
pick_state c true x y sx sy = sx
pick_state c false x y sx sy = sy

-- each round key is a state, whatever the key
pub keys_good : (c kc : ℕ) (k : List ℕ) (t : ℕ) → Keys c t (round_key c kc k)
unfolding round_key round_key_with even_key even_from
keys_good c kc k t v l = pick_state c (eqb (v % 2) 0) _ _ (add_state c _ _) (odd_state c _)

-- ---- the block on bytes

pub seal_state : (c t : ℕ) (K : ℕ → List ℕ) (s : List ℕ) → State c (seal c t K s)
unfolding seal
seal_state c t K s = add_state c _ _

pub unseal_state : (c t : ℕ) (K : ℕ → List ℕ) (s : List ℕ) → State c (unseal c t K s)
unfolding unseal
unseal_state c t K s = subtract_state c _ _

pub unseal_seal_bytes : (c t : ℕ) (K : ℕ → List ℕ) (b : List ℕ) → Keys c t K → Bytes (8 * c) b → unseal_bytes c t K (seal_bytes c t K b) ≡ b
unfolding unseal_bytes seal_bytes
unseal_seal_bytes c t K b kt bs =
    ap (λ x. bytes_of c (unseal c t K x)) (columns_bytes c (seal c t K (columns_of c b)) (seal_state c t K _))
    ∙ ap (bytes_of c) (unseal_seal c t K (columns_of c b) kt (columns_of_state c b bs.fits))
    ∙ bytes_columns c b bs

pub seal_unseal_bytes : (c t : ℕ) (K : ℕ → List ℕ) (b : List ℕ) → Keys c t K → Bytes (8 * c) b → seal_bytes c t K (unseal_bytes c t K b) ≡ b
unfolding unseal_bytes seal_bytes
seal_unseal_bytes c t K b kt bs =
    ap (λ x. bytes_of c (seal c t K x)) (columns_bytes c (unseal c t K (columns_of c b)) (unseal_state c t K _))
    ∙ ap (bytes_of c) (seal_unseal c t K (columns_of c b) kt (columns_of_state c b bs.fits))
    ∙ bytes_columns c b bs

pub seal_bytes_bytes : (c t : ℕ) (K : ℕ → List ℕ) (b : List ℕ) → Bytes (8 * c) (seal_bytes c t K b)
unfolding seal_bytes
seal_bytes_bytes c t K b = bytes_of_bytes c _

pub unseal_bytes_bytes : (c t : ℕ) (K : ℕ → List ℕ) (b : List ℕ) → Bytes (8 * c) (unseal_bytes c t K b)
unfolding unseal_bytes
unseal_bytes_bytes c t K b = bytes_of_bytes c _
