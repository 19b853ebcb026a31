-- A state that is made row by row is read row by row.
use mathlib.Core.Path.{◌≡◌, sym, ap, ap₂, ◌∙◌, subst}
use mathlib.Core.List.{List}
use Prim.Native.Nat.{ℕ, ◌+◌, ◌-◌, ◌%◌, ◌^◌, ◌<◌}
use native.Mathlib.Nat.{mod-lt, mod-add-mod, add-mod_right, add-mod, mod-eq_of_lt, mod-mod}
use native.Mathlib.Omega.{arith}
use lib.ListN.{get_or}
use Rattle.common.specs.Places.{tab}
use Rattle.common.proofs.Places.{get_d_tab, length_tab, tab_ext, tab_self}
use Rattle.field.specs.Xor.{xor}
use Rattle.field.specs.Column.{byte_of, pack}
use Rattle.field.specs.Mixing.{product, forward, backward}
use Rattle.field.proofs.PackLaws.{byte_of_lt, byte_pack, pack_byte, pack_ext, pack_lt, pack_xor, product_lt, byte_xor}
use Rattle.field.proofs.MixingLaws.{product_ext, product_xor}
use Rattle.substitutions.specs.Tables.{sub, unsub}
use Rattle.substitutions.proofs.Inverse.{sub_lt, unsub_lt}
use Rattle.kalyna.specs.State.{State}
use Rattle.kalyna.specs.Round.{xor_key, substitute, unsubstitute, from, to, shift, unshift, mix, unmix, ssm}

-- a state of c columns whose column j has the bytes F j 0 .. F j 7
abbrev pub made : ℕ → (ℕ → ℕ → ℕ) → List ℕ
made c F = tab c (λ j. pack 8 (F j))

abbrev pub Rows : (ℕ → ℕ → ℕ) → Type 0
Rows F = (j i : ℕ) → i < 8 → F j i < 256

pub row_at : (c : ℕ) (F : ℕ → ℕ → ℕ) → Rows F → (j i : ℕ) → j < c → i < 8 → byte_of (get_or (made c F) j 0) i ≡ F j i
row_at c F h j i hj hi = ap (λ x. byte_of x i) (get_d_tab c (λ j. pack 8 (F j)) j hj) ∙ byte_pack 8 (F j) (λ i l. h j i l) i hi

-- states made of the same rows are the same
pub made_ext : (c : ℕ) (F G : ℕ → ℕ → ℕ) → ((j i : ℕ) → j < c → i < 8 → F j i ≡ G j i) → made c F ≡ made c G
made_ext c F G h = tab_ext c _ _ (λ j hj. pack_ext 8 _ _ (λ i hi. h j i hj hi))

-- a state is made of its own rows
pub made_self : (c : ℕ) (s : List ℕ) → State c s → made c (λ j. byte_of (get_or s j 0)) ≡ s
made_self c s st = tab_ext c _ (λ j. get_or s j 0) (λ j hj. pack_byte 8 (get_or s j 0) (st.fits j hj)) ∙ tab_self c s st.long

pub tab_state : (c : ℕ) (f : ℕ → ℕ) → ((j : ℕ) → j < c → f j < 2 ^ 64) → State c (tab c f)
tab_state c f h = record { long = length_tab c f; fits = λ j l. subst (λ x. x < 2 ^ 64) (sym (get_d_tab c f j l)) (h j l) }

pub made_state : (c : ℕ) (F : ℕ → ℕ → ℕ) → Rows F → State c (made c F)
made_state c F h = tab_state c (λ j. pack 8 (F j)) (λ j l. pack_lt 8 (F j) (λ i hi. h j i hi))

-- ---- where the rows come from

pub from_lt : (c d j : ℕ) → 0 < c → from c d j < c
unfolding from
from_lt c d j h = mod-lt _ h

pub to_lt : (c d j : ℕ) → 0 < c → to c d j < c
unfolding to
to_lt c d j h = mod-lt _ h

-- j + d, back by d
around : (c d j : ℕ) → j < c → (j + (d + (c - d % c))) % c ≡ j
around c d j h =
    add-mod j (d + (c - d % c)) c ∙ ap (λ x. (j % c + x) % c) gone ∙ ap (λ x. x % c) (add_zero' (j % c)) ∙ mod-mod j c ∙ mod-eq_of_lt h
  where
    l : d % c < c
    l = mod-lt d (omega arith)

    add_zero' : (x : ℕ) → x + 0 ≡ x
    add_zero' x = omega arith

    gone : (d + (c - d % c)) % c ≡ 0
    gone = sym (mod-add-mod d c (c - d % c)) ∙ ap (λ x. x % c) e ∙ self c
      where
        e : d % c + (c - d % c) ≡ c
        e = omega (arith, l)

        self : (c : ℕ) → c % c ≡ 0
        self c = native.Mathlib.Nat.mod_self c

pub from_to : (c d j : ℕ) → j < c → from c d (to c d j) ≡ j
unfolding from to
from_to c d j h = mod-add-mod (j + d) c (c - d % c) ∙ ap (λ x. x % c) e ∙ around c d j h
  where
    e : j + d + (c - d % c) ≡ j + (d + (c - d % c))
    e = omega arith

pub to_from : (c d j : ℕ) → j < c → to c d (from c d j) ≡ j
unfolding from to
to_from c d j h = mod-add-mod (j + (c - d % c)) c d ∙ ap (λ x. x % c) e ∙ around c d j h
  where
    e : j + (c - d % c) + d ≡ j + (d + (c - d % c))
    e = omega arith

-- ---- the rows that each layer makes

pub sub_rows : (s : List ℕ) → Rows (λ j i. sub i (byte_of (get_or s j 0) i))
sub_rows s j i hi = sub_lt i _ (byte_of_lt (get_or s j 0) i)

pub unsub_rows : (s : List ℕ) → Rows (λ j i. unsub i (byte_of (get_or s j 0) i))
unsub_rows s j i hi = unsub_lt i _ (byte_of_lt (get_or s j 0) i)

pub place_rows : (s : List ℕ) (at : ℕ → ℕ → ℕ) → Rows (λ j i. byte_of (get_or s (at i j) 0) i)
place_rows s at j i hi = byte_of_lt (get_or s (at i j) 0) i

pub mix_rows : (v s : List ℕ) → Rows (λ j. product v (byte_of (get_or s j 0)))
mix_rows v s j i hi = product_lt v (byte_of (get_or s j 0)) (λ k hk. byte_of_lt (get_or s j 0) k) i

-- column j after substitute, shift and mix, by the bytes that it is made of
pub ssm_at : (δ : ℕ → ℕ) (c : ℕ) (s : List ℕ) (j : ℕ) → j < c
    → get_or (ssm δ c s) j 0 ≡ pack 8 (product forward (λ i. sub i (byte_of (get_or s (from c (δ i) j) 0) i)))
unfolding ssm mix shift substitute
ssm_at δ c s j hj =
    get_d_tab c _ j hj
    ∙ pack_ext 8 _ _ (λ k hk. product_ext forward _ _ (λ i hi.
    row_at c (λ j i. byte_of (get_or (substitute c s) (from c (δ i) j) 0) i) (place_rows (substitute c s) (λ i j. from c (δ i) j)) j i hj hi
    ∙ row_at c (λ j i. sub i (byte_of (get_or s j 0) i)) (sub_rows s) (from c (δ i) j) i (from_lt c (δ i) j (omega arith)) hi) k)

-- what opening does between two mixings back
unfoldable pub back : (ℕ → ℕ) → ℕ → List ℕ → List ℕ
back δ c s = unsubstitute c (unshift δ c s)

pub back_at : (δ : ℕ → ℕ) (c : ℕ) (s : List ℕ) (j : ℕ) → j < c → get_or (back δ c s) j 0 ≡ pack 8 (λ i. unsub i (byte_of (get_or s (to c (δ i) j) 0) i))
unfolding back unsubstitute unshift
back_at δ c s j hj =
    get_d_tab c _ j hj
    ∙ pack_ext 8 _ _ (λ i hi. ap (unsub i) (row_at c (λ j i. byte_of (get_or s (to c (δ i) j) 0) i) (place_rows s (λ i j. to c (δ i) j)) j i hj hi))

-- and the mixing back after it
pub unmix_back_at : (δ : ℕ → ℕ) (c : ℕ) (s : List ℕ) (j : ℕ) → j < c
    → get_or (unmix c (back δ c s)) j 0 ≡ pack 8 (product backward (λ i. unsub i (byte_of (get_or s (to c (δ i) j) 0) i)))
unfolding unmix
unmix_back_at δ c s j hj =
    get_d_tab c _ j hj
    ∙ pack_ext 8 _ _ (λ k hk. product_ext backward _ _ (λ i hi.
    ap (λ x. byte_of x i) (back_at δ c s j hj)
    ∙ byte_pack 8 (λ i. unsub i (byte_of (get_or s (to c (δ i) j) 0) i)) (λ i l. unsub_lt i _ (byte_of_lt (get_or s (to c (δ i) j) 0) i)) i hi) k)

-- the mixing back passes over a key
pub unmix_xor : (c : ℕ) (k s : List ℕ) → unmix c (xor_key c k s) ≡ xor_key c (unmix c k) (unmix c s)
unfolding unmix xor_key
unmix_xor c k s =
    tab_ext c _ _ (λ j hj.
    pack_ext 8 _ _ (λ i hi.
    product_ext backward _ _ (λ n hn. ap (λ x. byte_of x n) (get_d_tab c _ j hj) ∙ byte_xor (get_or s j 0) (get_or k j 0) n) i
    ∙ product_xor backward (byte_of (get_or s j 0)) (byte_of (get_or k j 0)) i)
    ∙ pack_xor 8 (product backward (byte_of (get_or s j 0))) (product backward (byte_of (get_or k j 0))) (λ i hi. mix_rows backward s j i hi) (λ i hi. mix_rows backward k j i hi)
    ∙ sym (ap₂ xor (get_d_tab c (λ j. pack 8 (product backward (byte_of (get_or s j 0)))) j hj) (get_d_tab c (λ j. pack 8 (product backward (byte_of (get_or k j 0)))) j hj)))
