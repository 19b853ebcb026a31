-- Zeros filled from the front, one column after another.
use mathlib.Core.Path.{◌≡◌, refl, sym, ap, ◌∙◌, subst}
use mathlib.Core.List.{List}
use Prim.Native.Nat.{ℕ, ◌+◌, ◌*◌, ◌<◌}
use native.Mathlib.Decide.{dec_lt, ℕ_discrete}
use native.Mathlib.Omega.{arith}
use lib.Dec.{ltb}
use lib.ListN.{get_or, length, set, length-set, replicate}
use lib.Seq.{ext_get_or, get_or-set_same, get_or-set_other}
use borrow.Author.Tests.{lt-ltb, le-ltb}
use Rattle.common.specs.Choice.{pick}
use Rattle.common.specs.Places.{tab}
use Rattle.common.proofs.Places.{get_d_tab, length_tab, tab_ext}
use Rattle.words.specs.Words.{word_at, block_at}
use Rattle.key_laws.specs.Schedule.{columns_from}

-- the first j of f, then zeros
unfoldable pub up_to : ℕ → (ℕ → ℕ) → List ℕ
up_to j f = tab 8 (λ i. pick (ltb i j) (f i) 0)

pub none_yet : (f : ℕ → ℕ) → replicate 8 0 ≡ up_to 0 f
unfolding up_to tab pick
none_yet f = refl

pub one_more : (j : ℕ) (f : ℕ → ℕ) (o : List ℕ) (v : ℕ) → j < 8 → o ≡ up_to j f → v ≡ f j → set o j v ≡ up_to (j + 1) f
unfolding up_to pick
one_more j f o v l e q =
    ext_get_or 0 (set o j v) (up_to (j + 1) f) (length-set o j v ∙ ap length e ∙ length_tab 8 _ ∙ sym (length_tab 8 _))
    (λ i h. at i (subst (λ n. i < n) (length-set o j v ∙ ap length e ∙ length_tab 8 _) h) (ℕ_discrete i j))
  where
    at : (i : ℕ) → i < 8 → Dec (i ≡ j) → get_or (set o j v) i 0 ≡ get_or (up_to (j + 1) f) i 0
    at i h (yes s) =
        ap (λ n. get_or (set o j v) n 0) s ∙ get_or-set_same o j v 0 (subst (λ n. j < n) (sym (ap length e ∙ length_tab 8 _)) l) ∙ q ∙ ap f (sym s)
        ∙ sym (get_d_tab 8 (λ i. pick (ltb i (j + 1)) (f i) 0) i h ∙ ap (λ b. pick b (f i) 0) (lt-ltb i (j + 1) (omega arith)))
    at i h (no s) =
        get_or-set_other o j i v 0 s ∙ ap (λ x. get_or x i 0) e ∙ get_d_tab 8 (λ i. pick (ltb i j) (f i) 0) i h ∙ side (dec_lt i j)
        ∙ sym (get_d_tab 8 (λ i. pick (ltb i (j + 1)) (f i) 0) i h)
      where
        side : Dec (i < j) → pick (ltb i j) (f i) 0 ≡ pick (ltb i (j + 1)) (f i) 0
        side (yes m) = ap (λ b. pick b (f i) 0) (lt-ltb i j m ∙ sym (lt-ltb i (j + 1) (omega arith)))
        side (no m) = ap (λ b. pick b (f i) 0) (le-ltb i j (omega arith) ∙ sym (le-ltb i (j + 1) (omega arith)))

-- the columns of block 0 are all that is taken
pub from_block : (c : ℕ) (s x : List ℕ) → block_at c s 0 ≡ x → up_to c (word_at s) ≡ columns_from c x
unfolding up_to columns_from block_at pick
from_block c s x e = tab_ext 8 _ _ (λ j l. one j (dec_lt j c))
  where
    one : (j : ℕ) → Dec (j < c) → pick (ltb j c) (word_at s j) 0 ≡ pick (ltb j c) (get_or x j 0) 0
    one j (yes m) = ap (λ v. pick (ltb j c) v 0) (ap (word_at s) (sym place) ∙ sym (get_d_tab c (λ k. word_at s (c * 0 + k)) j m) ∙ ap (λ y. get_or y j 0) e)
      where
        place : c * 0 + j ≡ j
        place = ap (λ z. z + j) (native.Mathlib.Nat.mul-zero c) ∙ native.Mathlib.Nat.zero-add j
    one j (no m) = ap (λ b. pick b (word_at s j) 0) (le-ltb j c (omega arith)) ∙ sym (ap (λ b. pick b (get_or x j 0) 0) (le-ltb j c (omega arith)))
