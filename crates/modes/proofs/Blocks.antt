-- Laws of blocks, and what a cipher on blocks of bytes owes.
use mathlib.Core.Path.{◌≡◌, sym, ap, ◌∙◌, subst}
use mathlib.Core.List.{List}
use Prim.Native.Nat.{ℕ, zero, suc, ◌+◌, ◌*◌, ◌/◌, ◌%◌, ◌<◌, ◌≤◌}
use native.Mathlib.Nat.{mod-lt, suc-mul, div-add-mod', div-lt_iff_lt-mul, mul-le-mul_right}
use native.Mathlib.Omega.{arith}
use lib.ListN.{get_or, drop, length, length-drop, get_or-eq_default}
use native.Mathlib.Decide.{dec_lt}
use lib.Seq.{get_or-take, get_or-drop, length-take-le}
use Rattle.common.specs.Places.{tab}
use Rattle.common.proofs.Places.{get_d_tab, length_tab, tab_ext, tab_self}
use Rattle.field.specs.Xor.{xor}
use Rattle.field.specs.Column.{byte_of}
use Rattle.field.proofs.XorLaws as X
use Rattle.field.proofs.PackLaws.{byte_of_lt}
use Rattle.kalyna.specs.State.{Bytes}
use Rattle.modes.specs.Blocks.{block_at, xor_block, block_of, before}

-- a list of bytes
abbrev pub OfBytes : List ℕ → Type 0
OfBytes v = (i : ℕ) → get_or v i 0 < 256

-- a cipher E on blocks of B bytes and its inverse D
pub record Cipher (B : ℕ) (E D : List ℕ → List ℕ) : Type 0 where
  pub positive : 0 < B
  pub sealed : (b : List ℕ) → Bytes B (E b)
  pub opened : (b : List ℕ) → Bytes B (D b)
  pub open_seal : (b : List ℕ) → Bytes B b → D (E b) ≡ b
  pub seal_open : (b : List ℕ) → Bytes B b → E (D b) ≡ b

-- bytes at the places of a list are bytes everywhere
pub of_bytes : (n : ℕ) (v : List ℕ) → Bytes n v → OfBytes v
of_bytes n v b i = go (dec_lt i n)
  where
    go : Dec (i < n) → get_or v i 0 < 256
    go (yes l) = b.fits i l
    go (no l) = subst (λ x. x < 256) (sym (get_or-eq_default v 0 {n = i} (omega (arith, b.long)))) (omega arith)

pub tab_bytes : (n : ℕ) (f : ℕ → ℕ) → ((i : ℕ) → i < n → f i < 256) → Bytes n (tab n f)
tab_bytes n f h = record { long = length_tab n f; fits = λ i l. subst (λ x. x < 256) (sym (get_d_tab n f i l)) (h i l) }

-- ---- places

-- block i ends within a text of n bytes, a place of it lies in the text
pub place_lt : (B i j n : ℕ) → suc i * B ≤ n → j < B → i * B + j < n
place_lt B i j n h l = omega (arith, suc-mul i B)

-- the block of a place of whole blocks ends within the text
pub block_ends : (B n L : ℕ) → 0 < B → L % B ≡ 0 → n < L → suc (n / B) * B ≤ L
block_ends B n L p w l =
    subst (λ x. suc (n / B) * B ≤ x) whole (mul-le-mul_right B ((div-lt_iff_lt-mul p).1 (subst (λ x. n < x) (sym whole) l)))
  where
    whole : L / B * B ≡ L
    whole = omega (arith, div-add-mod' L B)

-- a block starts no later than its places
pub block_starts : (B n L : ℕ) → n < L → n / B * B < L
block_starts B n L l = omega (arith, div-add-mod' n B)

-- ---- blocks of a text

pub length_block : (B i : ℕ) (text : List ℕ) → suc i * B ≤ length text → length (block_at B text i) ≡ B
unfolding block_at
length_block B i text h = length-take-le B (drop (i * B) text) (subst (λ n. B ≤ n) (sym (length-drop (i * B) text)) (omega (arith, suc-mul i B)))

pub get_d_block : (B i j : ℕ) (text : List ℕ) → j < B → get_or (block_at B text i) j 0 ≡ get_or text (i * B + j) 0
unfolding block_at
get_d_block B i j text l = get_or-take B (drop (i * B) text) j 0 l ∙ get_or-drop (i * B) text j 0

pub block_bytes_lem : (B i : ℕ) (text : List ℕ) → OfBytes text → suc i * B ≤ length text → Bytes B (block_at B text i)
block_bytes_lem B i text b h =
    record { long = length_block B i text h; fits = λ j l. subst (λ x. x < 256) (sym (get_d_block B i j text l)) (b (i * B + j)) }

-- byte n of a text is byte n % B of its block n / B
pub get_d_place : (B n : ℕ) (text : List ℕ) → 0 < B → get_or text n 0 ≡ get_or (block_at B text (n / B)) (n % B) 0
get_d_place B n text p = sym (get_d_block B (n / B) (n % B) text (mod-lt n p) ∙ ap (λ m. get_or text m 0) (div-add-mod' n B))

-- block i of a text that is known by its places
pub block_tab : (B i L : ℕ) (f : ℕ → ℕ) → suc i * B ≤ L → block_at B (tab L f) i ≡ tab B (λ j. f (i * B + j))
block_tab B i L f h =
    sym (tab_self B (block_at B (tab L f) i) (length_block B i (tab L f) (subst (λ n. suc i * B ≤ n) (sym (length_tab L f)) h)))
    ∙ tab_ext B _ _ (λ j l. get_d_block B i j (tab L f) l ∙ get_d_tab L f (i * B + j) (place_lt B i j L h l))

-- ---- sums of blocks

pub get_d_xor : (B j : ℕ) (x y : List ℕ) → j < B → get_or (xor_block B x y) j 0 ≡ xor (get_or x j 0) (get_or y j 0)
unfolding xor_block
get_d_xor B j x y l = get_d_tab B _ j l

pub xor_bytes_lem : (B : ℕ) (x y : List ℕ) → OfBytes x → OfBytes y → Bytes B (xor_block B x y)
unfolding xor_block
xor_bytes_lem B x y bx by = tab_bytes B _ (λ i l. X.bound 8 _ _ (bx i) (by i))

-- what is added twice is gone
pub xor_twice : (B : ℕ) (x y : List ℕ) → length x ≡ B → xor_block B (xor_block B x y) y ≡ x
unfolding xor_block
xor_twice B x y e =
    tab_ext B _ (λ j. get_or x j 0) (λ j l. ap (λ z. xor z (get_or y j 0)) (get_d_tab B _ j l) ∙ X.twice (get_or x j 0) (get_or y j 0)) ∙ tab_self B x e

pub cancel : (a b : ℕ) → xor a (xor a b) ≡ b
cancel a b = sym (X.assoc a a b) ∙ ap (λ z. xor z b) (X.self a) ∙ X.zero_l b

pub xor_cancel : (B : ℕ) (x y : List ℕ) → length y ≡ B → xor_block B x (xor_block B x y) ≡ y
unfolding xor_block
xor_cancel B x y e =
    tab_ext B _ (λ j. get_or y j 0) (λ j l. ap (xor (get_or x j 0)) (get_d_tab B _ j l) ∙ cancel (get_or x j 0) (get_or y j 0)) ∙ tab_self B y e

pub block_of_bytes : (B x : ℕ) → Bytes B (block_of B x)
unfolding block_of
block_of_bytes B x = tab_bytes B (byte_of x) (λ i l. byte_of_lt x i)

-- what stands before a block is bytes
pub before_bytes : (B i : ℕ) (iv text : List ℕ) → Bytes B iv → OfBytes text → i * B ≤ length text → Bytes B (before B iv text i)
unfolding before
before_bytes B zero iv text bi b h = bi
before_bytes B (suc i) iv text bi b h = block_bytes_lem B i text b h
