-- Bytes stored eight at a time are the bytes of the columns.
use mathlib.Core.Path.{◌≡◌, refl, sym, ap, ap₂, ◌∙◌}
use mathlib.Core.List.{List}
use Prim.Native.Nat.{ℕ, ◌+◌, ◌*◌, ◌/◌, ◌%◌, ◌<◌}
use native.Mathlib.Nat.{div-one}
use native.Mathlib.Numerals.{towards_suc}
use native.Mathlib.Omega.{arith}
use lib.ListN.{get_or, set}
use lib.Seq.{sets}
use Rattle.common.proofs.Cases.{eight}
use Rattle.common.specs.Places.{tab}
use Rattle.common.proofs.Places.{tab_ext}
use Rattle.field.specs.Column.{byte_of, pack}
use Rattle.field.specs.Xor.{xor}
use Rattle.field.proofs.PackLaws.{byte_xor, byte_pack, quotient, remainder}
use Rattle.words.specs.Words.{word_at}
use Rattle.words.proofs.Laws.{Pieces}
use Rattle.words.proofs.Walks.{low_0, low_1, low_2, low_3, high_0, high_1, high_2, high_3}

-- eight stores, one after another
pub sets_eight : (l : List ℕ) (at w : ℕ) →
    set (set (set (set (set (set (set (set l at (w % 256)) (at + 1) (w / 256 % 256)) (at + 2) (w / 65536 % 256)) (at + 3) (w / 16777216 % 256)) (at + 4) (w / 4294967296 % 256))
    (at + 5) (w / 1099511627776 % 256)) (at + 6) (w / 281474976710656 % 256)) (at + 7) (w / 72057594037927936 % 256) ≡ sets l at (tab 8 (byte_of w))
unfolding tab byte_of
sets_eight l at w = simp (towards_suc, div-one)

-- byte n of the columns from w on
abbrev pub byte : List ℕ → ℕ → ℕ → ℕ
byte s w n = byte_of (word_at s (w + n / 8)) (n % 8)

-- eight more bytes of the columns
pub eight_stored : (s : List ℕ) (w j x : ℕ) → x ≡ word_at s (w + j) → tab 8 (byte_of x) ≡ tab 8 (λ k. byte s w (8 * j + k))
eight_stored s w j x e = tab_ext 8 _ _ (λ i l. ap₂ (λ (a b : ℕ). byte_of a b) (e ∙ ap (λ n. word_at s (w + n)) (sym (quotient j i l))) (sym (remainder j i l)))

-- eight more bytes with the columns added modulo 2
pub eight_xored : (s b : List ℕ) (w at j x y z : ℕ) → ((n : ℕ) → get_or b n 0 < 256) → x ≡ pack 8 (λ i. get_or b (at + 8 * j + i) 0) → y ≡ word_at s (w + j) → z ≡ xor x y
    → tab 8 (byte_of z) ≡ tab 8 (λ k. xor (get_or b (at + (8 * j + k)) 0) (byte s w (8 * j + k)))
eight_xored s b w at j x y z h ex ey ez =
    tab_ext 8 _ _ (λ i l.
    ap (λ v. byte_of v i) ez ∙ byte_xor x y i
    ∙ ap₂ xor
    (ap (λ v. byte_of v i) ex ∙ byte_pack 8 (λ i. get_or b (at + 8 * j + i) 0) (λ i l. h (at + 8 * j + i)) i l ∙ ap (λ n. get_or b n 0) (sum i))
    (ap₂ (λ (a b : ℕ). byte_of a b) (ey ∙ ap (λ n. word_at s (w + n)) (sym (quotient j i l))) (sym (remainder j i l))))
  where
    sum : (i : ℕ) → at + 8 * j + i ≡ at + (8 * j + i)
    sum i = omega arith

pub eight_more : (j : ℕ) → 8 * j + 8 ≡ 8 * (j + 1)
eight_more j = omega arith

-- ---- one byte of a cell

-- half i of a piece: low for an even byte, high for an odd one
byte_by : (s : List ℕ) (j : ℕ) → Pieces s → (i : ℕ) → i < 8 → (n : ℕ) → n ≡ 4 * j + i / 2 → (i % 2 ≡ 0 → get_or s n 0 % 256 ≡ byte_of (word_at s j) i) × ((i % 2 ≡ 0 → ⊥) → get_or s n 0 / 256 ≡ byte_of (word_at s j) i)
byte_by s j h =
    eight (λ i. (n : ℕ) → n ≡ 4 * j + i / 2 → (i % 2 ≡ 0 → get_or s n 0 % 256 ≡ byte_of (word_at s j) i) × ((i % 2 ≡ 0 → ⊥) → get_or s n 0 / 256 ≡ byte_of (word_at s j) i))
    (λ n e. ((λ q. sym (low_0 s j h n (omega arith))), (λ q. absurd (q refl))))
    (λ n e. ((λ q. never q), (λ q. sym (high_0 s j h n (omega arith)))))
    (λ n e. ((λ q. sym (low_1 s j h n (omega arith))), (λ q. absurd (q refl))))
    (λ n e. ((λ q. never q), (λ q. sym (high_1 s j h n (omega arith)))))
    (λ n e. ((λ q. sym (low_2 s j h n (omega arith))), (λ q. absurd (q refl))))
    (λ n e. ((λ q. never q), (λ q. sym (high_2 s j h n (omega arith)))))
    (λ n e. ((λ q. sym (low_3 s j h n (omega arith))), (λ q. absurd (q refl))))
    (λ n e. ((λ q. never q), (λ q. sym (high_3 s j h n (omega arith)))))
  where
    never : {A : Type 0} → ◌≡◌ {A = ℕ} 1 0 → A
    never q = let z : ⊥ = omega arith in absurd z

pub even_byte : (s : List ℕ) (k : ℕ) → Pieces s → k % 2 ≡ 0 → get_or s (k / 2) 0 % 256 ≡ byte_of (word_at s (k / 8)) (k % 8)
even_byte s k h e = (byte_by s (k / 8) h (k % 8) (omega arith) (k / 2) (omega arith)).0 (omega arith)

pub odd_byte : (s : List ℕ) (k : ℕ) → Pieces s → (k % 2 ≡ 0 → ⊥) → get_or s (k / 2) 0 / 256 ≡ byte_of (word_at s (k / 8)) (k % 8)
odd_byte s k h e = (byte_by s (k / 8) h (k % 8) (omega arith) (k / 2) (omega arith)).1 (λ q. e (omega arith))
