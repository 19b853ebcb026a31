-- The columns of a block in machine words, looked up by their pieces.
use mathlib.Core.Path.{◌≡◌, sym, ap, ap₂, ◌∙◌}
use mathlib.Core.List.{List, [], ◌∷◌}
use Prim.Native.Nat.{ℕ, ◌+◌, ◌/◌, ◌%◌, ◌^◌, ◌<◌}
use native.Mathlib.Nat.{mul-zero}
use native.Mathlib.Omega.{arith}
use lib.ListN.{get_or}
use Rattle.common.proofs.Cases.{eight}
use Rattle.common.proofs.Places.{get_d_tab}
use Rattle.field.specs.Column.{byte_of}
use Rattle.lookup.specs.Table.{gather}
use Rattle.lookup.proofs.Laws.{gather_ext}
use Rattle.words.specs.Words.{word_at, block_at}
use Rattle.rounds.specs.Rounds.{key_at}
use Rattle.blocks.proofs.Laws.{block_column}

-- the bytes of a piece are bytes of the column
low_0 : (w : ℕ) → w / 1 % 65536 % 256 ≡ byte_of w 0
unfolding byte_of
low_0 w = omega arith

high_0 : (w : ℕ) → w / 1 % 65536 / 256 ≡ byte_of w 1
unfolding byte_of
high_0 w = omega arith

low_1 : (w : ℕ) → w / 65536 % 65536 % 256 ≡ byte_of w 2
unfolding byte_of
low_1 w = omega arith

high_1 : (w : ℕ) → w / 65536 % 65536 / 256 ≡ byte_of w 3
unfolding byte_of
high_1 w = omega arith

low_2 : (w : ℕ) → w / 4294967296 % 65536 % 256 ≡ byte_of w 4
unfolding byte_of
low_2 w = omega arith

high_2 : (w : ℕ) → w / 4294967296 % 65536 / 256 ≡ byte_of w 5
unfolding byte_of
high_2 w = omega arith

low_3 : (w : ℕ) → w / 281474976710656 % 65536 % 256 ≡ byte_of w 6
unfolding byte_of
low_3 w = omega arith

high_3 : (w : ℕ) → w / 281474976710656 % 65536 / 256 ≡ byte_of w 7
unfolding byte_of
high_3 w = omega arith

-- column j of a key
pub key_column : (c : ℕ) (ks : List ℕ) (at j : ℕ) → j < c → get_or ks (at + j) 0 ≡ get_or (key_at c ks at) j 0
unfolding key_at
key_column c ks at j l = sym (get_d_tab c (λ j. get_or ks (at + j) 0) j l)

-- column j with the first key added
pub first_column : (c : ℕ) (s ks : List ℕ) (j r w : ℕ) → j < c → r ≡ (w + get_or ks j 0) % 2 ^ 64 → w ≡ word_at s j
    → r ≡ (get_or (block_at c s 0) j 0 + get_or (key_at c ks 0) j 0) % 2 ^ 64
first_column c s ks j r w l e q =
    e ∙ ap₂ (λ (x : ℕ) (y : ℕ). (x + y) % 2 ^ 64) (q ∙ ap (word_at s) (omega (arith, mul-zero c)) ∙ sym (block_column c s 0 j l)) (ap (λ n. get_or ks n 0) (omega arith) ∙ key_column c ks 0 j l)

-- a column, from the pieces of the columns that its rows come from
pub column_of : (t x : List ℕ) (at : ℕ → ℕ) (p0 p1 p2 p3 p4 p5 p6 p7 r0 r1 r2 r3 r4 r5 r6 r7 : ℕ) → p0 ≡ get_or x r0 0 / 1 % 65536
    → p1 ≡ get_or x r1 0 / 1 % 65536
    → p2 ≡ get_or x r2 0 / 65536 % 65536
    → p3 ≡ get_or x r3 0 / 65536 % 65536
    → p4 ≡ get_or x r4 0 / 4294967296 % 65536
    → p5 ≡ get_or x r5 0 / 4294967296 % 65536
    → p6 ≡ get_or x r6 0 / 281474976710656 % 65536
    → p7 ≡ get_or x r7 0 / 281474976710656 % 65536
    → r0 ≡ at 0 → r1 ≡ at 1 → r2 ≡ at 2 → r3 ≡ at 3 → r4 ≡ at 4 → r5 ≡ at 5 → r6 ≡ at 6 → r7 ≡ at 7
    → gather t (λ i. get_or (p0 % 256 ∷ p1 / 256 ∷ p2 % 256 ∷ p3 / 256 ∷ p4 % 256 ∷ p5 / 256 ∷ p6 % 256 ∷ p7 / 256 ∷ []) i 0) ≡ gather t (λ i. byte_of (get_or x (at i) 0) i)
column_of t x at p0 p1 p2 p3 p4 p5 p6 p7 r0 r1 r2 r3 r4 r5 r6 r7 e0 e1 e2 e3 e4 e5 e6 e7 h0 h1 h2 h3 h4 h5 h6 h7 =
    gather_ext t _ (λ i. byte_of (get_or x (at i) 0) i)
    (eight _ (ap (λ p. p % 256) e0 ∙ low_0 (get_or x r0 0) ∙ ap (λ r. byte_of (get_or x r 0) 0) h0)
    (ap (λ p. p / 256) e1 ∙ high_0 (get_or x r1 0) ∙ ap (λ r. byte_of (get_or x r 0) 1) h1)
    (ap (λ p. p % 256) e2 ∙ low_1 (get_or x r2 0) ∙ ap (λ r. byte_of (get_or x r 0) 2) h2)
    (ap (λ p. p / 256) e3 ∙ high_1 (get_or x r3 0) ∙ ap (λ r. byte_of (get_or x r 0) 3) h3)
    (ap (λ p. p % 256) e4 ∙ low_2 (get_or x r4 0) ∙ ap (λ r. byte_of (get_or x r 0) 4) h4)
    (ap (λ p. p / 256) e5 ∙ high_2 (get_or x r5 0) ∙ ap (λ r. byte_of (get_or x r 0) 5) h5)
    (ap (λ p. p % 256) e6 ∙ low_3 (get_or x r6 0) ∙ ap (λ r. byte_of (get_or x r 0) 6) h6)
    (ap (λ p. p / 256) e7 ∙ high_3 (get_or x r7 0) ∙ ap (λ r. byte_of (get_or x r 0) 7) h7))
