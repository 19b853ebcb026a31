-- Bytes written into a buffer, one piece after or before another.
use mathlib.Core.List.{List, [], ◌∷◌, ◌++◌, append_assoc}
use mathlib.Core.Path.{◌≡◌, refl, ap, sym, ◌∙◌}
use Prim.Native.Nat.{ℕ, ◌+◌, ◌/◌, ◌%◌, ◌≤◌}
use native.Mathlib.Nat.{add-zero}
use native.Mathlib.Omega.{arith}
use native.Mathlib.Numerals.{add-one, add-two, add-three}
use lib.ListN.{length, take, drop, set, length-drop, length-append, take-append-drop}
use lib.Seq.{length-take-le, take_at, drop_at, drop-append-add, drop-drop, take-append-le, take-take, sets, sets-eq}
use Rattle.common.specs.Places.{tab}
use Rattle.common.proofs.Places.{length_tab}
use Rattle.common.proofs.Runs.{Run, run_whole}
use Rattle.records.specs.Record.{record_of}
use Rattle.record_out.specs.Put.{put}

pub length_put : (l : List ℕ) (o : ℕ) (v : List ℕ) → o + length v ≤ length l → length (put l o v) ≡ length l
unfolding put
length_put l o v h =
    let h2 : o ≤ length l = omega arith in
    simp (length-append, length-take-le o l h2, length-drop) (omega arith)

put_at : (p q : List ℕ) (n : ℕ) (b : List ℕ) → length p ≡ n → put (p ++ q) n b ≡ p ++ (b ++ drop (length b) q)
unfolding put
put_at p q n b e = rw (take_at p q n e, ← e, drop-append-add)

pub put_after : (l : List ℕ) (o : ℕ) (a b : List ℕ) (n : ℕ) → o + length a ≤ length l → n ≡ o + length a → put (put l o a) n b ≡ put l o (a ++ b)
unfolding put
put_after l o a b n h e =
    let h2 : o ≤ length l = omega arith in
    let len : length (take o l ++ a) ≡ n = simp (length-append, length-take-le o l h2) (sym e) in
    let k : n + length b ≡ o + length (a ++ b) = simp length-append (omega arith) in
    ap (λ (x : List ℕ). put x n b) (sym (append_assoc (take o l) a (drop (o + length a) l)))
    ∙ put_at (take o l ++ a) (drop (o + length a) l) n b len
    ∙ simp (append_assoc, drop-drop, ← e, k)

pub put_before : (l : List ℕ) (o : ℕ) (h b : List ℕ) (n : ℕ) → n + length b ≤ length l → n ≡ o + length h → put (put l n b) o h ≡ put l o (h ++ b)
unfolding put
put_before l o h b n w e =
    let n2 : n ≤ length l = omega arith in
    let on : o ≤ n = omega arith in
    let len : length (take n l) ≡ n = length-take-le n l n2 in
    let ol : o ≤ length (take n l) = omega arith in
    let k : n + length b ≡ o + length (h ++ b) = simp length-append (omega arith) in
    rw (take-append-le o (take n l) (b ++ drop (n + length b) l) ol, take-take o n l on, ← e, drop_at (take n l) (b ++ drop (n + length b) l) n len, append_assoc, k)

-- nothing written
pub put_none : (l : List ℕ) (o : ℕ) → l ≡ put l o []
unfolding put
put_none l o = sym (take-append-drop o l) ∙ ap (λ (i : ℕ). take o l ++ drop i l) (sym (add-zero o))

-- stores one after another
put_sets : (l : List ℕ) (o : ℕ) (v : List ℕ) → o + length v ≤ length l → sets l o v ≡ put l o v
unfolding put
put_sets l o v h = sets-eq v l o h ∙ append_assoc (take o l) v (drop (o + length v) l)

pub four_stores : (l : List ℕ) (o a b c d : ℕ) → o + 4 ≤ length l → set (set (set (set l o a) (o + 1) b) (o + 2) c) (o + 3) d ≡ put l o (a ∷ b ∷ c ∷ d ∷ [])
four_stores l o a b c d h = rw (add-one, add-two, add-three) (put_sets l o (a ∷ b ∷ c ∷ d ∷ []) h)

-- a record's first four bytes
abbrev pub front : ℕ → ℕ → List ℕ
front n k = n % 256 ∷ n / 256 ∷ k % 256 ∷ k / 256 ∷ []

-- a payload, and the head before it
pub head_before : (l m w : List ℕ) (o k n : ℕ) (v : List ℕ) → o + 4 + length v ≤ length l → m ≡ put l (o + 4) v → n ≡ length v → w ≡ put m o (front n k) → w ≡ put l o (record_of k v)
unfolding record_of
head_before l m w o k n v h em en ew =
    ew ∙ ap (λ (x : List ℕ). put x o (front n k)) em ∙ ap (λ (i : ℕ). put (put l (o + 4) v) o (front i k)) en ∙ put_before l o (front (length v) k) v (o + 4) h refl

-- a payload of one byte, after the head
pub leaf_stores : (l m : List ℕ) (o k b : ℕ) → o + 5 ≤ length l → m ≡ put l o (front 1 k) → set m (o + 4) b ≡ put l o (record_of k (b ∷ []))
unfolding record_of
leaf_stores l m o k b h e =
    let four : o + 4 ≤ length l = omega arith in
    let len : length m ≡ length l = ap length e ∙ length_put l o (front 1 k) four in
    let one : set m (o + 4) b ≡ put m (o + 4) (b ∷ []) = put_sets m (o + 4) (b ∷ []) (omega arith) in
    one ∙ rw e (put_after l o (front 1 k) (b ∷ []) (o + 4) four refl)

-- a run of stores
pub put_run : (f : ℕ → ℕ) (at : ℕ) (o₀ : List ℕ) (i : ℕ) (o : List ℕ) → Run f at o₀ i o → o ≡ put o₀ at (tab i f)
unfolding put
put_run f at o₀ i o r = run_whole f at o₀ i o r ∙ ap (λ (n : ℕ). take at o₀ ++ (tab i f ++ drop (at + n) o₀)) (sym (length_tab i f))
