-- An encoding is made of bytes.
use mathlib.Core.Path.{◌≡◌}
use mathlib.Core.List.{List, [], ◌∷◌, ◌++◌}
use Prim.Native.Nat.{ℕ, zero, suc, ◌/◌, ◌%◌, ◌≤◌, ◌<◌}
use native.Mathlib.Omega.{arith}
use lib.ListN.{length, length-append}
use Rattle.tree.specs.Tree.{Tree}
use Rattle.tree.specs.Tree.Tree.{literal, bound, row, run, one, two, three, four, when}
use Rattle.tree.specs.Bounds.{arguments_of, when_kind, Bytes, Proper}
use Rattle.tree.proofs.Bytes.{bytes_append}
use Rattle.tree.proofs.Table.{call_kind}
use Rattle.records.specs.Record.{record_of}
use Rattle.records.specs.Encode.{constant_kind, row_kind, run_kind, bound_kind, encode}
use Rattle.records.proofs.There.{length_record}

bytes_cons : (x : ℕ) (s : List ℕ) → x < 256 → Bytes s → Bytes (x ∷ s)
bytes_cons x s h g zero = h
bytes_cons x s h g (suc i) = g i

pub record_bytes : (k : ℕ) (p : List ℕ) → k < 65536 → length p < 65536 → Bytes p → Bytes (record_of k p)
unfolding record_of
record_bytes k p hk hp h =
    bytes_cons (length p % 256) (length p / 256 ∷ k % 256 ∷ k / 256 ∷ p) (omega arith)
    (bytes_cons (length p / 256) (k % 256 ∷ k / 256 ∷ p) (omega arith) (bytes_cons (k % 256) (k / 256 ∷ p) (omega arith) (bytes_cons (k / 256) p (omega arith) h)))

digit_bytes : (k n : ℕ) → k < 65536 → n < 256 → Bytes (record_of k (n ∷ []))
digit_bytes k n hk h = record_bytes k (n ∷ []) hk (omega arith) (bytes_cons n [] h (λ i. omega arith))

call_small : (k n : ℕ) → arguments_of k ≡ suc n → k < 65536
call_small k n e = let h = (call_kind k n e).1 in omega arith

pub encode_bytes : (t : Tree) → Proper t → length (encode t) ≤ 65535 → Bytes (encode t)
unfolding encode Proper
encode_bytes (literal v) p h = let l = length_record constant_kind v in record_bytes constant_kind v (omega arith) (omega arith) p
encode_bytes (bound n) p h = digit_bytes bound_kind n (omega arith) (omega arith)
encode_bytes (row n) p h = digit_bytes row_kind n (omega arith) (omega arith)
encode_bytes (run n) p h = digit_bytes run_kind n (omega arith) (omega arith)
encode_bytes (one k a) p h =
    let l = length_record k (encode a) in
    record_bytes k (encode a) (call_small k 0 p.0) (omega arith) (encode_bytes a p.1 (omega arith))
encode_bytes (two k a b) p h =
    let l = length_record k (encode a ++ encode b) in
    let m = length-append (encode a) (encode b) in
    record_bytes k (encode a ++ encode b) (call_small k 1 p.0) (omega arith)
    (bytes_append (encode a) (encode b) (encode_bytes a p.1 (omega arith)) (encode_bytes b p.2 (omega arith)))
encode_bytes (three k a b c) p h =
    let l = length_record k (encode a ++ (encode b ++ encode c)) in
    let m = length-append (encode a) (encode b ++ encode c) in
    let n = length-append (encode b) (encode c) in
    record_bytes k (encode a ++ (encode b ++ encode c)) (call_small k 2 p.0) (omega arith)
    (bytes_append (encode a) (encode b ++ encode c) (encode_bytes a p.2 (omega arith))
    (bytes_append (encode b) (encode c) (encode_bytes b p.3 (omega arith)) (encode_bytes c p.4 (omega arith))))
encode_bytes (four k a b c d) p h =
    let l = length_record k (encode a ++ (encode b ++ (encode c ++ encode d))) in
    let m = length-append (encode a) (encode b ++ (encode c ++ encode d)) in
    let n = length-append (encode b) (encode c ++ encode d) in
    let o = length-append (encode c) (encode d) in
    record_bytes k (encode a ++ (encode b ++ (encode c ++ encode d))) (call_small k 3 p.0) (omega arith)
    (bytes_append (encode a) (encode b ++ (encode c ++ encode d)) (encode_bytes a p.1 (omega arith))
    (bytes_append (encode b) (encode c ++ encode d) (encode_bytes b p.2 (omega arith))
    (bytes_append (encode c) (encode d) (encode_bytes c p.3 (omega arith)) (encode_bytes d p.4 (omega arith)))))
encode_bytes (when c a b) p h =
    let l = length_record when_kind (encode c ++ (encode a ++ encode b)) in
    let m = length-append (encode c) (encode a ++ encode b) in
    let n = length-append (encode a) (encode b) in
    record_bytes when_kind (encode c ++ (encode a ++ encode b)) (omega arith) (omega arith)
    (bytes_append (encode c) (encode a ++ encode b) (encode_bytes c p.0 (omega arith))
    (bytes_append (encode a) (encode b) (encode_bytes a p.1 (omega arith)) (encode_bytes b p.2 (omega arith))))
