-- How long encodings are, and that no two trees have the same one.
use mathlib.Core.Path.{◌≡◌, ap, sym, ◌∙◌}
use mathlib.Core.Bool.{Bool, true}
use mathlib.Core.List.{List, [], ◌∷◌, ◌++◌}
use Prim.Native.Nat.{ℕ, ◌+◌, ◌*◌, ◌≤◌, max}
use native.Mathlib.Omega.{arith}
use lib.ListN.{length, drop, length-append}
use Rattle.common.proofs.Choices.{true_false}
use Rattle.tree.specs.Tree.{Tree}
use Rattle.tree.specs.Tree.Tree.{literal, bound, row, run, one, two, three, four, when}
use Rattle.tree.specs.Bounds.{depth, nodes, when_kind, Bytes, Proper, Small}
use Rattle.records.specs.Encode.{constant_kind, row_kind, run_kind, bound_kind, encode}
use Rattle.records.specs.Decode.{decode}
use Rattle.records.specs.Decode.Item.{item}
use Rattle.records.proofs.There.{length_record, decode_encode}
use Rattle.records.proofs.Back.{decode_back}

-- each node takes a head of four bytes at least
pub nodes_size : (t : Tree) → 4 * nodes t ≤ length (encode t)
unfolding nodes encode
nodes_size (literal v) = let l = length_record constant_kind v in omega arith
nodes_size (bound n) = let l = length_record bound_kind (n ∷ []) in omega arith
nodes_size (row n) = let l = length_record row_kind (n ∷ []) in omega arith
nodes_size (run n) = let l = length_record run_kind (n ∷ []) in omega arith
nodes_size (one k a) =
    let l = length_record k (encode a) in
    let x = nodes_size a in
    omega arith
nodes_size (two k a b) =
    let l = length_record k (encode a ++ encode b) in
    let m = length-append (encode a) (encode b) in
    let x = nodes_size a in
    let y = nodes_size b in
    omega arith
nodes_size (three k a b c) =
    let l = length_record k (encode a ++ (encode b ++ encode c)) in
    let m = length-append (encode a) (encode b ++ encode c) in
    let n = length-append (encode b) (encode c) in
    let x = nodes_size a in
    let y = nodes_size b in
    let z = nodes_size c in
    omega arith
nodes_size (four k a b c d) =
    let l = length_record k (encode a ++ (encode b ++ (encode c ++ encode d))) in
    let m = length-append (encode a) (encode b ++ (encode c ++ encode d)) in
    let n = length-append (encode b) (encode c ++ encode d) in
    let o = length-append (encode c) (encode d) in
    let x = nodes_size a in
    let y = nodes_size b in
    let z = nodes_size c in
    let w = nodes_size d in
    omega arith
nodes_size (when c a b) =
    let l = length_record when_kind (encode c ++ (encode a ++ encode b)) in
    let m = length-append (encode c) (encode a ++ encode b) in
    let n = length-append (encode a) (encode b) in
    let x = nodes_size c in
    let y = nodes_size a in
    let z = nodes_size b in
    omega arith

-- the bounds of what a check of the image counts
pub record Counted (s : List ℕ) (t : Tree) (u : ℕ) : Type 0 where
  pub many : 4 * nodes t ≤ u
  pub most : u ≤ length s

pub decode_counted : (inner : Bool) (d : ℕ) (s : List ℕ) (t : Tree) (u : ℕ) → Bytes s → decode inner d s ≡ item t u → Counted s t u
decode_counted inner d s t u hs e =
    let S = decode_back inner d s t u hs e in
    let a = S.used in
    let b = nodes_size t in
    let c : length s ≡ length (encode t) + length (drop u s) = ap length S.same ∙ length-append (encode t) (drop u s) in
    record { many = omega arith; most = omega arith }

pub same_item : {t r : Tree} {m n : ℕ} → item t m ≡ item r n → t ≡ r
same_item e = cc

-- no two trees have the same encoding
pub encode_injective : (t r : Tree) → Proper t → Small t → Proper r → Small r → encode t ≡ encode r → t ≡ r
encode_injective t r pt st pr sr e =
    let d : ℕ = max (depth t) (depth r) in
    let a : decode true d (encode t ++ []) ≡ item t (length (encode t)) = decode_encode true t d [] pt st (λ q. absurd (true_false q)) (omega arith) in
    let b : decode true d (encode r ++ []) ≡ item r (length (encode r)) = decode_encode true r d [] pr sr (λ q. absurd (true_false q)) (omega arith) in
    same_item (sym a ∙ ap (λ l. decode true d (l ++ [])) e ∙ b)

-- an encoding is a head and its arguments' encodings
pub length_one : (k : ℕ) (a : Tree) → length (encode (one k a)) ≡ 4 + length (encode a)
unfolding encode
length_one k a = length_record k (encode a)

pub length_two : (k : ℕ) (a b : Tree) → length (encode (two k a b)) ≡ 4 + length (encode a) + length (encode b)
unfolding encode
length_two k a b = omega (arith, length_record k (encode a ++ encode b), length-append (encode a) (encode b))

pub length_three : (k : ℕ) (a b c : Tree) → length (encode (three k a b c)) ≡ 4 + length (encode a) + length (encode b) + length (encode c)
unfolding encode
length_three k a b c =
    omega (arith, length_record k (encode a ++ (encode b ++ encode c)), length-append (encode a) (encode b ++ encode c), length-append (encode b) (encode c))

pub length_four : (k : ℕ) (a b c d : Tree) → length (encode (four k a b c d)) ≡ 4 + length (encode a) + length (encode b) + length (encode c) + length (encode d)
unfolding encode
length_four k a b c d =
    let l = length_record k (encode a ++ (encode b ++ (encode c ++ encode d))) in
    let m = length-append (encode a) (encode b ++ (encode c ++ encode d)) in
    let n = length-append (encode b) (encode c ++ encode d) in
    let o = length-append (encode c) (encode d) in
    omega arith

pub length_when : (c a b : Tree) → length (encode (when c a b)) ≡ 4 + length (encode c) + length (encode a) + length (encode b)
unfolding encode
length_when c a b =
    omega (arith, length_record when_kind (encode c ++ (encode a ++ encode b)), length-append (encode c) (encode a ++ encode b), length-append (encode a) (encode b))
