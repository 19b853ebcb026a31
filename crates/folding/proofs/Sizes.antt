-- How long a folded tree's record can be: counts of its bytes are far below what a machine word holds.
use mathlib.Core.Path.{◌≡◌}
use mathlib.Core.Bool.{Bool}
use mathlib.Core.List.{List, [], ◌∷◌}
use Prim.Native.Nat.{ℕ, ◌+◌, ◌*◌, ◌≤◌}
use native.Mathlib.Omega.{arith}
use lib.ListN.{length}
use Rattle.tree.specs.Tree.{Tree}
use Rattle.tree.specs.Tree.Tree.{literal, bound, row, run, one, two, three, four, when}
use Rattle.tree.specs.Bounds.{nodes, Bytes, Proper, Small, Within}
use Rattle.tree.specs.Names.{Binding}
use Rattle.tree.specs.Values.{BindingValued}
use Rattle.meaning.specs.Mean.{Calls}
use Rattle.meaning.specs.Fold.{fold}
use Rattle.meaning.specs.Values.{CallsValued}
use Rattle.meaning.proofs.Within.{Fit, fold_fit, fold_nodes}
use Rattle.records.specs.Encode.{constant_kind, row_kind, run_kind, bound_kind, encode}
use Rattle.records.specs.Decode.{decode}
use Rattle.records.specs.Decode.Item.{item}
use Rattle.records.proofs.There.{length_record}
use Rattle.records.proofs.Back.{decode_back}
use Rattle.records.proofs.Sizes.{length_one, length_two, length_three, length_four, length_when, nodes_size}
use Rattle.kinds.proofs.Quick.{arguments_few}
use Rattle.folding.specs.Parts.{leaves}

-- 4 bytes for each node, 1,024 more for each leaf
pub leaves_size : (t : Tree) → Small t → length (encode t) ≤ 4 * nodes t + 1024 * leaves t
unfolding nodes leaves Small
leaves_size (literal v) s = unfold encode in let l = length_record constant_kind v in omega arith
leaves_size (bound n) s = unfold encode in let l = length_record bound_kind (n ∷ []) in omega arith
leaves_size (row n) s = unfold encode in let l = length_record row_kind (n ∷ []) in omega arith
leaves_size (run n) s = unfold encode in let l = length_record run_kind (n ∷ []) in omega arith
leaves_size (one k a) s = let l = length_one k a in let x = leaves_size a s in omega arith
leaves_size (two k a b) s = let l = length_two k a b in let x = leaves_size a s.0 in let y = leaves_size b s.1 in omega arith
leaves_size (three k a b c) s =
    let l = length_three k a b c in
    let x = leaves_size a s.0 in
    let y = leaves_size b s.1 in
    let z = leaves_size c s.2 in
    omega arith
leaves_size (four k a b c d) s =
    let l = length_four k a b c d in
    let x = leaves_size a s.0 in
    let y = leaves_size b s.1 in
    let z = leaves_size c s.2 in
    let w = leaves_size d s.3 in
    omega arith
leaves_size (when c a b) s =
    let l = length_when c a b in
    let x = leaves_size c s.0 in
    let y = leaves_size a s.1 in
    let z = leaves_size b s.2 in
    omega arith

-- calls of up to four arguments
pub leaves_few : (t : Tree) → 4 * leaves t ≤ 3 * nodes t + 1
unfolding nodes leaves
leaves_few (literal v) = omega arith
leaves_few (bound n) = omega arith
leaves_few (row n) = omega arith
leaves_few (run n) = omega arith
leaves_few (one k a) = let x = leaves_few a in omega arith
leaves_few (two k a b) = let x = leaves_few a in let y = leaves_few b in omega arith
leaves_few (three k a b c) = let x = leaves_few a in let y = leaves_few b in let z = leaves_few c in omega arith
leaves_few (four k a b c d) = let x = leaves_few a in let y = leaves_few b in let z = leaves_few c in let w = leaves_few d in omega arith
leaves_few (when c a b) = let x = leaves_few c in let y = leaves_few a in let z = leaves_few b in omega arith

-- the table's calls have three arguments at most
pub leaves_fewer : (t : Tree) → Proper t → 3 * leaves t ≤ 2 * nodes t + 1
unfolding nodes leaves Proper
leaves_fewer (literal v) p = omega arith
leaves_fewer (bound n) p = omega arith
leaves_fewer (row n) p = omega arith
leaves_fewer (run n) p = omega arith
leaves_fewer (one k a) p = let x = leaves_fewer a p.1 in omega arith
leaves_fewer (two k a b) p = let x = leaves_fewer a p.1 in let y = leaves_fewer b p.2 in omega arith
leaves_fewer (three k a b c) p = let x = leaves_fewer a p.2 in let y = leaves_fewer b p.3 in let z = leaves_fewer c p.4 in omega arith
leaves_fewer (four k a b c d) p = let f = arguments_few k in let e = p.0 in absurd (omega arith)
leaves_fewer (when c a b) p = let x = leaves_fewer c p.0 in let y = leaves_fewer a p.1 in let z = leaves_fewer b p.2 in omega arith

module _ (C : Calls) (K : Binding) (hC : CallsValued C) (hK : BindingValued K) where
  -- the longest that a text of 128 nodes can fold to, whatever calls of up to four arguments there are
  pub fold_longest : (t : Tree) → Within t → length (encode (fold C K t)) ≤ 98816
  fold_longest t w =
      let f : Fit (fold C K t) = fold_fit C K hC hK t w.proper w.small in
      let a = leaves_size (fold C K t) f.small in
      let b = leaves_few (fold C K t) in
      let c = fold_nodes C K t in
      let d = w.few in
      omega arith

  -- and with the calls of the table, over 65,535 as it is
  pub fold_long : (t : Tree) → Within t → length (encode (fold C K t)) ≤ 87552
  fold_long t w =
      let f : Fit (fold C K t) = fold_fit C K hC hK t w.proper w.small in
      let a = leaves_size (fold C K t) f.small in
      let b = leaves_fewer (fold C K t) f.proper in
      let c = fold_nodes C K t in
      let d = w.few in
      omega arith

  -- 257 bytes for each byte of the record that is folded
  pub fold_most : (t : Tree) → Proper t → Small t → length (encode (fold C K t)) ≤ 257 * length (encode t)
  fold_most t p s =
      let f : Fit (fold C K t) = fold_fit C K hC hK t p s in
      let a = leaves_size (fold C K t) f.small in
      let b = leaves_few (fold C K t) in
      let c = fold_nodes C K t in
      let d = nodes_size t in
      omega arith

  pub decoded_most : (inner : Bool) (d : ℕ) (s : List ℕ) (t : Tree) (u : ℕ) → Bytes s → decode inner d s ≡ item t u → length (encode (fold C K t)) ≤ 257 * u
  decoded_most inner d s t u hs e =
      let S = decode_back inner d s t u hs e in
      let m = fold_most t S.fine.proper S.fine.small in
      let l = S.used in
      omega arith
