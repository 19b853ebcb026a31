-- A record without a value: a leaf, a `when`, or another call that stays.
use mathlib.Core.Path.{◌≡◌, refl, ap, sym, ◌∙◌, subst}
use mathlib.Core.Bool.{true}
use mathlib.Core.List.{List, [], ◌∷◌}
use Prim.Native.Nat.{ℕ, zero, suc, ◌+◌, ◌-◌, ◌≤◌, ◌<◌, max}
use native.Mathlib.Omega.{arith}
use lib.ListN.{length, take, drop}
use Rattle.tree.specs.Tree.{Tree}
use Rattle.tree.specs.Tree.Tree.{literal, bound, row, run, one, two, three, four, when}
use Rattle.tree.specs.Bounds.{arguments_of, when_kind, Bytes, Proper}
use Rattle.tree.specs.Names.{Binding, idle}
use Rattle.tree.proofs.Table.{call_kind, when_arguments}
use Rattle.tree.proofs.Bytes.{bytes_take, bytes_drop}
use Rattle.meaning.specs.Mean.{mean}
use Rattle.meaning.specs.Folded.{NoValue}
use Rattle.records.specs.Record.{record_of}
use Rattle.records.specs.Encode.{encode}
use Rattle.records.specs.Decode.{decode}
use Rattle.records.specs.Decode.Item.{item}
use Rattle.kinds.specs.Tables.{tables_for, tables_of}
use Rattle.heads.specs.Head.{head_at, headed}
use Rattle.heads.proofs.Heads.{Stands, head_stands}
use Rattle.folding.specs.TopDown.{arguments, kind_of, folded_all}
use Rattle.folding.specs.Parts.{Parts}
use Rattle.folding.proofs.TopDown.{leaf_stays, Open, call_bytes}
use Rattle.folding.proofs.Parts.{Held, decoded_held}
use Rattle.ways.specs.Ways.{the_calls, tables_all, ALeaf, ACall}
use Rattle.ways.proofs.Evaluated.{first_is, first_within, parts_more}

-- no arguments
none_of : (ts : List Tree) → length ts ≡ 0 → ts ≡ []
none_of [] e = refl
none_of (t ∷ ts) e = absurd (omega arith)

some_of : (ts : List Tree) → (length ts ≡ 0 → ⊥) → ts ≡ [] → ⊥
some_of ts z e = z (ap length e)

pub arguments_most : (t : Tree) → length (arguments t) ≤ 4
unfolding arguments
arguments_most (literal v) = omega arith
arguments_most (bound n) = omega arith
arguments_most (row n) = omega arith
arguments_most (run n) = omega arith
arguments_most (one k a) = omega arith
arguments_most (two k a b) = omega arith
arguments_most (three k a b c) = omega arith
arguments_most (four k a b c d) = omega arith
arguments_most (when c a b) = omega arith

below : (k x y : ℕ) → x ≡ y → x ≤ max k y
below k x y e = omega arith

four_max : (k a b c d : ℕ) → max a (max b (max c (max d 0))) ≤ max k (max a (max b (max c d)))
four_max k a b c d = below k _ _ (ap (λ x. max a (max b (max c x))) (last d))
  where
    last : (d : ℕ) → max d 0 ≡ d
    last d = omega arith

-- tables for a call serve its arguments
pub arguments_tables : (t : Tree) → tables_all (arguments t) ≤ tables_of t
unfolding arguments tables_all tables_of
arguments_tables (literal v) = omega arith
arguments_tables (bound n) = omega arith
arguments_tables (row n) = omega arith
arguments_tables (run n) = omega arith
arguments_tables (one k a) = omega arith
arguments_tables (two k a b) = omega arith
arguments_tables (three k a b c) = omega arith
arguments_tables (four k a b c d) = four_max (tables_for k) (tables_of a) (tables_of b) (tables_of c) (tables_of d)
arguments_tables (when c a b) = omega arith

-- a `when` is known by its kind
pub record IsWhen (t : Tree) : Type 0 where
  pub condition : Tree
  pub yes : Tree
  pub no : Tree
  pub is : t ≡ when condition yes no

differ : (k n : ℕ) → arguments_of k ≡ n → k ≡ when_kind → (n ≡ 3 → ⊥) → ⊥
differ k n h e z = z (sym h ∙ ap arguments_of e ∙ when_arguments)

pub when_is : (t : Tree) → Proper t → kind_of t ≡ when_kind → IsWhen t
unfolding Proper kind_of
when_is (literal v) p e = absurd (omega arith)
when_is (bound n) p e = absurd (omega arith)
when_is (row n) p e = absurd (omega arith)
when_is (run n) p e = absurd (omega arith)
when_is (one k a) p e = absurd (differ k 1 p.0 e (omega arith))
when_is (two k a b) p e = absurd (differ k 2 p.0 e (omega arith))
when_is (three k a b c) p e = absurd (p.1 e)
when_is (four k a b c d) p e = absurd (differ k 4 p.0 e (omega arith))
when_is (when c a b) p e = record { condition = c; yes = a; no = b; is = refl }

-- any other call waits on no condition
pub others_open : (K : Binding) (t : Tree) → (kind_of t ≡ when_kind → ⊥) → Open the_calls K t
unfolding Open kind_of
others_open K (literal v) z = tt
others_open K (bound n) z = tt
others_open K (row n) z = tt
others_open K (run n) z = tt
others_open K (one k a) z = tt
others_open K (two k a b) z = tt
others_open K (three k a b c) z = tt
others_open K (four k a b c d) z = tt
others_open K (when c a b) z = absurd (z refl)

-- a record of kind k with n bytes of payload that was decoded
module _ (K : Binding) (s : List ℕ) (t : Tree) (used k n : ℕ) (hs : Bytes s) (is : decode true 16 s ≡ item t used) (eh : head_at s 0 ≡ headed k n) where
  S : Stands s 0 k n
  S = head_stands s 0 k n eh

  H : Held (decode true 15) k S.held t used
  H = decoded_held true 16 s k S.held t used S.is is

  pub kind_is : kind_of t ≡ k
  kind_is = H.kind

  ends : used ≡ 4 + n
  ends = let e = H.takes in let l = S.size in omega arith

  held_is : S.held ≡ take (4 + n - 4) (drop 4 s)
  held_is = S.stretch ∙ ap (λ m. take m (drop 4 s)) (same n)
    where
      same : (n : ℕ) → n ≡ 4 + n - 4
      same n = omega arith

  -- a leaf
  pub as_leaf : (c : ℕ) → c ≡ arguments_of k → c ≡ 0 → NoValue (mean the_calls K idle t) → ALeaf K s t (4 + n)
  as_leaf c ec z v =
      let a : arguments t ≡ [] = none_of (arguments t) (H.count ∙ sym ec ∙ z) in
      record {
        bytes = ap encode (leaf_stays the_calls K t a v) ∙ sym (first_is s t used hs is) ∙ ap (λ m. take m s) ends;
        end = let w = first_within s t used hs is in let e = ends in omega arith;
      }

  -- a call that stays
  pub as_call : (c : ℕ) → c ≡ arguments_of k → (c ≡ 0 → ⊥) → NoValue (mean the_calls K idle t) → Open the_calls K t → ACall K s t k c (4 + n)
  as_call c ec z v o =
      let some : arguments t ≡ [] → ⊥ = some_of (arguments t) (λ q. z (ec ∙ sym H.count ∙ q)) in
      record {
        trees = arguments t;
        bytes = call_bytes the_calls K t some v o ∙ ap (λ k. record_of k (folded_all the_calls K (arguments t))) H.kind;
        parts =
            subst (λ p. Parts (decode true 16) p 0 (arguments t)) held_is
            (parts_more 15 S.held 0 (arguments t) (subst Bytes (sym held_is) (bytes_take (4 + n - 4) (drop 4 s) (bytes_drop 4 s hs))) (omega arith) (H.parts some));
        count = H.count ∙ sym ec;
        few = let a = arguments_most t in let b = H.count in omega arith;
        kind = kind_small c ec z;
        start = omega arith;
        end = let w = first_within s t used hs is in let e = ends in omega arith;
        tables = arguments_tables t;
      }
    where
      kind_small : (c : ℕ) → c ≡ arguments_of k → (c ≡ 0 → ⊥) → k < 65536
      kind_small zero e z = absurd (z refl)
      kind_small (suc c) e z = let h = (call_kind k c (sym e)).1 in omega arith
