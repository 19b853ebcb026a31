-- Records folded one after another, from a place of the payload on.
use mathlib.Core.Path.{◌≡◌, refl, ap, ◌∙◌}
use mathlib.Core.Bool.{Bool}
use mathlib.Core.List.{List, [], ◌∷◌, ◌++◌}
use Prim.Native.Nat.{ℕ, suc, ◌+◌, ◌*◌, ◌≤◌}
use native.Mathlib.Omega.{arith}
use lib.ListN.{length, drop, length-append, length-drop}
use Rattle.tree.specs.Tree.{Tree}
use Rattle.tree.specs.Bounds.{Bytes}
use Rattle.tree.specs.Names.{Binding}
use Rattle.tree.specs.Values.{BindingValued}
use Rattle.tree.proofs.Bytes.{bytes_drop}
use Rattle.meaning.specs.Mean.{Calls}
use Rattle.meaning.specs.Fold.{fold}
use Rattle.meaning.specs.Values.{CallsValued}
use Rattle.records.specs.Encode.{encode}
use Rattle.records.specs.Decode.{Item, decode}
use Rattle.records.specs.Decode.Item.{item}
use Rattle.records.proofs.Sizes.{decode_counted}
use Rattle.folding.specs.TopDown.{folded_all}
use Rattle.folding.specs.Parts.{Parts}
use Rattle.folding.specs.Folded.{folded_of, then_folded, folded_from}
use Rattle.folding.proofs.Sizes.{decoded_most}

module _ (C : Calls) (K : Binding) where
  -- the one record
  pub folded_is : (i : Item) (t : Tree) (n : ℕ) → i ≡ item t n → folded_of C K i ≡ encode (fold C K t)
  unfolding folded_of
  folded_is i t n e = ap (folded_of C K) e

  pub from_none : (sub : List ℕ → Item) (p : List ℕ) (u : ℕ) → folded_from C K sub p 0 u ≡ []
  unfolding folded_from
  from_none sub p u = refl

  -- one more
  pub from_more : (sub : List ℕ → Item) (p : List ℕ) (n u : ℕ) (t : Tree) (v : ℕ) → sub (drop u p) ≡ item t v
      → folded_from C K sub p (suc n) u ≡ encode (fold C K t) ++ folded_from C K sub p n (u + v)
  unfolding folded_from then_folded
  from_more sub p n u t v e = ap (λ i. then_folded C K i (λ v. folded_from C K sub p n (u + v))) e

  -- all of a payload's trees
  pub from_parts : (sub : List ℕ → Item) (p : List ℕ) (u : ℕ) (ts : List Tree) → Parts sub p u ts → folded_from C K sub p (length ts) u ≡ folded_all C K ts
  unfolding Parts folded_all
  from_parts sub p u [] h = from_none sub p u
  from_parts sub p u (t ∷ ts) (v, e, h) = from_more sub p (length ts) u t v e ∙ ap (λ l. encode (fold C K t) ++ l) (from_parts sub p (u + v) ts h)

  -- 257 bytes for each byte of the payload
  module _ (hC : CallsValued C) (hK : BindingValued K) (inner : Bool) (d : ℕ) (p : List ℕ) (hp : Bytes p) where
    pub parts_most : (u : ℕ) (ts : List Tree) → Parts (decode inner d) p u ts → length (folded_all C K ts) + 257 * u ≤ 257 * length p
    unfolding Parts folded_all
    parts_most u [] h = omega arith
    parts_most u (t ∷ ts) (v, e, h) =
        let l = length-append (encode (fold C K t)) (folded_all C K ts) in
        let m = decoded_most C K hC hK inner d (drop u p) t v (bytes_drop u p hp) e in
        let r = parts_most (u + v) ts h in
        omega arith

  -- where the next record stands
  pub part_within : (inner : Bool) (d : ℕ) (p : List ℕ) (u : ℕ) (t : Tree) (v : ℕ) → Bytes p → u ≤ length p → decode inner d (drop u p) ≡ item t v → u + v ≤ length p
  part_within inner d p u t v hp h e =
      let S = decode_counted inner d (drop u p) t v (bytes_drop u p hp) e in
      let m = S.most in
      let l = length-drop u p in
      omega arith
