-- What a record that was decoded says of its payload: its arguments, where each stands, and how many bytes each takes.
use mathlib.Core.Path.{◌≡◌, ap, sym, ◌∙◌}
use mathlib.Core.Bool.{Bool}
use mathlib.Core.List.{List}
use Prim.Native.Nat.{ℕ, suc, ◌+◌}
use lib.ListN.{length, drop}
use Rattle.tree.specs.Tree.{Tree}
use Rattle.records.specs.Record.{front_of}
use Rattle.records.specs.Record.Front.{front}
use Rattle.records.specs.Decode.{shape_of, Item, then_item, then_front, filled, one_in, two_in, three_in, four_in, by_shape, decode}
use Rattle.records.specs.Decode.Item.{item}
use Rattle.records.proofs.Back.{then_item_lem, fills}

-- a tree is decoded from the payload of the record that stands first, by its shape
pub opened : (inner : Bool) (d : ℕ) (s : List ℕ) (k : ℕ) (p : List ℕ) (i : Item) → front_of s ≡ front k p → decode inner (suc d) s ≡ i → by_shape (decode inner d) (shape_of inner k) k p ≡ i
unfolding decode then_front
opened inner d s k p i ef e = sym (ap (λ m. then_front m (λ k p. by_shape (decode inner d) (shape_of inner k) k p)) ef) ∙ e

module _ (sub : List ℕ → Item) (p : List ℕ) (t : Tree) (n : ℕ) where
  pub record OnePart (call : Tree → Tree) : Type 0 where
    pub a : Tree
    pub u : ℕ
    pub at_a : sub p ≡ item a u
    pub fill : u ≡ length p
    pub tree : call a ≡ t
    pub takes : 4 + length p ≡ n

  pub record TwoParts (call : Tree → Tree → Tree) : Type 0 where
    pub a : Tree
    pub u : ℕ
    pub at_a : sub p ≡ item a u
    pub b : Tree
    pub v : ℕ
    pub at_b : sub (drop u p) ≡ item b v
    pub fill : u + v ≡ length p
    pub tree : call a b ≡ t
    pub takes : 4 + length p ≡ n

  pub record ThreeParts (call : Tree → Tree → Tree → Tree) : Type 0 where
    pub a : Tree
    pub u : ℕ
    pub at_a : sub p ≡ item a u
    pub b : Tree
    pub v : ℕ
    pub at_b : sub (drop u p) ≡ item b v
    pub c : Tree
    pub w : ℕ
    pub at_c_lem : sub (drop (u + v) p) ≡ item c w
    pub fill : u + v + w ≡ length p
    pub tree : call a b c ≡ t
    pub takes : 4 + length p ≡ n

  pub record FourParts (call : Tree → Tree → Tree → Tree → Tree) : Type 0 where
    pub a : Tree
    pub u : ℕ
    pub at_a : sub p ≡ item a u
    pub b : Tree
    pub v : ℕ
    pub at_b : sub (drop u p) ≡ item b v
    pub c : Tree
    pub w : ℕ
    pub at_c_lem : sub (drop (u + v) p) ≡ item c w
    pub e : Tree
    pub x : ℕ
    pub at_e : sub (drop (u + v + w) p) ≡ item e x
    pub fill : u + v + w + x ≡ length p
    pub tree : call a b c e ≡ t
    pub takes : 4 + length p ≡ n

  pub one_part : (call : Tree → Tree) → one_in sub call p ≡ item t n → OnePart call
  unfolding one_in
  one_part call e =
      let (a, u, ea, e1) = then_item_lem (sub p) (λ a u. filled u p (call a)) e in
      let (eu, et, en) = fills u p (call a) t n e1 in
      record { a = a; u = u; at_a = ea; fill = eu; tree = et; takes = en }

  pub two_parts : (call : Tree → Tree → Tree) → two_in sub call p ≡ item t n → TwoParts call
  unfolding two_in
  two_parts call e =
      let (a, u, ea, e1) = then_item_lem (sub p) (λ a u. then_item (sub (drop u p)) (λ b v. filled (u + v) p (call a b))) e in
      let (b, v, eb, e2) = then_item_lem (sub (drop u p)) (λ b v. filled (u + v) p (call a b)) e1 in
      let (eu, et, en) = fills (u + v) p (call a b) t n e2 in
      record { a = a; u = u; at_a = ea; b = b; v = v; at_b = eb; fill = eu; tree = et; takes = en }

  pub three_parts : (call : Tree → Tree → Tree → Tree) → three_in sub call p ≡ item t n → ThreeParts call
  unfolding three_in
  three_parts call e =
      let (a, u, ea, e1) =
      then_item_lem (sub p) (λ a u. then_item (sub (drop u p)) (λ b v. then_item (sub (drop (u + v) p)) (λ c w. filled (u + v + w) p (call a b c)))) e
      in
      let (b, v, eb, e2) = then_item_lem (sub (drop u p)) (λ b v. then_item (sub (drop (u + v) p)) (λ c w. filled (u + v + w) p (call a b c))) e1 in
      let (c, w, ec, e3) = then_item_lem (sub (drop (u + v) p)) (λ c w. filled (u + v + w) p (call a b c)) e2 in
      let (eu, et, en) = fills (u + v + w) p (call a b c) t n e3 in
      record { a = a; u = u; at_a = ea; b = b; v = v; at_b = eb; c = c; w = w; at_c_lem = ec; fill = eu; tree = et; takes = en }

  pub four_parts : (call : Tree → Tree → Tree → Tree → Tree) → four_in sub call p ≡ item t n → FourParts call
  unfolding four_in
  four_parts call e =
      let (a, u, ea, e1) =
      then_item_lem (sub p) (λ a u. then_item (sub (drop u p)) (λ b v. then_item (sub (drop (u + v) p)) (λ c w.
      then_item (sub (drop (u + v + w) p)) (λ d x. filled (u + v + w + x) p (call a b c d))))) e
      in
      let (b, v, eb, e2) =
      then_item_lem (sub (drop u p)) (λ b v. then_item (sub (drop (u + v) p)) (λ c w. then_item (sub (drop (u + v + w) p)) (λ d x. filled (u + v + w + x) p (call a b c d)))) e1
      in
      let (c, w, ec, e3) = then_item_lem (sub (drop (u + v) p)) (λ c w. then_item (sub (drop (u + v + w) p)) (λ d x. filled (u + v + w + x) p (call a b c d))) e2 in
      let (g, x, eg, e4) = then_item_lem (sub (drop (u + v + w) p)) (λ d x. filled (u + v + w + x) p (call a b c d)) e3 in
      let (eu, et, en) = fills (u + v + w + x) p (call a b c g) t n e4 in
      record { a = a; u = u; at_a = ea; b = b; v = v; at_b = eb; c = c; w = w; at_c_lem = ec; e = g; x = x; at_e = eg; fill = eu; tree = et; takes = en }
