-- Image bytes as a tree, or none (document 01, section 6; 28, bytes are no image).
use Rattle.std.specs.Prelude.{Bool, false, List, ℕ, zero, suc, ◌+◌, eqb, leb, ltb, length, get_or, drop}
use Rattle.common.specs.Choice.{pick}
use Rattle.tree.specs.Tree.{Tree}
use Rattle.tree.specs.Tree.Tree.{literal, bound, row, run, one, two, three, four, when}
use Rattle.tree.specs.Bounds.{arguments_of, when_kind, nodes}
use Rattle.records.specs.Record.{Front, front_of}
use Rattle.records.specs.Record.Front.{front, cut}
use Rattle.records.specs.Encode.{constant_kind, row_kind, run_kind, bound_kind}

-- what a kind stands for
pub data Shape : Type 0 where
  aConstant aBound aRow aRun aWhen aOne aTwo aThree aFour no_shape : Shape

unfoldable pub call_shape : ℕ → Shape
call_shape n = pick (eqb n 1) aOne (pick (eqb n 2) aTwo (pick (eqb n 3) aThree (pick (eqb n 4) aFour no_shape)))

-- `inner` says whether `#` may stand there
unfoldable pub shape_of : Bool → ℕ → Shape
shape_of inner k =
    pick (eqb k constant_kind) aConstant
    (pick (eqb k row_kind) aRow
    (pick (eqb k run_kind) aRun
    (pick (eqb k bound_kind) (pick inner aBound no_shape)
    (pick (eqb k when_kind) aWhen
    (call_shape (arguments_of k))))))

-- a tree that stands first, and the count of bytes that it takes
pub data Item : Type 0 where
  item : Tree → ℕ → Item
  no_item : Item

unfoldable pub then_item : Item → (Tree → ℕ → Item) → Item
then_item (item t u) f = f t u
then_item no_item f = no_item

unfoldable pub then_front : Front → (ℕ → List ℕ → Item) → Item
then_front (front k p) f = f k p
then_front cut f = no_item

-- each payload filled exactly
unfoldable pub filled : ℕ → List ℕ → Tree → Item
filled used p t = pick (eqb used (length p)) (item t (4 + length p)) no_item

-- a value of at most 1,024 bytes
unfoldable pub constant_in : List ℕ → Item
constant_in p = pick (leb (length p) 1024) (item (literal p) (4 + length p)) no_item

-- payload one byte, its digit, below top
unfoldable pub digit_in : ℕ → (ℕ → Tree) → List ℕ → Item
digit_in top name p = pick (eqb (length p) 1) (pick (ltb (get_or p 0 0) top) (item (name (get_or p 0 0)) 5) no_item) no_item

-- arguments, one after another; `sub` reads one, a level down
module _ (sub : List ℕ → Item) where
  unfoldable pub one_in : (Tree → Tree) → List ℕ → Item
  one_in call p = then_item (sub p) (λ a u. filled u p (call a))

  unfoldable pub two_in : (Tree → Tree → Tree) → List ℕ → Item
  two_in call p = then_item (sub p) (λ a u. then_item (sub (drop u p)) (λ b v. filled (u + v) p (call a b)))

  unfoldable pub three_in : (Tree → Tree → Tree → Tree) → List ℕ → Item
  three_in call p =
      then_item (sub p) (λ a u. then_item (sub (drop u p)) (λ b v. then_item (sub (drop (u + v) p)) (λ c w. filled (u + v + w) p (call a b c))))

  unfoldable pub four_in : (Tree → Tree → Tree → Tree → Tree) → List ℕ → Item
  four_in call p =
      then_item (sub p) (λ a u. then_item (sub (drop u p)) (λ b v. then_item (sub (drop (u + v) p)) (λ c w.
      then_item (sub (drop (u + v + w) p)) (λ d x. filled (u + v + w + x) p (call a b c d)))))

  unfoldable pub by_shape : Shape → ℕ → List ℕ → Item
  by_shape aConstant k p = constant_in p
  by_shape aBound k p = digit_in 4 bound p
  by_shape aRow k p = digit_in 8 row p
  by_shape aRun k p = digit_in 4 run p
  by_shape aWhen k p = three_in when p
  by_shape aOne k p = one_in (one k) p
  by_shape aTwo k p = two_in (two k) p
  by_shape aThree k p = three_in (three k) p
  by_shape aFour k p = four_in (four k) p
  by_shape no_shape k p = no_item

-- the tree that stands first, of at most d levels
unfoldable pub decode : Bool → ℕ → List ℕ → Item
decode inner zero s = no_item
decode inner (suc d) s = then_front (front_of s) (λ k p. by_shape (decode inner d) (shape_of inner k) k p)

-- what the bytes are
pub data Image : Type 0 where
  image : Tree → Image
  no_image : Image

-- one record that is all of it, of at most 128 nodes
unfoldable pub whole_of : List ℕ → Item → Image
whole_of s (item t u) = pick (eqb u (length s)) (pick (leb (nodes t) 128) (image t) no_image) no_image
whole_of s no_item = no_image

-- of at most 16,384 bytes and 16 levels
unfoldable pub image_with : Bool → List ℕ → Image
image_with inner s = pick (leb (length s) 16384) (whole_of s (decode inner 16 s)) no_image

unfoldable pub image_of : List ℕ → Image
image_of = image_with false
