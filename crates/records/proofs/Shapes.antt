-- What a shape says of its kind, and a call's kind of its shape.
use mathlib.Core.Path.{◌≡◌, refl, ap, sym, ◌∙◌}
use mathlib.Core.Bool.{Bool, true, false}
use Prim.Native.Nat.{ℕ, suc, ◌≤◌}
use native.Mathlib.Omega.{arith}
use lib.Dec.{eqb}
use borrow.Author.Tests.{eqb-true, eqb-false, ne_eqb}
use Rattle.common.specs.Choice.{pick}
use Rattle.common.proofs.Choices.{pick_false}
use Rattle.tree.specs.Bounds.{arguments_of, when_kind}
use Rattle.tree.proofs.Table.{call_kind, when_arguments}
use Rattle.records.specs.Encode.{constant_kind, row_kind, run_kind, bound_kind}
use Rattle.records.specs.Decode.{Shape, call_shape, shape_of}
use Rattle.records.specs.Decode.Shape.{aConstant, aBound, aRow, aRun, aWhen, aOne, aTwo, aThree, aFour, no_shape}

-- what holds of both sides of a choice holds of the choice
pub pick_all : {A : Type 0} (P : A → Type 0) (b : Bool) (x y : A) → (b ≡ true → P x) → (b ≡ false → P y) → P (pick b x y)
unfolding pick
pick_all P true x y f g = f refl
pick_all P false x y f g = g refl

-- what a shape says of the kind
unfoldable pub Says : Bool → ℕ → Shape → Type 0
Says inner k aConstant = k ≡ constant_kind
Says inner k aBound = (k ≡ bound_kind) × (inner ≡ true)
Says inner k aRow = k ≡ row_kind
Says inner k aRun = k ≡ run_kind
Says inner k aWhen = k ≡ when_kind
Says inner k aOne = arguments_of k ≡ 1
Says inner k aTwo = arguments_of k ≡ 2
Says inner k aThree = (arguments_of k ≡ 3) × (k ≡ when_kind → ⊥)
Says inner k aFour = arguments_of k ≡ 4
Says inner k no_shape = Unit {0}

call_says : (inner : Bool) (k : ℕ) → (k ≡ when_kind → ⊥) → Says inner k (call_shape (arguments_of k))
unfolding Says call_shape
call_says inner k w =
    pick_all (Says inner k) (eqb (arguments_of k) 1) _ _ (λ e. eqb-true _ _ e) λ e1.
    pick_all (Says inner k) (eqb (arguments_of k) 2) _ _ (λ e. eqb-true _ _ e) λ e2.
    pick_all (Says inner k) (eqb (arguments_of k) 3) _ _ (λ e. (eqb-true _ _ e, w)) λ e3.
    pick_all (Says inner k) (eqb (arguments_of k) 4) _ _ (λ e. eqb-true _ _ e) λ e4. tt

pub shape_says : (inner : Bool) (k : ℕ) → Says inner k (shape_of inner k)
unfolding Says shape_of
shape_says inner k =
    pick_all (Says inner k) (eqb k constant_kind) _ _ (λ e. eqb-true _ _ e) λ e1.
    pick_all (Says inner k) (eqb k row_kind) _ _ (λ e. eqb-true _ _ e) λ e2.
    pick_all (Says inner k) (eqb k run_kind) _ _ (λ e. eqb-true _ _ e) λ e3.
    pick_all (Says inner k) (eqb k bound_kind) _ _ (λ e. pick_all (Says inner k) inner _ _ (λ t. (eqb-true _ _ e, t)) (λ t. tt)) λ e4.
    pick_all (Says inner k) (eqb k when_kind) _ _ (λ e. eqb-true _ _ e) λ e5. call_says inner k (eqb-false _ _ e5)

-- the shape of a leaf and of `when`
pub leaf_shapes : (inner : Bool) → (shape_of inner constant_kind ≡ aConstant) × (shape_of inner row_kind ≡ aRow) × (shape_of inner run_kind ≡ aRun) × (shape_of inner when_kind ≡ aWhen)
unfolding shape_of pick
leaf_shapes inner = (refl, refl, refl, refl)

pub bound_shape : shape_of true bound_kind ≡ aBound
unfolding shape_of pick
bound_shape = refl

-- the shape of a call goes by its number of arguments
pub call_shape_lem : (inner : Bool) (k n : ℕ) → arguments_of k ≡ suc n → (k ≡ when_kind → ⊥) → shape_of inner k ≡ call_shape (suc n)
unfolding shape_of
call_shape_lem inner k n e w =
    let low : 16 ≤ k = (call_kind k n e).0 in
    pick_false _ _ _ (ne_eqb k constant_kind (λ q. omega arith))
    ∙ pick_false _ _ _ (ne_eqb k row_kind (λ q. omega arith))
    ∙ pick_false _ _ _ (ne_eqb k run_kind (λ q. omega arith))
    ∙ pick_false _ _ _ (ne_eqb k bound_kind (λ q. omega arith))
    ∙ pick_false _ _ _ (ne_eqb k when_kind w)
    ∙ ap call_shape e

-- only `when` has its kind
pub not_when : (k n : ℕ) → arguments_of k ≡ n → (n ≡ 3 → ⊥) → k ≡ when_kind → ⊥
not_when k n e h q = h (sym e ∙ ap arguments_of q ∙ when_arguments)

pub call_shapes : (call_shape 1 ≡ aOne) × (call_shape 2 ≡ aTwo) × (call_shape 3 ≡ aThree) × (call_shape 4 ≡ aFour)
unfolding call_shape pick
call_shapes = (refl, refl, refl, refl)
