-- The four names of a good list at preparing are all that a text can ask for.
use mathlib.Core.Bool.{Bool, true, false}
use mathlib.Core.List.{List, [], ◌∷◌}
use mathlib.Core.Path.{◌≡◌, refl, ap}
use Prim.Native.Nat.{ℕ, ◌+◌, ◌≤◌}
use native.Mathlib.Omega.{arith}
use lib.Dec.{eqb, leb}
use borrow.Author.Tests.{eqb-true, leb-true}
use Rattle.common.specs.Choice.{pick}
use Rattle.tree.specs.Bounds.{Bytes}
use Rattle.tree.specs.Names.{Given}
use Rattle.tree.specs.Names.Given.{nothing}
use Rattle.lists.specs.Entries.{Entry, between, bound_list, preparing, list_of}
use Rattle.lists.specs.Entries.Listed.{listed}
use Rattle.lists.specs.Good.{GoodList}
use Rattle.lists.specs.Given.{value_of, binding_of}
use Rattle.lists.proofs.Exactly.{list_exactly}
use Rattle.recipe.specs.Prepare.{is_given, has}
use Rattle.texts.specs.Unbound.{unbound_in}
use Rattle.texts.proofs.Standing.{pick_both}
use Rattle.unbound.specs.Scan.{has_of}
use Rattle.unbound.proofs.Laws.{unbound_as, has_four}

kind_most : (k : ℕ) → preparing k ≡ true → k ≤ 515
unfolding preparing between
kind_most k e = leb-true k 515 (pick_both (leb 512 k) (leb k 515) e).1

-- no entry has a kind over 0203
none_over : (es : List Entry) (n : ℕ) → GoodList preparing es → 4 ≤ n → value_of es (bound_list + n) ≡ nothing
unfolding GoodList value_of pick
none_over [] n g h = refl
none_over (e ∷ es) n g h = go (eqb e.kind (512 + n)) refl (none_over es n g.3 h)
  where
    go : (b : Bool) → eqb e.kind (512 + n) ≡ b → value_of es (512 + n) ≡ nothing → pick b (Given.given e.held) (value_of es (512 + n)) ≡ nothing
    go true eb ih = let k = eqb-true e.kind (512 + n) eb in let m = kind_most e.kind g.0 in absurd (omega arith)
    go false eb ih = ih

four_only : (es : List Entry) → GoodList preparing es → (n : ℕ) → 4 ≤ n → has (binding_of es) n ≡ false
unfolding has is_given binding_of
four_only es g n h = ap is_given (none_over es n g h)

-- the scan with four answers is the scan with the list
pub scan_of_list : (list text : List ℕ) (es : List Entry) → Bytes list → list_of preparing list ≡ listed es
    → unbound_in (has (binding_of es)) text
    ≡ unbound_in (has_of (has (binding_of es) 0) (has (binding_of es) 1) (has (binding_of es) 2) (has (binding_of es) 3)) text
scan_of_list list text es b e =
    unbound_as (has (binding_of es)) (has_of (has (binding_of es) 0) (has (binding_of es) 1) (has (binding_of es) 2) (has (binding_of es) 3))
    (has_four (has (binding_of es)) (four_only es ((list_exactly preparing list es b).0 e).1)) text
