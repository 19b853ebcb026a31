-- A good list gives no value to a kind that it may not have: preparing gives none to `$` and `@`, a run none to `#`.
use mathlib.Core.Path.{◌≡◌, refl, ap, sym, ◌∙◌}
use mathlib.Core.Bool.{Bool, true, false}
use mathlib.Core.List.{List, [], ◌∷◌}
use Prim.Native.Nat.{ℕ, ◌+◌, ◌<◌}
use native.Mathlib.Omega.{arith}
use lib.Dec.{leb}
use borrow.Author.Tests.{ne_eqb, lt-leb}
use Rattle.common.specs.Choice.{pick}
use Rattle.common.proofs.Choices.{pick_false, true_false}
use Rattle.tree.specs.Bounds.{Bytes}
use Rattle.tree.specs.Names.Given.{nothing}
use Rattle.lists.specs.Entries.{Entry, between, preparing, bound_list, row_list, run_list, list_of}
use Rattle.lists.specs.Entries.Listed.{listed}
use Rattle.lists.specs.Given.{value_of}
use Rattle.lists.specs.Good.{GoodList}
use Rattle.lists.proofs.Exactly.{list_exactly}

none_given : (taken : ℕ → Bool) (es : List Entry) (k : ℕ) → GoodList taken es → taken k ≡ false → value_of es k ≡ nothing
unfolding value_of GoodList
none_given taken [] k g e = refl
none_given taken (x ∷ es) k g e = pick_false _ _ _ (ne_eqb x.kind k (λ q. true_false (sym g.0 ∙ ap taken q ∙ e))) ∙ none_given taken es k g.3 e

pub untaken : (taken : ℕ → Bool) (s : List ℕ) (es : List Entry) → Bytes s → list_of taken s ≡ listed es → (k : ℕ) → taken k ≡ false → value_of es k ≡ nothing
untaken taken s es hs e k q = none_given taken es k ((list_exactly taken s es hs).0 e).1 q

both_false : (b c : Bool) → c ≡ false → pick b c false ≡ false
unfolding pick
both_false true c q = q
both_false false c q = refl

above : (lo hi k : ℕ) → hi < k → between lo hi k ≡ false
unfolding between
above lo hi k h = both_false (leb lo k) (leb k hi) (lt-leb k hi h)

-- `$n` and `@n` at preparing, whatever n
pub no_rows : (n : ℕ) → preparing (row_list + n) ≡ false
unfolding preparing
no_rows n = above bound_list (bound_list + 3) (row_list + n) (omega arith)

pub no_runs : (n : ℕ) → preparing (run_list + n) ≡ false
unfolding preparing
no_runs n = above bound_list (bound_list + 3) (run_list + n) (omega arith)
