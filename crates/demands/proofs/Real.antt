-- The cipher calls of a recipe mean what `cell` says: demand 3, stated for them.
use mathlib.Core.Path.{◌≡◌, refl, sym, ap, ◌∙◌}
use mathlib.Core.List.{List, []}
use Prim.Native.Nat.{ℕ}
use native.Mathlib.Omega.{arith}
use lib.ListN.{get_or, take}
use Rattle.std.proofs.Common.{Option, Some, None}
use Rattle.common.specs.Answer.{Value}
use Rattle.common.specs.Answer.Answer.{refused}
use Rattle.tree.specs.Tree.{Tree}
use Rattle.tree.specs.Bounds.{Bytes}
use Rattle.tree.specs.Names.{Binding, Running, unbound}
use Rattle.meaning.specs.Mean.{mean}
use Rattle.meaning.specs.Real.{real}
use Rattle.meaning.specs.Fold.{fold}
use Rattle.meaning.specs.Values.{CipherValued}
use Rattle.meaning.specs.Numbers.{Numbered, CipherNumbered}
use Rattle.meaning.proofs.Meaning.{real_fold_mean}
use Rattle.suites.specs.declared.Suite.{Suite}
use Rattle.suites.specs.Suites.{suite_of}
use Rattle.suites.specs.declared.Suite.{Suite}
use Rattle.modes.specs.Cell.{Call, Side, cell, cell_of, arranged, call_of, side_of}
use Rattle.modes.proofs.Cell.{cell_unknown}
use Rattle.modes.proofs.Numbers.{no_other}
use Rattle.recipe.specs.Prepare.{prepare_of}
use Rattle.recipe.specs.Keeps.{Keeps}
use Rattle.recipe.proofs.Demand.{prepared_keeps}
use Rattle.demands.proofs.Valued.{arranged_valued}

-- ---- of values the cipher calls make values

pub cell_valued : CipherValued cell_of
unfolding cell_of
cell_valued f n args h = arranged_valued (side_of (call_of f)) (call_of f) n args h

-- ---- and never refuse with 0

cell_numbered : (f : Call) (n : ℕ) (key side text : Value) → Numbered (cell f n key side text)
cell_numbered f n key side text x e z = go (suite_of n) refl
  where
    zero_refused : cell f n key side text ≡ refused 0
    zero_refused = e ∙ ap refused z

    go : (m : Option Suite) → suite_of n ≡ m → ⊥
    go (Some s) k =
        let q : ◌≡◌ {A = ℕ} 0 8 = no_other f n s key side text k 0 zero_refused (λ w. omega arith) (λ w. omega arith) (λ w. omega arith) (λ w. omega arith) (λ w. omega arith) (λ w. omega arith) in
        omega arith
    go None k =
        let a : refused 0 ≡ refused 1 = sym zero_refused ∙ cell_unknown f n key side text k in
        let q : ◌≡◌ {A = ℕ} 0 1 = cc in
        omega arith

arranged_numbered : (s : Side) (f : Call) (n : ℕ) (args : List Value) → Numbered (arranged s f n args)
unfolding arranged
arranged_numbered Side.none f n args = cell_numbered f n (get_or args 0 []) [] (get_or args 1 [])
arranged_numbered Side.iv f n args = cell_numbered f n (get_or args 0 []) (get_or args 1 []) (get_or args 2 [])
arranged_numbered Side.tag f n args = cell_numbered f n (get_or args 0 []) (get_or args 1 []) (get_or args 2 [])

pub numbered : CipherNumbered cell_of
unfolding cell_of
numbered f n args = arranged_numbered (side_of (call_of f)) (call_of f) n args

-- ---- demand 3 with the real calls

-- folding changes no meaning, for every tree, every bound list and every run list, refusals included
pub folding_keeps : (K : Binding) (E : Running) (t : Tree) → mean (real cell_of) unbound E (fold (real cell_of) K t) ≡ mean (real cell_of) K E t
folding_keeps = real_fold_mean cell_of

-- whatever was prepared, each later run answers what the text means with both lists, and nothing is left to fold
pub demand_3 : (text list out work : List ℕ) → Bytes list → (prepare_of cell_of text list out work).number ≡ 0
    → Keeps cell_of text list (take (prepare_of cell_of text list out work).count (prepare_of cell_of text list out work).out)
demand_3 = prepared_keeps cell_of cell_valued
