use Rattle.std.proofs.Common.{rules, refl, ◌∙◌, ◌≡◌, ℕ, Bool, true, false, ◌&&◌, List, [], ◌∷◌, nat_eq, tests}
use Rattle.std.proofs.lemmas.Iterator.{YieldsList-from_slice}
use Rattle.std.proofs.lemmas.Iterator.Consumers.{fold_from_yields_List}
use Rattle.std.specs.List.{fold, list_all}
use Rattle.table_rows.proofs.is_all.Goals as goal

folded : (p : ℕ → Bool) (u : Bool) (s : List ℕ) → fold (λ a x. a && p x) u s ≡ (u && list_all p s)
folded p true [] = refl
folded p false [] = refl
folded p true (x ∷ s) = folded p (p x) s
folded p false (x ∷ s) = folded p false s

pub returns : goal.returns
returns c =
    fold_from_yields_List {v = λ y. y.now} _ (λ a x. a && nat_eq x c.args.b) true _ c.fold.ensures.ran (YieldsList-from_slice c.args.bytes.now cc) (λ a x b q k. search (rules, tests))
    ∙ folded (λ x. nat_eq x c.args.b) true c.args.bytes.now
