-- The bytes that records fold to.
use Rattle.std.specs.Prelude.{List, [], ◌++◌, ℕ, zero, suc, ◌+◌, drop}
use Rattle.tree.specs.Names.{Binding}
use Rattle.meaning.specs.Mean.{Calls}
use Rattle.meaning.specs.Fold.{fold}
use Rattle.records.specs.Encode.{encode}
use Rattle.records.specs.Decode.{Item}
use Rattle.records.specs.Decode.Item.{item, no_item}

module _ (C : Calls) (K : Binding) where
  -- of a tree that was decoded
  unfoldable pub folded_of : Item → List ℕ
  folded_of (item t u) = encode (fold C K t)
  folded_of no_item = []

  unfoldable pub then_folded : Item → (ℕ → List ℕ) → List ℕ
  then_folded (item t v) more = encode (fold C K t) ++ more v
  then_folded no_item more = []

  -- of so many records of a payload, one after another, from place u on; `sub` reads one
  unfoldable pub folded_from : (List ℕ → Item) → List ℕ → ℕ → ℕ → List ℕ
  folded_from sub p zero u = []
  folded_from sub p (suc n) u = then_folded (sub (drop u p)) (λ v. folded_from sub p n (u + v))
