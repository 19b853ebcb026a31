-- What stands beyond a place stands beyond the next.
use mathlib.Core.Path.{◌≡◌, sym, ap, ◌∙◌}
use mathlib.Core.List.{List}
use Prim.Native.Nat.{ℕ, ◌+◌}
use lib.ListN.{drop}
use lib.Seq.{drop-drop}

pub drop_more : (j : ℕ) (k k₀ : List ℕ) → drop j k ≡ drop j k₀ → drop (j + 1) k ≡ drop (j + 1) k₀
drop_more j k k₀ e = sym (drop-drop 1 j k) ∙ ap (drop 1) e ∙ drop-drop 1 j k₀
