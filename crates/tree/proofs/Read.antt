-- What was read is a tree or a number with its place, never both.
use mathlib.Core.Path.{◌≡◌, sym, ◌∙◌}
use Prim.Native.Nat.{ℕ}
use native.Mathlib.Omega.{arith}
use Rattle.tree.specs.Tree.{Tree}
use Rattle.tree.specs.Reading.{Read}
use Rattle.tree.specs.Reading.Read.{got, wrong}

pub got_wrong : {t : Tree} {n p : ℕ} → got t ≡ wrong n p → ⊥
got_wrong e = let z : ◌≡◌ {A = ℕ} 0 1 = cc in omega arith

pub not_both : {t : Tree} {n p : ℕ} {x : Read} → x ≡ got t → x ≡ wrong n p → ⊥
not_both e f = got_wrong (sym e ∙ f)

pub same_wrong : {k w j u : ℕ} → wrong k w ≡ wrong j u → (k ≡ j) × (w ≡ u)
same_wrong e = (cc, cc)

pub same_number : {n p m q : ℕ} → wrong n p ≡ wrong m q → n ≡ m
same_number e = (same_wrong e).0
