-- What a tree is, by its record's kind.
use mathlib.Core.Path.{◌≡◌, refl, ap, sym, ◌∙◌}
use Prim.Native.Nat.{ℕ, suc, ◌≤◌, ◌<◌}
use native.Mathlib.Omega.{arith}
use Rattle.tree.specs.Tree.{Tree}
use Rattle.tree.specs.Tree.Tree.{literal, bound, row, run, one, two, three, four, when}
use Rattle.tree.specs.Bounds.{arguments_of, when_kind, Proper}
use Rattle.tree.proofs.Table.{call_kind, when_arguments}
use Rattle.kinds.proofs.Quick.{arguments_few, arguments_not_one}
use Rattle.leaf.proofs.Leaves.{IsLeaf}
use Rattle.evaluating.proofs.Pieces.{kind_of}

low : (k n : ℕ) → arguments_of k ≡ suc n → k < 0x0010 → ⊥
low k n e l = let c = call_kind k n e in omega (arith, c.0)

pub leaf_of : (t : Tree) → Proper t → kind_of t < 0x0010 → IsLeaf t
unfolding Proper kind_of IsLeaf
leaf_of (literal v) h l = tt
leaf_of (bound n) h l = tt
leaf_of (row n) h l = tt
leaf_of (run n) h l = tt
leaf_of (one k a) h l = low k 0 h.0 l
leaf_of (two k a b) h l = low k 1 h.0 l
leaf_of (three k a b c) h l = low k 2 h.0 l
leaf_of (four k a b c d) h l = low k 3 h.0 l
leaf_of (when c a b) h l = omega arith

-- a kind with another number of arguments
other : (k j n m : ℕ) → j ≡ k → arguments_of j ≡ n → arguments_of k ≡ m → (n ≡ m → ⊥) → ⊥
other k j n m e a b h = h (sym a ∙ ap arguments_of e ∙ b)

pub record IsWhen (t : Tree) : Type 0 where
  pub c : Tree
  pub a : Tree
  pub b : Tree
  pub is : t ≡ when c a b

pub when_of : (t : Tree) → Proper t → kind_of t ≡ when_kind → IsWhen t
unfolding Proper kind_of
when_of (literal v) h l = absurd (omega arith)
when_of (bound n) h l = absurd (omega arith)
when_of (row n) h l = absurd (omega arith)
when_of (run n) h l = absurd (omega arith)
when_of (one k a) h l = absurd (other when_kind k 1 3 l h.0 when_arguments (λ e. omega arith))
when_of (two k a b) h l = absurd (other when_kind k 2 3 l h.0 when_arguments (λ e. omega arith))
when_of (three k a b c) h l = absurd (h.1 l)
when_of (four k a b c d) h l = absurd (other when_kind k 4 3 l h.0 when_arguments (λ e. omega arith))
when_of (when c a b) h l = record { c = c; a = a; b = b; is = refl }

pub record IsTwo (k : ℕ) (t : Tree) : Type 0 where
  pub a : Tree
  pub b : Tree
  pub is : t ≡ two k a b

pub two_of : (k : ℕ) (t : Tree) → Proper t → kind_of t ≡ k → arguments_of k ≡ 2 → IsTwo k t
unfolding Proper kind_of
two_of k (literal v) h l q = absurd (low k 1 q (omega arith))
two_of k (bound n) h l q = absurd (low k 1 q (omega arith))
two_of k (row n) h l q = absurd (low k 1 q (omega arith))
two_of k (run n) h l q = absurd (low k 1 q (omega arith))
two_of k (one j a) h l q = absurd (other k j 1 2 l h.0 q (λ e. omega arith))
two_of k (two j a b) h l q = record { a = a; b = b; is = ap (λ i. two i a b) l }
two_of k (three j a b c) h l q = absurd (other k j 3 2 l h.0 q (λ e. omega arith))
two_of k (four j a b c d) h l q = absurd (other k j 4 2 l h.0 q (λ e. omega arith))
two_of k (when c a b) h l q = absurd (other k when_kind 3 2 l when_arguments q (λ e. omega arith))

pub record IsThree (k : ℕ) (t : Tree) : Type 0 where
  pub a : Tree
  pub b : Tree
  pub c : Tree
  pub is : t ≡ three k a b c
  pub takes : arguments_of k ≡ 3

pub three_of : (k : ℕ) (t : Tree) → Proper t → kind_of t ≡ k → 0x0010 ≤ k → (k ≡ when_kind → ⊥) → (arguments_of k ≡ 2 → ⊥) → IsThree k t
unfolding Proper kind_of
three_of k (literal v) h l g w q = absurd (omega arith)
three_of k (bound n) h l g w q = absurd (omega arith)
three_of k (row n) h l g w q = absurd (omega arith)
three_of k (run n) h l g w q = absurd (omega arith)
three_of k (one j a) h l g w q = absurd (arguments_not_one j h.0)
three_of k (two j a b) h l g w q = absurd (q (sym (ap arguments_of l) ∙ h.0))
three_of k (three j a b c) h l g w q = record { a = a; b = b; c = c; is = ap (λ i. three i a b c) l; takes = sym (ap arguments_of l) ∙ h.0 }
three_of k (four j a b c d) h l g w q = let f = arguments_few j in absurd (omega (arith, h.0, f))
three_of k (when c a b) h l g w q = absurd (w (sym l))
