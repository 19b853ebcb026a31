-- What folding owes (document 01, sections 5 and 9), in words of its own.
use Rattle.std.specs.Prelude.{◌≡◌, [], ◌∷◌, ℕ}
use Rattle.common.specs.Answer.{Value, Answer}
use Rattle.common.specs.Answer.Answer.{value}
use Rattle.tree.specs.Tree.{Tree}
use Rattle.tree.specs.Tree.Tree.{literal, bound, row, run, one, two, three, four, when}
use Rattle.tree.specs.Names.{Binding, Running, idle}
use Rattle.tree.specs.Names.Given.{nothing}
use Rattle.meaning.specs.Mean.{Calls, mean}

-- an answer that is no value
abbrev pub NoValue : Answer → Type 0
NoValue r = (v : Value) → r ≡ value v → ⊥

module _ (C : Calls) (K : Binding) where
  -- fully folded: no `#` with a value, no call that has a value and whose arguments are all constants, no `when` on a constant 00 or 01
  unfoldable pub Folded : Tree → Type 0
  Folded (literal v) = Unit {0}
  Folded (bound n) = K n ≡ nothing
  Folded (row n) = Unit {0}
  Folded (run n) = Unit {0}
  Folded (one k a) = Folded a × ((x : Value) → a ≡ literal x → NoValue (C.of_one k x))
  Folded (two k a b) = Folded a × Folded b × ((x y : Value) → a ≡ literal x → b ≡ literal y → NoValue (C.of_two k x y))
  Folded (three k a b c) =
      Folded a × Folded b × Folded c × ((x y z : Value) → a ≡ literal x → b ≡ literal y → c ≡ literal z → NoValue (C.of_three k x y z))
  Folded (four k a b c d) =
      Folded a × Folded b × Folded c × Folded d
      × ((x y z w : Value) → a ≡ literal x → b ≡ literal y → c ≡ literal z → d ≡ literal w → NoValue (C.of_four k x y z w))
  Folded (when c a b) = Folded c × Folded a × Folded b × (c ≡ literal (0x01 ∷ []) → ⊥) × (c ≡ literal (0x00 ∷ []) → ⊥)

  -- what a tree may become: a constant that it has with only `#` bound, a chosen side, or itself with its arguments in their places: nothing is regrouped
  pub data Becomes : Tree → Tree → Type 0 where
    constant : (t : Tree) (v : Value) → mean C K idle t ≡ value v → Becomes t (literal v)
    bound_stays : (n : ℕ) → K n ≡ nothing → Becomes (bound n) (bound n)
    row_stays : (n : ℕ) → Becomes (row n) (row n)
    run_stays : (n : ℕ) → Becomes (run n) (run n)
    one_stays : (k : ℕ) {a a' : Tree} → Becomes a a' → Becomes (one k a) (one k a')
    two_stays : (k : ℕ) {a b a' b' : Tree} → Becomes a a' → Becomes b b' → Becomes (two k a b) (two k a' b')
    three_stays : (k : ℕ) {a b c a' b' c' : Tree} → Becomes a a' → Becomes b b' → Becomes c c' → Becomes (three k a b c) (three k a' b' c')
    four_stays : (k : ℕ) {a b c d a' b' c' d' : Tree} → Becomes a a' → Becomes b b' → Becomes c c' → Becomes d d' → Becomes (four k a b c d) (four k a' b' c' d')
    when_stays : {c a b c' a' b' : Tree} → Becomes c c' → Becomes a a' → Becomes b b' → Becomes (when c a b) (when c' a' b')
    when_first : {c a b a' : Tree} → Becomes c (literal (0x01 ∷ [])) → Becomes a a' → Becomes (when c a b) a'
    when_second : {c a b b' : Tree} → Becomes c (literal (0x00 ∷ [])) → Becomes b b' → Becomes (when c a b) b'

  -- the meaning needs a value that only a run has: two runs give it different meanings
  pub record Needs (t : Tree) : Type 0 where
    pub now : Running
    pub later : Running
    pub differ : mean C K now t ≡ mean C K later t → ⊥
