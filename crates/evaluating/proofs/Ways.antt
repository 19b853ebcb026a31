-- The ways out of the evaluator's functions.
use mathlib.Core.Path.{◌≡◌, ap, sym, ◌∙◌, subst}
use mathlib.Core.List.{List, [], ◌∷◌}
use Prim.Native.Nat.{ℕ, zero, suc, ◌+◌, ◌≤◌}
use lib.Dec.{eqb}
use borrow.Author.Tests.{eqb-true}
use lib.ListN.{length, take, drop}
use Rattle.std.specs.Prelude.{Bool, true, false, Option, Some, None, Result, Ok, Err}
use Rattle.std.specs.Option.{option_eq}
use Rattle.common.specs.Answer.{Answer}
use Rattle.common.proofs.Choices.{false_true}
use Rattle.kinds.specs.Tables.{some_if}
use Rattle.tree.specs.Tree.{Tree}
use Rattle.tree.specs.Bounds.{arguments_of, when_kind}
use Rattle.meaning.specs.Mean.{mean, side_of}
use Rattle.meaning.specs.Real.{real, real_two, ciphered}
use Rattle.records.specs.Record.{word}
use Rattle.lists.specs.Entries.{Entry}
use Rattle.lists.specs.Given.{binding_of, running_of}
use Rattle.modes.specs.Cell.{cell_of}
use Rattle.answers.specs.declared.Refusal.{Refusal}
use Rattle.answers.specs.declared.Refusal.TheVariants as refusal
use Rattle.slots.specs.Slots.{At}
use Rattle.slots.proofs.Standing.{has_of}
use Rattle.lent.specs.declared.Tables.{Tables}
use Rattle.evaluating.specs.Stretch.{Stretch, Ready, Means, side_by}
use Rattle.evaluating.proofs.Shaped.{IsTwo, two_of, IsThree, three_of, IsWhen, when_of}
use Rattle.evaluating.proofs.Readied.{head_kind, TwoParts, two_parts, ThreeParts, three_parts, when_parts}
use Rattle.evaluating.proofs.Meant.{pair_first, pair_second, pair_both, triple_first, triple_second, triple_third, triple_all, choice_refused, choice_first, choice_second, choice_neither}

abbrev M : List Entry → Tree → Answer
M es t = mean (real cell_of) (binding_of es) (running_of es) t

-- whether a kind takes two arguments, as it is asked
pub takes_two : (o : Option ℕ) (n : ℕ) → o ≡ some_if n → option_eq eqb o (Some 2) ≡ true → n ≡ 2
unfolding some_if
takes_two o zero e h = absurd (false_true (sym (ap (λ x. option_eq eqb x (Some 2)) e) ∙ h))
takes_two o (suc n) e h = eqb-true (suc n) 2 (sym (ap (λ x. option_eq eqb x (Some 2)) e) ∙ h)

pub takes_others : (o : Option ℕ) (n : ℕ) → o ≡ some_if n → option_eq eqb o (Some 2) ≡ false → n ≡ 2 → ⊥
unfolding some_if
takes_others o n e h q = false_true (sym h ∙ ap (λ x. option_eq eqb x (Some 2)) (e ∙ ap some_if q))

-- a value that was told of fits its slot
pub told_small : (image list : List ℕ) (tables : Tables) (s e o' o room n : ℕ) (w w1 : List ℕ) (r : Result ℕ Refusal) → Ready image list tables s e o' room → Means image list s e o r w w1 → r ≡ Ok n → n ≤ 1024
unfolding Means
told_small image list tables s e o' o room n w w1 r R A q =
    (has_of (M R.entries R.tree) o n r w w1 (A R.taken R.entries R.tree R.good R.stretch) q).small

-- ---- `two`
module _ (image list : List ℕ) (start end o k : ℕ) (ek : word image (start + 2) ≡ k) (ea : arguments_of k ≡ 2) (m : ℕ) (em : m ≡ start + 4 + 4 + word image (start + 4)) where
  two_tree : (t : Tree) → Stretch image start end t → IsTwo k t
  two_tree t S = two_of k t S.proper (sym (head_kind image start end t S) ∙ ek) ea

  two_split : (t : Tree) (S : Stretch image start end t) → TwoParts image start m end (two_tree t S).a (two_tree t S).b
  two_split t S = two_parts image start end k (two_tree t S).a (two_tree t S).b (subst (Stretch image start end) (two_tree t S).is S) m em

  module _ (w w1 : List ℕ) (r1 : Result ℕ Refusal) (A1 : Means image list (start + 4) m o r1 w w1) where
    pub two_refused_first : (n : Refusal) → r1 ≡ Err n → Means image list start end o (Err n) w w1
    unfolding Means mean real
    two_refused_first n e taken es t el S =
        let T = two_tree t S in
        let P = two_split t S in
        subst (λ x. At (M es x) o (Err n) w w1) (sym T.is)
        (pair_first (M es T.a) (M es T.b) (λ x y. real_two cell_of k x y) o w w1 r1 (A1 taken es T.a el P.first) n e)

    module _ (la : ℕ) (e1 : r1 ≡ Ok la) (w2 : List ℕ) (r2 : Result ℕ Refusal) (A2 : Means image list m end (o + 1024) r2 w1 w2) where
      pub two_refused_second : (n : Refusal) → r2 ≡ Err n → Means image list start end o (Err n) w w2
      unfolding Means mean real
      two_refused_second n e taken es t el S =
          let T = two_tree t S in
          let P = two_split t S in
          subst (λ x. At (M es x) o (Err n) w w2) (sym T.is)
          (pair_second (M es T.a) (M es T.b) (λ x y. real_two cell_of k x y) o w w1 r1 (A1 taken es T.a el P.first) la e1 w2 r2 (A2 taken es T.b el P.second) n e)

      pub two_applied : (lb : ℕ) → r2 ≡ Ok lb → o ≤ length w1 → o ≤ length w2 → (w3 : List ℕ) (r3 : Result ℕ Refusal)
          → At (real_two cell_of k (take la (drop o w2)) (take lb (drop (o + 1024) w2))) o r3 w2 w3 → Means image list start end o r3 w w3
      unfolding Means mean real
      two_applied lb e2 l1 l2 w3 r3 A3 taken es t el S =
          let T = two_tree t S in
          let P = two_split t S in
          subst (λ x. At (M es x) o r3 w w3) (sym T.is)
          (pair_both (M es T.a) (M es T.b) (λ x y. real_two cell_of k x y) o w w1 r1 (A1 taken es T.a el P.first) la e1 w2 r2 (A2 taken es T.b el P.second) lb e2 l1 l2 w3 r3 A3)

-- ---- `three`
module _ (image list : List ℕ) (start end o k : ℕ) (ek : word image (start + 2) ≡ k) (eg : 0x0010 ≤ k) (ew : k ≡ when_kind → ⊥) (ea : arguments_of k ≡ 2 → ⊥)
    (m : ℕ) (em : m ≡ start + 4 + 4 + word image (start + 4)) (l : ℕ) (el' : l ≡ m + 4 + word image m) where
  three_tree : (t : Tree) → Stretch image start end t → IsThree k t
  three_tree t S = three_of k t S.proper (sym (head_kind image start end t S) ∙ ek) eg ew ea

  three_split : (t : Tree) (S : Stretch image start end t) → ThreeParts image start m l end (three_tree t S).a (three_tree t S).b (three_tree t S).c
  three_split t S =
      three_parts image start end k (three_tree t S).a (three_tree t S).b (three_tree t S).c (subst (Stretch image start end) (three_tree t S).is S) m l em el'

  module _ (w w1 : List ℕ) (r1 : Result ℕ Refusal) (A1 : Means image list (start + 4) m o r1 w w1) where
    pub three_refused_first : (n : Refusal) → r1 ≡ Err n → Means image list start end o (Err n) w w1
    unfolding Means mean real
    three_refused_first n e taken es t el S =
        let T = three_tree t S in
        let P = three_split t S in
        subst (λ x. At (M es x) o (Err n) w w1) (sym T.is)
        (triple_first (M es T.a) (M es T.b) (M es T.c) (λ x y z. ciphered cell_of k (x ∷ y ∷ z ∷ [])) o w w1 r1 (A1 taken es T.a el P.first) n e)

    module _ (la : ℕ) (e1 : r1 ≡ Ok la) (w2 : List ℕ) (r2 : Result ℕ Refusal) (A2 : Means image list m l (o + 1024) r2 w1 w2) where
      pub three_refused_second : (n : Refusal) → r2 ≡ Err n → Means image list start end o (Err n) w w2
      unfolding Means mean real
      three_refused_second n e taken es t el S =
          let T = three_tree t S in
          let P = three_split t S in
          subst (λ x. At (M es x) o (Err n) w w2) (sym T.is)
          (triple_second (M es T.a) (M es T.b) (M es T.c) (λ x y z. ciphered cell_of k (x ∷ y ∷ z ∷ [])) o w w1 r1 (A1 taken es T.a el P.first) la e1 w2 r2 (A2 taken es T.b el P.second) n e)

      module _ (lb : ℕ) (e2 : r2 ≡ Ok lb) (w3 : List ℕ) (r3 : Result ℕ Refusal) (A3 : Means image list l end (o + 2048) r3 w2 w3) where
        pub three_refused_third : (n : Refusal) → r3 ≡ Err n → Means image list start end o (Err n) w w3
        unfolding Means mean real
        three_refused_third n e taken es t el S =
            let T = three_tree t S in
            let P = three_split t S in
            subst (λ x. At (M es x) o (Err n) w w3) (sym T.is)
            (triple_third (M es T.a) (M es T.b) (M es T.c) (λ x y z. ciphered cell_of k (x ∷ y ∷ z ∷ [])) o w w1 r1 (A1 taken es T.a el P.first) la e1 w2 r2 (A2 taken es T.b el P.second)
            lb e2 w3 r3 (A3 taken es T.c el P.third) n e)

        pub three_applied : (lc : ℕ) → r3 ≡ Ok lc → o ≤ length w1 → o + 1024 ≤ length w2 → o + 1024 ≤ length w3 → (w4 : List ℕ) (r4 : Result ℕ Refusal)
            → At (ciphered cell_of k (take la (drop o w3) ∷ take lb (drop (o + 1024) w3) ∷ take lc (drop (o + 2048) w3) ∷ [])) o r4 w3 w4 → Means image list start end o r4 w w4
        unfolding Means mean real
        three_applied lc e3 l1 l2 l3 w4 r4 A4 taken es t el S =
            let T = three_tree t S in
            let P = three_split t S in
            subst (λ x. At (M es x) o r4 w w4) (sym T.is)
            (triple_all (M es T.a) (M es T.b) (M es T.c) (λ x y z. ciphered cell_of k (x ∷ y ∷ z ∷ [])) o w w1 r1 (A1 taken es T.a el P.first) la e1 w2 r2 (A2 taken es T.b el P.second)
            lb e2 w3 r3 (A3 taken es T.c el P.third) lc e3 l1 l2 l3 w4 r4 A4)

-- ---- `choose`
module _ (image list : List ℕ) (start end o : ℕ) (ek : word image (start + 2) ≡ when_kind) (m : ℕ) (em : m ≡ start + 4 + 4 + word image (start + 4)) (l : ℕ) (el' : l ≡ m + 4 + word image m) where
  when_tree : (t : Tree) → Stretch image start end t → IsWhen t
  when_tree t S = when_of t S.proper (sym (head_kind image start end t S) ∙ ek)

  when_split : (t : Tree) (S : Stretch image start end t) → ThreeParts image start m l end (when_tree t S).c (when_tree t S).a (when_tree t S).b
  when_split t S = when_parts image start end (when_tree t S).c (when_tree t S).a (when_tree t S).b (subst (Stretch image start end) (when_tree t S).is S) m l em el'

  module _ (w w1 : List ℕ) (r1 : Result ℕ Refusal) (A1 : Means image list (start + 4) m o r1 w w1) where
    pub when_refused : (n : Refusal) → r1 ≡ Err n → Means image list start end o (Err n) w w1
    unfolding Means mean
    when_refused n e taken es t el S =
        let T = when_tree t S in
        let P = when_split t S in
        subst (λ x. At (M es x) o (Err n) w w1) (sym T.is)
        (choice_refused (M es T.c) (M es T.a) (M es T.b) o w w1 r1 (A1 taken es T.c el P.first) n e)

    module _ (n : ℕ) (s : Option Bool) (e1 : r1 ≡ Ok n) (es' : side_by s ≡ side_of (take n (drop o w1))) where
      pub when_took_first : s ≡ Some true → (w2 : List ℕ) (r2 : Result ℕ Refusal) → Means image list m l o r2 w1 w2 → Means image list start end o r2 w w2
      unfolding Means mean
      when_took_first q w2 r2 A2 taken es t el S =
          let T = when_tree t S in
          let P = when_split t S in
          subst (λ x. At (M es x) o r2 w w2) (sym T.is)
          (choice_first (M es T.c) (M es T.a) (M es T.b) o w w1 r1 (A1 taken es T.c el P.first) n s e1 es' q w2 r2 (A2 taken es T.a el P.second))

      pub when_took_second : s ≡ Some false → (w2 : List ℕ) (r2 : Result ℕ Refusal) → Means image list l end o r2 w1 w2 → Means image list start end o r2 w w2
      unfolding Means mean
      when_took_second q w2 r2 A2 taken es t el S =
          let T = when_tree t S in
          let P = when_split t S in
          subst (λ x. At (M es x) o r2 w w2) (sym T.is)
          (choice_second (M es T.c) (M es T.a) (M es T.b) o w w1 r1 (A1 taken es T.c el P.first) n s e1 es' q w2 r2 (A2 taken es T.b el P.third))

      pub when_took_neither : s ≡ None → Means image list start end o (Err refusal.Choice) w w1
      unfolding Means mean
      when_took_neither q taken es t el S =
          let T = when_tree t S in
          let P = when_split t S in
          subst (λ x. At (M es x) o (Err refusal.Choice) w w1) (sym T.is)
          (choice_neither (M es T.c) (M es T.a) (M es T.b) o w w1 r1 (A1 taken es T.c el P.first) n s e1 es' q)
