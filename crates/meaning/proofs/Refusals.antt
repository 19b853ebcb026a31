-- A refusal of a recipe has a number of the table, never 0.
use mathlib.Core.Path.{◌≡◌, ◌∙◌}
use mathlib.Core.Bool.{Bool, true, false}
use mathlib.Core.List.{[], ◌∷◌, ◌++◌}
use Prim.Native.Nat.{ℕ}
use native.Mathlib.Omega.{arith}
use lib.ListN.{take}
use Rattle.common.specs.Choice.{pick}
use Rattle.common.specs.Answer.{Value, Answer, then}
use Rattle.common.specs.Answer.Answer.{value, refused}
use Rattle.tree.specs.Tree.{Tree}
use Rattle.tree.specs.Tree.Tree.{literal, bound, row, run, one, two, three, four, when}
use Rattle.tree.specs.Names.{Given, Binding, Running}
use Rattle.tree.specs.Names.Given.{given, nothing}
use Rattle.meaning.specs.Mean.{Calls, named, Side, side_of, chosen, mean}
use Rattle.meaning.specs.Mean.Side.{first, second, neither}
use Rattle.meaning.specs.Real.{cat, xor, eq, head, Cipher, ciphered, real_two, real}
use Rattle.meaning.specs.Numbers.{Numbered, CallsNumbered, CipherNumbered}

value_numbered : (v : Value) → Numbered (value v)
value_numbered v n e q = let z : ◌≡◌ {A = ℕ} 0 1 = cc in omega arith

pub same_number : {m n : ℕ} → refused m ≡ refused n → m ≡ n
same_number e = cc

pub refused_numbered : (m : ℕ) → (m ≡ 0 → ⊥) → Numbered (refused m)
refused_numbered m h n e q = h (same_number e ∙ q)

pick_numbered : (b : Bool) (r s : Answer) → Numbered r → Numbered s → Numbered (pick b r s)
unfolding pick
pick_numbered true r s hr hs = hr
pick_numbered false r s hr hs = hs

named_numbered : (g : Given) → Numbered (named g)
unfolding named
named_numbered (given v) = value_numbered v
named_numbered nothing = refused_numbered 25 (λ q. omega arith)

chosen_numbered : (s : Side) (a b : Answer) → Numbered a → Numbered b → Numbered (chosen s a b)
unfolding chosen
chosen_numbered first a b ha hb = ha
chosen_numbered second a b ha hb = hb
chosen_numbered neither a b ha hb = refused_numbered 11 (λ q. omega arith)

then_numbered : (r : Answer) (f : Value → Answer) → Numbered r → ((x : Value) → Numbered (f x)) → Numbered (then r f)
unfolding then
then_numbered (value x) f hr hf = hf x
then_numbered (refused n) f hr hf = hr

module _ (C : Calls) (K : Binding) (E : Running) (h : CallsNumbered C) where
  pub mean_numbered : (t : Tree) → Numbered (mean C K E t)
  unfolding mean
  mean_numbered (literal v) = value_numbered v
  mean_numbered (bound n) = named_numbered (K n)
  mean_numbered (row n) = named_numbered (E.rows n)
  mean_numbered (run n) = named_numbered (E.runs n)
  mean_numbered (one k a) = then_numbered (mean C K E a) _ (mean_numbered a) λ x. h.one_numbered k x
  mean_numbered (two k a b) =
      then_numbered (mean C K E a) _ (mean_numbered a) λ x.
      then_numbered (mean C K E b) _ (mean_numbered b) λ y. h.two_numbered k x y
  mean_numbered (three k a b c) =
      then_numbered (mean C K E a) _ (mean_numbered a) λ x.
      then_numbered (mean C K E b) _ (mean_numbered b) λ y.
      then_numbered (mean C K E c) _ (mean_numbered c) λ z. h.three_numbered k x y z
  mean_numbered (four k a b c d) =
      then_numbered (mean C K E a) _ (mean_numbered a) λ x.
      then_numbered (mean C K E b) _ (mean_numbered b) λ y.
      then_numbered (mean C K E c) _ (mean_numbered c) λ z.
      then_numbered (mean C K E d) _ (mean_numbered d) λ w. h.four_numbered k x y z w
  mean_numbered (when c a b) =
      then_numbered (mean C K E c) _ (mean_numbered c) λ x.
      chosen_numbered (side_of x) (mean C K E a) (mean C K E b) (mean_numbered a) (mean_numbered b)

head_numbered : (a b : Value) → Numbered (head a b)
unfolding head
head_numbered [] b = refused_numbered 12 (λ q. omega arith)
head_numbered (n ∷ []) b = pick_numbered _ _ _ (value_numbered (take n b)) (refused_numbered 12 (λ q. omega arith))
head_numbered (n ∷ (m ∷ r)) b = refused_numbered 12 (λ q. omega arith)

two_numbered_lem : (cipher : Cipher) → CipherNumbered cipher → (k : ℕ) (a b : Value) → Numbered (real_two cipher k a b)
unfolding real_two cat xor eq ciphered
two_numbered_lem cipher h k a b =
    pick_numbered _ _ _ (pick_numbered _ _ _ (value_numbered (a ++ b)) (refused_numbered 6 (λ q. omega arith)))
    (pick_numbered _ _ _ (pick_numbered _ _ _ (value_numbered _) (refused_numbered 10 (λ q. omega arith)))
    (pick_numbered _ _ _ (value_numbered _) (pick_numbered _ _ _ (head_numbered a b) (h _ _ _))))

pub real_numbered : (cipher : Cipher) → CipherNumbered cipher → CallsNumbered (real cipher)
unfolding real ciphered
real_numbered cipher h =
    record {
      one_numbered = λ k x. h _ _ _;
      two_numbered = λ k x y. two_numbered_lem cipher h k x y;
      three_numbered = λ k x y z. h _ _ _;
      four_numbered = λ k x y z w. h _ _ _;
    }
