-- Two answers in a slot that meet one statement are equal: what is told, what stands below o, the value's bytes.
use mathlib.Core.Path.{◌≡◌, ap, sym, ◌∙◌}
use mathlib.Core.List.{List}
use Prim.Native.Nat.{ℕ}
use lib.ListN.{take, drop}
use Rattle.std.specs.Prelude.{Result, Ok, Err}
use Rattle.common.specs.Answer.{Value, Answer}
use Rattle.common.specs.Answer.Answer.{value, refused}
use Rattle.answers.specs.declared.Refusal.{Refusal}
use Rattle.answers.proofs.Cases.{one_refusal}
use Rattle.slots.specs.Slots.{Tells, At}
use Rattle.slots.proofs.Standing.{has_of}

-- an answer is told in one way
pub one_telling : (x : Answer) (r q : Result ℕ Refusal) → Tells x r → Tells x q → r ≡ q
unfolding Tells
one_telling (value v) r q a b = a ∙ sym b
one_telling (refused n) r q a b = a.1 ∙ ap Err (one_refusal a.0 b.0 (a.2 ∙ sym b.2)) ∙ sym b.1

module _ (x : Answer) (o : ℕ) (r q : Result ℕ Refusal) (w a b : List ℕ) (A : At x o r w a) (B : At x o q w b) where
  pub told_unique : r ≡ q
  told_unique = one_telling x r q A.says B.says

  pub kept_unique : take o a ≡ take o b
  kept_unique = A.kept ∙ sym B.kept

  same_value : {v u : Value} → value v ≡ value u → v ≡ u
  same_value e = cc

  pub bytes_unique : (n : ℕ) → r ≡ Ok n → take n (drop o a) ≡ take n (drop o b)
  bytes_unique n e =
      let H = has_of x o n r w a A e in
      let G = has_of x o n q w b B (sym told_unique ∙ e) in
      H.bytes ∙ same_value (sym H.is ∙ G.is) ∙ sym G.bytes
