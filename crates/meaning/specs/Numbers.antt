-- Refusals that have a number of the table (document 01, section 7): 0 is for done alone.
use Rattle.std.specs.Prelude.{◌≡◌, List, ℕ}
use Rattle.common.specs.Answer.{Value, Answer}
use Rattle.common.specs.Answer.Answer.{refused}
use Rattle.meaning.specs.Mean.{Calls}
use Rattle.meaning.specs.Real.{Cipher}

abbrev pub Numbered : Answer → Type 0
Numbered r = (n : ℕ) → r ≡ refused n → n ≡ 0 → ⊥

pub record CallsNumbered (C : Calls) : Type 0 where
  pub one_numbered : (k : ℕ) (x : Value) → Numbered (C.of_one k x)
  pub two_numbered : (k : ℕ) (x y : Value) → Numbered (C.of_two k x y)
  pub three_numbered : (k : ℕ) (x y z : Value) → Numbered (C.of_three k x y z)
  pub four_numbered : (k : ℕ) (x y z w : Value) → Numbered (C.of_four k x y z w)

abbrev pub CipherNumbered : Cipher → Type 0
CipherNumbered cipher = (f suite : ℕ) (arguments : List Value) → Numbered (cipher f suite arguments)
