-- Calls that give values (document 01, section 5).
use Rattle.std.specs.Prelude.{◌≡◌, List, [], ◌∷◌, ℕ}
use Rattle.common.specs.Answer.{Value, Answer}
use Rattle.common.specs.Answer.Answer.{value}
use Rattle.tree.specs.Values.{IsValue}
use Rattle.meaning.specs.Mean.{Calls}
use Rattle.meaning.specs.Real.{Cipher}

-- an answer that is a value, if it is one at all
abbrev pub Valued : Answer → Type 0
Valued r = (v : Value) → r ≡ value v → IsValue v

-- of values the calls make values
pub record CallsValued (C : Calls) : Type 0 where
  pub one_valued : (k : ℕ) (x : Value) → IsValue x → Valued (C.of_one k x)
  pub two_valued : (k : ℕ) (x y : Value) → IsValue x → IsValue y → Valued (C.of_two k x y)
  pub three_valued : (k : ℕ) (x y z : Value) → IsValue x → IsValue y → IsValue z → Valued (C.of_three k x y z)
  pub four_valued : (k : ℕ) (x y z w : Value) → IsValue x → IsValue y → IsValue z → IsValue w → Valued (C.of_four k x y z w)

unfoldable pub AllValues : List Value → Type 0
AllValues [] = Unit {0}
AllValues (v ∷ vs) = IsValue v × AllValues vs

-- of values a cipher call makes a value
abbrev pub CipherValued : Cipher → Type 0
CipherValued cipher = (f suite : ℕ) (arguments : List Value) → AllValues arguments → Valued (cipher f suite arguments)
