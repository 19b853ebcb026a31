-- Values, answers and their delivery (document 01, sections 5 and 7).
use Rattle.std.specs.Prelude.{List, ◌++◌, ℕ, leb, length, drop}
use Rattle.common.specs.Choice.{pick}

-- section 5: a value is 0 to 1,024 bytes
abbrev pub Value : Type 0
Value = List ℕ

-- section 7: a value, or the one number that the table gives
pub data Answer : Type 0 where
  value : Value → Answer
  refused : ℕ → Answer

-- section 5: the first refusal is the answer
unfoldable pub then : Answer → (Value → Answer) → Answer
then (value v) f = f v
then (refused n) f = refused n

-- what a caller sees: the number, the length, and every byte of the output room afterwards
pub record Delivered : Type 0 where
  pub number : ℕ
  pub count : ℕ
  pub out : List ℕ

-- a refusal has length 0 and changes no output byte
unfoldable pub refusal : ℕ → List ℕ → Delivered
refusal n out = record { number = n; count = 0; out = out }

-- section 7: done has the length and that many leading bytes, later bytes unchanged; 9 where the output is shorter than the answer
unfoldable pub deliver : Answer → List ℕ → Delivered
deliver (value v) out = pick (leb (length v) (length out)) (record { number = 0; count = length v; out = v ++ drop (length v) out }) (refusal 9 out)
deliver (refused n) out = refusal n out
