-- An answer in the work room: its value stands in a slot of 1,024 bytes (document 01, section 5: a value is 0 to 1,024 bytes).
use Rattle.std.specs.Prelude.{◌≡◌, List, ℕ, ◌≤◌, Result, Ok, Err, length, take, drop}
use Rattle.common.specs.Answer.{Answer}
use Rattle.common.specs.Answer.Answer.{value, refused}
use Rattle.answers.specs.declared.Refusal.{Refusal}
use Rattle.answers.specs.Told.{table}

-- what is told of an answer: the length of its value, or the refusal that has its number
unfoldable pub Tells : Answer → Result ℕ Refusal → Type 0
Tells (value v) r = r ≡ Ok (length v)
Tells (refused n) r = (e : Refusal) × (r ≡ Err e) × (table e ≡ n)

-- the value of an answer stands at o
unfoldable pub Holds : Answer → List ℕ → ℕ → Type 0
Holds (value v) w o = (length v ≤ 1024) × (take (length v) (drop o w) ≡ v)
Holds (refused n) w o = Unit {0}

-- an answer in the slot at o of the work room: what is told of it, what stands below o, the value's bytes
pub record At (x : Answer) (o : ℕ) (r : Result ℕ Refusal) (before after : List ℕ) : Type 0 where
  pub says : Tells x r
  pub kept : take o after ≡ take o before
  pub holds : Holds x after o
