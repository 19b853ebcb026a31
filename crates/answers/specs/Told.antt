-- What a result stands for (document 01, section 7): the number, the length, and with the output's bytes all that a caller sees.
use Rattle.std.specs.Prelude.{List, ℕ, Result, Ok, Err}
use Rattle.common.specs.Answer.{Delivered}
use Rattle.answers.specs.declared.Refusal.{Refusal}
use Rattle.answers.specs.declared.Refusal.TheVariants as refusal
use Rattle.answers.specs.declared.Fault.{Fault}

-- section 7: the numbers of the table
unfoldable pub table : Refusal → ℕ
table refusal.Suite = 1
table refusal.Key = 2
table refusal.Iv = 3
table refusal.Empty = 4
table refusal.Partial = 5
table refusal.Long = 6
table refusal.Tag = 7
table refusal.Fill = 8
table refusal.Room = 9
table refusal.Unequal = 10
table refusal.Choice = 11
table refusal.Short = 12
table refusal.Wrap = 13
table refusal.Work = 14
table refusal.Syntax = 20
table refusal.Text = 21
table refusal.Deep = 22
table refusal.Many = 23
table refusal.Absent = 25
table refusal.Image = 26
table refusal.List = 27
table refusal.Form = 28

unfoldable pub fault_number : Fault → ℕ
fault_number f = table f.refusal

-- 0, done
unfoldable pub number_by : {E : Type 0} → (E → ℕ) → Result ℕ E → ℕ
number_by f (Ok n) = 0
number_by f (Err e) = f e

-- a refusal has length 0
unfoldable pub count_of : {E : Type 0} → Result ℕ E → ℕ
count_of (Ok n) = n
count_of (Err e) = 0

unfoldable pub number_of : Result ℕ Refusal → ℕ
number_of t = number_by table t

unfoldable pub told_of : Result ℕ Refusal → List ℕ → Delivered
told_of t out = record { number = number_of t; count = count_of t; out = out }
