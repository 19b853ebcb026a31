-- What a call told and wrote, left in the work room: its bytes from o on, or nothing where it refused.
use Rattle.std.specs.Prelude.{List, ◌++◌, ℕ, ◌+◌, Result, Ok, Err, take, drop}
use Rattle.answers.specs.declared.Refusal.{Refusal}

unfoldable pub left_of : Result ℕ Refusal → List ℕ → List ℕ → ℕ → List ℕ
left_of (Ok n) out work o = take o work ++ (take n out ++ drop (o + n) work)
left_of (Err e) out work o = work
