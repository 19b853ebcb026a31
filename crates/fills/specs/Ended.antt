-- Where a filled text ends, and what is answered there (document 003, Annex Б; document 01, section 4).
use Rattle.std.specs.Prelude.{Option, Some, None, ℕ, zero, suc, take}
use Rattle.common.specs.Answer.{Value, Answer}
use Rattle.common.specs.Answer.Answer.{value, refused}

-- the text is what is before its end; with no end it is refused
unfoldable pub ended : Option ℕ → Value → Answer
ended None p = refused 8
ended (Some m) p = value (take m p)

-- an end with no byte before it is none
unfoldable pub some_length : ℕ → Option ℕ
some_length zero = None
some_length (suc m) = Some (suc m)
