-- The fill (document 003, Annex Б; document 01, section 4).
use Rattle.std.specs.Prelude.{List, ◌∷◌, ◌++◌, ℕ, zero, suc, ◌+◌, ◌-◌, ◌%◌, eqb, get_or, take, length, replicate}
use Rattle.common.specs.Choice.{pick}
use Rattle.common.specs.Answer.{Value, Answer}
use Rattle.common.specs.Answer.Answer.{value, refused}

-- Б.2: 80, then 00 up to a block end, always at least the 80
unfoldable pub fill : ℕ → List ℕ → List ℕ
fill B text = text ++ (0x80 ∷ replicate (B - 1 - length text % B) 0)

-- the 80 stands at place m: the text is what is before; a fill over an empty text is refused
unfoldable pub marked : ℕ → Value → Answer
marked m p = pick (eqb m 0) (refused 8) (value (take m p))

-- b stands at place m: the 80, or a 00 that is passed over, or no fill
unfoldable pub unfill_at : ℕ → ℕ → Value → Answer → Answer
unfill_at m b p rest = pick (eqb b 0x80) (marked m p) (pick (eqb b 0) rest (refused 8))

-- back through the k bytes from place m on
unfoldable pub unfill_from : ℕ → ℕ → Value → Answer
unfill_from m zero p = refused 8
unfill_from m (suc k) p = unfill_at (m + k) (get_or p (m + k) 0) p (unfill_from m k p)

-- Б.3 by the house rule: the 80 is looked for in the last block only
unfoldable pub unfill : ℕ → Value → Answer
unfill B p = unfill_from (length p - B) B p
