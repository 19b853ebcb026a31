-- The value of a kind, found by walking the list's bytes record by record (document 01, section 6).
use Rattle.std.specs.Prelude.{List, ℕ, zero, suc, ◌+◌, eqb, length, drop}
use Rattle.common.specs.Choice.{pick}
use Rattle.common.specs.Answer.{Value}
use Rattle.tree.specs.Names.{Given}
use Rattle.tree.specs.Names.Given.{given, nothing}
use Rattle.records.specs.Record.{Front, front_of}
use Rattle.records.specs.Record.Front.{front, cut}

unfoldable pub if_kind : ℕ → Front → (Value → Given) → Given
if_kind k (front j v) more = pick (eqb j k) (given v) (more v)
if_kind k cut more = nothing

-- at most n records
unfoldable pub seek : ℕ → List ℕ → ℕ → Given
seek zero s k = nothing
seek (suc n) s k = if_kind k (front_of s) (λ v. seek n (drop (4 + length v) s) k)
