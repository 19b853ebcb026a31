-- All that preparing and running give back (document 01, section 7).
use Rattle.std.specs.Prelude.{List, ◌++◌, ℕ, ltb, length, drop, replicate}
use Rattle.common.specs.Choice.{pick}
use Rattle.common.specs.Answer.{Delivered, refusal}

pub record Outcome : Type 0 where
  pub number : ℕ
  pub count : ℕ  -- the length given back
  pub place : ℕ
  pub out : List ℕ
  pub work : List ℕ

-- the first n bytes zero, bytes beyond unchanged
unfoldable pub zeroed : ℕ → List ℕ → List ℕ
zeroed n w = replicate n 0 ++ drop n w

-- its first 65,536 bytes are zero after every answer but 14
unfoldable pub cleared : List ℕ → List ℕ
cleared w = zeroed 65536 w

unfoldable pub outcome : Delivered → ℕ → List ℕ → Outcome
outcome d place work = record { number = d.number; count = d.count; place = place; out = d.out; work = work }

-- 14, work room under 65,536 bytes, which changes nothing; else the answer
unfoldable pub in_room : List ℕ → List ℕ → Delivered → ℕ → Outcome
in_room out work d place = pick (ltb (length work) 65536) (outcome (refusal 14 out) 0 work) (outcome d place (cleared work))
