-- A list as kinds and values, or none (document 01, section 6; 27, bad list).
use Rattle.std.specs.Prelude.{Bool, true, false, List, [], ◌∷◌, ℕ, zero, suc, ◌+◌, eqb, leb, length, drop}
use Rattle.common.specs.Choice.{pick}
use Rattle.common.specs.Answer.{Value}
use Rattle.records.specs.Record.{Front, front_of}
use Rattle.records.specs.Record.Front.{front, cut}

pub record Entry : Type 0 where
  pub kind : ℕ
  pub held : Value

unfoldable pub entry : ℕ → Value → Entry
entry k v = record { kind = k; held = v }

pub data Listed : Type 0 where
  listed : List Entry → Listed
  bad_list : Listed

unfoldable pub between : ℕ → ℕ → ℕ → Bool
between lo hi k = pick (leb lo k) (leb k hi) false

-- 0200+n for `#`
abbrev pub bound_list : ℕ
bound_list = 0x0200

-- 0300+n for `$`
abbrev pub row_list : ℕ
row_list = 0x0300

-- 0400+n for `@`
abbrev pub run_list : ℕ
run_list = 0x0400

-- preparing takes only 02xx: `#0` to `#3`
unfoldable pub preparing : ℕ → Bool
preparing k = between bound_list (bound_list + 3) k

-- running takes only 03xx and 04xx: `$0` to `$7`, `@0` to `@3`
unfoldable pub running : ℕ → Bool
running k = pick (between row_list (row_list + 7) k) true (between run_list (run_list + 3) k)

-- whether a kind is among those met
unfoldable pub among : List ℕ → ℕ → Bool
among [] k = false
among (j ∷ met) k = pick (eqb j k) true (among met k)

unfoldable pub with_first : Entry → Listed → Listed
with_first e (listed es) = listed (e ∷ es)
with_first e bad_list = bad_list

-- a kind that is taken, none twice; a payload of at most 1,024 bytes
unfoldable pub then_entry : (ℕ → Bool) → List ℕ → Front → (ℕ → Value → Listed) → Listed
then_entry taken met (front k v) f = pick (taken k) (pick (among met k) bad_list (pick (leb (length v) 1024) (f k v) bad_list)) bad_list
then_entry taken met cut f = bad_list

-- record by record, at most n of them; `met` are the kinds before
unfoldable pub walk : (ℕ → Bool) → ℕ → List ℕ → List ℕ → Listed
walk taken zero met s = pick (eqb (length s) 0) (listed []) bad_list
walk taken (suc n) met s =
    pick (eqb (length s) 0) (listed []) (then_entry taken met (front_of s) (λ k v. with_first (entry k v) (walk taken n (k ∷ met) (drop (4 + length v) s))))

-- the empty list is good; a list has fewer records than bytes
unfoldable pub list_of : (ℕ → Bool) → List ℕ → Listed
list_of taken s = walk taken (length s) [] s
