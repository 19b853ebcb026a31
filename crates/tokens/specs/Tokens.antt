-- What each piece of a text says (document 01, sections 5 and 7), by the definitions of reading.
use Rattle.std.specs.Prelude.{Bool, true, false, List, ◌≡◌, ℕ, ◌+◌, ◌-◌, ◌*◌, leb, ltb, length, take, drop, get_or, zero, suc, Option, Some, None, Result, Ok, Err}
use Rattle.common.specs.Choice.{pick}
use Rattle.tree.specs.Calls.{calls}
use Rattle.texts.specs.Spelling.{Found}
use Rattle.texts.specs.Spelling.Found.{known, unknown}
use Rattle.texts.specs.Reading as reading
use Rattle.texts.specs.Reading.{run_of, is_letter, is_hex, hex_value, due_at, call_in}
use Rattle.texts.specs.Reading.Due.{stands, missing}
use Rattle.texts.specs.Packed.{call_by}
use Rattle.answers.specs.declared.Fault.{Fault}
use Rattle.answers.specs.declared.Refusal.TheVariants.{Syntax}
use Rattle.tokens.specs.declared.Call.{Call}
use Rattle.tokens.specs.declared.Call.TheVariants.{Plain as InPlain, Cipher as InCipher}
use Rattle.tokens.specs.declared.Head.{Head}

-- 20, and its place
abbrev pub syntax_at : ℕ → Fault
syntax_at w = record { refusal = Syntax; place = w }

abbrev pub Judged : Type 0
Judged = Result (Unit {0}) Fault

abbrev pub Stands : Judged
Stands = Ok tt

abbrev pub Missing : ℕ → Judged
Missing w = Err (syntax_at w)

unfoldable pub due_is : reading.Due → Judged
due_is stands = Stands
due_is (missing w) = Missing w

-- a number below a bound; none at the bound
unfoldable pub some_below : ℕ → ℕ → Option ℕ
some_below top n = pick (ltb n top) (Some n) None

-- 0 is none
unfoldable pub some_if : ℕ → Option ℕ
some_if zero = None
some_if (suc n) = Some (suc n)

-- a digit's value, 16 for any other byte
unfoldable pub digit_of : ℕ → ℕ
digit_of b = pick (is_hex b) (hex_value b) 16

unfoldable pub digit_at : List ℕ → ℕ → ℕ
digit_at s p = pick (leb (length s) p) 16 (digit_of (get_or s p 0))

-- the byte of a pair of digits, 256 where no pair stands
unfoldable pub pair_of : List ℕ → ℕ → ℕ
pair_of s p = pick (leb 16 (digit_at s p)) 256 (pick (leb 16 (digit_at s (p + 1))) 256 (16 * digit_at s p + digit_at s (p + 1)))

-- a letter, 0 where none stands
unfoldable pub letter_of : ℕ → ℕ
letter_of b = pick (is_letter b) b 0

unfoldable pub letter_at : List ℕ → ℕ → ℕ
letter_at s p = pick (leb (length s) p) 0 (letter_of (get_or s p 0))

-- one more letter, while six fit a number of 48 bits
unfoldable pub more_of : ℕ → ℕ → ℕ
more_of w b = pick (ltb w 1099511627776) (w * 256 + b) w

-- the longest run of letters from p on, and a number that names the same row
pub record Lettered (s : List ℕ) (p count word : ℕ) : Type 0 where
  pub longest : count ≡ run_of is_letter (drop p s)
  pub names : call_by calls word ≡ call_in calls (take count (drop p s))

abbrev pub Plain : ℕ → ℕ → Option Call
Plain k c = Some (InPlain k c)

abbrev pub Cipher : ℕ → ℕ → Option Call
Cipher k c = Some (InCipher k c)

unfoldable pub row_is : Bool → ℕ → ℕ → Option Call
row_is false k c = Plain k c
row_is true k c = Cipher k c

unfoldable pub call_is : Found → Option Call
call_is (known r) = row_is r.suited r.kind r.arguments
call_is unknown = None

-- an opened call, or the place of 20
abbrev pub Opening : Type 0
Opening = Result Head Fault

abbrev pub Opens : ℕ → ℕ → ℕ → Opening
Opens k c q = Ok (record { kind = k; arguments = c; place = q })

abbrev pub Not : ℕ → Opening
Not w = Err (syntax_at w)

unfoldable pub head_due : reading.Due → Opening → Opening
head_due stands h = h
head_due (missing w) h = Not w

-- a `.` and a suite digit 1 to 5
unfoldable pub suite_head : List ℕ → ℕ → ℕ → ℕ → Opening
suite_head s k c q = head_due (due_at s 46 46 q) (head_due (due_at s 49 53 (q + 1)) (Opens (k + (get_or s (q + 1) 0 - 48)) c (q + 2)))

unfoldable pub head_of : List ℕ → Option Call → ℕ → ℕ → Opening
head_of s (Some (InPlain k c)) p q = Opens k c q
head_of s (Some (InCipher k c)) p q = suite_head s k c q
head_of s None p q = Not p

-- the letters from p on, judged where they end
unfoldable pub head_at : List ℕ → ℕ → Opening
head_at s p = head_of s (call_is (call_in calls (take (run_of is_letter (drop p s)) (drop p s)))) p (p + run_of is_letter (drop p s))
