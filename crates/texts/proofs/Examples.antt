-- Texts with what reading them gives: both sides of each rule of sections 5 and 7.
use mathlib.Core.Bool.{Bool}
use mathlib.Core.List.{List, [], ◌∷◌, ◌++◌}
use mathlib.Core.Path.{◌≡◌, refl}
use Prim.Native.Nat.{ℕ, zero, suc, ◌+◌, ◌*◌}
use Prim.Native.Char.{code}
use Prim.Native.String.{String, [] as none, ◌∷◌ as ◌∷ᶜ◌}
use lib.Dec.{eqb}
use lib.ListN.{replicate}
use Rattle.common.specs.Choice.{pick}
use Rattle.common.specs.Places.{tab}
use Rattle.tree.specs.Tree.{Tree}
use Rattle.tree.specs.Tree.Tree.{literal, bound, row, run, two, three, when}
use Rattle.tree.specs.Calls.{calls, plain, cipher}
use Rattle.tree.specs.Bounds.{of_row}
use Rattle.tree.specs.Reading.{Read}
use Rattle.tree.specs.Reading.Read.{got, wrong}
use Rattle.texts.specs.Spelling.{spell, pairs, hex_digit, name_of, name_by, row_in, suite_part, listed, width, head_width, name_width}
use Rattle.texts.specs.Unbound.{Place, later, first, unbound_at, unbound_in}
use Rattle.texts.specs.Unbound.Place.{at, nowhere}
use Rattle.texts.specs.Reading.{read_text, take_text, end_at, expr_at, by_start, call_on, named_at, suite_at, list_at, args_at, start_of, call_of, call_in, same, name_at, literal_at, literal_of, pair_at, hex_value, if_due, due_at, run_of, is_hex, is_letter, between, then_part}

-- the bytes of a text
unfoldable pub text : String → List ℕ
text none = []
text (c ∷ᶜ t) = code c ∷ text t

unfoldable pub reads : List ℕ → Read
unfolding
    read_text end_at expr_at by_start call_on named_at suite_at list_at args_at start_of call_of call_in same name_at literal_at literal_of pair_at hex_value if_due due_at run_of is_hex is_letter between
    then_part pick tab calls plain cipher
reads s = read_text s

-- 22 is tested where an expression is due, at the text's end too
due_at_the_end :
    (reads (text "") ≡ wrong 20 0)
    × (reads (text "cat(") ≡ wrong 20 4)
    × (reads (text "cat(cat(cat(cat(cat(cat(cat(cat(cat(cat(cat(cat(cat(cat(cat(cat(") ≡ wrong 22 64)
unfolding text reads
due_at_the_end = (refl, refl, refl)

-- an unknown name at its first letter, judged where its letters end
call_names :
    (reads (text "ca") ≡ wrong 20 0)
    × (reads (text "cat") ≡ wrong 20 3)
    × (reads (text "catx(") ≡ wrong 20 0)
    × (reads (text "cat1(") ≡ wrong 20 3)
    × (reads (text "catA(") ≡ wrong 20 3)
    × (reads (text "caT(") ≡ wrong 20 0)
    × (reads (text "Cat(") ≡ wrong 20 0)
    × (reads (text "cat('',ca") ≡ wrong 20 7)
    × (reads (text "cat('',whenever(") ≡ wrong 20 7)
unfolding text reads
call_names = (refl, refl, refl, refl, refl, refl, refl, refl, refl)

-- a `.` and a suite digit after a cipher name, and after no other
suites :
    (reads (text "cat.1('','')") ≡ wrong 20 3)
    × (reads (text "ctr('','','')") ≡ wrong 20 3)
    × (reads (text "ctr.0(") ≡ wrong 20 4)
    × (reads (text "ctr.6(") ≡ wrong 20 4)
    × (reads (text "ctr.x(") ≡ wrong 20 4)
    × (reads (text "ctr.(") ≡ wrong 20 4)
    × (reads (text "ctr") ≡ wrong 20 3)
    × (reads (text "ctr.") ≡ wrong 20 4)
    × (reads (text "ctr.1") ≡ wrong 20 5)
    × (reads (text "ctr.12(") ≡ wrong 20 5)
unfolding text reads
suites = (refl, refl, refl, refl, refl, refl, refl, refl, refl, refl)

-- pairs of upper-case digits between quotes
literals :
    (reads (text "''") ≡ got (literal []))
    × (reads (text "'0F9A'") ≡ got (literal (0x0F ∷ 0x9A ∷ [])))
    × (reads (text "'4142'") ≡ got (literal (0x41 ∷ 0x42 ∷ [])))
    × (reads (text "'4'") ≡ wrong 20 2)
    × (reads (text "'414'") ≡ wrong 20 4)
    × (reads (text "'4a'") ≡ wrong 20 2)
    × (reads (text "'a1'") ≡ wrong 20 1)
    × (reads (text "'4G'") ≡ wrong 20 2)
    × (reads (text "'4 1'") ≡ wrong 20 2)
    × (reads (text "'") ≡ wrong 20 1)
    × (reads (text "'4") ≡ wrong 20 2)
    × (reads (text "'41") ≡ wrong 20 3)
    × (reads (text "''''") ≡ wrong 20 2)
unfolding text reads
literals = (refl, refl, refl, refl, refl, refl, refl, refl, refl, refl, refl, refl, refl)

-- too few arguments at the `)`, too many at the extra `,`; after the root only the end
counts :
    (reads (text "cat('')") ≡ wrong 20 6)
    × (reads (text "cat()") ≡ wrong 20 4)
    × (reads (text "cat('','','')") ≡ wrong 20 9)
    × (reads (text "when('','')") ≡ wrong 20 10)
    × (reads (text "when('','','','')") ≡ wrong 20 13)
    × (reads (text "ctr.1('','')") ≡ wrong 20 11)
    × (reads (text "''x") ≡ wrong 20 2)
    × (reads (text "'' ") ≡ wrong 20 2)
    × (reads (text "'','')") ≡ wrong 20 2)
    × (reads (text "cat('','')cat('','')") ≡ wrong 20 10)
unfolding text reads
counts = (refl, refl, refl, refl, refl, refl, refl, refl, refl, refl)

-- a name's digit out of range: at the digit
names_of_values :
    (reads (text "#0") ≡ got (bound 0))
    × (reads (text "#3") ≡ got (bound 3))
    × (reads (text "$0") ≡ got (row 0))
    × (reads (text "$7") ≡ got (row 7))
    × (reads (text "@0") ≡ got (run 0))
    × (reads (text "@3") ≡ got (run 3))
    × (reads (text "#4") ≡ wrong 20 1)
    × (reads (text "$8") ≡ wrong 20 1)
    × (reads (text "@4") ≡ wrong 20 1)
    × (reads (text "#") ≡ wrong 20 1)
    × (reads (text "$/") ≡ wrong 20 1)
    × (reads (text "@x") ≡ wrong 20 1)
    × (reads (text "#00") ≡ wrong 20 2)
unfolding text reads
names_of_values = (refl, refl, refl, refl, refl, refl, refl, refl, refl, refl, refl, refl, refl)

-- what no rule allows
no_blanks :
    (reads (text " ''") ≡ wrong 20 0)
    × (reads (text "cat('', '')") ≡ wrong 20 7)
    × (reads (text "cat ('','')") ≡ wrong 20 3)
    × (reads (text "(") ≡ wrong 20 0)
    × (reads (text ")") ≡ wrong 20 0)
    × (reads (text "0") ≡ wrong 20 0)
unfolding text reads
no_blanks = (refl, refl, refl, refl, refl, refl)

e : Tree
e = literal []

-- the five plain calls
plain_calls :
    (reads (text "cat('','')") ≡ got (two 0x0010 e e))
    × (reads (text "xor('','')") ≡ got (two 0x0011 e e))
    × (reads (text "eq('','')") ≡ got (two 0x0012 e e))
    × (reads (text "head('','')") ≡ got (two 0x0013 e e))
    × (reads (text "when('','','')") ≡ got (when e e e))
unfolding text reads e
plain_calls = (refl, refl, refl, refl, refl)

-- a cipher call with each of the suites 1 to 5
five : (ℕ → Read) → List Read
five f = f 1 ∷ f 2 ∷ f 3 ∷ f 4 ∷ f 5 ∷ []

called : String → String → ℕ → Read
unfolding text reads
called letters list d = reads (text letters ++ 46 ∷ (48 + d) ∷ text list)

twos : ℕ → ℕ → Read
unfolding e
twos k d = got (two (k + d) e e)

threes : ℕ → ℕ → Read
unfolding e
threes k d = got (three (k + d) e e e)

-- the twelve cipher calls, each with its five suites: kind 0100 + 16f + suite
cipher_calls :
    (five (called "blk" "('','')") ≡ five (twos 0x0100))
    × (five (called "unblk" "('','')") ≡ five (twos 0x0110))
    × (five (called "ctr" "('','','')") ≡ five (threes 0x0120))
    × (five (called "ofb" "('','','')") ≡ five (threes 0x0130))
    × (five (called "cfb" "('','','')") ≡ five (threes 0x0140))
    × (five (called "uncfb" "('','','')") ≡ five (threes 0x0150))
    × (five (called "cbc" "('','','')") ≡ five (threes 0x0160))
    × (five (called "uncbc" "('','','')") ≡ five (threes 0x0170))
    × (five (called "cbp" "('','','')") ≡ five (threes 0x0180))
    × (five (called "uncbp" "('','','')") ≡ five (threes 0x0190))
    × (five (called "mac" "('','')") ≡ five (twos 0x01A0))
    × (five (called "chk" "('','','')") ≡ five (threes 0x01B0))
unfolding five called twos threes
cipher_calls = (refl, refl, refl, refl, refl, refl, refl, refl, refl, refl, refl, refl)

-- n calls around a literal: depth n + 1
deep : ℕ → List ℕ
unfolding text
deep zero = text "''"
deep (suc n) = text "cat(" ++ (deep n ++ text ",'')")

deep_tree : ℕ → Tree
unfolding e
deep_tree zero = e
deep_tree (suc n) = two 0x0010 (deep_tree n) e

depth_16 : reads (deep 15) ≡ got (deep_tree 15)
unfolding reads deep deep_tree
depth_16 = refl

depth_17 : reads (deep 16) ≡ wrong 22 64
unfolding reads deep
depth_17 = refl

-- 2 to the n literals: 2 to the n + 1, less 1, nodes
wide : ℕ → List ℕ
unfolding text
wide zero = text "''"
wide (suc n) = text "cat(" ++ (wide n ++ (44 ∷ (wide n ++ text ")")))

wide_tree : ℕ → Tree
unfolding e
wide_tree zero = e
wide_tree (suc n) = two 0x0010 (wide_tree n) (wide_tree n)

-- 64 nodes
even : List ℕ
unfolding text wide
even = text "when(" ++ (wide 4 ++ (44 ∷ (wide 4 ++ text ",'')")))

even_tree : Tree
unfolding wide_tree e
even_tree = when (wide_tree 4) (wide_tree 4) e

pair_of : List ℕ → List ℕ → List ℕ
unfolding text
pair_of a b = text "cat(" ++ (a ++ (44 ∷ (b ++ text ")")))

node_128 : reads (pair_of (wide 5) even) ≡ got (two 0x0010 (wide_tree 5) even_tree)
unfolding reads pair_of wide even wide_tree even_tree
node_128 = refl

node_129 : reads (pair_of even even) ≡ wrong 23 510
unfolding reads pair_of even
node_129 = refl

-- 128 nodes, and the text ends where the next is due
cut : List ℕ
unfolding text wide even
cut = text "cat(" ++ (even ++ (text ",when(" ++ (wide 4 ++ (44 ∷ (wide 4 ++ text ",")))))

many_at_the_end : reads cut ≡ wrong 23 510
unfolding reads cut
many_at_the_end = refl

-- 128 nodes, and then an expression is due at depth 17
both : List ℕ
unfolding text wide
both =
    text "cat(" ++ (wide 5 ++ (text ",cat(" ++ (wide 4 ++ text ",cat(when('','',''),cat(cat('',''),cat('',cat('',cat('',cat('',cat('',cat('',cat('',cat('',cat('',cat('',cat('',cat(")))

-- 22 goes before 23
deep_before_many : reads both ≡ wrong 22 497
unfolding reads both
deep_before_many = refl

-- a literal of n times the byte AA
unfoldable pub long : ℕ → List ℕ
long n = 39 ∷ (replicate (2 * n) 65 ++ 39 ∷ [])

literal_1025 : reads (long 1025) ≡ wrong 6 0
unfolding reads long
literal_1025 = refl

-- no end, however long: the length
no_end : reads (39 ∷ replicate 2100 65) ≡ wrong 20 2101
unfolding reads
no_end = refl

-- an odd count of digits, however long: the closing quote
odd_end : reads (39 ∷ (replicate 2051 65 ++ 39 ∷ [])) ≡ wrong 20 2052
unfolding reads
odd_end = refl

-- 6 wins over what follows
long_then_bad : reads (text "cat(" ++ (long 1025 ++ text "!")) ≡ wrong 6 4
unfolding reads text long
long_then_bad = refl

-- and loses to what is before
bad_then_long : reads (text "cat('4'," ++ long 1025) ≡ wrong 20 6
unfolding reads text long
bad_then_long = refl

takes : List ℕ → Read
unfolding take_text reads pick
takes s = take_text s

-- 4,096 bytes are read
text_4096 : takes (39 ∷ replicate 4095 65) ≡ wrong 20 4096
unfolding takes
text_4096 = refl

-- one more is not
text_4097 : takes (39 ∷ replicate 4096 65) ≡ wrong 21 0
unfolding takes
text_4097 = refl

spelt : Tree → List ℕ
unfolding spell pairs hex_digit name_of name_by row_in suite_part listed of_row calls plain cipher pick
spelt t = spell t

-- trees as texts
spelling :
    (spelt (literal (0x0F ∷ 0x9A ∷ [])) ≡ text "'0F9A'")
    × (spelt (bound 3) ≡ text "#3")
    × (spelt (row 7) ≡ text "$7")
    × (spelt (run 0) ≡ text "@0")
    × (spelt (two 0x0010 (two 0x0010 (literal (0x41 ∷ [])) (bound 0)) (run 1)) ≡ text "cat(cat('41',#0),@1)")
    × (spelt (when (literal (1 ∷ [])) (row 0) (two 0x0011 (literal (0x41 ∷ [])) (literal (0x41 ∷ 0x42 ∷ [])))) ≡ text "when('01',$0,xor('41','4142'))")
    × (spelt (three 0x0195 (row 0) (run 0) (two 0x0013 (bound 1) (row 2))) ≡ text "uncbp.5($0,@0,head(#1,$2))")
    × (spelt (two 0x01A3 (row 0) (row 1)) ≡ text "mac.3($0,$1)")
unfolding text spelt
spelling = (refl, refl, refl, refl, refl, refl, refl, refl)

-- the texts of P8 to P11
points :
    (reads (text "cat('41',#0)") ≡ got (two 0x0010 (literal (0x41 ∷ [])) (bound 0)))
    × (reads (text "cat(cat('41',#0),@1)") ≡ got (two 0x0010 (two 0x0010 (literal (0x41 ∷ [])) (bound 0)) (run 1)))
    × (reads (text "xor('41','4142')") ≡ got (two 0x0011 (literal (0x41 ∷ [])) (literal (0x41 ∷ 0x42 ∷ []))))
    × (reads (text "when('01',$0,xor('41','4142'))") ≡ got (when (literal (1 ∷ [])) (row 0) (two 0x0011 (literal (0x41 ∷ [])) (literal (0x41 ∷ 0x42 ∷ [])))))
unfolding text reads
points = (refl, refl, refl, refl)

-- #0 alone has a value
zeroth : ℕ → Bool
zeroth n = eqb n 0

first_of : String → Place
unfolding text unbound_in later pick zeroth
first_of t = unbound_in zeroth (text t)

unbound : Tree → Place
unfolding unbound_at later first width head_width name_width row_in of_row calls plain cipher pick zeroth
unbound t = unbound_at zeroth t

-- the first unbound `#`, dropped sides included
unbounds :
    (unbound (two 0x0010 (bound 0) (bound 1)) ≡ at 7)
    × (first_of "cat(#0,#1)" ≡ at 7)
    × (unbound (when (literal (1 ∷ [])) (bound 0) (two 0x0011 (row 0) (bound 2))) ≡ at 20)
    × (first_of "when('01',#0,xor($0,#2))" ≡ at 20)
    × (unbound (three 0x0195 (bound 3) (bound 0) (bound 2)) ≡ at 8)
    × (first_of "uncbp.5(#3,#0,#2)" ≡ at 8)
    × (unbound (two 0x0010 (bound 0) (row 1)) ≡ nowhere)
    × (first_of "cat(#0,$1)" ≡ nowhere)
unfolding unbound first_of
unbounds = (refl, refl, refl, refl, refl, refl, refl, refl)
