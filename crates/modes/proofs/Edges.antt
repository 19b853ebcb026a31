-- Each reading at work on a small cipher, and each check beside the next, as closed equations.
use mathlib.Core.Bool.{false}
use mathlib.Core.Path.{◌≡◌, refl}
use mathlib.Core.List.{List, [], ◌∷◌}
use Prim.Native.Nat.{ℕ, ◌+◌, ◌*◌, ◌%◌}
use lib.ListN.{get_or, replicate}
use Rattle.common.specs.Choice.{pick}
use Rattle.common.specs.Places.{tab}
use Rattle.common.specs.Answer.{Value}
use Rattle.common.specs.Answer.Answer.{value, refused}
use Rattle.field.specs.Xor.{xor}
use Rattle.field.specs.Column.{byte_of, pack}
use Rattle.suites.specs.Suites.{suite_of}
use Rattle.modes.specs.Blocks.{block_at, xor_block, number_of, block_of, before}
use Rattle.modes.specs.Stream.{add_gamma, front, rear, counter, ctr_gamma, ctr, ofb_gamma, ofb, cfb_gamma, cfb, uncfb_gamma, uncfb}
use Rattle.modes.specs.Chain.{chained, cbc, uncbc}
use Rattle.modes.specs.Fill.{fill, marked, unfill_at, unfill_from, unfill}
use Rattle.modes.specs.Mac.{mac_text, mac_mask, mac_of, mac, same, chk}
use Rattle.modes.specs.Cell.{Call, Shape, side_of, shape_of, key_wrong, iv_wrong, text_empty, text_long, text_partial, tag_wrong, checked, suited, cell}

-- no cipher at all, but each byte of it depends on two bytes and on its place
unfoldable turn : ℕ → List ℕ → List ℕ
turn B b = tab B (λ n. (get_or b n 0 * 3 + get_or b ((n + 1) % B) 0 + n + 1) % 256)

abbrev zeros : ℕ → Value
zeros n = replicate n 0

abbrev iv : Value
iv = 1 ∷ 2 ∷ 3 ∷ 4 ∷ []

abbrev six : Value
six = 10 ∷ 20 ∷ 30 ∷ 40 ∷ 50 ∷ 60 ∷ []

abbrev eight : Value
eight = 10 ∷ 20 ∷ 30 ∷ 40 ∷ 50 ∷ 60 ∷ 70 ∷ 80 ∷ []

-- ---- sections 7, 11 and 8: a whole block and a short one

-- counted from the encrypted IV plus 1; a short last block takes the front of its gamma
counted : ctr 4 (turn 4) iv (zeros 5) ≡ 33 ∷ 51 ∷ 68 ∷ 62 ∷ 36 ∷ []
unfolding turn tab byte_of pack xor number_of block_of add_gamma front counter ctr_gamma ctr
counted = refl

-- the counter carries past the low half of its block
carried : ctr 4 (λ b. b) (255 ∷ 255 ∷ 0 ∷ 0 ∷ []) (zeros 4) ≡ 0 ∷ 0 ∷ 1 ∷ 0 ∷ []
unfolding tab byte_of pack xor number_of block_of add_gamma front counter ctr_gamma ctr
carried = refl

anew : ofb 4 (turn 4) iv six ≡ 12 ∷ 31 ∷ 14 ∷ 57 ∷ 44 ∷ 15 ∷ []
unfolding turn tab xor add_gamma front ofb_gamma ofb
anew = refl

-- the sealed block is fed back; a short last block takes the last bytes of its gamma
fed : cfb 4 (turn 4) iv six ≡ 12 ∷ 31 ∷ 14 ∷ 57 ∷ 84 ∷ 135 ∷ []
unfolding turn tab xor block_at xor_block add_gamma rear cfb_gamma cfb
fed = refl

unfed : uncfb 4 (turn 4) iv six ≡ 12 ∷ 31 ∷ 14 ∷ 57 ∷ 183 ∷ 186 ∷ []
unfolding turn tab xor block_at before add_gamma rear uncfb_gamma uncfb
unfed = refl

-- ---- section 10

linked : cbc 4 (turn 4) iv eight ≡ 56 ∷ 97 ∷ 134 ∷ 147 ∷ 124 ∷ 217 ∷ 6 ∷ 87 ∷ []
unfolding turn tab xor block_at xor_block chained cbc
linked = refl

unlinked : uncbc 4 (turn 4) iv eight ≡ 50 ∷ 94 ∷ 134 ∷ 130 ∷ 217 ∷ 232 ∷ 59 ∷ 14 ∷ []
unfolding turn tab xor block_at before uncbc
unlinked = refl

-- ---- the fill

-- always at least the 80
filled_whole : fill 4 (1 ∷ 2 ∷ 3 ∷ 4 ∷ []) ≡ 1 ∷ 2 ∷ 3 ∷ 4 ∷ 0x80 ∷ 0 ∷ 0 ∷ 0 ∷ []
unfolding fill
filled_whole = refl

filled_short : fill 4 (1 ∷ []) ≡ 1 ∷ 0x80 ∷ 0 ∷ 0 ∷ []
unfolding fill
filled_short = refl

unfilled_one : unfill 4 (1 ∷ 0x80 ∷ 0 ∷ 0 ∷ []) ≡ value (1 ∷ [])
unfolding pick marked unfill_at unfill_from unfill
unfilled_one = refl

-- an 80 before the last block is not looked for
mark_too_far : unfill 4 (1 ∷ 2 ∷ 3 ∷ 0x80 ∷ 0 ∷ 0 ∷ 0 ∷ 0 ∷ []) ≡ refused 8
unfolding pick marked unfill_at unfill_from unfill
mark_too_far = refl

-- a fill over an empty text
nothing_under : unfill 4 (0x80 ∷ 0 ∷ 0 ∷ 0 ∷ []) ≡ refused 8
unfolding pick marked unfill_at unfill_from unfill
nothing_under = refl

no_mark : unfill 4 (1 ∷ 0x80 ∷ 7 ∷ 0 ∷ []) ≡ refused 8
unfolding pick marked unfill_at unfill_from unfill
no_mark = refl

-- ---- section 9

tag_whole : mac 4 (turn 4) eight ≡ 99 ∷ 232 ∷ 21 ∷ 122 ∷ []
unfolding turn tab byte_of pick xor block_at xor_block block_of chained mac_text mac_mask mac_of mac
tag_whole = refl

tag_filled : mac 4 (turn 4) (10 ∷ 20 ∷ 30 ∷ 40 ∷ 50 ∷ []) ≡ 238 ∷ 34 ∷ 24 ∷ 146 ∷ []
unfolding turn tab byte_of pick xor block_at xor_block block_of chained fill mac_text mac_mask mac_of mac
tag_filled = refl

tag_right : chk 12 (turn 12) (140 ∷ 139 ∷ 16 ∷ 21 ∷ 26 ∷ 31 ∷ 36 ∷ 41 ∷ 46 ∷ []) (7 ∷ []) ≡ 1 ∷ []
unfolding turn tab byte_of pick xor block_at xor_block block_of chained fill mac_text mac_mask mac_of mac same chk
tag_right = refl

-- the eighth byte counts, and the ninth
tag_eighth : chk 12 (turn 12) (140 ∷ 139 ∷ 16 ∷ 21 ∷ 26 ∷ 31 ∷ 36 ∷ 42 ∷ []) (7 ∷ []) ≡ 0 ∷ []
unfolding turn tab byte_of pick xor block_at xor_block block_of chained fill mac_text mac_mask mac_of mac same chk
tag_eighth = refl

tag_ninth : chk 12 (turn 12) (140 ∷ 139 ∷ 16 ∷ 21 ∷ 26 ∷ 31 ∷ 36 ∷ 41 ∷ 47 ∷ []) (7 ∷ []) ≡ 0 ∷ []
unfolding turn tab byte_of pick xor block_at xor_block block_of chained fill mac_text mac_mask mac_of mac same chk
tag_ninth = refl

-- ---- section 7: each check wins over the later ones

suite_first : cell Call.ctr 6 [] [] [] ≡ refused 1
unfolding suite_of pick suited cell
suite_first = refl

key_next : cell Call.ctr 1 (zeros 15) (zeros 15) [] ≡ refused 2
unfolding suite_of pick key_wrong checked suited cell
key_next = refl

iv_next : cell Call.ctr 1 (zeros 16) (zeros 15) [] ≡ refused 3
unfolding suite_of pick side_of shape_of key_wrong iv_wrong text_empty checked suited cell
iv_next = refl

empty_next : cell Call.chk 1 (zeros 16) (zeros 7) [] ≡ refused 4
unfolding suite_of pick side_of shape_of key_wrong iv_wrong text_empty tag_wrong checked suited cell
empty_next = refl

long_next : cell Call.cbc 1 (zeros 16) (zeros 16) (zeros 1025) ≡ refused 6
unfolding suite_of pick side_of shape_of key_wrong iv_wrong text_empty text_long text_partial checked suited cell
long_next = refl

long_first : cell Call.chk 1 (zeros 16) (zeros 7) (zeros 1025) ≡ refused 6
unfolding suite_of pick side_of shape_of key_wrong iv_wrong text_empty text_long text_partial tag_wrong checked suited cell
long_first = refl

partial_next : cell Call.cbc 1 (zeros 16) (zeros 16) (zeros 17) ≡ refused 5
unfolding suite_of pick side_of shape_of key_wrong iv_wrong text_empty text_long text_partial checked suited cell
partial_next = refl

-- a block has only its own check
block_none : cell Call.blk 1 (zeros 16) [] [] ≡ refused 5
unfolding suite_of pick side_of shape_of key_wrong iv_wrong text_empty text_long text_partial checked suited cell
block_none = refl

block_long : cell Call.blk 1 (zeros 16) [] (zeros 1025) ≡ refused 5
unfolding suite_of pick side_of shape_of key_wrong iv_wrong text_empty text_long text_partial checked suited cell
block_long = refl

tag_seven : cell Call.chk 1 (zeros 16) (zeros 7) (zeros 1) ≡ refused 7
unfolding suite_of pick side_of shape_of key_wrong iv_wrong text_empty text_long text_partial tag_wrong checked suited cell
tag_seven = refl

tag_long : cell Call.chk 1 (zeros 16) (zeros 17) (zeros 1) ≡ refused 7
unfolding suite_of pick side_of shape_of key_wrong iv_wrong text_empty text_long text_partial tag_wrong checked suited cell
tag_long = refl

-- `cbp` judges by its result
cbp_long : cell Call.cbp 1 (zeros 16) (zeros 16) (zeros 1024) ≡ refused 6
unfolding suite_of pick side_of shape_of key_wrong iv_wrong text_empty text_long checked suited cell
cbp_long = refl

cbp_fits : text_long Shape.filled 16 1023 ≡ false
unfolding text_long
cbp_fits = refl
