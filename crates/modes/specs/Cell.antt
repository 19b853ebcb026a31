-- The twelve cipher calls (document 01, sections 5 and 7).
use Rattle.std.specs.Prelude.{Bool, true, false, not, List, [], ◌∷◌, ℕ, ◌+◌, ◌-◌, ◌*◌, ◌/◌, ◌%◌, eqb, leb, ltb, get_or, length, Option, Some, None}
use Rattle.common.specs.Choice.{pick}
use Rattle.common.specs.Places.{tab}
use Rattle.common.specs.Answer.{Value, Answer}
use Rattle.common.specs.Answer.Answer.{value, refused}
use Rattle.kalyna.specs.State.{columns_of}
use Rattle.kalyna.specs.Block.{seal_bytes, unseal_bytes}
use Rattle.kalyna.specs.Keys.{round_key}
use Rattle.suites.specs.Suites.{bits, bytes_in, suite_of, block_bytes, key_bytes, key_columns}
use Rattle.suites.specs.declared.Suite.{Suite}
use Rattle.modes.specs.Stream as Stream
use Rattle.modes.specs.Chain as Chain
use Rattle.modes.specs.Fill.{fill, unfill}
use Rattle.modes.specs.Mac as Mac

pub data Call : Type 0 where
  blk unblk ctr ofb cfb uncfb cbc uncbc cbp uncbp mac chk : Call

-- section 6: the order of the calls
unfoldable pub call_of : ℕ → Call
call_of f =
    get_or (Call.blk ∷ Call.unblk ∷ Call.ctr ∷ Call.ofb ∷ Call.cfb ∷ Call.uncfb ∷ Call.cbc ∷ Call.uncbc ∷ Call.cbp ∷ Call.uncbp ∷ Call.mac ∷ Call.chk ∷ []) f Call.chk

-- what a call takes beside its key and its text
pub data Side : Type 0 where
  none iv tag : Side

unfoldable pub side_of : Call → Side
side_of Call.blk = none
side_of Call.unblk = none
side_of Call.ctr = iv
side_of Call.ofb = iv
side_of Call.cfb = iv
side_of Call.uncfb = iv
side_of Call.cbc = iv
side_of Call.uncbc = iv
side_of Call.cbp = iv
side_of Call.uncbp = iv
side_of Call.mac = none
side_of Call.chk = tag

-- what its text is: one block; any bytes; whole blocks; bytes that are filled before they are sealed
pub data Shape : Type 0 where
  block any whole filled : Shape

unfoldable pub shape_of : Call → Shape
shape_of Call.blk = block
shape_of Call.unblk = block
shape_of Call.ctr = any
shape_of Call.ofb = any
shape_of Call.cfb = any
shape_of Call.uncfb = any
shape_of Call.cbc = whole
shape_of Call.uncbc = whole
shape_of Call.cbp = filled
shape_of Call.uncbp = whole
shape_of Call.mac = any
shape_of Call.chk = any

-- ---- section 7: the checks, on lengths; B is the block in bytes

-- 2: key length not the suite's
unfoldable pub key_wrong : Suite → ℕ → Bool
key_wrong s n = not (eqb n (key_bytes s))

-- 3: IV not B bytes
unfoldable pub iv_wrong : Side → ℕ → ℕ → Bool
iv_wrong none B n = false
iv_wrong iv B n = not (eqb n B)
iv_wrong tag B n = false

-- 4: empty text; a block has only its own check
unfoldable pub text_empty : Shape → ℕ → Bool
text_empty block n = false
text_empty any n = eqb n 0
text_empty whole n = eqb n 0
text_empty filled n = eqb n 0

-- 6: over 1,024 bytes; `cbp` judges by its result, B x (floor(n / B) + 1) bytes, the rest by their text
unfoldable pub text_long : Shape → ℕ → ℕ → Bool
text_long block B n = false
text_long any B n = ltb 1024 n
text_long whole B n = ltb 1024 n
text_long filled B n = ltb 1024 (B * (n / B + 1))

-- 5: not one block; not whole blocks
unfoldable pub text_partial : Shape → ℕ → ℕ → Bool
text_partial block B n = not (eqb n B)
text_partial any B n = false
text_partial whole B n = not (eqb (n % B) 0)
text_partial filled B n = false

-- 7: tag not 8..B bytes; the standard's bound is 64 bits
unfoldable pub tag_wrong : Side → ℕ → ℕ → Bool
tag_wrong none B n = false
tag_wrong iv B n = false
tag_wrong tag B n = pick (leb (bytes_in (bits 64)).0 n) (not (leb n B)) true

-- ---- 13: two counters of one CTR cell equal

-- whether x is among the counters
unfoldable pub among : ℕ → List ℕ → Bool
among x [] = false
among x (y ∷ ys) = pick (eqb x y) true (among x ys)

unfoldable pub repeated : List ℕ → Bool
repeated [] = false
repeated (x ∷ xs) = pick (among x xs) true (repeated xs)

-- the blocks of n bytes, the short one counted
unfoldable pub blocks_in : ℕ → ℕ → ℕ
blocks_in B n = (n + (B - 1)) / B

unfoldable pub wraps : ℕ → List ℕ → ℕ → Bool
wraps B s n = repeated (tab (blocks_in B n) (λ i. Stream.counter B s (i + 1)))

-- ---- what a call makes, over a cipher E and its inverse D

unfoldable pub made : Call → ℕ → (List ℕ → List ℕ) → (List ℕ → List ℕ) → Value → Value → Answer
made Call.blk B E D side text = value (E text)
made Call.unblk B E D side text = value (D text)
made Call.ctr B E D side text = pick (wraps B (E side) (length text)) (refused 13) (value (Stream.ctr B E side text))
made Call.ofb B E D side text = value (Stream.ofb B E side text)
made Call.cfb B E D side text = value (Stream.cfb B E side text)
made Call.uncfb B E D side text = value (Stream.uncfb B E side text)
made Call.cbc B E D side text = value (Chain.cbc B E side text)
made Call.uncbc B E D side text = value (Chain.uncbc B D side text)
made Call.cbp B E D side text = value (Chain.cbc B E side (fill B text))
made Call.uncbp B E D side text = unfill B (Chain.uncbc B D side text)
made Call.mac B E D side text = value (Mac.mac B E text)
made Call.chk B E D side text = value (Mac.chk B E side text)

-- ---- the cell

-- section 6 of document 003, with the key's bytes
unfoldable pub sealing : Suite → Value → List ℕ → List ℕ
sealing s key = seal_bytes s.columns s.rounds (round_key s.columns (key_columns s) (columns_of (key_columns s) key))

unfoldable pub opening : Suite → Value → List ℕ → List ℕ
opening s key = unseal_bytes s.columns s.rounds (round_key s.columns (key_columns s) (columns_of (key_columns s) key))

-- section 7, the cipher order: 2, 3, 4, 6, 5, 7, then 8 or 13, which the call itself tells
unfoldable pub checked : Call → Suite → Value → Value → Value → Answer
checked f s key side text =
    pick (key_wrong s (length key)) (refused 2)
    (pick (iv_wrong (side_of f) (block_bytes s) (length side)) (refused 3)
    (pick (text_empty (shape_of f) (length text)) (refused 4)
    (pick (text_long (shape_of f) (block_bytes s) (length text)) (refused 6)
    (pick (text_partial (shape_of f) (block_bytes s) (length text)) (refused 5)
    (pick (tag_wrong (side_of f) (block_bytes s) (length side)) (refused 7)
    (made f (block_bytes s) (sealing s key) (opening s key) side text))))))

unfoldable pub suited : Call → (Option Suite) → Value → Value → Value → Answer
suited f (Some s) key side text = checked f s key side text
suited f None key side text = refused 1

-- what call f answers for suite number n; the side is the IV or the tag, and counts for nothing where a call has neither
unfoldable pub cell : Call → ℕ → Value → Value → Value → Answer
cell f n key side text = suited f (suite_of n) key side text

-- section 5: a call's arguments in its order: key, block or text; key, IV or tag, text
unfoldable pub arranged : Side → Call → ℕ → List Value → Answer
arranged none f n args = cell f n (get_or args 0 []) [] (get_or args 1 [])
arranged iv f n args = cell f n (get_or args 0 []) (get_or args 1 []) (get_or args 2 [])
arranged tag f n args = cell f n (get_or args 0 []) (get_or args 1 []) (get_or args 2 [])

-- the call of number f in section 6, with its arguments as a recipe hands them
unfoldable pub cell_of : ℕ → ℕ → List Value → Answer
cell_of f n args = arranged (side_of (call_of f)) (call_of f) n args
