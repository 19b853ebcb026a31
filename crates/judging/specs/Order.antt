-- What lengths alone decide of a cipher call (document 01, section 7): Suite, Key, Iv, Empty, Long, Partial, Tag and, where no other can come before it, Room.
use Rattle.std.specs.Prelude.{ℕ, ◌+◌, ◌*◌, ◌/◌, ltb, Option, Some, None, Result, Ok, Err}
use Rattle.common.specs.Choice.{pick}
use Rattle.suites.specs.Suites.{suite_of, block_bytes}
use Rattle.suites.specs.declared.Suite.{Suite}
use Rattle.modes.specs.Cell.{Call, side_of, shape_of, key_wrong, iv_wrong, text_empty, text_long, text_partial, tag_wrong}
use Rattle.answers.specs.declared.Refusal.{Refusal}
use Rattle.answers.specs.declared.Refusal.TheVariants as refusal

-- the length of the answer, by the call, the block and the text's length; 0 for `uncbp`, whose length only opening tells
unfoldable pub length_before : Call → ℕ → ℕ → ℕ
length_before Call.blk B n = B
length_before Call.unblk B n = B
length_before Call.ctr B n = n
length_before Call.ofb B n = n
length_before Call.cfb B n = n
length_before Call.uncfb B n = n
length_before Call.cbc B n = n
length_before Call.uncbc B n = n
length_before Call.cbp B n = B * (n / B + 1)
length_before Call.uncbp B n = 0
length_before Call.mac B n = B
length_before Call.chk B n = 1

-- of a known suite: the lengths of key, IV or tag, text and output room
unfoldable pub judged_for : Call → Suite → ℕ → ℕ → ℕ → ℕ → Result Suite Refusal
judged_for f s key side text room =
    pick (key_wrong s key) (Err refusal.Key)
    (pick (iv_wrong (side_of f) (block_bytes s) side) (Err refusal.Iv)
    (pick (text_empty (shape_of f) text) (Err refusal.Empty)
    (pick (text_long (shape_of f) (block_bytes s) text) (Err refusal.Long)
    (pick (text_partial (shape_of f) (block_bytes s) text) (Err refusal.Partial)
    (pick (tag_wrong (side_of f) (block_bytes s) side) (Err refusal.Tag)
    (pick (ltb room (length_before f (block_bytes s) text)) (Err refusal.Room) (Ok s)))))))

unfoldable pub judged_named : Call → (Option Suite) → ℕ → ℕ → ℕ → ℕ → Result Suite Refusal
judged_named f (Some s) key side text room = judged_for f s key side text room
judged_named f None key side text room = Err refusal.Suite

unfoldable pub judged_of : Call → ℕ → ℕ → ℕ → ℕ → ℕ → Result Suite Refusal
judged_of f n key side text room = judged_named f (suite_of n) key side text room
