-- A literal of 1,024 bytes and a text of 4,096 that reads to a tree (document 01, section 5).
use mathlib.Core.Path.{◌≡◌, refl, ◌∙◌}
use Prim.Native.Nat.{ℕ, zero, suc, ◌+◌, ◌≤◌}
use native.Mathlib.Omega.{arith}
use lib.ListN.{length, replicate, length-replicate}
use Rattle.common.specs.Choice.{pick}
use Rattle.tree.specs.Tree.{Tree}
use Rattle.tree.specs.Tree.Tree.{literal, two}
use Rattle.tree.specs.Calls.{calls, plain, cipher}
use Rattle.tree.specs.Bounds.{depth, nodes, of_row, arguments_in, arguments_of, Bytes, Proper, Small, Within}
use Rattle.tree.specs.Reading.Read.{got}
use Rattle.texts.specs.Spelling.{spell, width, head_width, name_width, row_in}
use Rattle.texts.specs.Reading.{take_text}
use Rattle.texts.proofs.Examples.{reads, long}
use Rattle.texts.proofs.Width.{length_spell}
use Rattle.texts.proofs.Spelt.{take_spell}

-- n times the byte AA
bytes : ℕ → Tree
bytes n = literal (replicate n 0xAA)

-- the longest literal, by computing
literal_1024 : reads (long 1024) ≡ got (bytes 1024)
unfolding reads long bytes
literal_1024 = refl

replicate_bytes : (n : ℕ) → Bytes (replicate n 0xAA)
replicate_bytes zero i = omega arith
replicate_bytes (suc n) zero = omega arith
replicate_bytes (suc n) (suc i) = replicate_bytes n i

-- cat of n and m bytes
joined : ℕ → ℕ → Tree
joined n m = two 0x0010 (literal (replicate n 0xAA)) (literal (replicate m 0xAA))

cat_two : arguments_of 0x0010 ≡ 2
unfolding arguments_of arguments_in calls plain cipher of_row pick
cat_two = refl

joined_within : (n m : ℕ) → n ≤ 1024 → m ≤ 1024 → Within (joined n m)
unfolding joined Proper Small depth nodes
joined_within n m h k =
    record {
      proper = (cat_two, replicate_bytes n, replicate_bytes m);
      small = (omega (arith, length-replicate {A = ℕ} n 0xAA), omega (arith, length-replicate {A = ℕ} m 0xAA));
      shallow = omega arith;
      few = omega arith;
    }

cat_head : head_width 0x0010 ≡ 4
unfolding head_width name_width row_in calls plain cipher of_row pick
cat_head = refl

joined_width : (n m : ℕ) → width (joined n m) ≡ n + n + (m + m) + 10
unfolding joined width
joined_width n m = omega (arith, cat_head, length-replicate {A = ℕ} n 0xAA, length-replicate {A = ℕ} m 0xAA)

-- a text of 4,096 bytes that reads to a tree
text_4096 : (length (spell (joined 1024 1019)) ≡ 4096) × (take_text (spell (joined 1024 1019)) ≡ got (joined 1024 1019))
text_4096 = (
  length_spell (joined 1024 1019) ∙ joined_width 1024 1019,
  take_spell (joined 1024 1019) (joined_within 1024 1019 (omega arith) (omega arith)) (omega (arith, joined_width 1024 1019)),
)
