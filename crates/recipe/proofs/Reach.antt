-- A text's tree in records takes at most three bytes for each byte of the text.
use mathlib.Core.List.{[], ◌∷◌}
use Prim.Native.Nat.{ℕ, ◌*◌, ◌≤◌}
use native.Mathlib.Omega.{arith}
use lib.ListN.{length}
use Rattle.tree.specs.Tree.{Tree}
use Rattle.tree.specs.Tree.Tree.{literal, bound, row, run, one, two, three, four, when}
use Rattle.records.specs.Encode.{constant_kind, row_kind, run_kind, bound_kind, encode}
use Rattle.records.proofs.There.{length_record}
use Rattle.records.proofs.Sizes.{length_one, length_two, length_three, length_four, length_when}
use Rattle.texts.specs.Spelling.{spell, width, head_width}
use Rattle.texts.proofs.Width.{length_spell}

one_at_least : (k : ℕ) → 1 ≤ head_width k
unfolding head_width
one_at_least k = omega arith

encode_width : (t : Tree) → length (encode t) ≤ 3 * width t
unfolding encode width
encode_width (literal v) = omega (arith, length_record constant_kind v)
encode_width (bound n) = omega (arith, length_record bound_kind (n ∷ []))
encode_width (row n) = omega (arith, length_record row_kind (n ∷ []))
encode_width (run n) = omega (arith, length_record run_kind (n ∷ []))
encode_width (one k a) = omega (arith, length_one k a, encode_width a, one_at_least k)
encode_width (two k a b) = omega (arith, length_two k a b, encode_width a, encode_width b)
encode_width (three k a b c) = omega (arith, length_three k a b c, encode_width a, encode_width b, encode_width c)
encode_width (four k a b c d) = omega (arith, length_four k a b c d, encode_width a, encode_width b, encode_width c, encode_width d)
encode_width (when c a b) = omega (arith, length_when c a b, encode_width c, encode_width a, encode_width b)

pub encode_reach : (t : Tree) → length (encode t) ≤ 3 * length (spell t)
encode_reach t = let e = length_spell t in let h = encode_width t in omega arith
