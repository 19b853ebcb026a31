-- Worked records and both sides of each bound of an image (document 01, sections 6 and 8).
use mathlib.Core.Path.{◌≡◌, refl}
use mathlib.Core.Bool.{true}
use mathlib.Core.List.{List, [], ◌∷◌, ◌++◌}
use Prim.Native.Nat.{ℕ, zero, suc}
use lib.ListN.{length, take, replicate}
use Rattle.common.specs.Choice.{pick}
use Rattle.tree.specs.Tree.{Tree}
use Rattle.tree.specs.Tree.Tree.{literal, bound, row, run, two, three, when}
use Rattle.tree.specs.Calls.{calls, plain, cipher}
use Rattle.tree.specs.Bounds.{of_row, arguments_in, arguments_of, nodes}
use Rattle.tree.proofs.Examples.{nest}
use Rattle.records.specs.Record.{record_of, front_of}
use Rattle.records.specs.Encode.{encode}
use Rattle.records.specs.Decode.{call_shape, shape_of, then_item, then_front, filled, constant_in, digit_in, one_in, two_in, three_in, four_in, by_shape, decode, whole_of, image_with, image_of}
use Rattle.records.specs.Decode.Image.{image, no_image}

-- constants, names and calls; length and kind are low byte first
pub encoded :
    (encode (literal (0x41 ∷ 0x42 ∷ [])) ≡ 0x02 ∷ 0x00 ∷ 0x01 ∷ 0x00 ∷ 0x41 ∷ 0x42 ∷ [])
    × (encode (row 0) ≡ 0x01 ∷ 0x00 ∷ 0x02 ∷ 0x00 ∷ 0x00 ∷ [])
    × (encode (run 1) ≡ 0x01 ∷ 0x00 ∷ 0x03 ∷ 0x00 ∷ 0x01 ∷ [])
    × (encode (two 0x0010 (literal (0x41 ∷ 0x42 ∷ [])) (run 1)) ≡ 0x0B ∷ 0x00 ∷ 0x10 ∷ 0x00 ∷ 0x02 ∷ 0x00 ∷ 0x01 ∷ 0x00 ∷ 0x41 ∷ 0x42 ∷ 0x01 ∷ 0x00 ∷ 0x03 ∷ 0x00 ∷ 0x01 ∷ [])
    × (encode (two 0x0101 (row 0) (row 1)) ≡ 0x0A ∷ 0x00 ∷ 0x01 ∷ 0x01 ∷ 0x01 ∷ 0x00 ∷ 0x02 ∷ 0x00 ∷ 0x00 ∷ 0x01 ∷ 0x00 ∷ 0x02 ∷ 0x00 ∷ 0x01 ∷ [])
    × (encode (when (row 0) (run 0) (run 1)) ≡ 0x0F ∷ 0x00 ∷ 0x14 ∷ 0x00 ∷ 0x01 ∷ 0x00 ∷ 0x02 ∷ 0x00 ∷ 0x00 ∷ 0x01 ∷ 0x00 ∷ 0x03 ∷ 0x00 ∷ 0x00 ∷ 0x01 ∷ 0x00 ∷ 0x03 ∷ 0x00 ∷ 0x01 ∷ [])
    × (take 4 (encode (literal (replicate 300 0x41))) ≡ 0x2C ∷ 0x01 ∷ 0x01 ∷ 0x00 ∷ [])
unfolding encode record_of
encoded = (refl, refl, refl, refl, refl, refl, refl)

abbrev leaf : ℕ → ℕ → List ℕ
leaf k n = 0x01 ∷ 0x00 ∷ k ∷ 0x00 ∷ n ∷ []

-- what is an image
pub images :
    (image_of (0x00 ∷ 0x00 ∷ 0x01 ∷ 0x00 ∷ []) ≡ image (literal []))
    × (image_of (leaf 0x02 7) ≡ image (row 7))
    × (image_of (leaf 0x03 3) ≡ image (run 3))
    × (image_of (0x0A ∷ 0x00 ∷ 0xB3 ∷ 0x01 ∷ leaf 0x02 0 ++ leaf 0x02 1) ≡ no_image)
    × (image_of (0x0F ∷ 0x00 ∷ 0xB3 ∷ 0x01 ∷ leaf 0x02 0 ++ leaf 0x02 1 ++ leaf 0x03 2) ≡ image (three 0x01B3 (row 0) (row 1) (run 2)))
    × (image_of (0x0F ∷ 0x00 ∷ 0x14 ∷ 0x00 ∷ leaf 0x02 0 ++ leaf 0x02 1 ++ leaf 0x03 2) ≡ image (when (row 0) (row 1) (run 2)))
    × (image_with true (leaf 0x04 3) ≡ image (bound 3))
unfolding image_of image_with whole_of decode then_front front_of then_item filled constant_in digit_in one_in two_in three_in four_in by_shape shape_of call_shape arguments_of arguments_in of_row calls plain cipher nodes pick
images = (refl, refl, refl, refl, refl, refl, refl)

-- what is none: cut, or longer than its head says; a wrong kind, digit or name; arguments too few or too many; a payload not filled
pub no_images :
    (image_of [] ≡ no_image)
    × (image_of (0x00 ∷ 0x00 ∷ 0x01 ∷ []) ≡ no_image)
    × (image_of (0x01 ∷ 0x00 ∷ 0x01 ∷ 0x00 ∷ []) ≡ no_image)
    × (image_of (0x00 ∷ 0x00 ∷ 0x01 ∷ 0x00 ∷ 0x41 ∷ []) ≡ no_image)
    × (image_of (leaf 0x00 0) ≡ no_image)
    × (image_of (leaf 0x04 0) ≡ no_image)
    × (image_of (leaf 0x05 0) ≡ no_image)
    × (image_of (leaf 0x02 8) ≡ no_image)
    × (image_of (leaf 0x03 4) ≡ no_image)
    × (image_of (0x00 ∷ 0x00 ∷ 0x02 ∷ 0x00 ∷ []) ≡ no_image)
    × (image_of (0x02 ∷ 0x00 ∷ 0x02 ∷ 0x00 ∷ 0x00 ∷ 0x00 ∷ []) ≡ no_image)
    × (image_of (0x0A ∷ 0x00 ∷ 0x00 ∷ 0x01 ∷ leaf 0x02 0 ++ leaf 0x02 1) ≡ no_image)
    × (image_of (0x0A ∷ 0x00 ∷ 0x06 ∷ 0x01 ∷ leaf 0x02 0 ++ leaf 0x02 1) ≡ no_image)
    × (image_of (0x05 ∷ 0x00 ∷ 0x10 ∷ 0x00 ∷ leaf 0x02 0) ≡ no_image)
    × (image_of (0x0F ∷ 0x00 ∷ 0x10 ∷ 0x00 ∷ leaf 0x02 0 ++ leaf 0x02 1 ++ leaf 0x02 2) ≡ no_image)
    × (image_of (0x0B ∷ 0x00 ∷ 0x10 ∷ 0x00 ∷ leaf 0x02 0 ++ leaf 0x02 1 ++ (0x00 ∷ [])) ≡ no_image)
    × (image_of (0x0A ∷ 0x00 ∷ 0x14 ∷ 0x00 ∷ leaf 0x02 0 ++ leaf 0x02 1) ≡ no_image)
unfolding image_of image_with whole_of decode then_front front_of then_item filled constant_in digit_in one_in two_in three_in four_in by_shape shape_of call_shape arguments_of arguments_in of_row calls plain cipher nodes pick
no_images = (refl, refl, refl, refl, refl, refl, refl, refl, refl, refl, refl, refl, refl, refl, refl, refl, refl)

-- a full tree of calls, n levels of them
unfoldable pub bush : ℕ → Tree
bush zero = literal []
bush (suc n) = two 0x0010 (bush n) (bush n)

-- both sides of 16 levels
pub levels : (image_of (encode (nest 15)) ≡ image (nest 15)) × (image_of (encode (nest 16)) ≡ no_image)
unfolding nest encode record_of image_of image_with whole_of decode then_front front_of then_item filled constant_in digit_in one_in two_in three_in four_in by_shape shape_of call_shape arguments_of arguments_in of_row calls plain cipher nodes pick
levels = (refl, refl)

-- both sides of 128 nodes
pub counts : (image_of (encode (when (bush 5) (bush 5) (row 0))) ≡ image (when (bush 5) (bush 5) (row 0))) × (image_of (encode (two 0x0010 (row 0) (bush 6))) ≡ no_image)
unfolding bush encode record_of image_of image_with whole_of decode then_front front_of then_item filled constant_in digit_in one_in two_in three_in four_in by_shape shape_of call_shape arguments_of arguments_in of_row calls plain cipher nodes pick
counts = (refl, refl)

-- both sides of 1,024 bytes
pub lengths : (image_of (encode (literal (replicate 1024 0x41))) ≡ image (literal (replicate 1024 0x41))) × (image_of (encode (literal (replicate 1025 0x41))) ≡ no_image)
unfolding encode record_of image_of image_with whole_of decode then_front front_of then_item filled constant_in digit_in one_in two_in three_in four_in by_shape shape_of call_shape arguments_of arguments_in of_row calls plain cipher nodes pick
lengths = (refl, refl)

-- a full tree of calls with one value at each leaf but the last
unfoldable pub thick : ℕ → ℕ → ℕ → Tree
thick zero v w = literal (replicate w 0x41)
thick (suc n) v w = two 0x0010 (thick n v v) (thick n v w)

-- both sides of 16,384 bytes, the head included
pub sizes :
    (length (encode (thick 4 1016 1020)) ≡ 16384)
    × (image_of (encode (thick 4 1016 1020)) ≡ image (thick 4 1016 1020))
    × (length (encode (thick 4 1016 1021)) ≡ 16385)
    × (image_of (encode (thick 4 1016 1021)) ≡ no_image)
unfolding thick encode record_of image_of image_with whole_of decode then_front front_of then_item filled constant_in digit_in one_in two_in three_in four_in by_shape shape_of call_shape arguments_of arguments_in of_row calls plain cipher nodes pick
sizes = (refl, refl, refl, refl)
