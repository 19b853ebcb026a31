-- The tag (document 003, section 9) and its check, over a cipher E on blocks of B bytes.
use Rattle.std.specs.Prelude.{Bool, true, false, List, [], ◌∷◌, ℕ, ◌-◌, ◌/◌, ◌%◌, eqb, take, length}
use Rattle.common.specs.Choice.{pick}
use Rattle.modes.specs.Blocks.{block_at, xor_block, block_of}
use Rattle.modes.specs.Chain.{chained}
use Rattle.modes.specs.Fill.{fill}

-- 9.1: whole blocks go unfilled
unfoldable pub mac_text : ℕ → List ℕ → List ℕ
mac_text B text = pick (eqb (length text % B) 0) text (fill B text)

-- 9.2: the mask is the encryption of 0 for whole blocks, of 1 after a fill
unfoldable pub mac_mask : ℕ → (List ℕ → List ℕ) → List ℕ → List ℕ
mac_mask B E text = E (block_of B (pick (eqb (length text % B) 0) 0 1))

-- 9.2: the blocks chained from 0, the mask added to the last one
unfoldable pub mac_of : ℕ → (List ℕ → List ℕ) → List ℕ → List ℕ → ℕ → List ℕ
mac_of B E mask text last = E (xor_block B (xor_block B (chained B E (block_of B 0) text last) (block_at B text last)) mask)

unfoldable pub mac : ℕ → (List ℕ → List ℕ) → List ℕ → List ℕ
mac B E text = mac_of B E (mac_mask B E text) (mac_text B text) (length (mac_text B text) / B - 1)

-- whether two lists of bytes are the same
unfoldable pub same : List ℕ → List ℕ → Bool
same [] [] = true
same [] (y ∷ ys) = false
same (x ∷ xs) [] = false
same (x ∷ xs) (y ∷ ys) = pick (eqb x y) (same xs ys) false

-- 9.3: 01 where the tag is the leading bytes of the computed one, else 00
unfoldable pub chk : ℕ → (List ℕ → List ℕ) → List ℕ → List ℕ → List ℕ
chk B E tag text = pick (same tag (take (length tag) (mac B E text))) (1 ∷ []) (0 ∷ [])
