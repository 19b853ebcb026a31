-- How long the blocks of an opener are.
use Prim.Native.Nat.{◌<◌, ◌≤◌}
use Rattle.blocks.proofs.Widths.{width_le, width_lt}
use Rattle.opener.specs.Opening.{block_size}
use Rattle.opener.specs.declared.Opener.{Opener}

pub columns_le : (o : Opener) → o.columns ≤ 8
columns_le o = width_le o.columns o.width

-- a block has bytes
pub size_pos : (o : Opener) → 0 < block_size o
size_pos o = width_lt o.columns o.width
