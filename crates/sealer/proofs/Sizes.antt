-- How long the blocks of a sealer are.
use Prim.Native.Nat.{◌<◌, ◌≤◌}
use Rattle.blocks.proofs.Widths.{width_pos, width_le, width_lt}
use Rattle.sealer.specs.Sealing.{block_size}
use Rattle.sealer.specs.declared.Sealer.{Sealer}

pub columns_pos : (s : Sealer) → 0 < s.columns
columns_pos s = width_pos s.columns s.width

pub columns_le : (s : Sealer) → s.columns ≤ 8
columns_le s = width_le s.columns s.width

-- a block has bytes
pub size_pos : (s : Sealer) → 0 < block_size s
size_pos s = width_lt s.columns s.width
