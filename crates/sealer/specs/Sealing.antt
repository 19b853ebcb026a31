-- A sealer's block transformation, on columns and on bytes.
use Rattle.std.specs.Prelude.{List, ℕ, ◌*◌}
use Rattle.kalyna.specs.Block.{seal, seal_bytes}
use Rattle.blocks.specs.Blocks.{keys_of}
use Rattle.sealer.specs.declared.Sealer.{Sealer}

-- the bytes of a block
abbrev pub block_size : Sealer → ℕ
block_size s = 8 * s.columns

-- its round keys
abbrev pub round_keys : Sealer → ℕ → List ℕ
round_keys s = keys_of s.columns s.keys.now

-- a block of columns, sealed
abbrev pub sealed : Sealer → List ℕ → List ℕ
sealed s = seal s.columns s.rounds (round_keys s)

-- a block of bytes, sealed
abbrev pub sealed_by : Sealer → List ℕ → List ℕ
sealed_by s = seal_bytes s.columns s.rounds (round_keys s)
