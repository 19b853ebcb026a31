-- An opener's inverse block transformation, on columns and on bytes.
use Rattle.std.specs.Prelude.{List, ℕ, ◌*◌}
use Rattle.kalyna.specs.Block.{unseal, unseal_bytes}
use Rattle.blocks.specs.Blocks.{keys_of}
use Rattle.open_laws.specs.Opening.{Unmixed}
use Rattle.opener.specs.declared.Opener.{Opener}

-- the bytes of a block
abbrev pub block_size : Opener → ℕ
block_size o = 8 * o.columns

-- its keys are the round keys k, with keys 1 to t - 1 mixed back
abbrev pub MixedBack : Opener → List ℕ → Type 0
MixedBack o k = Unmixed o.columns (o.columns * o.rounds) k o.keys.now

-- a block of columns, opened with the round keys k
abbrev pub opened : Opener → List ℕ → List ℕ → List ℕ
opened o k = unseal o.columns o.rounds (keys_of o.columns k)

-- a block of bytes, opened with the round keys k
abbrev pub opened_by : Opener → List ℕ → List ℕ → List ℕ
opened_by o k = unseal_bytes o.columns o.rounds (keys_of o.columns k)
