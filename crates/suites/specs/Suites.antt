-- Sizes and the suite table (document 01, section 2; document 003, table 6.1).
use Rattle.std.specs.Prelude.{ℕ, ◌/◌, eqb, Option, Some, None}
use Rattle.common.specs.Choice.{pick}
use Rattle.suites.specs.declared.Bits.{Bits}
use Rattle.suites.specs.declared.Bytes.{Bytes}
use Rattle.suites.specs.declared.Suite.{Suite}

abbrev pub bits : ℕ → Bits
bits n = record { 0 = n }

-- eight bits are a byte
abbrev pub bytes_in : Bits → Bytes
bytes_in b = record { 0 = b.0 / 8 }

-- block bits, key bits, rounds, columns
abbrev pub suite : ℕ → ℕ → ℕ → ℕ → Suite
suite l k t c = record { block = bits l; key = bits k; rounds = t; columns = c }

unfoldable pub suite_of : ℕ → Option Suite
suite_of n =
    pick (eqb n 1) (Some (suite 128 128 10 2))
    (pick (eqb n 2) (Some (suite 128 256 14 2))
    (pick (eqb n 3) (Some (suite 256 256 14 4))
    (pick (eqb n 4) (Some (suite 256 512 18 4)) (pick (eqb n 5) (Some (suite 512 512 18 8)) None))))

-- the block and the key in bytes, through the one conversion
abbrev pub block_bytes : Suite → ℕ
block_bytes s = (bytes_in s.block).0

abbrev pub key_bytes : Suite → ℕ
key_bytes s = (bytes_in s.key).0

-- columns of the key
abbrev pub key_columns : Suite → ℕ
key_columns s = s.key.0 / 64
