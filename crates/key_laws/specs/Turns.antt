-- The turns of document 003, 6.5.2 and 6.5.3, as the code does them: by whole columns, and by a part of a column.
use Rattle.std.specs.Prelude.{◌⊎◌, ◌≡◌, ℕ, ◌+◌, ◌*◌, ◌/◌, ◌%◌, ◌≤◌, eqb}
use Rattle.common.specs.Choice.{pick}
use Rattle.blocks.specs.Blocks.{Width}

-- document 003, table 6.1: c columns of state and kc of key
pub record Sized (c kc : ℕ) : Type 0 where
  pub width : Width c
  pub halves : (kc ≡ c) ⊎ (kc ≡ 2 * c)
  pub most : kc ≤ 8

-- by how many columns the key is turned for even index 2 e, with the columns before its high half
unfoldable pub lane_turn : ℕ → ℕ → ℕ → ℕ
lane_turn c kc e = pick (eqb c kc) e (e / 2 + e % 2 * c)

-- the last bytes of column x and then the first of column y: one and seven bytes with two columns, else five and three
unfoldable pub odd_word : ℕ → ℕ → ℕ → ℕ
odd_word c x y = pick (eqb c 2) (x / 72057594037927936 + y % 72057594037927936 * 256) (x / 16777216 + y % 16777216 * 1099511627776)
