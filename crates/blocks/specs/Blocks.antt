-- The widths of the suite table, and round keys that stand one after another.
use Rattle.std.specs.Prelude.{◌≡◌, ℕ, ◌*◌, ◌⊎◌, List}
use Rattle.rounds.specs.Rounds.{key_at}

-- document 003, table 6.1: 2, 4 or 8 columns
abbrev pub Width : ℕ → Type 0
Width c = (c ≡ 2) ⊎ ((c ≡ 4) ⊎ (c ≡ 8))

-- round key v of the keys ks, c columns each
unfoldable pub keys_of : ℕ → List ℕ → ℕ → List ℕ
keys_of c ks v = key_at c ks (c * v)
