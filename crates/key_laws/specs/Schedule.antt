-- All round keys of a key, one after another.
use Rattle.std.specs.Prelude.{List, ℕ, ◌+◌, ◌*◌, ◌/◌, ◌%◌, ltb, get_or}
use Rattle.common.specs.Choice.{pick}
use Rattle.common.specs.Places.{tab}
use Rattle.kalyna.specs.Keys.{round_key}

-- round keys 0 .. r of the key k, c columns each, and zeros up to 160 columns
unfoldable pub schedule_of : ℕ → ℕ → ℕ → List ℕ → List ℕ
schedule_of c kc r k = tab 160 (λ n. pick (ltb n (c * (r + 1))) (get_or (round_key c kc k (n / c)) (n % c) 0) 0)

-- the first c columns of a state, and zeros up to eight
unfoldable pub columns_from : ℕ → List ℕ → List ℕ
columns_from c s = tab 8 (λ j. pick (ltb j c) (get_or s j 0) 0)
