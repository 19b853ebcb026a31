-- Opening a block (document 003, 6.4.1) in the order in which it is looked up: the inverse mixing passes over the round keys, so keys 1 to t - 1
-- are mixed back beforehand, and a round shifts back, substitutes back, mixes back, and adds its key.
use Rattle.std.specs.Prelude.{◌⊎◌, List, ◌≡◌, ℕ, zero, suc, ◌+◌, ◌-◌, ◌*◌, ◌%◌, ◌<◌, ◌≤◌, get_or, length}
use Rattle.field.specs.Column.{byte_of, pack}
use Rattle.field.specs.Mixing.{product, backward}
use Rattle.lookup.specs.Table.{gather}
use Rattle.kalyna.specs.Round.{sub_key, xor_key, unmix}
use Rattle.kalyna.specs.Block.{moves}
use Rattle.kalyna.proofs.Rows.{back}

-- before the rounds: the key k subtracted, and mixed back
unfoldable pub first_round : ℕ → List ℕ → List ℕ → List ℕ
first_round c k s = unmix c (sub_key c k s)

-- a round: shift and substitute back, mix back, and the key k, itself mixed back, added modulo 2
unfoldable pub open_round : ℕ → List ℕ → List ℕ → List ℕ
open_round c k y = xor_key c k (unmix c (back (moves c) c y))

-- keys n .. 1
unfoldable pub open_rounds : ℕ → (ℕ → List ℕ) → ℕ → List ℕ → List ℕ
open_rounds c K zero y = y
open_rounds c K (suc n) y = open_rounds c K n (open_round c (K (suc n)) y)

-- after the rounds: shift and substitute back, and the key k subtracted
unfoldable pub last_round : ℕ → List ℕ → List ℕ → List ℕ
last_round c k y = sub_key c k (back (moves c) c y)

-- keys t and 0 are subtracted as they are, keys 1 to t - 1 stand mixed back
unfoldable pub open_with : ℕ → ℕ → (ℕ → List ℕ) → List ℕ → List ℕ
open_with c t K s = last_round c (K 0) (open_rounds c K (t - 1) (first_round c (K t) s))

-- a column mixed back (6.4.5)
unfoldable pub unmixed : ℕ → ℕ
unmixed w = pack 8 (product backward (byte_of w))

-- a column whose bytes are substituted by the row p of four tables, and then gathered from the table t
unfoldable pub swapped : List ℕ → List ℕ → ℕ → ℕ
swapped t p w = gather t (λ i. get_or p (256 * (i % 4) + byte_of w i) 0)

-- of words that stand one after another: those from place a on and before place b are mixed back, and all else is as before
pub record Unmixed (a b : ℕ) (before after : List ℕ) : Type 0 where
  pub long : length after ≡ length before
  pub inner : (k : ℕ) → a ≤ k → k < b → get_or after k 0 ≡ unmixed (get_or before k 0)
  pub outer : (k : ℕ) → (k < a) ⊎ (b ≤ k) → get_or after k 0 ≡ get_or before k 0
