-- The block transformation and its inverse (document 003, 6.3.1 and 6.4.1), over c columns and t rounds. K v is round key v.
use Rattle.std.specs.Prelude.{List, ℕ, zero, suc, ◌-◌, ◌*◌, ◌/◌}
use Rattle.kalyna.specs.State.{columns_of, bytes_of}
use Rattle.kalyna.specs.Round.{add_key, sub_key, xor_key, ssm, unssm}

-- 6.3.4: row i moves by floor (i x block bits / 512)
unfoldable pub moves : ℕ → ℕ → ℕ
moves c i = i * (64 * c) / 512

-- n rounds with keys 1 .. n
unfoldable pub rounds : ℕ → (ℕ → List ℕ) → List ℕ → ℕ → List ℕ
rounds c K s zero = s
rounds c K s (suc n) = xor_key c (K (suc n)) (ssm (moves c) c (rounds c K s n))

-- 6.3.1: keys 0 and t are added modulo 2^64, keys 1 to t - 1 modulo 2
unfoldable pub seal : ℕ → ℕ → (ℕ → List ℕ) → List ℕ → List ℕ
seal c t K s = add_key c (K t) (ssm (moves c) c (rounds c K (add_key c (K 0) s) (t - 1)))

-- keys n .. 1
unfoldable pub unrounds : ℕ → (ℕ → List ℕ) → ℕ → List ℕ → List ℕ
unrounds c K zero s = s
unrounds c K (suc n) s = unrounds c K n (unssm (moves c) c (xor_key c (K (suc n)) s))

-- 6.4.1
unfoldable pub unseal : ℕ → ℕ → (ℕ → List ℕ) → List ℕ → List ℕ
unseal c t K s = sub_key c (K 0) (unrounds c K (t - 1) (unssm (moves c) c (sub_key c (K t) s)))

-- 6.2: on the bytes of a block
unfoldable pub seal_bytes : ℕ → ℕ → (ℕ → List ℕ) → List ℕ → List ℕ
seal_bytes c t K b = bytes_of c (seal c t K (columns_of c b))

unfoldable pub unseal_bytes : ℕ → ℕ → (ℕ → List ℕ) → List ℕ → List ℕ
unseal_bytes c t K b = bytes_of c (unseal c t K (columns_of c b))
