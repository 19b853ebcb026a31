-- What a round does (document 003, 6.3.2 to 6.3.6) and how it is undone (6.4.2 to 6.4.5), for any number of columns and any shift of rows.
use Rattle.std.specs.Prelude.{List, ℕ, ◌+◌, ◌-◌, ◌%◌, ◌^◌, get_or}
use Rattle.common.specs.Places.{tab}
use Rattle.field.specs.Xor.{xor}
use Rattle.field.specs.Column.{byte_of, pack}
use Rattle.field.specs.Mixing.{product, forward, backward}
use Rattle.substitutions.specs.Tables.{sub, unsub}

-- 6.3.2: the columns of a key are added to those of the state, modulo 2^64
unfoldable pub add_key : ℕ → List ℕ → List ℕ → List ℕ
add_key c k s = tab c (λ j. (get_or s j 0 + get_or k j 0) % 2 ^ 64)

-- 6.4.2: and subtracted
unfoldable pub sub_key : ℕ → List ℕ → List ℕ → List ℕ
sub_key c k s = tab c (λ j. (get_or s j 0 + 2 ^ 64 - get_or k j 0 % 2 ^ 64) % 2 ^ 64)

-- 6.3.6: and added modulo 2
unfoldable pub xor_key : ℕ → List ℕ → List ℕ → List ℕ
xor_key c k s = tab c (λ j. xor (get_or s j 0) (get_or k j 0))

-- 6.3.3: row i is replaced by substitution i mod 4
unfoldable pub substitute : ℕ → List ℕ → List ℕ
substitute c s = tab c (λ j. pack 8 (λ i. sub i (byte_of (get_or s j 0) i)))

-- 6.4.3
unfoldable pub unsubstitute : ℕ → List ℕ → List ℕ
unsubstitute c s = tab c (λ j. pack 8 (λ i. unsub i (byte_of (get_or s j 0) i)))

-- a row that moves right by d: column j gets it from this one
unfoldable pub from : ℕ → ℕ → ℕ → ℕ
from c d j = (j + (c - d % c)) % c

-- a row that moves left by d
unfoldable pub to : ℕ → ℕ → ℕ → ℕ
to c d j = (j + d) % c

-- 6.3.4: row i moves right by δ i, around
unfoldable pub shift : (ℕ → ℕ) → ℕ → List ℕ → List ℕ
shift δ c s = tab c (λ j. pack 8 (λ i. byte_of (get_or s (from c (δ i) j) 0) i))

-- 6.4.4: row i moves left by δ i, around
unfoldable pub unshift : (ℕ → ℕ) → ℕ → List ℕ → List ℕ
unshift δ c s = tab c (λ j. pack 8 (λ i. byte_of (get_or s (to c (δ i) j) 0) i))

-- 6.3.5: each column is multiplied by the matrix
unfoldable pub mix : ℕ → List ℕ → List ℕ
mix c s = tab c (λ j. pack 8 (product forward (byte_of (get_or s j 0))))

-- 6.4.5
unfoldable pub unmix : ℕ → List ℕ → List ℕ
unmix c s = tab c (λ j. pack 8 (product backward (byte_of (get_or s j 0))))

-- substitute, shift, mix
unfoldable pub ssm : (ℕ → ℕ) → ℕ → List ℕ → List ℕ
ssm δ c s = mix c (shift δ c (substitute c s))

-- mix back, shift back, substitute back
unfoldable pub unssm : (ℕ → ℕ) → ℕ → List ℕ → List ℕ
unssm δ c s = unsubstitute c (unshift δ c (unmix c s))
