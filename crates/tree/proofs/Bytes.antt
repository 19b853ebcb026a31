-- Lists of bytes, put together and taken apart.
use mathlib.Core.List.{[], ◌∷◌, ◌++◌}
use Prim.Native.Nat.{ℕ, zero, suc, ◌<◌}
use native.Mathlib.Omega.{arith}
use lib.ListN.{take, drop}
use Rattle.common.specs.Answer.{Value}
use Rattle.common.specs.Places.{tab}
use Rattle.tree.specs.Bounds.{Bytes}

pub bytes_append : (a b : Value) → Bytes a → Bytes b → Bytes (a ++ b)
bytes_append [] b ha hb i = hb i
bytes_append (x ∷ a) b ha hb zero = ha 0
bytes_append (x ∷ a) b ha hb (suc i) = bytes_append a b (λ j. ha (suc j)) hb i

pub bytes_take : (n : ℕ) (a : Value) → Bytes a → Bytes (take n a)
bytes_take zero a h i = omega arith
bytes_take (suc n) [] h i = h i
bytes_take (suc n) (x ∷ a) h zero = h 0
bytes_take (suc n) (x ∷ a) h (suc i) = bytes_take n a (λ j. h (suc j)) i

pub bytes_drop : (n : ℕ) (a : Value) → Bytes a → Bytes (drop n a)
bytes_drop zero a h = h
bytes_drop (suc n) [] h = h
bytes_drop (suc n) (x ∷ a) h = bytes_drop n a (λ j. h (suc j))

pub bytes_tab : (n : ℕ) (f : ℕ → ℕ) → ((i : ℕ) → f i < 256) → Bytes (tab n f)
unfolding tab
bytes_tab zero f h i = omega arith
bytes_tab (suc n) f h zero = h 0
bytes_tab (suc n) f h (suc i) = bytes_tab n (λ i. f (suc i)) (λ i. h (suc i)) i

pub bytes_left : (a b : Value) → Bytes (a ++ b) → Bytes a
bytes_left [] b h i = omega arith
bytes_left (x ∷ a) b h zero = h 0
bytes_left (x ∷ a) b h (suc i) = bytes_left a b (λ j. h (suc j)) i

pub bytes_right : (a b : Value) → Bytes (a ++ b) → Bytes b
bytes_right [] b h = h
bytes_right (x ∷ a) b h = bytes_right a b (λ j. h (suc j))
