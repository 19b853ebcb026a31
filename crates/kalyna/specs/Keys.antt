-- The round keys (document 003, 6.5): c columns of state, kc columns of key k, where kc is c or 2 c.
use Rattle.std.specs.Prelude.{List, ℕ, ◌+◌, ◌-◌, ◌*◌, ◌/◌, ◌%◌, ◌^◌, eqb, get_or, take, drop}
use Rattle.common.specs.Choice.{pick}
use Rattle.common.specs.Places.{tab}
use Rattle.kalyna.specs.State.{columns_of, bytes_of}
use Rattle.kalyna.specs.Round.{add_key, xor_key, ssm}
use Rattle.kalyna.specs.Block.{moves}

-- 6.5.1: the number that the helper key starts from, by the bits of block and key
unfoldable pub start_number : ℕ → ℕ → ℕ
start_number l k = (l + k) / 64 + 1

-- as a state, low byte first
unfoldable pub start : ℕ → ℕ → List ℕ
start c kc = tab c (λ j. pick (eqb j 0) (start_number (64 * c) (64 * kc)) 0)

-- 6.5.1: the halves of the key; where key and block are equal both are the whole key
unfoldable pub first_half : ℕ → ℕ → List ℕ → List ℕ
first_half c kc k = take c k

unfoldable pub second_half : ℕ → ℕ → List ℕ → List ℕ
second_half c kc k = drop (kc - c) k

-- three rounds: a added, w added modulo 2, a added
unfoldable pub helper_from : ℕ → List ℕ → List ℕ → List ℕ → List ℕ
helper_from c a w s = ssm (moves c) c (add_key c a (ssm (moves c) c (xor_key c w (ssm (moves c) c (add_key c a s)))))

-- 6.5.1: the helper key
unfoldable pub helper : ℕ → ℕ → List ℕ → List ℕ
helper c kc k = helper_from c (first_half c kc k) (second_half c kc k) (start c kc)

-- 6.5.2: the constant for even index 2 e: 0001 in each 16-bit lane, doubled e times
unfoldable pub constant : ℕ → ℕ → List ℕ
constant c e = tab c (λ j. 0x0001000100010001 * 2 ^ e)

-- the key turned by n columns, towards column 0
unfoldable pub turn_key : ℕ → List ℕ → ℕ → List ℕ
turn_key kc k n = tab kc (λ j. get_or k ((j + n) % kc) 0)

-- 6.5.2: what enters even index 2 e: the key turned by 64 bits per even index where key and block are equal; else turned by 64 bits per two even
-- indices, its low half at indices 0, 4, 8 .., its high half at 2, 6, 10 ..
unfoldable pub even_input : ℕ → ℕ → List ℕ → ℕ → List ℕ
even_input c kc k e =
    pick (eqb c kc) (turn_key kc k e) (pick (eqb (e % 2) 0) (take c (turn_key kc k (e / 2))) (drop c (turn_key kc k (e / 2))))

-- two rounds: a added, a added modulo 2, a added
unfoldable pub even_from : ℕ → List ℕ → List ℕ → List ℕ
even_from c a s = add_key c a (ssm (moves c) c (xor_key c a (ssm (moves c) c (add_key c a s))))

-- 6.5.2: the round key of even index 2 e, from the helper key h
unfoldable pub even_key : ℕ → ℕ → List ℕ → List ℕ → ℕ → List ℕ
even_key c kc k h e = even_from c (add_key c (constant c e) h) (even_input c kc k e)

-- 6.5.3: turned by 3 l / 4 - 24 bits, byte n is byte n + 7, 11, 19 of the key before
unfoldable pub odd_turn : ℕ → ℕ
odd_turn c = 8 * c - (3 * (64 * c) / 4 - 24) / 8

unfoldable pub odd_key : ℕ → List ℕ → List ℕ
odd_key c k = columns_of c (tab (8 * c) (λ n. get_or (bytes_of c k) ((n + odd_turn c) % (8 * c)) 0))

-- round key v, from the helper key h
unfoldable pub round_key_with : ℕ → ℕ → List ℕ → List ℕ → ℕ → List ℕ
round_key_with c kc k h v = pick (eqb (v % 2) 0) (even_key c kc k h (v / 2)) (odd_key c (even_key c kc k h (v / 2)))

-- round key v of the key k
unfoldable pub round_key : ℕ → ℕ → List ℕ → ℕ → List ℕ
round_key c kc k v = round_key_with c kc k (helper c kc k) v
