-- What the calls of document 01, section 5 mean; the cipher calls are given.
use Rattle.std.specs.Prelude.{Bool, true, false, List, [], ◌∷◌, ◌++◌, ℕ, ◌+◌, ◌-◌, ◌/◌, ◌%◌, eqb, leb, length, get_or, take}
use Rattle.std.specs.Int.Bits.{bit_xor}
use Rattle.common.specs.Choice.{pick}
use Rattle.common.specs.Places.{tab}
use Rattle.common.specs.Answer.{Value, Answer}
use Rattle.common.specs.Answer.Answer.{value, refused}
use Rattle.meaning.specs.Mean.{Calls}

-- 6, result over 1,024 bytes
unfoldable pub cat : Value → Value → Answer
cat a b = pick (leb (length a + length b) 1024) (value (a ++ b)) (refused 6)

unfoldable pub xor_byte : ℕ → ℕ → ℕ
xor_byte a b = bit_xor a b

unfoldable pub xor_bytes : Value → Value → Value
xor_bytes a b = tab (length a) (λ i. xor_byte (get_or a i 0) (get_or b i 0))

-- 10, lengths differ
unfoldable pub xor : Value → Value → Answer
xor a b = pick (eqb (length a) (length b)) (value (xor_bytes a b)) (refused 10)

unfoldable pub same : Value → Value → Bool
same [] [] = true
same [] (y ∷ b) = false
same (x ∷ a) [] = false
same (x ∷ a) (y ∷ b) = pick (eqb x y) (same a b) false

-- 01 or 00
unfoldable pub eq : Value → Value → Answer
eq a b = value (pick (same a b) (0x01 ∷ []) (0x00 ∷ []))

-- the first n bytes; 12, n not one byte, or more than a has
unfoldable pub head : Value → Value → Answer
head [] a = refused 12
head (n ∷ []) a = pick (leb n (length a)) (value (take n a)) (refused 12)
head (n ∷ (m ∷ r)) a = refused 12

-- a cipher call by f = 0..11 in the order of section 6, its suite and its arguments
abbrev pub Cipher : Type 0
Cipher = ℕ → ℕ → List Value → Answer

-- section 6: cipher calls are 0100 + 16f + suite
unfoldable pub ciphered : Cipher → ℕ → List Value → Answer
ciphered cipher k arguments = cipher ((k - 0x0100) / 16) (k % 16) arguments

unfoldable pub real_two : Cipher → ℕ → Value → Value → Answer
real_two cipher k a b =
    pick (eqb k 0x0010) (cat a b)
    (pick (eqb k 0x0011) (xor a b)
    (pick (eqb k 0x0012) (eq a b)
    (pick (eqb k 0x0013) (head a b)
    (ciphered cipher k (a ∷ b ∷ [])))))

-- the calls of section 5
unfoldable pub real : Cipher → Calls
real cipher =
    record {
      of_one = λ k a. ciphered cipher k (a ∷ []);
      of_two = λ k a b. real_two cipher k a b;
      of_three = λ k a b c. ciphered cipher k (a ∷ b ∷ c ∷ []);
      of_four = λ k a b c d. ciphered cipher k (a ∷ b ∷ c ∷ d ∷ []);
    }
