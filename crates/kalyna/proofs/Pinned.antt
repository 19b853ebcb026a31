-- What the theorems would let pass, pinned by the papers' own figures (document 01, section 3).
use mathlib.Core.Path.{◌≡◌, refl}
use mathlib.Core.List.{[], ◌∷◌}
use Rattle.common.specs.Choice.{pick}
use Rattle.common.specs.Places.{tab}
use Rattle.kalyna.specs.Round.{add_key}
use Rattle.kalyna.specs.Block.{moves}
use Rattle.kalyna.specs.Keys.{start_number, start, first_half, second_half, constant, turn_key, even_input, odd_turn}

-- 6.3.4: row 5 of a 256-bit block moves 2; the last row of each width
pub row_moves : moves 4 5 ∷ moves 2 7 ∷ moves 4 7 ∷ moves 8 7 ∷ moves 2 4 ∷ moves 2 3 ∷ [] ≡ 2 ∷ 1 ∷ 3 ∷ 7 ∷ 1 ∷ 0 ∷ []
unfolding moves
row_moves = refl

-- 6.5.1
pub start_numbers : start_number 128 128 ∷ start_number 128 256 ∷ start_number 256 256 ∷ start_number 256 512 ∷ start_number 512 512 ∷ [] ≡ 5 ∷ 7 ∷ 9 ∷ 13 ∷ 17 ∷ []
unfolding start_number
start_numbers = refl

pub start_low_first : start 2 4 ≡ 7 ∷ 0 ∷ []
unfolding start start_number tab pick
start_low_first = refl

pub halves : first_half 2 4 (1 ∷ 2 ∷ 3 ∷ 4 ∷ []) ≡ 1 ∷ 2 ∷ []
unfolding first_half
halves = refl

pub second_halves : second_half 2 4 (1 ∷ 2 ∷ 3 ∷ 4 ∷ []) ≡ 3 ∷ 4 ∷ []
unfolding second_half
second_halves = refl

-- 6.5.2: the key turns by 64 bits per even index where key and block are equal; else low half, high half, and then a turn
pub turns_equal : even_input 2 2 (1 ∷ 2 ∷ []) 3 ≡ 2 ∷ 1 ∷ []
unfolding even_input turn_key tab pick
turns_equal = refl

pub input_0 : even_input 2 4 (1 ∷ 2 ∷ 3 ∷ 4 ∷ []) 0 ≡ 1 ∷ 2 ∷ []
unfolding even_input turn_key tab pick
input_0 = refl

pub input_2 : even_input 2 4 (1 ∷ 2 ∷ 3 ∷ 4 ∷ []) 1 ≡ 3 ∷ 4 ∷ []
unfolding even_input turn_key tab pick
input_2 = refl

pub input_4 : even_input 2 4 (1 ∷ 2 ∷ 3 ∷ 4 ∷ []) 2 ≡ 2 ∷ 3 ∷ []
unfolding even_input turn_key tab pick
input_4 = refl

pub input_6 : even_input 2 4 (1 ∷ 2 ∷ 3 ∷ 4 ∷ []) 3 ≡ 4 ∷ 1 ∷ []
unfolding even_input turn_key tab pick
input_6 = refl

-- each 16-bit lane starts as 1 and doubles per even index
pub lanes : constant 1 3 ≡ 0x0008000800080008 ∷ []
unfolding constant tab
lanes = refl

-- 6.5.3
pub odd_turns : odd_turn 2 ∷ odd_turn 4 ∷ odd_turn 8 ∷ [] ≡ 7 ∷ 11 ∷ 19 ∷ []
unfolding odd_turn
odd_turns = refl

-- 6.3.2: no carry between columns
pub no_carry : add_key 2 (1 ∷ 0 ∷ []) (0xFFFFFFFFFFFFFFFF ∷ 5 ∷ []) ≡ 0 ∷ 5 ∷ []
unfolding add_key tab
no_carry = refl
