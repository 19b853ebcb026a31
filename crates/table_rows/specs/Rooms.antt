-- What an output and a work room hold after a call, and what a line holds.
use Rattle.std.specs.Prelude.{Bool, List, [], ◌∷◌, ℕ, ◌-◌, leb, nat_eq, ◌&&◌, length, take, drop, if◌then◌else◌}
use Rattle.std.specs.List.{list_all}
use Rattle.std.specs.Cmp.Lexicographic.{pointwise}

abbrev pub all_are : ℕ → List ℕ → Bool
all_are b s = list_all (λ x. nat_eq x b) s

-- the value in front, and what was there before behind it
abbrev pub given_in : ℕ → List ℕ → List ℕ → Bool
given_in before out value = pointwise nat_eq (take (length value) out) value && all_are before (drop (length value) out)

-- 65,536 zeros, and what was there before behind them
abbrev pub cleared_in : ℕ → List ℕ → Bool
cleared_in before work = leb 65536 (length work) && (all_are 0 (take 65536 work) && all_are before (drop 65536 work))

-- a line without its end
abbrev pub row_of : List ℕ → List ℕ
row_of s = if pointwise nat_eq (drop (length s - 1) s) (10 ∷ []) then take (length s - 1) s else s
