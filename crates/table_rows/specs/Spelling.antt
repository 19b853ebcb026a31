-- What a row's digits and figures spell.
use Rattle.std.specs.Prelude.{Bool, true, false, Option, Some, None, List, ℕ, ◌+◌, ◌-◌, ◌*◌, leb, ltb, ◌&&◌, unwrap_or, not, nat_eq, length, slice_index, replicate, [], ◌∷◌, if◌then◌else◌}
use Rattle.std.specs.List.{fold, position, flat_map}
use Rattle.table_rows.specs.declared.Run.{Run}

abbrev pub digit_of : ℕ → Option ℕ
digit_of b = if leb 48 b && leb b 57 then Some (b - 48) else if leb 65 b && leb b 70 then Some (b - 55) else None

-- two digits; where one of them is none, nothing if strict, else it counts as 0
abbrev pub pair_by : Bool → Option ℕ → Option ℕ → Option ℕ
pair_by strict (Some h) (Some l) = Some (h * 16 + l)
pair_by true _ _ = None
pair_by false h l = Some (unwrap_or h 0 * 16 + unwrap_or l 0)

abbrev pub pair_of : Bool → ℕ → ℕ → Option ℕ
pair_of strict high low = pair_by strict (digit_of high) (digit_of low)

abbrev pub is_figure : ℕ → Bool
is_figure b = leb 48 b && leb b 57

-- what is no figure counts as 0
abbrev pub figure_of : ℕ → ℕ
figure_of b = if is_figure b then b - 48 else 0

-- a number with one figure more; from a million on it stays as it is
abbrev pub grown_of : ℕ → ℕ → ℕ
grown_of v d = if ltb v 1000000 then v * 10 + d else v

abbrev pub number_of : List ℕ → ℕ
number_of s = fold (λ v b. grown_of v (figure_of b)) 0 s

abbrev pub is_blank : ℕ → Bool
is_blank b = nat_eq b 32

-- where the first blank stands, or the length
abbrev pub blank_in : List ℕ → ℕ
blank_in s = unwrap_or (position is_blank s) (length s)

-- how many figures stand in front
abbrev pub figures_in : List ℕ → ℕ
figures_in s = unwrap_or (position (λ b. not (is_figure b)) s) (length s)

-- whether *hhhh stands in front
abbrev pub is_counted : List ℕ → Bool
is_counted s = leb 5 (length s) && nat_eq (slice_index s 0) 42

-- the number that hhhh spells in *hhhh
abbrev pub count_in : Bool → List ℕ → ℕ
count_in strict s = unwrap_or (pair_of strict (slice_index s 1) (slice_index s 2)) 0 * 256 + unwrap_or (pair_of strict (slice_index s 3) (slice_index s 4)) 0

abbrev pub run_first : Option ℕ → ℕ → List Run → List Run
run_first None count more = []
run_first (Some byte) count more = record { byte = byte; count = count } ∷ more

-- the bytes that a text spells, and how often each stands there
unfoldable pub runs_of : Bool → List ℕ → List Run
runs_of strict [] = []
runs_of strict (a ∷ []) = if strict then [] else record { byte = 0; count = 1 } ∷ []
runs_of strict (a ∷ b ∷ m ∷ c ∷ d ∷ e ∷ f ∷ rest) =
    if nat_eq m 42 then run_first (pair_of strict a b) (count_in strict (m ∷ c ∷ d ∷ e ∷ f ∷ [])) (runs_of strict rest)
    else run_first (pair_of strict a b) 1 (runs_of strict (m ∷ c ∷ d ∷ e ∷ f ∷ rest))
runs_of strict (a ∷ b ∷ rest) = run_first (pair_of strict a b) 1 (runs_of strict rest)

abbrev pub bytes_of : Bool → List ℕ → List ℕ
bytes_of strict s = flat_map (λ r. replicate r.count r.byte) (runs_of strict s)
