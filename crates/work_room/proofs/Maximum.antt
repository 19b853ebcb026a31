-- The largest byte of a stretch.
use mathlib.Core.List.{List, [], ◌∷◌}
use mathlib.Core.Path.{◌≡◌, refl, sym, ap, ap₂, ◌∙◌}
use Prim.Native.Nat.{ℕ, ◌≤◌, max}
use native.Mathlib.Omega.{arith}
use lib.ListN.{length, replicate}
use Rattle.std.specs.List.{fold}

-- a fold of max is at least where it began
grows : (a : ℕ) (s : List ℕ) → a ≤ fold max a s
grows a [] = omega arith
grows a (x ∷ s) = let h = grows (max a x) s in omega arith

-- 0 only where every byte is 0
pub all_zero : (s : List ℕ) → fold max 0 s ≡ 0 → s ≡ replicate (length s) 0
all_zero [] e = refl
all_zero (x ∷ s) e =
    let g = grows (max 0 x) s in
    let h : x ≡ 0 = omega arith in
    let m : max 0 x ≡ 0 = omega arith in
    ap₂ (λ (y : ℕ) (r : List ℕ). y ∷ r) h (all_zero s (sym (ap (λ n. fold max n s) m) ∙ e))
