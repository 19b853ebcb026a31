-- Lookups: bytes of a table as a number, and the rows of a column.
use mathlib.Core.Path.{◌≡◌, sym, ap, ap₂, ◌∙◌}
use mathlib.Core.List.{List}
use Prim.Native.Nat.{ℕ, ◌+◌, ◌*◌, ◌/◌, ◌%◌, ◌^◌, ◌<◌}
use native.Mathlib.Nat.{mod-lt, div-lt_iff_lt-mul}
use native.Mathlib.Omega.{arith}
use Rattle.field.specs.Xor.{xor}
use Rattle.field.specs.Mixing.{xsum}
use Rattle.field.proofs.XorLaws.{zero_l, assoc}
use Rattle.lookup.specs.Table.{turned, entry, half}

-- four rows added to w
pub four_rows : (t : List ℕ) (b : ℕ → ℕ) (w r z y x e0 e1 e2 e3 : ℕ) → e0 ≡ entry t 0 (b 0) → e1 ≡ entry t 1 (b 1) → e2 ≡ entry t 2 (b 2) → e3 ≡ entry t 3 (b 3)
    → x ≡ xor w e0 → y ≡ xor x e1 → z ≡ xor y e2 → r ≡ xor z e3 → r ≡ xor w (half t b)
unfolding half xsum
four_rows t b w r z y x e0 e1 e2 e3 h0 h1 h2 h3 hx hy hz hr =
    hr ∙ ap (λ n. xor n e3) (hz ∙ ap (λ n. xor n e2) (hy ∙ ap (λ n. xor n e1) hx ∙ assoc w e0 e1) ∙ assoc w (xor e0 e1) e2) ∙ assoc w (xor (xor e0 e1) e2) e3
    ∙ ap (xor w) (ap₂ xor (ap₂ xor (ap₂ xor (h0 ∙ sym (zero_l (entry t 0 (b 0)))) h1) h2) h3)

pub turn_fits : (x : ℕ) → x < 2 ^ 64 → turned x < 2 ^ 64
unfolding turned
turn_fits x l =
    sums (x % 4294967296) (x / 4294967296) (mod-lt x (omega arith)) ((div-lt_iff_lt-mul {k = 4294967296} {x = x} {y = 4294967296} (omega arith)).1 l)
  where
    sums : (p q : ℕ) → p < 4294967296 → q < 4294967296 → p * 4294967296 + q < 2 ^ 64
    sums p q lp lq = omega arith
