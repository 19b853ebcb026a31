-- What a block's size gives the tests of a text's length.
use mathlib.Core.Bool.{false}
use mathlib.Core.Logic.{⊎_elim}
use mathlib.Core.Path.{◌≡◌, refl, sym, ap, subst, ◌∙◌}
use Prim.Native.Nat.{ℕ, ◌*◌, ◌<◌, ◌≤◌, ◌%◌}
use native.Mathlib.Omega.{arith}
use borrow.Author.Tests.{leb-false}
use Rattle.suites.specs.Suites.{block_bytes}
use Rattle.suites.specs.declared.Suite.{Suite}
use Rattle.blocks.specs.Blocks.{Width}
use Rattle.suite_laws.specs.Row.{Row}
use Rattle.modes.specs.Cell.{shape_of, call_of, text_long}
use Rattle.judging.proofs.Tests.{long_filled, filled_long}

-- what a block's size gives the tests
pub record Sizes (b : ℕ) : Type 0 where
  pub some : 0 < b
  pub small : b ≤ 64
  pub whole : 1024 % b ≡ 0

pub sizes : (s : Suite) (b : ℕ) → Row s → b ≡ block_bytes s → Sizes b
sizes s b row e = by_width s.columns row.width (e ∙ row.block)
  where
    at : (c k : ℕ) → c ≡ k → b ≡ 8 * c → Sizes (8 * k) → Sizes b
    at c k ec eb z = subst Sizes (sym (eb ∙ ap (λ x. 8 * x) ec)) z

    by_width : (c : ℕ) → Width c → b ≡ 8 * c → Sizes b
    by_width c w eb =
        ⊎_elim (λ h. at c 2 h eb (record { some = omega arith; small = omega arith; whole = refl }))
        (λ w. ⊎_elim (λ h. at c 4 h eb (record { some = omega arith; small = omega arith; whole = refl })) (λ h. at c 8 h eb (record { some = omega arith; small = omega arith; whole = refl })) w) w

-- `cbp` that is not too long has a text under 1,024 bytes
pub filled_under : (f b n : ℕ) → Sizes b → text_long (shape_of (call_of f)) b n ≡ false → f ≡ 8 → n < 1024
filled_under f b n z e h = leb-false 1024 n (filled_long b n z.some z.whole ∙ long_filled f b n h ∙ e)
