-- What a swapped column is: the substitution inside the table undoes the one before it, so that only the mixing is left.
use mathlib.Core.Path.{◌≡◌, sym, ap, ap₂, ◌∙◌, subst}
use mathlib.Core.List.{List, []}
use Prim.Native.Nat.{ℕ, ◌+◌, ◌*◌, ◌/◌, ◌%◌, ◌^◌, ◌<◌}
use native.Mathlib.Nat.{mod-mod}
use native.Mathlib.Omega.{arith}
use lib.ListN.{get_or}
use Rattle.common.proofs.Places.{get_d_tab}
use Rattle.field.specs.Column.{byte_of}
use Rattle.field.specs.Mixing.{backward}
use Rattle.field.proofs.PackLaws.{byte_of_lt, pack_ext, pack_lt, product_lt}
use Rattle.field.proofs.MixingLaws.{product_ext}
use Rattle.substitutions.specs.Tables.{tables, inverses, sub, unsub, substitutions, unsubstitutions}
use Rattle.substitutions.proofs.Inverse.{sub_lt, unsub_sub}
use Rattle.lookup.specs.Table.{open_table}
use Rattle.lookup.proofs.Laws.{gather_open, gather_ext}
use Rattle.open_laws.specs.Opening.{unmixed, swapped}

row : (i x : ℕ) → x < 256 → (256 * (i % 4) + x) / 256 ≡ i % 4
row i x l = omega arith

byte : (i x : ℕ) → x < 256 → (256 * (i % 4) + x) % 256 ≡ x
byte i x l = omega arith

room : (i x : ℕ) → x < 256 → 256 * (i % 4) + x < 1024
room i x l = omega arith

-- the rows of four tables hold the substitutions
pub sub_place : (i x : ℕ) → x < 256 → get_or substitutions (256 * (i % 4) + x) 0 ≡ sub i x
unfolding substitutions sub
sub_place i x l = get_d_tab 1024 (λ n. sub (n / 256) (n % 256)) (256 * (i % 4) + x) (room i x l) ∙ ap₂ sub (row i x l) (byte i x l) ∙ ap (λ n. get_or (get_or tables n []) x 0) (mod-mod i 4)

pub unsub_place : (i x : ℕ) → x < 256 → get_or unsubstitutions (256 * (i % 4) + x) 0 ≡ unsub i x
unfolding unsubstitutions unsub
unsub_place i x l = get_d_tab 1024 (λ n. unsub (n / 256) (n % 256)) (256 * (i % 4) + x) (room i x l) ∙ ap₂ unsub (row i x l) (byte i x l) ∙ ap (λ n. get_or (get_or inverses n []) x 0) (mod-mod i 4)

module _ (w : ℕ) where
  -- substituted, and substituted back and mixed back by the table of opening: mixed back
  pub swapped_open : swapped open_table substitutions w ≡ unmixed w
  unfolding swapped unmixed
  swapped_open =
      gather_ext open_table _ (λ i. sub i (byte_of w i)) (λ i l. sub_place i (byte_of w i) (byte_of_lt w i))
      ∙ gather_open (λ i. sub i (byte_of w i)) (λ i l. sub_lt i (byte_of w i) (byte_of_lt w i))
      ∙ pack_ext 8 _ _ (λ k hk. product_ext backward _ _ (λ i hi. unsub_sub i (byte_of w i) (byte_of_lt w i)) k)

  pub unmixed_lt : unmixed w < 2 ^ 64
  unfolding unmixed
  unmixed_lt = pack_lt 8 _ (λ k hk. product_lt backward (byte_of w) (λ i hi. byte_of_lt w i) k)

module _ (t p : List ℕ) (w : ℕ) (et : t ≡ open_table) (ep : p ≡ substitutions) where
  pub swapped_is : swapped t p w ≡ unmixed w
  swapped_is = ap₂ (λ (t p : List ℕ). swapped t p w) et ep ∙ swapped_open w

  pub swapped_lt : swapped t p w < 2 ^ 64
  swapped_lt = subst (λ x. x < 2 ^ 64) (sym swapped_is) (unmixed_lt w)
