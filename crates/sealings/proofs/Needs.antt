-- What each mode asks, past the checks.
use mathlib.Core.Path.{◌≡◌, ap, ◌∙◌, subst}
use mathlib.Core.List.{List}
use Prim.Native.Nat.{ℕ, ◌+◌, ◌*◌, ◌/◌, ◌%◌, ◌<◌, ◌≤◌}
use native.Mathlib.Nat.{mul-le-mul_right, suc-mul, zero-mul}
use native.Mathlib.Omega.{arith}
use lib.ListN.{length}
use Rattle.common.specs.Answer.{Value}
use Rattle.blocks.specs.Blocks.{Width}
use Rattle.suites.specs.Suites.{block_bytes}
use Rattle.suites.specs.declared.Suite.{Suite}
use Rattle.suite_laws.specs.Row.{Row}
use Rattle.modes.specs.Cell.{Call, side_of, shape_of}
use Rattle.modes.proofs.Checks.{TextShort}
use Rattle.judging.specs.Order.{length_before}
use Rattle.judging.specs.Cleared.{Cleared}
use Rattle.call_laws.proofs.Same.{keys_for, keys_long}
use Rattle.call_laws.proofs.Facts as facts

module _ (g : Call) (s : Suite) (key side text : Value) (out : List ℕ) (cl : Cleared g s (length key) (length side) (length text) (length out)) (ks : List ℕ) (ek : ks ≡ keys_for s key) where
  row : Row s
  row = facts.row g s key side text out cl

  keys_room : s.columns * (s.rounds + 1) ≤ length ks
  keys_room = facts.keys_room g s key side text out cl ks (ap length ek ∙ keys_long s key)

  -- what all of them ask of the suite and its keys
  abbrev pub Base : Type 0
  Base = Width s.columns × (0 < s.rounds) × (s.rounds ≤ 18) × (s.columns * (s.rounds + 1) ≤ length ks)

  pub base : Base
  base = (row.width, row.some, row.most, keys_room)

  pub blk_needs : g ≡ Call.blk → (length text ≡ 8 * s.columns) × (8 * s.columns ≤ length out)
  unfolding side_of shape_of length_before
  blk_needs q = (facts.block_long g s key side text out cl (ap shape_of q), facts.room g s key side text out cl _ (ap (λ h. length_before h (8 * s.columns) (length text)) q))

  pub ctr_needs : g ≡ Call.ctr → (length side ≡ 8 * s.columns) × (length text ≤ 1024) × (length text ≤ length out)
  unfolding side_of shape_of length_before
  ctr_needs q = (facts.iv_long g s key side text out cl (ap side_of q), facts.any_short g s key side text out cl (ap shape_of q), facts.room g s key side text out cl _ (ap (λ h. length_before h (8 * s.columns) (length text)) q))

  pub ofb_needs : g ≡ Call.ofb → (length side ≡ 8 * s.columns) × (length text ≤ 1024) × (length text ≤ length out)
  unfolding side_of shape_of length_before
  ofb_needs q = (facts.iv_long g s key side text out cl (ap side_of q), facts.any_short g s key side text out cl (ap shape_of q), facts.room g s key side text out cl _ (ap (λ h. length_before h (8 * s.columns) (length text)) q))

  pub cfb_needs : g ≡ Call.cfb → (length side ≡ 8 * s.columns) × (length text ≤ 1024) × (length text ≤ length out)
  unfolding side_of shape_of length_before
  cfb_needs q = (facts.iv_long g s key side text out cl (ap side_of q), facts.any_short g s key side text out cl (ap shape_of q), facts.room g s key side text out cl _ (ap (λ h. length_before h (8 * s.columns) (length text)) q))

  pub uncfb_needs : g ≡ Call.uncfb → (length side ≡ 8 * s.columns) × (length text ≤ 1024) × (length text ≤ length out) × (0 < length text)
  unfolding side_of shape_of length_before
  uncfb_needs q = (facts.iv_long g s key side text out cl (ap side_of q), facts.any_short g s key side text out cl (ap shape_of q), facts.room g s key side text out cl _ (ap (λ h. length_before h (8 * s.columns) (length text)) q), facts.any_some g s key side text out cl (ap shape_of q))

  pub cbc_needs : g ≡ Call.cbc → (length side ≡ 8 * s.columns) × (length text % (8 * s.columns) ≡ 0) × (length text ≤ length out)
  unfolding side_of shape_of length_before
  cbc_needs q = (facts.iv_long g s key side text out cl (ap side_of q), facts.whole_blocks g s key side text out cl (ap shape_of q), facts.room g s key side text out cl _ (ap (λ h. length_before h (8 * s.columns) (length text)) q))

  pub cbp_needs : g ≡ Call.cbp → (length side ≡ 8 * s.columns) × (8 * s.columns * (length text / (8 * s.columns) + 1) ≤ length out)
  unfolding side_of shape_of length_before
  cbp_needs q = (facts.iv_long g s key side text out cl (ap side_of q), facts.room g s key side text out cl _ (ap (λ h. length_before h (8 * s.columns) (length text)) q))

  pub mac_needs : g ≡ Call.mac → (0 < length text) × (8 * s.columns ≤ length out)
  unfolding side_of shape_of length_before
  mac_needs q = (facts.any_some g s key side text out cl (ap shape_of q), facts.room g s key side text out cl _ (ap (λ h. length_before h (8 * s.columns) (length text)) q))

  pub chk_needs : g ≡ Call.chk → (length side ≤ 8 * s.columns) × (0 < length text) × (0 < length out) × (8 ≤ length side)
  unfolding side_of shape_of length_before
  chk_needs q = (facts.tag_upto g s key side text out cl (ap side_of q), facts.any_some g s key side text out cl (ap shape_of q), facts.room g s key side text out cl 1 (ap (λ h. length_before h (8 * s.columns) (length text)) q), facts.tag_from g s key side text out cl (ap side_of q))

  -- the numbers that the code counts with are small
  pub filled_short : g ≡ Call.cbp → 8 * s.columns * (length text / (8 * s.columns) + 1) ≤ 1024
  unfolding shape_of
  filled_short q = subst (λ B. B * (length text / B + 1) ≤ 1024) row.block (subst (λ h. TextShort (shape_of h) (block_bytes s) (length text)) q (facts.passes g s key side text out cl).past.text_short)

  pub quotient_short : g ≡ Call.cbp → length text / (8 * s.columns) + 1 ≤ 1024
  quotient_short q = small (8 * s.columns) (length text / (8 * s.columns) + 1) (omega (arith, facts.some_wide g s key side text out cl)) (filled_short q)
    where
      small : (b m : ℕ) → 0 < b → b * m ≤ 1024 → m ≤ 1024
      small b m p h = omega (arith, mul-le-mul_right m p, suc-mul 0 m, zero-mul m)
