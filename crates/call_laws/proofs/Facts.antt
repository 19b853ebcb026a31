-- What being past the checks gives a call's code, and when what it wrote is what is delivered.
use mathlib.Core.Path.{◌≡◌, sym, ap, ◌∙◌, subst}
use mathlib.Core.List.{List, ◌++◌}
use Prim.Native.Nat.{ℕ, ◌+◌, ◌*◌, ◌%◌, ◌<◌, ◌≤◌}
use lib.ListN.{length, drop}
use Rattle.common.specs.Answer.{Value, deliver}
use Rattle.common.specs.Answer.Answer.{value}
use Rattle.suites.specs.Suites.{block_bytes, key_columns}
use Rattle.suites.specs.declared.Suite.{Suite}
use Rattle.blocks.proofs.Widths.{width_le, width_pos}
use Rattle.suite_laws.specs.Row.{Row}
use Rattle.suite_laws.proofs.Rows.{known_row}
use Rattle.modes.specs.Cell.{Call, Side, Shape, side_of, shape_of}
use Rattle.modes.proofs.Fill.{value_inj}
use Rattle.modes.proofs.Checks.{IvFits, TextSome, TextShort, TextWhole, TagFits}
use Rattle.modes.proofs.Cell.{Makes}
use Rattle.answers.specs.Told.{told_of}
use Rattle.std.proofs.Common.{Ok}
use Rattle.handing.proofs.Giving.{gives}
use Rattle.judging.specs.Order.{length_before}
use Rattle.judging.specs.Cleared.{Cleared}
use Rattle.judging.proofs.Joins.{Passes, Long, made_long, cleared_passes}

module _ (g : Call) (s : Suite) (key side text : Value) (out : List ℕ) (c : Cleared g s (length key) (length side) (length text) (length out)) where
  pub row : Row s
  row = known_row c.number s c.known

  pub wide : s.columns ≤ 8
  wide = width_le s.columns row.width

  pub some_wide : 0 < s.columns
  some_wide = width_pos s.columns row.width

  -- the scheduled keys, 160 columns of them
  pub keys_room : (ks : List ℕ) → length ks ≡ 160 → s.columns * (s.rounds + 1) ≤ length ks
  keys_room ks e = subst (λ n. s.columns * (s.rounds + 1) ≤ n) (sym e) row.room

  pub passes : Passes g s key side text out
  passes = cleared_passes g s key side text out c

  pub key_long : length key ≡ 8 * key_columns s
  key_long = passes.past.key_fits ∙ row.key

  -- what of the lengths each kind of side and text gives, in blocks of 8 x columns bytes
  pub iv_long : side_of g ≡ Side.iv → length side ≡ 8 * s.columns
  iv_long e = subst (λ d. IvFits d (block_bytes s) (length side)) e passes.past.iv_fits ∙ row.block

  pub tag_from : side_of g ≡ Side.tag → 8 ≤ length side
  tag_from e = (subst (λ d. TagFits d (block_bytes s) (length side)) e passes.past.tag_fits).0

  pub tag_upto : side_of g ≡ Side.tag → length side ≤ 8 * s.columns
  tag_upto e = subst (λ n. length side ≤ n) row.block (subst (λ d. TagFits d (block_bytes s) (length side)) e passes.past.tag_fits).1

  pub block_long : shape_of g ≡ Shape.block → length text ≡ 8 * s.columns
  block_long e = subst (λ d. TextWhole d (block_bytes s) (length text)) e passes.past.text_whole ∙ row.block

  pub any_some : shape_of g ≡ Shape.any → 0 < length text
  any_some e = subst (λ d. TextSome d (length text)) e passes.past.text_some

  pub any_short : shape_of g ≡ Shape.any → length text ≤ 1024
  any_short e = subst (λ d. TextShort d (block_bytes s) (length text)) e passes.past.text_short

  pub whole_some : shape_of g ≡ Shape.whole → 0 < length text
  whole_some e = subst (λ d. TextSome d (length text)) e passes.past.text_some

  pub whole_short : shape_of g ≡ Shape.whole → length text ≤ 1024
  whole_short e = subst (λ d. TextShort d (block_bytes s) (length text)) e passes.past.text_short

  pub whole_blocks : shape_of g ≡ Shape.whole → length text % (8 * s.columns) ≡ 0
  whole_blocks e = subst (λ B. length text % B ≡ 0) row.block (subst (λ d. TextWhole d (block_bytes s) (length text)) e passes.past.text_whole)

  -- the output has room for the answer
  pub room : (n : ℕ) → length_before g (8 * s.columns) (length text) ≡ n → n ≤ length out
  room n e = subst (λ m. m ≤ length out) (ap (λ B. length_before g B (length text)) row.block ∙ e) passes.room

  -- what was written, V of the block's length and the cipher, is what is delivered
  pub done : (g ≡ Call.uncbp → ⊥) → (L : ℕ) (after : List ℕ) (v : Value) → Makes g s key side text ≡ value v → length_before g (8 * s.columns) (length text) ≡ L → after ≡ v ++ drop L out
      → told_of (Ok L) after ≡ deliver (Makes g s key side text) out
  done h L after v m e w = gives v out after L (sym long) (room L e) w ∙ sym (ap (λ a. deliver a out) m)
    where
      l : Long (Makes g s key side text) (length_before g (block_bytes s) (length text))
      l = made_long c.number s key side text c.known g passes.past h

      long : length v ≡ L
      long = ap length (value_inj v l.what (sym m ∙ l.is)) ∙ l.long ∙ ap (λ B. length_before g B (length text)) row.block ∙ e
