-- What each mode wrote is what is delivered.
use mathlib.Core.Path.{◌≡◌, sym, ap, ap₂, ◌∙◌}
use mathlib.Core.List.{List, ◌++◌}
use Prim.Native.Nat.{ℕ, ◌+◌, ◌*◌, ◌/◌}
use native.Mathlib.Omega.{arith}
use lib.ListN.{length, drop}
use Rattle.common.specs.Answer.{Value, deliver}
use Rattle.common.specs.Answer.Answer.{value}
use Rattle.kalyna.specs.Block.{seal_bytes}
use Rattle.blocks.specs.Blocks.{keys_of}
use Rattle.suites.specs.Suites.{block_bytes}
use Rattle.suites.specs.declared.Suite.{Suite}
use Rattle.suite_laws.specs.Row.{Row}
use Rattle.modes.specs.Stream as Stream
use Rattle.modes.specs.Chain as Chain
use Rattle.modes.specs.Fill.{fill}
use Rattle.modes.specs.Mac as Mac
use Rattle.modes.specs.Cell.{Call, shape_of, made, sealing, opening}
use Rattle.modes.proofs.Cell.{Makes, ctr_makes}
use Rattle.answers.specs.Told.{told_of}
use Rattle.std.proofs.Common.{Ok}
use Rattle.judging.specs.Order.{length_before}
use Rattle.judging.specs.Cleared.{Cleared}
use Rattle.call_laws.proofs.Same.{keys_for, sealing_is}
use Rattle.call_laws.proofs.Facts as facts

module _ (g : Call) (s : Suite) (key side text : Value) (out : List ℕ) (cl : Cleared g s (length key) (length side) (length text) (length out)) (ks : List ℕ) (ek : ks ≡ keys_for s key) where
  row : Row s
  row = facts.row g s key side text out cl

  -- the cipher of the scheduled keys
  abbrev pub E : List ℕ → List ℕ
  E = seal_bytes s.columns s.rounds (keys_of s.columns ks)

  is_E : sealing s key ≡ E
  is_E = sealing_is s key row ∙ ap (λ k. seal_bytes s.columns s.rounds (keys_of s.columns k)) (sym ek)

  pub blk_done : g ≡ Call.blk → (after : List ℕ) → after ≡ E text ++ drop (8 * s.columns) out
      → told_of (Ok (8 * s.columns)) after ≡ deliver (made g (block_bytes s) (sealing s key) (opening s key) side text) out
  unfolding shape_of made length_before
  blk_done q after w =
      facts.done g s key side text out cl (λ e. other (sym q ∙ e)) (8 * s.columns) after (E text) (ap (λ h. Makes h s key side text) q ∙ ap₂ (λ (B : ℕ) (X : List ℕ → List ℕ). value (X text)) row.block is_E)
      (ap (λ h. length_before h (8 * s.columns) (length text)) q) w
    where
      other : Call.blk ≡ Call.uncbp → ⊥
      other e = let z : ◌≡◌ {A = ℕ} 0 1 = cc in omega arith

  pub ctr_done : g ≡ Call.ctr → (after : List ℕ) → after ≡ Stream.ctr (8 * s.columns) E side text ++ drop (length text) out
      → told_of (Ok (length text)) after ≡ deliver (made g (block_bytes s) (sealing s key) (opening s key) side text) out
  unfolding shape_of made length_before
  ctr_done q after w =
      facts.done g s key side text out cl (λ e. other (sym q ∙ e)) (length text) after (Stream.ctr (8 * s.columns) E side text) (ap (λ h. Makes h s key side text) q ∙ ctr_makes cl.number s key side text cl.known (facts.any_short g s key side text out cl (ap shape_of q)) ∙ ap₂ (λ (B : ℕ) (X : List ℕ → List ℕ). value (Stream.ctr B X side text)) row.block is_E)
      (ap (λ h. length_before h (8 * s.columns) (length text)) q) w
    where
      other : Call.ctr ≡ Call.uncbp → ⊥
      other e = let z : ◌≡◌ {A = ℕ} 0 1 = cc in omega arith

  pub ofb_done : g ≡ Call.ofb → (after : List ℕ) → after ≡ Stream.ofb (8 * s.columns) E side text ++ drop (length text) out
      → told_of (Ok (length text)) after ≡ deliver (made g (block_bytes s) (sealing s key) (opening s key) side text) out
  unfolding shape_of made length_before
  ofb_done q after w =
      facts.done g s key side text out cl (λ e. other (sym q ∙ e)) (length text) after (Stream.ofb (8 * s.columns) E side text) (ap (λ h. Makes h s key side text) q ∙ ap₂ (λ (B : ℕ) (X : List ℕ → List ℕ). value (Stream.ofb B X side text)) row.block is_E)
      (ap (λ h. length_before h (8 * s.columns) (length text)) q) w
    where
      other : Call.ofb ≡ Call.uncbp → ⊥
      other e = let z : ◌≡◌ {A = ℕ} 0 1 = cc in omega arith

  pub cfb_done : g ≡ Call.cfb → (after : List ℕ) → after ≡ Stream.cfb (8 * s.columns) E side text ++ drop (length text) out
      → told_of (Ok (length text)) after ≡ deliver (made g (block_bytes s) (sealing s key) (opening s key) side text) out
  unfolding shape_of made length_before
  cfb_done q after w =
      facts.done g s key side text out cl (λ e. other (sym q ∙ e)) (length text) after (Stream.cfb (8 * s.columns) E side text) (ap (λ h. Makes h s key side text) q ∙ ap₂ (λ (B : ℕ) (X : List ℕ → List ℕ). value (Stream.cfb B X side text)) row.block is_E)
      (ap (λ h. length_before h (8 * s.columns) (length text)) q) w
    where
      other : Call.cfb ≡ Call.uncbp → ⊥
      other e = let z : ◌≡◌ {A = ℕ} 0 1 = cc in omega arith

  pub uncfb_done : g ≡ Call.uncfb → (after : List ℕ) → after ≡ Stream.uncfb (8 * s.columns) E side text ++ drop (length text) out
      → told_of (Ok (length text)) after ≡ deliver (made g (block_bytes s) (sealing s key) (opening s key) side text) out
  unfolding shape_of made length_before
  uncfb_done q after w =
      facts.done g s key side text out cl (λ e. other (sym q ∙ e)) (length text) after (Stream.uncfb (8 * s.columns) E side text) (ap (λ h. Makes h s key side text) q ∙ ap₂ (λ (B : ℕ) (X : List ℕ → List ℕ). value (Stream.uncfb B X side text)) row.block is_E)
      (ap (λ h. length_before h (8 * s.columns) (length text)) q) w
    where
      other : Call.uncfb ≡ Call.uncbp → ⊥
      other e = let z : ◌≡◌ {A = ℕ} 0 1 = cc in omega arith

  pub cbc_done : g ≡ Call.cbc → (after : List ℕ) → after ≡ Chain.cbc (8 * s.columns) E side text ++ drop (length text) out
      → told_of (Ok (length text)) after ≡ deliver (made g (block_bytes s) (sealing s key) (opening s key) side text) out
  unfolding shape_of made length_before
  cbc_done q after w =
      facts.done g s key side text out cl (λ e. other (sym q ∙ e)) (length text) after (Chain.cbc (8 * s.columns) E side text) (ap (λ h. Makes h s key side text) q ∙ ap₂ (λ (B : ℕ) (X : List ℕ → List ℕ). value (Chain.cbc B X side text)) row.block is_E)
      (ap (λ h. length_before h (8 * s.columns) (length text)) q) w
    where
      other : Call.cbc ≡ Call.uncbp → ⊥
      other e = let z : ◌≡◌ {A = ℕ} 0 1 = cc in omega arith

  pub cbp_done : g ≡ Call.cbp → (after : List ℕ) → after ≡ Chain.cbc (8 * s.columns) E side (fill (8 * s.columns) text) ++ drop (8 * s.columns * (length text / (8 * s.columns) + 1)) out
      → told_of (Ok (8 * s.columns * (length text / (8 * s.columns) + 1))) after ≡ deliver (made g (block_bytes s) (sealing s key) (opening s key) side text) out
  unfolding shape_of made length_before
  cbp_done q after w =
      facts.done g s key side text out cl (λ e. other (sym q ∙ e)) (8 * s.columns * (length text / (8 * s.columns) + 1)) after (Chain.cbc (8 * s.columns) E side (fill (8 * s.columns) text)) (ap (λ h. Makes h s key side text) q ∙ ap₂ (λ (B : ℕ) (X : List ℕ → List ℕ). value (Chain.cbc B X side (fill B text))) row.block is_E)
      (ap (λ h. length_before h (8 * s.columns) (length text)) q) w
    where
      other : Call.cbp ≡ Call.uncbp → ⊥
      other e = let z : ◌≡◌ {A = ℕ} 0 1 = cc in omega arith

  pub mac_done : g ≡ Call.mac → (after : List ℕ) → after ≡ Mac.mac (8 * s.columns) E text ++ drop (8 * s.columns) out
      → told_of (Ok (8 * s.columns)) after ≡ deliver (made g (block_bytes s) (sealing s key) (opening s key) side text) out
  unfolding shape_of made length_before
  mac_done q after w =
      facts.done g s key side text out cl (λ e. other (sym q ∙ e)) (8 * s.columns) after (Mac.mac (8 * s.columns) E text) (ap (λ h. Makes h s key side text) q ∙ ap₂ (λ (B : ℕ) (X : List ℕ → List ℕ). value (Mac.mac B X text)) row.block is_E)
      (ap (λ h. length_before h (8 * s.columns) (length text)) q) w
    where
      other : Call.mac ≡ Call.uncbp → ⊥
      other e = let z : ◌≡◌ {A = ℕ} 0 1 = cc in omega arith

  pub chk_done : g ≡ Call.chk → (after : List ℕ) → after ≡ Mac.chk (8 * s.columns) E side text ++ drop (1) out
      → told_of (Ok (1)) after ≡ deliver (made g (block_bytes s) (sealing s key) (opening s key) side text) out
  unfolding shape_of made length_before
  chk_done q after w =
      facts.done g s key side text out cl (λ e. other (sym q ∙ e)) (1) after (Mac.chk (8 * s.columns) E side text) (ap (λ h. Makes h s key side text) q ∙ ap₂ (λ (B : ℕ) (X : List ℕ → List ℕ). value (Mac.chk B X side text)) row.block is_E)
      (ap (λ h. length_before h (8 * s.columns) (length text)) q) w
    where
      other : Call.chk ≡ Call.uncbp → ⊥
      other e = let z : ◌≡◌ {A = ℕ} 0 1 = cc in omega arith
