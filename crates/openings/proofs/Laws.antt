-- What each opening asks, past the checks, and that what it wrote is what is delivered.
use mathlib.Core.Path.{◌≡◌, sym, ap, ap₂, ◌∙◌, subst}
use mathlib.Core.List.{List, ◌++◌}
use Prim.Native.Nat.{ℕ, zero, suc, ◌+◌, ◌*◌, ◌/◌, ◌%◌, ◌<◌, ◌≤◌}
use native.Mathlib.Nat.{div-add-mod', zero-mul, suc-mul}
use native.Mathlib.Omega.{arith}
use lib.ListN.{length, take, drop}
use Rattle.common.specs.Answer.{Value, Delivered, deliver}
use Rattle.common.specs.Answer.Answer.{value}
use Rattle.kalyna.specs.Block.{unseal_bytes}
use Rattle.open_laws.specs.Opening.{Unmixed}
use Rattle.blocks.specs.Blocks.{Width, keys_of}
use Rattle.suites.specs.Suites.{block_bytes}
use Rattle.suites.specs.declared.Suite.{Suite}
use Rattle.suite_laws.specs.Row.{Row}
use Rattle.modes.specs.Chain as Chain
use Rattle.modes.specs.Fill.{unfill}
use Rattle.fills.specs.Ended.{ended}
use Rattle.modes.specs.Cell.{Call, side_of, shape_of, made, sealing, opening}
use Rattle.modes.proofs.Cell.{Makes}
use Rattle.answers.specs.Told.{told_of}
use Rattle.std.proofs.Common.{Ok, Err, Some, None}
use Rattle.std.specs.Prelude.{Option, IfSome}
use Rattle.answers.specs.declared.Refusal.TheVariants as refusals
use Rattle.answers.specs.Told.{table}
use Rattle.judging.specs.Order.{length_before}
use Rattle.judging.specs.Cleared.{Cleared}
use Rattle.call_laws.proofs.Same.{keys_for, keys_long, opening_is}
use Rattle.call_laws.proofs.Facts as facts
use lib.Seq.{take-append_seam, take-take}
use Rattle.handing.proofs.Giving.{refuses}

-- whole blocks, and some: at least one
pub whole_least : (b n : ℕ) → 0 < n → n % b ≡ 0 → b ≤ n
whole_least b n p w = go (n / b) (div-add-mod' n b)
  where
    go : (q : ℕ) → q * b + n % b ≡ n → b ≤ n
    go zero e = let z : ⊥ = omega (arith, zero-mul b, e) in absurd z
    go (suc q) e = omega (arith, suc-mul q b, e)

-- `uncbc` wrote v to the front of a room of its own; the text ends there at r, or nowhere
module _ (B n : ℕ) (r : Option ℕ) (v room after out : List ℕ) (l : length v ≡ n) (w : after ≡ v ++ drop n room) (m : unfill B (take n after) ≡ ended r (take n after)) where
  front : take n after ≡ v
  front = ap (take n) w ∙ subst (λ m. take m (v ++ drop n room) ≡ v) l (take-append_seam v (drop n room))

  is_ended : unfill B v ≡ ended r v
  is_ended = subst (λ x. unfill B x ≡ ended r x) front m

  -- no text before the fill
  pub none_ended : r ≡ None → told_of (Err refusals.Fill) out ≡ deliver (unfill B v) out
  unfolding ended table
  none_ended h = refuses refusals.Fill out ∙ sym (ap (λ a. deliver a out) (is_ended ∙ ap (λ r. ended r v) h))

  -- the k leading bytes of the room are the text
  pub ended_handed : (d : Delivered) (k : ℕ) → r ≡ Some k → k ≤ n → d ≡ deliver (value (take k after)) out → d ≡ deliver (unfill B v) out
  unfolding ended
  ended_handed d k h le e =
      e
      ∙ ap (λ y. deliver (value y) out) (sym (take-take k n after le) ∙ ap (take k) front)
      ∙ sym (ap (λ a. deliver a out) (is_ended ∙ ap (λ r. ended r v) h))

-- an end lies within
pub end_in : (r : Option ℕ) (n k : ℕ) → IfSome r (λ m. (0 < m) × (m ≤ n)) → r ≡ Some k → k ≤ n
end_in r n k h e = (subst (λ r. IfSome r (λ m. (0 < m) × (m ≤ n))) e h).1

module _ (g : Call) (s : Suite) (key side text : Value) (out : List ℕ) (cl : Cleared g s (length key) (length side) (length text) (length out))
    (ks kb : List ℕ) (ek : ks ≡ keys_for s key) (un : Unmixed s.columns (s.columns * s.rounds) ks kb) where
  row : Row s
  row = facts.row g s key side text out cl

  abbrev pub Base : Type 0
  Base = Width s.columns × (0 < s.rounds) × (s.columns * (s.rounds + 1) ≤ length kb)

  pub base : Base
  base = (row.width, row.some, facts.keys_room g s key side text out cl kb (un.long ∙ ap length ek ∙ keys_long s key))

  -- the inverse of the cipher of the scheduled keys
  abbrev pub D : List ℕ → List ℕ
  D = unseal_bytes s.columns s.rounds (keys_of s.columns ks)

  is_D : opening s key ≡ D
  is_D = opening_is s key row ∙ ap (λ k. unseal_bytes s.columns s.rounds (keys_of s.columns k)) (sym ek)

  pub unblk_needs : g ≡ Call.unblk → (length text ≡ 8 * s.columns) × (8 * s.columns ≤ length out)
  unfolding side_of shape_of length_before
  unblk_needs q = (facts.block_long g s key side text out cl (ap shape_of q), facts.room g s key side text out cl _ (ap (λ h. length_before h (8 * s.columns) (length text)) q))

  pub uncbc_needs : g ≡ Call.uncbc → (length side ≡ 8 * s.columns) × (0 < length text) × (length text ≤ 1024) × (length text % (8 * s.columns) ≡ 0) × (length text ≤ length out)
  unfolding side_of shape_of length_before
  uncbc_needs q = (
    facts.iv_long g s key side text out cl (ap side_of q),
    facts.whole_some g s key side text out cl (ap shape_of q),
    facts.whole_short g s key side text out cl (ap shape_of q),
    facts.whole_blocks g s key side text out cl (ap shape_of q),
    facts.room g s key side text out cl _ (ap (λ h. length_before h (8 * s.columns) (length text)) q),
  )

  pub uncbp_needs : g ≡ Call.uncbp → (length side ≡ 8 * s.columns) × (0 < length text) × (length text ≤ 1024) × (length text % (8 * s.columns) ≡ 0)
  unfolding side_of shape_of
  uncbp_needs q = (
    facts.iv_long g s key side text out cl (ap side_of q),
    facts.whole_some g s key side text out cl (ap shape_of q),
    facts.whole_short g s key side text out cl (ap shape_of q),
    facts.whole_blocks g s key side text out cl (ap shape_of q),
  )

  pub unblk_done : g ≡ Call.unblk → (after : List ℕ) → after ≡ D text ++ drop (8 * s.columns) out
      → told_of (Ok (8 * s.columns)) after ≡ deliver (made g (block_bytes s) (sealing s key) (opening s key) side text) out
  unfolding made length_before
  unblk_done q after w =
      facts.done g s key side text out cl (λ e. other (sym q ∙ e)) (8 * s.columns) after (D text) (ap (λ h. Makes h s key side text) q ∙ ap (λ X. value (X text)) is_D)
      (ap (λ h. length_before h (8 * s.columns) (length text)) q) w
    where
      other : Call.unblk ≡ Call.uncbp → ⊥
      other e = let z : ◌≡◌ {A = ℕ} 0 1 = cc in omega arith

  pub uncbc_done : g ≡ Call.uncbc → (after : List ℕ) → after ≡ Chain.uncbc (8 * s.columns) D side text ++ drop (length text) out
      → told_of (Ok (length text)) after ≡ deliver (made g (block_bytes s) (sealing s key) (opening s key) side text) out
  unfolding made length_before
  uncbc_done q after w =
      facts.done g s key side text out cl (λ e. other (sym q ∙ e)) (length text) after (Chain.uncbc (8 * s.columns) D side text)
      (ap (λ h. Makes h s key side text) q ∙ ap₂ (λ (B : ℕ) (X : List ℕ → List ℕ). value (Chain.uncbc B X side text)) row.block is_D)
      (ap (λ h. length_before h (8 * s.columns) (length text)) q) w
    where
      other : Call.uncbc ≡ Call.uncbp → ⊥
      other e = let z : ◌≡◌ {A = ℕ} 0 1 = cc in omega arith

  pub uncbp_done : g ≡ Call.uncbp → (d : Delivered) → d ≡ deliver (unfill (8 * s.columns) (Chain.uncbc (8 * s.columns) D side text)) out
      → d ≡ deliver (made g (block_bytes s) (sealing s key) (opening s key) side text) out
  unfolding made
  uncbp_done q d w =
      w
      ∙ sym (ap (λ a. deliver a out) (ap (λ h. Makes h s key side text) q ∙ ap₂ (λ (B : ℕ) (X : List ℕ → List ℕ). unfill B (Chain.uncbc B X side text)) row.block is_D))
