-- Which tables a kind needs, way by way.
use mathlib.Core.Path.{◌≡◌, refl, sym, ◌∙◌}
use mathlib.Core.Bool.{Bool, true, false}
use Prim.Native.Nat.{ℕ, ◌+◌, ◌-◌, ◌<◌, ◌≤◌, max}
use native.Mathlib.Omega.{arith}
use lib.Dec.{leb}
use borrow.Author.Tests.{le-leb, lt-leb, leb-true, leb-false, lt-ltb, le-ltb}
use Rattle.common.proofs.Choices.{pick_true, pick_false}
use Rattle.tree.specs.Bounds.{of_row}
use Rattle.std.specs.Ordering.{ord_max}
use Rattle.kinds.specs.contracts.NeedOrd.TheImpl as need_ord
use Rattle.kinds.specs.declared.Need.{Need}
use Rattle.kinds.specs.declared.Need.TheVariants.{Nothing, Sealing, Opening}
use Rattle.kinds.specs.Tables.{opens, need_number, tables_for}

bool_same : (a b : Bool) → (a ≡ true → b ≡ true) → (a ≡ false → b ≡ false) → a ≡ b
bool_same true b f g = sym (f refl)
bool_same false b f g = sym (g refl)

-- the ways of `suited`
pub above : (kind k : ℕ) → kind < k → of_row true kind k ≡ leb (k - kind) 5
unfolding of_row
above kind k h =
    pick_true _ _ _ (lt-ltb kind k h)
    ∙ bool_same (leb k (kind + 5)) (leb (k - kind) 5) (λ e. let l = leb-true k (kind + 5) e in le-leb (k - kind) 5 (omega arith)) (λ e. let l = leb-false k (kind + 5) e in lt-leb (k - kind) 5 (omega arith))

pub not_above : (kind k : ℕ) → k ≤ kind → of_row true kind k ≡ false
unfolding of_row
not_above kind k h = pick_false _ _ _ (le-ltb kind k h)

pub ruleset suiting = (above, not_above)

-- the ways of `tables_for`
module _ (k : ℕ) where
  pub unblk_two : of_row true 0x0110 k ≡ true → tables_for k ≡ need_number Opening
  unfolding tables_for opens
  unblk_two a = pick_true _ _ _ (pick_true _ _ _ a)

  module _ (a : of_row true 0x0110 k ≡ false) where
    pub uncbc_two : of_row true 0x0170 k ≡ true → tables_for k ≡ need_number Opening
    unfolding tables_for opens
    uncbc_two b = pick_true _ _ _ (pick_false _ _ _ a ∙ pick_true _ _ _ b)

    module _ (b : of_row true 0x0170 k ≡ false) where
      pub uncbp_two : of_row true 0x0190 k ≡ true → tables_for k ≡ need_number Opening
      unfolding tables_for opens
      uncbp_two c = pick_true _ _ _ (pick_false _ _ _ a ∙ pick_false _ _ _ b ∙ c)

      module _ (c : of_row true 0x0190 k ≡ false) where
        pub seals_one : 0x0100 < k → tables_for k ≡ need_number Sealing
        unfolding tables_for opens
        seals_one h = pick_false _ _ _ (pick_false _ _ _ a ∙ pick_false _ _ _ b ∙ c) ∙ pick_true _ _ _ (lt-ltb 0x0100 k h)

        pub plain_none : k ≤ 0x0100 → tables_for k ≡ need_number Nothing
        unfolding tables_for opens
        plain_none h = pick_false _ _ _ (pick_false _ _ _ a ∙ pick_false _ _ _ b ∙ c) ∙ pick_false _ _ _ (le-ltb 0x0100 k h)

pub ruleset needs = (unblk_two, uncbc_two, uncbp_two, seals_one, plain_none)

-- the higher of two needs
pub higher : (a b : Need) → need_number (ord_max need_ord.cmp-value.it a b) ≡ max (need_number a) (need_number b)
higher Nothing Nothing = refl
higher Nothing Sealing = refl
higher Nothing Opening = refl
higher Sealing Nothing = refl
higher Sealing Sealing = refl
higher Sealing Opening = refl
higher Opening Nothing = refl
higher Opening Sealing = refl
higher Opening Opening = refl

-- two needs of one number are one
pub one_need : (a b : Need) → need_number a ≡ need_number b → a ≡ b
one_need Nothing Nothing e = refl
one_need Nothing Sealing e = absurd (omega arith)
one_need Nothing Opening e = absurd (omega arith)
one_need Sealing Nothing e = absurd (omega arith)
one_need Sealing Sealing e = refl
one_need Sealing Opening e = absurd (omega arith)
one_need Opening Nothing e = absurd (omega arith)
one_need Opening Sealing e = absurd (omega arith)
one_need Opening Opening e = refl
