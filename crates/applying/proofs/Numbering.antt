-- A cipher call's kind, its number f, and what both say of its arguments and tables (document 01, section 6).
use mathlib.Core.Path.{◌≡◌, refl, ap, sym}
use mathlib.Core.Bool.{Bool, true, false}
use mathlib.Core.List.{[], ◌∷◌}
use Prim.Native.Nat.{ℕ, ◌-◌, ◌/◌, ◌%◌, ◌≤◌, ◌<◌}
use native.Mathlib.Omega.{arith}
use lib.Dec.{eqb, leb}
use borrow.Author.Tests.{leb-true, lt-leb, eq-eqb, ne_eqb}
use Rattle.common.specs.Choice.{pick}
use Rattle.common.specs.Answer.{Value}
use Rattle.common.proofs.Choices.{false_true, pick_both}
use Rattle.tree.specs.Bounds.{of_row, arguments_in, arguments_of, when_kind}
use Rattle.tree.specs.Calls.{calls, plain, cipher}
use Rattle.tree.proofs.Table.{call_kind}
use Rattle.meaning.specs.Real.{ciphered}
use Rattle.kinds.specs.Tables.{opens, tables_for}
use Rattle.kinds.proofs.Quick.{all_below, all_at}
use Rattle.lent.specs.declared.Tables.{Tables}
use Rattle.lent.specs.Lent.{need_of, Serves}
use Rattle.modes.specs.Cell.{Call, call_of, Side, side_of, cell, arranged, cell_of}

-- whether a call has neither IV nor tag
unfoldable bare : Side → Bool
bare Side.none = true
bare Side.iv = false
bare Side.tag = false

-- section 6: cipher calls are 0100 + 16f + suite
abbrev pub number_in : ℕ → ℕ
number_in k = (k - 0x0100) / 16

-- a cipher call: its kind is high enough, its tables are those of its number
unfoldable cipher_kind_lem : ℕ → Bool
cipher_kind_lem k = pick (leb 0x0100 k) (leb (need_of (number_in k)) (tables_for k)) false

unfoldable two_says_lem : ℕ → Bool
two_says_lem k = pick (eqb (arguments_of k) 2) (pick (leb k 0x0013) true (pick (bare (side_of (call_of (number_in k)))) (cipher_kind_lem k) false)) true

unfoldable three_says_lem : ℕ → Bool
three_says_lem k = pick (eqb (arguments_of k) 3) (pick (eqb k 0x0014) true (pick (bare (side_of (call_of (number_in k)))) false (cipher_kind_lem k))) true

-- over the 438 kinds that the table spans
two_table : all_below 0x01B6 two_says_lem ≡ true
unfolding all_below two_says_lem cipher_kind_lem arguments_of arguments_in of_row calls plain cipher pick bare side_of call_of need_of tables_for opens
two_table = refl

three_table : all_below 0x01B6 three_says_lem ≡ true
unfolding all_below three_says_lem cipher_kind_lem arguments_of arguments_in of_row calls plain cipher pick bare side_of call_of need_of tables_for opens
three_table = refl

pick_holds : (b : Bool) (x y : Bool) → b ≡ true → pick b x y ≡ true → x ≡ true
unfolding pick
pick_holds true x y e h = h
pick_holds false x y e h = absurd (false_true e)

pick_other : (b : Bool) (x y : Bool) → b ≡ false → pick b x y ≡ true → y ≡ true
unfolding pick
pick_other true x y e h = absurd (false_true (sym e))
pick_other false x y e h = h

pick_second : (b c : Bool) → pick b false c ≡ true → (b ≡ false) × (c ≡ true)
unfolding pick
pick_second true c e = absurd (false_true e)
pick_second false c e = (refl, e)

-- what a cipher call's kind says
pub record Says (k : ℕ) : Type 0 where
  pub high : 0x0100 ≤ k
  pub need : need_of (number_in k) ≤ tables_for k

says_of : (k : ℕ) → cipher_kind_lem k ≡ true → Says k
unfolding cipher_kind_lem
says_of k e =
    let (a, b) = pick_both (leb 0x0100 k) (leb (need_of (number_in k)) (tables_for k)) e in
    record { high = leb-true 0x0100 k a; need = leb-true (need_of (number_in k)) (tables_for k) b }

bare_none : (s : Side) → bare s ≡ true → s ≡ Side.none
unfolding bare
bare_none Side.none e = refl
bare_none Side.iv e = absurd (false_true e)
bare_none Side.tag e = absurd (false_true e)

-- a call of two arguments that is not plain
module _ (k : ℕ) (e : arguments_of k ≡ 2) (h : 0x0013 < k) where
  two_case : (bare (side_of (call_of (number_in k))) ≡ true) × (cipher_kind_lem k ≡ true)
  unfolding two_says_lem
  two_case =
      pick_both _ _ (pick_other (leb k 0x0013) true _ (lt-leb k 0x0013 h)
      (pick_holds (eqb (arguments_of k) 2) _ true (eq-eqb (arguments_of k) 2 e) (all_at 0x01B6 two_says_lem k two_table (let c = call_kind k 1 e in omega (arith, c.1)))))

  pub two_says : Says k
  two_says = says_of k two_case.1

  pub two_cell : (a b : Value) → ciphered cell_of k (a ∷ b ∷ []) ≡ cell (call_of (number_in k)) (k % 16) a [] b
  unfolding ciphered cell_of arranged
  two_cell a b = ap (λ s. arranged s (call_of (number_in k)) (k % 16) (a ∷ b ∷ [])) (bare_none (side_of (call_of (number_in k))) two_case.0)

arranged_three : (s : Side) (f : Call) (n : ℕ) (a b c : Value) → bare s ≡ false → arranged s f n (a ∷ b ∷ c ∷ []) ≡ cell f n a b c
unfolding arranged bare
arranged_three Side.none f n a b c e = absurd (false_true (sym e))
arranged_three Side.iv f n a b c e = refl
arranged_three Side.tag f n a b c e = refl

-- a call of three arguments that is not `when`
module _ (k : ℕ) (e : arguments_of k ≡ 3) (h : k ≡ when_kind → ⊥) where
  three_case : (bare (side_of (call_of (number_in k))) ≡ false) × (cipher_kind_lem k ≡ true)
  unfolding three_says_lem
  three_case =
      pick_second _ _ (pick_other (eqb k 0x0014) true _ (ne_eqb k 0x0014 h)
      (pick_holds (eqb (arguments_of k) 3) _ true (eq-eqb (arguments_of k) 3 e) (all_at 0x01B6 three_says_lem k three_table (let c = call_kind k 2 e in omega (arith, c.1)))))

  pub three_says : Says k
  three_says = says_of k three_case.1

  pub three_cell : (a b c : Value) → ciphered cell_of k (a ∷ b ∷ c ∷ []) ≡ cell (call_of (number_in k)) (k % 16) a b c
  unfolding ciphered cell_of
  three_cell a b c = arranged_three (side_of (call_of (number_in k))) (call_of (number_in k)) (k % 16) a b c three_case.0

-- tables for a kind serve its number
pub lent_number : (k : ℕ) (tables : Tables) → Says k → Serves (tables_for k) tables → Serves (need_of (number_in k)) tables
lent_number k tables s L =
    let n = s.need in
    record { sealing = λ q. L.sealing (omega arith); opening = λ q. L.opening (omega arith); forward = λ q. L.forward (omega arith); backward = λ q. L.backward (omega arith) }

-- past the plain kinds
pub above_plain : (k : ℕ) → arguments_of k ≡ 2 → (k ≡ 0x0010 → ⊥) → (k ≡ 0x0011 → ⊥) → (k ≡ 0x0012 → ⊥) → (k ≡ 0x0013 → ⊥) → 0x0013 < k
above_plain k e a b c d = let h = call_kind k 1 e in omega (arith, h.0)
