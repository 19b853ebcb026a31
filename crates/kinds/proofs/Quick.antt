-- The number of arguments straight from the kind: the table of calls computed once over all its kinds.
use mathlib.Core.Path.{◌≡◌, refl, ap, sym, ◌∙◌}
use mathlib.Core.Bool.{Bool, true, false}
use Prim.Native.Nat.{ℕ, zero, suc, ◌/◌, ◌%◌, ◌<◌, ◌≤◌}
use native.Mathlib.Omega.{arith}
use lib.Dec.{eqb, leb, ltb}
use borrow.Author.Tests.{eqb-true, eqb-false, eq-eqb, ne_eqb, le-leb, lt-leb, lt-ltb, le-ltb, ltb-true, ltb-false}
use Rattle.std.specs.Prelude.{Some, None}
use Rattle.kinds.specs.Tables.{some_if}
use Rattle.common.specs.Choice.{pick}
use Rattle.common.proofs.Choices.{pick_true, pick_false, pick_both}
use Rattle.tree.specs.Calls.{calls, plain, cipher}
use Rattle.tree.specs.Bounds.{of_row, arguments_in, arguments_of}
use Rattle.tree.proofs.Table.{call_kind}

-- a cipher call's, by its suite and its place in the order
unfoldable cipher_arguments : ℕ → ℕ
cipher_arguments k = pick (eqb (k % 16) 0) 0 (pick (leb (k % 16) 5) (pick (leb k 0x0115) 2 (pick (eqb (k / 16) 0x001A) 2 3)) 0)

unfoldable quick : ℕ → ℕ
quick k =
    pick (ltb k 0x0010) 0 (pick (leb k 0x0013) 2 (pick (eqb k 0x0014) 3 (pick (ltb k 0x0100) 0 (pick (leb k 0x01B5) (cipher_arguments k) 0))))

-- whether a test holds below n
unfoldable pub all_below : ℕ → (ℕ → Bool) → Bool
all_below zero f = true
all_below (suc n) f = pick (f n) (all_below n f) false

pub all_at : (n : ℕ) (f : ℕ → Bool) (i : ℕ) → all_below n f ≡ true → i < n → f i ≡ true
unfolding all_below
all_at zero f i e h = absurd (omega arith)
all_at (suc n) f i e h =
    let (a, b) = pick_both (f n) (all_below n f) e in
    by_place (eqb i n) refl a (λ l. all_at n f i b l)
  where
    by_place : (t : Bool) → eqb i n ≡ t → f n ≡ true → (i < n → f i ≡ true) → f i ≡ true
    by_place true q a g = ap f (eqb-true i n q) ∙ a
    by_place false q a g = g (let d = eqb-false i n q in omega arith)

-- over the 438 kinds that the table spans
table_quick : all_below 0x01B6 (λ k. eqb (arguments_of k) (quick k)) ≡ true
unfolding all_below arguments_of arguments_in of_row calls plain cipher quick cipher_arguments pick
table_quick = refl

beyond_quick : (k : ℕ) → 0x01B5 < k → quick k ≡ 0
unfolding quick
beyond_quick k h =
    pick_false _ _ _ (le-ltb k 0x0010 (omega arith))
    ∙ pick_false _ _ _ (lt-leb k 0x0013 (omega arith))
    ∙ pick_false _ _ _ (ne_eqb k 0x0014 (λ e. omega arith))
    ∙ pick_false _ _ _ (le-ltb k 0x0100 (omega arith))
    ∙ pick_false _ _ _ (lt-leb k 0x01B5 h)

beyond_none : (k n : ℕ) → 0x01B5 < k → arguments_of k ≡ n → n ≡ 0
beyond_none k zero h e = refl
beyond_none k (suc n) h e = let c = call_kind k n e in absurd (omega (arith, c.1))

quick_is : (k : ℕ) → quick k ≡ arguments_of k
quick_is k = by_place (ltb k 0x01B6) refl
  where
    by_place : (b : Bool) → ltb k 0x01B6 ≡ b → quick k ≡ arguments_of k
    by_place true e = sym (eqb-true (arguments_of k) (quick k) (all_at 0x01B6 (λ k. eqb (arguments_of k) (quick k)) k table_quick (ltb-true k 0x01B6 e)))
    by_place false e = let h = ltb-false k 0x01B6 e in beyond_quick k h ∙ sym (beyond_none k (arguments_of k) h refl)

-- no call of the table takes more than three
few_pick : (b : Bool) (x y : ℕ) → x ≤ 3 → y ≤ 3 → pick b x y ≤ 3
unfolding pick
few_pick true x y f g = f
few_pick false x y f g = g

quick_few : (k : ℕ) → quick k ≤ 3
unfolding quick cipher_arguments
quick_few k =
    few_pick _ _ _ (omega arith) (few_pick _ _ _ (omega arith) (few_pick _ _ _ (omega arith) (few_pick _ _ _ (omega arith) (few_pick _ _ _
    (few_pick _ _ _ (omega arith) (few_pick _ _ _ (few_pick _ _ _ (omega arith) (few_pick _ _ _ (omega arith) (omega arith))) (omega arith))) (omega arith)))))

pub arguments_few : (k : ℕ) → arguments_of k ≤ 3
arguments_few k = let q = quick_is k in let f = quick_few k in omega arith

-- none takes one
one_pick : (b : Bool) (x y : ℕ) → (x ≡ 1 → ⊥) → (y ≡ 1 → ⊥) → pick b x y ≡ 1 → ⊥
unfolding pick
one_pick true x y f g = f
one_pick false x y f g = g

quick_not_one : (k : ℕ) → quick k ≡ 1 → ⊥
unfolding quick cipher_arguments
quick_not_one k =
    let none : ◌≡◌ {A = ℕ} 0 1 → ⊥ = λ e. omega arith in
    let two : ◌≡◌ {A = ℕ} 2 1 → ⊥ = λ e. omega arith in
    let three : ◌≡◌ {A = ℕ} 3 1 → ⊥ = λ e. omega arith in
    one_pick _ _ _ none (one_pick _ _ _ two (one_pick _ _ _ three (one_pick _ _ _ none (one_pick _ _ _
    (one_pick _ _ _ none (one_pick _ _ _ (one_pick _ _ _ two (one_pick _ _ _ two three)) none)) none))))

pub arguments_not_one : (k : ℕ) → arguments_of k ≡ 1 → ⊥
arguments_not_one k e = quick_not_one k (quick_is k ∙ e)

-- the ways of `arguments`
module _ (k : ℕ) where
  pub low_none : k < 0x0010 → 0 ≡ arguments_of k
  unfolding quick
  low_none h = sym (pick_true _ _ _ (lt-ltb k 0x0010 h)) ∙ quick_is k

  module _ (a : 0x0010 ≤ k) where
    pub plain_two : k ≤ 0x0013 → 2 ≡ arguments_of k
    unfolding quick
    plain_two h = sym (pick_false _ _ _ (le-ltb k 0x0010 a) ∙ pick_true _ _ _ (le-leb k 0x0013 h)) ∙ quick_is k

    module _ (b : 0x0013 < k) where
      to_three : quick k ≡ pick (eqb k 0x0014) 3 (pick (ltb k 0x0100) 0 (pick (leb k 0x01B5) (cipher_arguments k) 0))
      unfolding quick
      to_three = pick_false _ _ _ (le-ltb k 0x0010 a) ∙ pick_false _ _ _ (lt-leb k 0x0013 b)

      pub plain_three : k ≡ 0x0014 → 3 ≡ arguments_of k
      plain_three h = sym (to_three ∙ pick_true _ _ _ (eq-eqb k 0x0014 h)) ∙ quick_is k

      module _ (c : k ≡ 0x0014 → ⊥) where
        pub between_none : k < 0x0100 → 0 ≡ arguments_of k
        between_none h = sym (to_three ∙ pick_false _ _ _ (ne_eqb k 0x0014 c) ∙ pick_true _ _ _ (lt-ltb k 0x0100 h)) ∙ quick_is k

        module _ (d : 0x0100 ≤ k) where
          pub high_none : 0x01B5 < k → 0 ≡ arguments_of k
          high_none h = sym (to_three ∙ pick_false _ _ _ (ne_eqb k 0x0014 c) ∙ pick_false _ _ _ (le-ltb k 0x0100 d) ∙ pick_false _ _ _ (lt-leb k 0x01B5 h)) ∙ quick_is k

          module _ (e : k ≤ 0x01B5) where
            to_cipher : cipher_arguments k ≡ arguments_of k
            to_cipher = sym (to_three ∙ pick_false _ _ _ (ne_eqb k 0x0014 c) ∙ pick_false _ _ _ (le-ltb k 0x0100 d) ∙ pick_true _ _ _ (le-leb k 0x01B5 e)) ∙ quick_is k

            pub suite_none : k % 16 ≡ 0 → 0 ≡ arguments_of k
            unfolding cipher_arguments
            suite_none h = sym (pick_true _ _ _ (eq-eqb (k % 16) 0 h)) ∙ to_cipher

            module _ (f : k % 16 ≡ 0 → ⊥) where
              pub suite_high : 5 < k % 16 → 0 ≡ arguments_of k
              unfolding cipher_arguments
              suite_high h = sym (pick_false _ _ _ (ne_eqb (k % 16) 0 f) ∙ pick_false _ _ _ (lt-leb (k % 16) 5 h)) ∙ to_cipher

              module _ (g : k % 16 ≤ 5) where
                to_suited : pick (leb k 0x0115) 2 (pick (eqb (k / 16) 0x001A) 2 3) ≡ arguments_of k
                unfolding cipher_arguments
                to_suited = sym (pick_false _ _ _ (ne_eqb (k % 16) 0 f) ∙ pick_true _ _ _ (le-leb (k % 16) 5 g)) ∙ to_cipher

                pub block_two : k ≤ 0x0115 → 2 ≡ arguments_of k
                block_two h = sym (pick_true _ _ _ (le-leb k 0x0115 h)) ∙ to_suited

                pub mac_two : 0x0115 < k → k / 16 ≡ 0x001A → 2 ≡ arguments_of k
                mac_two h i = sym (pick_false _ _ _ (lt-leb k 0x0115 h) ∙ pick_true _ _ _ (eq-eqb (k / 16) 0x001A i)) ∙ to_suited

                pub cipher_three : 0x0115 < k → (k / 16 ≡ 0x001A → ⊥) → 3 ≡ arguments_of k
                cipher_three h i = sym (pick_false _ _ _ (lt-leb k 0x0115 h) ∙ pick_false _ _ _ (ne_eqb (k / 16) 0x001A i)) ∙ to_suited

-- what an answer says of the number
pub if_none : (n : ℕ) → some_if n ≡ None → n ≡ 0
unfolding some_if
if_none zero e = refl
if_none (suc n) e = cc

pub if_some : (n m : ℕ) → some_if n ≡ Some m → (m ≡ n) × (m ≡ 0 → ⊥)
unfolding some_if
if_some zero m e = cc
if_some (suc n) m e = let q : suc n ≡ m = of_some e in (sym q, λ z. omega arith)
  where
    of_some : {i j : ℕ} → Some i ≡ Some j → i ≡ j
    of_some e = cc

-- the answers of `arguments`
said : (k n : ℕ) → n ≡ arguments_of k → some_if (arguments_of k) ≡ some_if n
said k n e = ap some_if (sym e)

module _ (k : ℕ) where
  pub say_low : k < 0x0010 → some_if (arguments_of k) ≡ None
  unfolding some_if
  say_low h = said k 0 (low_none k h)

  pub say_plain_two : 0x0010 ≤ k → k ≤ 0x0013 → some_if (arguments_of k) ≡ Some 2
  unfolding some_if
  say_plain_two a h = said k 2 (plain_two k a h)

  pub say_plain_three : k ≡ 0x0014 → some_if (arguments_of k) ≡ Some 3
  unfolding some_if
  say_plain_three h = said k 3 (plain_three k (omega arith) (omega arith) h)

  pub say_between : 0x0014 < k → k < 0x0100 → some_if (arguments_of k) ≡ None
  unfolding some_if
  say_between a h = said k 0 (between_none k (omega arith) (omega arith) (λ e. omega arith) h)

  pub say_high : 0x01B5 < k → some_if (arguments_of k) ≡ None
  unfolding some_if
  say_high h = said k 0 (high_none k (omega arith) (omega arith) (λ e. omega arith) (omega arith) h)

  module _ (d : 0x0100 ≤ k) (e : k ≤ 0x01B5) where
    pub say_suite_none : k % 16 ≡ 0 → some_if (arguments_of k) ≡ None
    unfolding some_if
    say_suite_none h = said k 0 (suite_none k (omega arith) (omega arith) (λ e. omega arith) d e h)

    pub say_suite_high : 5 < k % 16 → some_if (arguments_of k) ≡ None
    unfolding some_if
    say_suite_high h = said k 0 (suite_high k (omega arith) (omega arith) (λ e. omega arith) d e (λ e. omega arith) h)

    module _ (f : k % 16 ≡ 0 → ⊥) (g : k % 16 ≤ 5) where
      pub say_block : k ≤ 0x0115 → some_if (arguments_of k) ≡ Some 2
      unfolding some_if
      say_block h = said k 2 (block_two k (omega arith) (omega arith) (λ e. omega arith) d e f g h)

      pub say_mac : 0x0115 < k → k / 16 ≡ 0x001A → some_if (arguments_of k) ≡ Some 2
      unfolding some_if
      say_mac h i = said k 2 (mac_two k (omega arith) (omega arith) (λ e. omega arith) d e f g h i)

      pub say_cipher : 0x0115 < k → (k / 16 ≡ 0x001A → ⊥) → some_if (arguments_of k) ≡ Some 3
      unfolding some_if
      say_cipher h i = said k 3 (cipher_three k (omega arith) (omega arith) (λ e. omega arith) d e f g h i)

pub ruleset ways = (say_low, say_plain_two, say_plain_three, say_between, say_high, say_suite_none, say_suite_high, say_block, say_mac, say_cipher)
