-- The five suites: their sizes, and that each gives a cipher on blocks of its bytes.
use mathlib.Core.Bool.{Bool, true, false}
use mathlib.Core.Path.{◌≡◌, refl, sym, subst}
use mathlib.Core.List.{List}
use Prim.Native.Nat.{ℕ, ◌+◌, ◌*◌, ◌/◌, ◌≤◌}
use native.Mathlib.Omega.{arith}
use borrow.Author.Tests.{eqb-true, eqb-false}
use lib.Dec.{eqb}
use Rattle.std.proofs.Common.{Some, None}
use Rattle.common.specs.Choice.{pick}
use Rattle.kalyna.specs.State.{State, columns_of}
use Rattle.kalyna.specs.Keys.{round_key}
use Rattle.kalyna.proofs.Bytes.{keys_good, unseal_seal_bytes, seal_unseal_bytes, seal_bytes_bytes, unseal_bytes_bytes}
use Rattle.suites.specs.Suites.{suite, suite_of, block_bytes, key_columns}
use Rattle.suites.specs.declared.Suite.{Suite}
use Rattle.modes.specs.Cell.{sealing, opening}
use Rattle.modes.proofs.Blocks.{Cipher}

known_inj : (a b : Suite) → Some a ≡ Some b → a ≡ b
known_inj a b e = cc

pub not_known : (s : Suite) → None ≡ Some s → ⊥
not_known s e = let z : ◌≡◌ {A = ℕ} 0 1 = cc in omega arith

-- what holds of the five rows holds of each suite
pub each_suite : (P : ℕ → Suite → Type 0) → P 1 (suite 128 128 10 2) → P 2 (suite 128 256 14 2) → P 3 (suite 256 256 14 4) → P 4 (suite 256 512 18 4)
    → P 5 (suite 512 512 18 8) → (n : ℕ) (s : Suite) → suite_of n ≡ Some s → P n s
unfolding suite_of pick
each_suite P p1 p2 p3 p4 p5 n s e = go (eqb n 1) refl (eqb n 2) refl (eqb n 3) refl (eqb n 4) refl (eqb n 5) refl e
  where
    row : (m : ℕ) (r : Suite) → P m r → n ≡ m → Some r ≡ Some s → P n s
    row m r p en er = subst (λ k. P k s) (sym en) (subst (P m) (known_inj r s er) p)

    go : (a : Bool) → eqb n 1 ≡ a → (b : Bool) → eqb n 2 ≡ b → (c : Bool) → eqb n 3 ≡ c → (d : Bool) → eqb n 4 ≡ d → (f : Bool) → eqb n 5 ≡ f
        → pick a (Some (suite 128 128 10 2)) (pick b (Some (suite 128 256 14 2)) (pick c (Some (suite 256 256 14 4)) (pick d (Some (suite 256 512 18 4)) (pick f (Some (suite 512 512 18 8)) None)))) ≡ Some s → P n s
    go true ea b eb c ec d ed f ef e = row 1 (suite 128 128 10 2) p1 (eqb-true n 1 ea) e
    go false ea true eb c ec d ed f ef e = row 2 (suite 128 256 14 2) p2 (eqb-true n 2 eb) e
    go false ea false eb true ec d ed f ef e = row 3 (suite 256 256 14 4) p3 (eqb-true n 3 ec) e
    go false ea false eb false ec true ed f ef e = row 4 (suite 256 512 18 4) p4 (eqb-true n 4 ed) e
    go false ea false eb false ec false ed true ef e = row 5 (suite 512 512 18 8) p5 (eqb-true n 5 ef) e
    go false ea false eb false ec false ed false ef e = absurd (not_known s e)

-- sizes of a suite
pub record Sized (n : ℕ) (s : Suite) : Type 0 where
  pub from : 1 ≤ n
  pub upto : n ≤ 5
  pub columns : block_bytes s ≡ 8 * s.columns
  pub even : block_bytes s ≡ block_bytes s / 2 + block_bytes s / 2
  pub least : 16 ≤ block_bytes s
  pub most : block_bytes s ≤ 64

pub sized : (n : ℕ) (s : Suite) → suite_of n ≡ Some s → Sized n s
sized =
    each_suite Sized
    (record { from = omega arith; upto = omega arith; columns = refl; even = refl; least = omega arith; most = omega arith })
    (record { from = omega arith; upto = omega arith; columns = refl; even = refl; least = omega arith; most = omega arith })
    (record { from = omega arith; upto = omega arith; columns = refl; even = refl; least = omega arith; most = omega arith })
    (record { from = omega arith; upto = omega arith; columns = refl; even = refl; least = omega arith; most = omega arith })
    (record { from = omega arith; upto = omega arith; columns = refl; even = refl; least = omega arith; most = omega arith })

-- no suite outside 1 to 5
pub no_suite : (n : ℕ) → suite_of n ≡ None → (1 ≤ n) × (n ≤ 5) → ⊥
unfolding suite_of pick
no_suite n e r = go (eqb n 1) refl (eqb n 2) refl (eqb n 3) refl (eqb n 4) refl (eqb n 5) refl e
  where
    go : (a : Bool) → eqb n 1 ≡ a → (b : Bool) → eqb n 2 ≡ b → (c : Bool) → eqb n 3 ≡ c → (d : Bool) → eqb n 4 ≡ d → (f : Bool) → eqb n 5 ≡ f
        → pick a (Some (suite 128 128 10 2)) (pick b (Some (suite 128 256 14 2)) (pick c (Some (suite 256 256 14 4)) (pick d (Some (suite 256 512 18 4)) (pick f (Some (suite 512 512 18 8)) None)))) ≡ None → ⊥
    go true ea b eb c ec d ed f ef e = not_known _ (sym e)
    go false ea true eb c ec d ed f ef e = not_known _ (sym e)
    go false ea false eb true ec d ed f ef e = not_known _ (sym e)
    go false ea false eb false ec true ed f ef e = not_known _ (sym e)
    go false ea false eb false ec false ed true ef e = not_known _ (sym e)
    go false ea false eb false ec false ed false ef e =
        out (eqb-false n 1 ea) (eqb-false n 2 eb) (eqb-false n 3 ec) (eqb-false n 4 ed) (eqb-false n 5 ef)
      where
        out : (n ≡ 1 → ⊥) → (n ≡ 2 → ⊥) → (n ≡ 3 → ⊥) → (n ≡ 4 → ⊥) → (n ≡ 5 → ⊥) → ⊥
        out h1 h2 h3 h4 h5 = omega arith

-- section 6 of document 003 is a cipher on blocks of the suite's bytes
pub cipher_of : (n : ℕ) (s : Suite) (key : List ℕ) → suite_of n ≡ Some s → Cipher (block_bytes s) (sealing s key) (opening s key)
unfolding sealing opening
cipher_of n s key e =
    subst (λ B. Cipher B (sealing s key) (opening s key)) (sym (sized n s e).columns)
    (record {
      positive = omega (arith, (sized n s e).least, (sized n s e).columns);
      sealed = λ b. seal_bytes_bytes s.columns s.rounds K b;
      opened = λ b. unseal_bytes_bytes s.columns s.rounds K b;
      open_seal = λ b h. unseal_seal_bytes s.columns s.rounds K b good h;
      seal_open = λ b h. seal_unseal_bytes s.columns s.rounds K b good h;
    })
  where
    K : ℕ → List ℕ
    K = round_key s.columns (key_columns s) (columns_of (key_columns s) key)

    good : (v : ℕ) → v ≤ s.rounds → State s.columns (K v)
    good = keys_good s.columns (key_columns s) (columns_of (key_columns s) key) s.rounds
