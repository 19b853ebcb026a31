-- Wrong libraries (document 01, section 9), each at an input that rules it out: suite 1, a key and an IV of zeros, `ctr` on one block.
use mathlib.Core.Path.{◌≡◌, refl, sym, ap, ◌∙◌, subst}
use mathlib.Core.List.{List, [], ◌∷◌, ◌++◌, append-nil}
use Prim.Native.Nat.{ℕ}
use native.Mathlib.Omega.{arith}
use lib.ListN.{length, get_or, drop, replicate}
use lib.Seq.{drop-length}
use Rattle.std.proofs.Common.{Some}
use Rattle.common.specs.Choice.{pick}
use Rattle.common.specs.Answer.{Value, deliver}
use Rattle.common.specs.Answer.Answer.{value}
use Rattle.suites.specs.Suites.{suite, suite_of}
use Rattle.suites.specs.declared.Suite.{Suite}
use Rattle.modes.specs.Cell.{Call, side_of, shape_of, cell}
use Rattle.modes.proofs.Fill.{value_inj}
use Rattle.modes.proofs.Checks.{Past}
use Rattle.modes.proofs.Cell.{Makes, answers, ctr_back}
use Rattle.judging.specs.Order.{length_before}
use Rattle.judging.proofs.Joins.{Long, made_long, deliver_fits}
use Rattle.entries.specs.Seen.{seen}

abbrev pub zeros : Value
zeros = replicate 16 0

-- the same with its first byte 01
abbrev pub other : Value
other = 0x01 ∷ replicate 15 0

abbrev first : Suite
first = suite 128 128 10 2

known : suite_of 1 ≡ Some first
unfolding suite_of pick
known = refl

-- one block, and what the cell answers for it
pub record Sealed (text : Value) : Type 0 where
  pub v : Value
  pub is : cell Call.ctr 1 zeros zeros text ≡ value v
  pub long : length v ≡ 16

pub sealed : (text : Value) → length text ≡ 16 → Sealed text
unfolding side_of shape_of length_before
sealed text e = record { v = l.what; is = answers Call.ctr 1 zeros zeros text l.what (record { suite = first; known = known; past = past; makes = l.is }); long = l.long ∙ e }
  where
    past : Past Call.ctr first zeros zeros text
    past = record { key_fits = refl; iv_fits = refl; text_some = omega (arith, e); text_short = omega (arith, e); text_whole = tt; tag_fits = tt }

    l : Long (Makes Call.ctr first zeros zeros text) (length_before Call.ctr 16 (length text))
    l = made_long 1 first zeros zeros text known Call.ctr past (λ q. (let z : ◌≡◌ {A = ℕ} 0 1 = cc in omega arith))

-- what its contract asks of an entry there
abbrev pub Meets : Value → List ℕ → ℕ → ℕ → List ℕ → Type 0
Meets text out number long after = seen number long after ≡ deliver (cell Call.ctr 1 zeros zeros text) out

module _ (text : Value) (e : length text ≡ 16) (out : List ℕ) (room : length out ≡ 16) (number long : ℕ) (after : List ℕ) (m : Meets text out number long after) where
  abbrev pub s : Sealed text
  s = sealed text e

  all : seen number long after ≡ record { number = 0; count = 16; out = s.v ++ drop 16 out }
  all = m ∙ ap (λ a. deliver a out) s.is ∙ deliver_fits s.v out (s.v ++ drop 16 out) 16 s.long (omega (arith, room)) refl

  pub number_0 : number ≡ 0
  unfolding seen
  number_0 = ap (λ d. d.number) all

  pub length_16 : long ≡ 16
  unfolding seen
  length_16 = ap (λ d. d.count) all

  pub output : after ≡ s.v
  unfolding seen
  output = ap (λ d. d.out) all ∙ ap (λ d. s.v ++ d) (rest out room) ∙ ends s.v
    where
      rest : (o : List ℕ) → length o ≡ 16 → drop 16 o ≡ []
      rest o h = subst (λ n. drop n o ≡ []) h (drop-length o)

      ends : (a : List ℕ) → a ++ [] ≡ a
      ends a = append-nil a

-- a library that always refuses
pub always_refuses : (number long : ℕ) (after : List ℕ) → (number ≡ 0 → ⊥) → Meets zeros zeros number long after → ⊥
always_refuses number long after h m = h (number_0 zeros refl zeros refl number long after m)

-- one that makes up a length
pub made_up_length : (number long : ℕ) (after : List ℕ) → (long ≡ 16 → ⊥) → Meets zeros zeros number long after → ⊥
made_up_length number long after h m = h (length_16 zeros refl zeros refl number long after m)

-- one that answers the same cell each time: two texts, one answer
pub same_each_time : (number long : ℕ) (after : List ℕ) → Meets zeros zeros number long after → Meets other zeros number long after → ⊥
same_each_time number long after m m' = differ (value_inj zeros other (sym (ctr_back 1 zeros zeros zeros after (a.is ∙ ap value (sym is_a))) ∙ ctr_back 1 zeros zeros other after (b.is ∙ ap value (sym is_b))))
  where
    a : Sealed zeros
    a = sealed zeros refl

    b : Sealed other
    b = sealed other refl

    is_a : after ≡ a.v
    is_a = output zeros refl zeros refl number long after m

    is_b : after ≡ b.v
    is_b = output other refl zeros refl number long after m'

    differ : zeros ≡ other → ⊥
    differ q = let z : ◌≡◌ {A = ℕ} 0 1 = ap (λ x. get_or x 0 0) q in omega arith

-- one that touches nothing: two rooms, each left as it was
pub touches_nothing : (number long : ℕ) → Meets zeros zeros number long zeros → Meets zeros other number long other → ⊥
touches_nothing number long m m' = differ (output zeros refl zeros refl number long zeros m ∙ sym (output zeros refl other refl number long other m'))
  where
    differ : zeros ≡ other → ⊥
    differ q = let z : ◌≡◌ {A = ℕ} 0 1 = ap (λ x. get_or x 0 0) q in omega arith
