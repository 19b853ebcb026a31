-- Reading and spelling, whole: which texts read to which trees, and which are refused.
use mathlib.Core.Bool.{Bool, true, false}
use mathlib.Core.List.{List}
use mathlib.Core.Logic.{◌↔◌}
use mathlib.Core.Path.{◌≡◌, refl, sym, ap, ◌∙◌}
use Prim.Native.Nat.{ℕ, ◌≤◌, ◌<◌}
use native.Mathlib.Omega.{arith}
use lib.Dec.{leb}
use lib.ListN.{length}
use borrow.Author.Tests.{le-leb, lt-leb, leb-true, leb-false}
use Rattle.common.specs.Choice.{pick}
use Rattle.tree.specs.Tree.{Tree}
use Rattle.tree.specs.Bounds.{depth, nodes, Proper, Small, Within}
use Rattle.tree.specs.Reading.{Read}
use Rattle.tree.specs.Reading.Read.{got, wrong}
use Rattle.tree.proofs.Read.{not_both}
use Rattle.texts.specs.Spelling.{spell, width}
use Rattle.texts.specs.Reading.{read_text, take_text, ReadingNumber}
use Rattle.texts.proofs.Spelt.{read_spell, take_spell, Judged, spell_judged}
use Rattle.texts.proofs.Spelt.Judged.{good, deep, many, long}
use Rattle.texts.proofs.Width.{length_spell}
use Rattle.texts.proofs.Back.{read_back}
use Rattle.texts.proofs.Numbers.{Outcome, outcome}
use Rattle.texts.proofs.Numbers.Outcome.{reads, refuses}

-- a text reads to a tree exactly if it is the tree's spelling and the bounds hold
pub reads_exactly : (s : List ℕ) (t : Tree) → (read_text s ≡ got t) ↔ ((s ≡ spell t) × Within t)
reads_exactly s t = (read_back s t, λ (e, h). ap read_text e ∙ read_spell t h)

-- a refusal of reading: one of the four numbers, and a place
pub record Refused (s : List ℕ) : Type 0 where
  pub number : ℕ
  pub place : ℕ
  pub is : read_text s ≡ wrong number place
  pub one : ReadingNumber number
  pub inside : place ≤ length s

refused_of : (s : List ℕ) → ((t : Tree) → Within t → s ≡ spell t → ⊥) → Outcome s → Refused s
refused_of s h (reads t e) = let b = read_back s t e in absurd (h t b.1 b.0)
refused_of s h (refuses n p k l e) = record { number = n; place = p; is = e; one = k; inside = l }

-- 20, 22, 23 and 6 are given for exactly the texts that spell no tree within the bounds
pub refused_exactly : (s : List ℕ) → ((t : Tree) → Within t → s ≡ spell t → ⊥) ↔ Refused s
refused_exactly s = (λ h. refused_of s h (outcome s), λ r t w e. not_both (ap read_text e ∙ read_spell t w) r.is)

-- a text of at most 4,096 bytes is read
pub take_short : (s : List ℕ) → length s ≤ 4096 → take_text s ≡ read_text s
unfolding take_text pick
take_short s h = rw (le-leb (length s) 4096 h)

-- a longer one is refused before it is read
pub take_long : (s : List ℕ) → 4096 < length s → take_text s ≡ wrong 21 0
unfolding take_text pick
take_long s h = rw (lt-leb (length s) 4096 h)

-- 20 is given to no text of section 5, whatever its bounds
pub syntax_only : (s : List ℕ) (p : ℕ) → read_text s ≡ wrong 20 p → (t : Tree) → Proper t → s ≡ spell t → ⊥
syntax_only s p e t h f = go (read_text (spell t)) (spell_judged t h) (sym (ap read_text f) ∙ e)
  where
    go : (x : Read) → Judged t x → x ≡ wrong 20 p → ⊥
    go x good g = let z : ◌≡◌ {A = ℕ} 0 1 = cc in omega arith
    go x (deep w l) g = let z : ◌≡◌ {A = ℕ} 22 20 = cc in omega arith
    go x (many w l) g = let z : ◌≡◌ {A = ℕ} 23 20 = cc in omega arith
    go x (long w l) g = let z : ◌≡◌ {A = ℕ} 6 20 = cc in omega arith

-- of a text of section 5, 22 says that it is deeper than 16, 23 that it has more than 128 nodes, 6 that a literal is too long
pub bounds_only : (t : Tree) (n p : ℕ) → Proper t → read_text (spell t) ≡ wrong n p → (n ≡ 22 → 16 < depth t) × (n ≡ 23 → 128 < nodes t) × (n ≡ 6 → Small t → ⊥)
bounds_only t n p h e = go (read_text (spell t)) (spell_judged t h) e
  where
    go : (x : Read) → Judged t x → x ≡ wrong n p → (n ≡ 22 → 16 < depth t) × (n ≡ 23 → 128 < nodes t) × (n ≡ 6 → Small t → ⊥)
    go x good g = let z : ◌≡◌ {A = ℕ} 0 1 = cc in absurd (omega arith)
    go x (deep w l) g = let z : 22 ≡ n = cc in (λ _. l, λ f. absurd (omega arith), λ f. absurd (omega arith))
    go x (many w l) g = let z : 23 ≡ n = cc in (λ f. absurd (omega arith), λ _. l, λ f. absurd (omega arith))
    go x (long w l) g = let z : 6 ≡ n = cc in (λ f. absurd (omega arith), λ f. absurd (omega arith), λ _. l)

take_as : (s : List ℕ) (t : Tree) → take_text s ≡ got t → length s ≤ 4096
unfolding take_text pick
take_as s t e = go (leb (length s) 4096) refl e
  where
    go : (b : Bool) → leb (length s) 4096 ≡ b → pick b (read_text s) (wrong 21 0) ≡ got t → length s ≤ 4096
    go true eb f = leb-true (length s) 4096 eb
    go false eb f = absurd (not_both f refl)

-- a text is taken as a tree exactly if it is the tree's spelling and all four bounds hold
pub takes_exactly : (s : List ℕ) (t : Tree) → (take_text s ≡ got t) ↔ ((s ≡ spell t) × Within t × (width t ≤ 4096))
takes_exactly s t = (
  λ e.
      let l = take_as s t e in
      let b = read_back s t (sym (take_short s l) ∙ e) in
      (b.0, b.1, omega (arith, length_spell t, ap length b.0)),
  λ (e, h, w). ap take_text e ∙ take_spell t h w,
)

-- 21 exactly where the text has more than 4,096 bytes
pub long_exactly : (s : List ℕ) → (take_text s ≡ wrong 21 0) ↔ (4096 < length s)
unfolding take_text pick
long_exactly s = (λ e. go (leb (length s) 4096) refl e, take_long s)
  where
    other : {n p q : ℕ} → ReadingNumber n → wrong n p ≡ wrong 21 q → ⊥
    other ReadingNumber.syntax e = let z : ◌≡◌ {A = ℕ} 20 21 = cc in omega arith
    other ReadingNumber.deep e = let z : ◌≡◌ {A = ℕ} 22 21 = cc in omega arith
    other ReadingNumber.many e = let z : ◌≡◌ {A = ℕ} 23 21 = cc in omega arith
    other ReadingNumber.long e = let z : ◌≡◌ {A = ℕ} 6 21 = cc in omega arith

    not_read : Outcome s → read_text s ≡ wrong 21 0 → ⊥
    not_read (reads t e) f = not_both e f
    not_read (refuses n p k l e) f = other k (sym e ∙ f)

    go : (b : Bool) → leb (length s) 4096 ≡ b → pick b (read_text s) (wrong 21 0) ≡ wrong 21 0 → 4096 < length s
    go true eb f = absurd (not_read (outcome s) f)
    go false eb f = leb-false (length s) 4096 eb
