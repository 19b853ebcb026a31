-- The first unbound `#` of a tree stands where the text has it.
use mathlib.Core.Bool.{Bool, true, false}
use mathlib.Core.List.{List, [], ◌∷◌, ◌++◌, append_assoc, append-nil}
use mathlib.Core.Logic.{◌↔◌}
use mathlib.Core.Path.{◌≡◌, refl, sym, ap, ap₂, ◌∙◌}
use Prim.Native.Nat.{ℕ, zero, suc, ◌+◌, ◌-◌, ◌*◌, ◌/◌, ◌%◌, ◌≤◌, ◌<◌}
use native.Mathlib.Nat.{zero-add}
use native.Mathlib.Omega.{arith}
use lib.Dec.{eqb, ltb}
use lib.ListN.{length, get_or}
use borrow.Author.Tests.{ne_eqb, eqb-true, eqb-false}
use Rattle.common.specs.Choice.{pick}
use Rattle.tree.specs.Tree.{Tree}
use Rattle.tree.specs.Tree.Tree.{literal, bound, row, run, one, two, three, four, when}
use Rattle.tree.specs.Calls.{calls}
use Rattle.tree.specs.Bounds.{when_kind, Proper}
use Rattle.texts.specs.Spelling.{Found, hex_digit, pairs, row_in, suite_part, name_by, name_of, listed, spell, head_width, width}
use Rattle.texts.specs.Spelling.Found.{known, unknown}
use Rattle.texts.specs.Reading.{is_letter}
use Rattle.texts.specs.Unbound.{Place, later, first, unbound_at, AllBound, unbound_in}
use Rattle.texts.specs.Unbound.Place.{at, nowhere}
use Rattle.texts.proofs.Standing.{Pass, between_is}
use Rattle.texts.proofs.Table.{Good, all_good, by_kind}
use Rattle.texts.proofs.Width.{length_name, length_spell}
use Rattle.texts.proofs.Spelt.{spells}

later_zero : (x : Place) → later 0 x ≡ x
unfolding later
later_zero (at p) = ap at (zero-add p)
later_zero nowhere = refl

later_add : (v w : ℕ) (x : Place) → later (v + w) x ≡ later v (later w x)
unfolding later
later_add v w (at p) = let e : v + w + p ≡ v + (w + p) = omega arith in ap at e
later_add v w nowhere = refl

later_first : (h w : ℕ) (x y : Place) → later h (first x w y) ≡ first (later h x) (h + w) y
unfolding later first
later_first h w (at p) y = refl
later_first h w nowhere y = sym (later_add h w y)

first_later : (w v : ℕ) (x y : Place) → first x w (later v y) ≡ first x (w + v) y
unfolding later first
first_later w v (at p) y = refl
first_later w v nowhere y = sym (later_add w v y)

first_first : (w v : ℕ) (x y z : Place) → first x w (first y v z) ≡ first (first x w y) (w + v) z
unfolding first
first_first w v (at p) y z = refl
first_first w v nowhere y z = later_first w v y z

first_nowhere : (w : ℕ) (x : Place) → first x w nowhere ≡ x
unfolding first later
first_nowhere w (at p) = refl
first_nowhere w nowhere = refl

-- no byte of w is a `#`
NoHash : List ℕ → Type 0
NoHash [] = Unit {0}
NoHash (x ∷ w) = (x ≡ 35 → ⊥) × NoHash w

no_hash_append : (v w : List ℕ) → NoHash v → NoHash w → NoHash (v ++ w)
unfolding NoHash
no_hash_append [] w h g = g
no_hash_append (x ∷ v) w h g = (h.0, no_hash_append v w h.1 g)

digit_no_hash : (d : ℕ) → hex_digit d ≡ 35 → ⊥
unfolding hex_digit pick
digit_no_hash d e = go (ltb d 10) e
  where
    go : (b : Bool) → pick b (48 + d) (55 + d) ≡ 35 → ⊥
    go true f = omega arith
    go false f = omega arith

pairs_no_hash : (v : List ℕ) → NoHash (pairs v)
unfolding NoHash pairs
pairs_no_hash [] = tt
pairs_no_hash (x ∷ v) = (digit_no_hash (x / 16), (digit_no_hash (x % 16), pairs_no_hash v))

letters-no-hash : (w : List ℕ) → Pass is_letter w → NoHash w
unfolding NoHash Pass is_letter
letters-no-hash [] h = tt
letters-no-hash (x ∷ w) h = (λ e. omega (arith, between_is 97 122 x h.0), letters-no-hash w h.1)

suite_no_hash : (b : Bool) (d : ℕ) → NoHash (suite_part b d)
unfolding NoHash suite_part
suite_no_hash false d = tt
suite_no_hash true d = (λ e. omega arith, (λ e. omega arith, tt))

by_no_hash : (f : Found) (k : ℕ) → row_in calls k ≡ f → NoHash (name_by f k)
unfolding NoHash name_by
by_no_hash (known r) k e =
    let g = by_kind Good calls k r all_good e in
    no_hash_append r.letters (suite_part r.suited (k - r.kind)) (letters-no-hash r.letters g.0.letters) (suite_no_hash r.suited (k - r.kind))
by_no_hash unknown k e = tt

name_no_hash : (k : ℕ) → NoHash (name_of k)
unfolding name_of
name_no_hash k = by_no_hash (row_in calls k) k refl

literal_free : (v : List ℕ) → NoHash (39 ∷ (pairs v ++ (39 ∷ [])))
unfolding NoHash
literal_free v = (λ e. omega arith, no_hash_append (pairs v) (39 ∷ []) (pairs_no_hash v) (λ e. omega arith, tt))

name_free : (x n : ℕ) → (x ≡ 35 → ⊥) → NoHash (x ∷ (48 + n) ∷ [])
unfolding NoHash
name_free x n h = (h, (λ e. omega arith, tt))

unfoldable pub unbounds : (ℕ → Bool) → List Tree → Place
unbounds has [] = nowhere
unbounds has (a ∷ l) = first (unbound_at has a) (width a + 1) (unbounds has l)

unfoldable pub widths : List Tree → ℕ
widths [] = 0
widths (a ∷ l) = width a + 1 + widths l

module _ (has : ℕ → Bool) where
  scan_byte : (x : ℕ) (r : List ℕ) → (x ≡ 35 → ⊥) → unbound_in has (x ∷ r) ≡ later 1 (unbound_in has r)
  unfolding unbound_in pick
  scan_byte x r h = rw (ne_eqb x 35 h)

  scan_no_hash : (w r : List ℕ) → NoHash w → unbound_in has (w ++ r) ≡ later (length w) (unbound_in has r)
  unfolding NoHash
  scan_no_hash [] r h = sym (later_zero (unbound_in has r))
  scan_no_hash (x ∷ w) r h =
      let one_on : 1 + length w ≡ suc (length w) = omega arith in
      scan_byte x (w ++ r) h.0
      ∙ ap (later 1) (scan_no_hash w r h.1)
      ∙ sym (later_add 1 (length w) (unbound_in has r))
      ∙ ap (λ (i : ℕ). later i (unbound_in has r)) one_on

  scan_bound : (n : ℕ) (r : List ℕ) → unbound_in has (35 ∷ (48 + n) ∷ r) ≡ first (pick (has n) nowhere (at 0)) 2 (unbound_in has r)
  unfolding unbound_in pick first
  scan_bound n r = rw digit (go (has n))
    where
      digit : 48 + n - 48 ≡ n
      digit = omega arith

      rest : unbound_in has ((48 + n) ∷ r) ≡ later 1 (unbound_in has r)
      rest = scan_byte (48 + n) r (λ e. omega arith)

      go : (b : Bool) → pick b (later 1 (unbound_in has ((48 + n) ∷ r))) (at 0) ≡ first (pick b nowhere (at 0)) 2 (unbound_in has r)
      go true = ap (later 1) rest ∙ sym (later_add 1 1 (unbound_in has r))
      go false = refl

  abbrev Scans : Tree → Type 0
  Scans t = (r : List ℕ) → unbound_in has (spell t ++ r) ≡ first (unbound_at has t) (width t) (unbound_in has r)

  abbrev EachScans : List Tree → Type 0
  EachScans [] = Unit {0}
  EachScans (a ∷ l) = Scans a × EachScans l

  scan_list : (l : List Tree) (c : ℕ) (r : List ℕ) → (c ≡ 35 → ⊥) → EachScans l → unbound_in has (listed c (spells l) ++ r) ≡ later 1 (first (unbounds has l) (widths l) (unbound_in has r))
  unfolding listed spells unbounds widths first
  scan_list [] c r hc h = scan_byte 41 r (λ e. omega arith) ∙ ap (later 1) (sym (later_zero (unbound_in has r)))
  scan_list (a ∷ l) c r hc h =
      let L : List ℕ = listed 44 (spells l) in
      let U : Place = unbound_in has r in
      let ih : unbound_in has (L ++ r) ≡ later 1 (first (unbounds has l) (widths l) U) = scan_list l 44 r (λ e. omega arith) h.1 in
      scan_byte c (spell a ++ L ++ r) hc
      ∙ ap (later 1)
      (
      ap (unbound_in has) (append_assoc (spell a) L r)
      ∙ h.0 (L ++ r)
      ∙ ap (first (unbound_at has a) (width a)) ih
      ∙ first_later (width a) 1 (unbound_at has a) (first (unbounds has l) (widths l) U)
      ∙ first_first (width a + 1) (widths l) (unbound_at has a) (unbounds has l) U
      )

  scan_call : (t : Tree) (k : ℕ) (l : List Tree) (r : List ℕ) → spell t ≡ name_of k ++ listed 40 (spells l) → width t ≡ head_width k + widths l
      → unbound_at has t ≡ later (head_width k) (unbounds has l)
      → EachScans l
      → unbound_in has (spell t ++ r) ≡ first (unbound_at has t) (width t) (unbound_in has r)
  scan_call t k l r spelt wide is h =
      let L : List ℕ = listed 40 (spells l) in
      let U : Place = unbound_in has r in
      ap (λ (w : List ℕ). unbound_in has (w ++ r)) spelt
      ∙ ap (unbound_in has) (append_assoc (name_of k) L r)
      ∙ scan_no_hash (name_of k) (L ++ r) (name_no_hash k)
      ∙ ap (later (length (name_of k))) (scan_list l 40 r (λ e. omega arith) h)
      ∙ sym (later_add (length (name_of k)) 1 (first (unbounds has l) (widths l) U))
      ∙ ap (λ (i : ℕ). later i (first (unbounds has l) (widths l) U)) (length_name k)
      ∙ later_first (head_width k) (widths l) (unbounds has l) U
      ∙ ap₂ (λ (x : Place) (w : ℕ). first x w U) (sym is) (sym wide)

  last_first : (a : Tree) → first (unbound_at has a) (width a + 1) nowhere ≡ unbound_at has a
  last_first a = first_nowhere (width a + 1) (unbound_at has a)

  scan_spell : (t : Tree) → Scans t
  unfolding unbound_at spell width spells unbounds widths first
  scan_spell (literal v) r =
      let w : length (39 ∷ (pairs v ++ (39 ∷ []))) ≡ 2 + 2 * length v = length_spell (literal v) in
      scan_no_hash (39 ∷ (pairs v ++ (39 ∷ []))) r (literal_free v) ∙ ap (λ (i : ℕ). later i (unbound_in has r)) w
  scan_spell (bound n) r = scan_bound n r
  scan_spell (row n) r = scan_no_hash (36 ∷ (48 + n) ∷ []) r (name_free 36 n (λ e. omega arith))
  scan_spell (run n) r = scan_no_hash (64 ∷ (48 + n) ∷ []) r (name_free 64 n (λ e. omega arith))
  scan_spell (one k a) r = scan_call (one k a) k (a ∷ []) r refl (omega arith) (rw (last_first a)) (scan_spell a, tt)
  scan_spell (two k a b) r = scan_call (two k a b) k (a ∷ b ∷ []) r refl (omega arith) (rw (last_first b)) (scan_spell a, (scan_spell b, tt))
  scan_spell (three k a b c) r =
      scan_call (three k a b c) k (a ∷ b ∷ c ∷ []) r refl (omega arith) (rw (last_first c)) (scan_spell a, (scan_spell b, (scan_spell c, tt)))
  scan_spell (four k a b c d) r =
      scan_call (four k a b c d) k (a ∷ b ∷ c ∷ d ∷ []) r refl (omega arith) (rw (last_first d)) (scan_spell a, (scan_spell b, (scan_spell c, (scan_spell d, tt))))
  scan_spell (when c a b) r =
      scan_call (when c a b) when_kind (c ∷ a ∷ b ∷ []) r refl (omega arith) (rw (last_first b)) (scan_spell c, (scan_spell a, (scan_spell b, tt)))

  -- the first unbound `#` of a tree is the first in its text
  pub unbound_scan : (t : Tree) → unbound_at has t ≡ unbound_in has (spell t)
  unfolding unbound_in
  unbound_scan t = sym (first_nowhere (width t) (unbound_at has t)) ∙ sym (scan_spell t []) ∙ ap (unbound_in has) (append-nil (spell t))

-- an unbound `#` at p of a text, and none before it
pub record FirstUnbound (has : ℕ → Bool) (s : List ℕ) (p : ℕ) : Type 0 where
  pub inside : p < length s
  pub hash : get_or s p 0 ≡ 35
  pub absent : has (get_or s (p + 1) 0 - 48) ≡ false
  pub before : (q : ℕ) → q < p → get_or s q 0 ≡ 35 → has (get_or s (q + 1) 0 - 48) ≡ true

no_place : {p : ℕ} → nowhere ≡ at p → ⊥
no_place e = let z : ◌≡◌ {A = ℕ} 0 1 = cc in omega arith

same_place : {p q : ℕ} → at p ≡ at q → p ≡ q
same_place e = cc

later_at : (w : ℕ) (x : Place) (p : ℕ) → later w x ≡ at p → (q : ℕ) × (x ≡ at q) × (p ≡ w + q)
unfolding later
later_at w (at q) p e = (q, refl, sym (same_place e))
later_at w nowhere p e = absurd (no_place e)

pub later_nowhere : (w : ℕ) (x : Place) → later w x ≡ nowhere → x ≡ nowhere
unfolding later
later_nowhere w (at q) e = absurd (no_place (sym e))
later_nowhere w nowhere e = refl

next_suc : (x : ℕ) (s : List ℕ) (q : ℕ) → get_or (x ∷ s) (suc q + 1) 0 ≡ get_or s (q + 1) 0
next_suc x s q =
    let e : suc q + 1 ≡ suc (q + 1) = omega arith in
    ap (λ (i : ℕ). get_or (x ∷ s) i 0) e

module _ (has : ℕ → Bool) where
  -- no unbound `#` starts before p
  abbrev Before : List ℕ → ℕ → Type 0
  Before s p = (q : ℕ) → q < p → get_or s q 0 ≡ 35 → has (get_or s (q + 1) 0 - 48) ≡ true

  -- nor at the byte x
  abbrev Passed : ℕ → List ℕ → Type 0
  Passed x s = x ≡ 35 → has (get_or s 0 0 - 48) ≡ true

  before_suc : (x : ℕ) (s : List ℕ) (p : ℕ) → Passed x s → Before s p → Before (x ∷ s) (suc p)
  before_suc x s p h f zero l g = h g
  before_suc x s p h f (suc q) l g = rw (next_suc x s q) (f q (omega arith) g)

  suc_later : (x : ℕ) (s : List ℕ) (p : ℕ) → Passed x s → FirstUnbound has s p → FirstUnbound has (x ∷ s) (suc p)
  suc_later x s p h f =
      record {
        inside = omega (arith, f.inside);
        hash = f.hash;
        absent = rw (next_suc x s p) f.absent;
        before = before_suc x s p h f.before;
      }

  tail_first : (x : ℕ) (s : List ℕ) (p : ℕ) → ((i : ℕ) → unbound_in has s ≡ at i → FirstUnbound has s i) → Passed x s → later 1 (unbound_in has s) ≡ at p → FirstUnbound has (x ∷ s) p
  tail_first x s p ih h e =
      let (q, f, g) = later_at 1 (unbound_in has s) p e in
      let on : p ≡ suc q = omega arith in
      made p q on (suc_later x s q h (ih q f))
    where
      made : (p q : ℕ) → p ≡ suc q → FirstUnbound has (x ∷ s) (suc q) → FirstUnbound has (x ∷ s) p
      made p q e f = rw e f

  here_first : (x : ℕ) (s : List ℕ) (p : ℕ) → x ≡ 35 → has (get_or s 0 0 - 48) ≡ false → at 0 ≡ at p → FirstUnbound has (x ∷ s) p
  here_first x s p ex h e = rw (← (same_place e)) (record { inside = omega arith; hash = ex; absent = h; before = λ q l g. absurd (omega arith) })

  -- what the scan finds is unbound, and the first
  pub scan_first : (s : List ℕ) (p : ℕ) → unbound_in has s ≡ at p → FirstUnbound has s p
  unfolding unbound_in pick
  scan_first [] p e = absurd (no_place e)
  scan_first (x ∷ s) p e = go (eqb x 35) (has (get_or s 0 0 - 48)) refl refl (λ i f. scan_first s i f) e
    where
      go : (b c : Bool) → eqb x 35 ≡ b → has (get_or s 0 0 - 48) ≡ c → ((i : ℕ) → unbound_in has s ≡ at i → FirstUnbound has s i)
          → pick b (pick c (later 1 (unbound_in has s)) (at 0)) (later 1 (unbound_in has s)) ≡ at p
          → FirstUnbound has (x ∷ s) p
      go true true eb ec ih f = tail_first x s p ih (λ g. ec) f
      go true false eb ec ih f = here_first x s p (eqb-true x 35 eb) ec f
      go false c eb ec ih f = tail_first x s p ih (λ g. absurd (eqb-false x 35 eb g)) f

  all_suc : (x : ℕ) (s : List ℕ) → Passed x s → ((q : ℕ) → get_or s q 0 ≡ 35 → has (get_or s (q + 1) 0 - 48) ≡ true) → (q : ℕ) → get_or (x ∷ s) q 0 ≡ 35 → has (get_or (x ∷ s) (q + 1) 0 - 48) ≡ true
  all_suc x s h f zero g = h g
  all_suc x s h f (suc q) g = rw (next_suc x s q) (f q g)

  -- where the scan finds none, every `#` is bound
  pub scan_none : (s : List ℕ) → unbound_in has s ≡ nowhere → (q : ℕ) → get_or s q 0 ≡ 35 → has (get_or s (q + 1) 0 - 48) ≡ true
  unfolding unbound_in pick
  scan_none [] e = λ q g. absurd (omega arith)
  scan_none (x ∷ s) e = go (eqb x 35) (has (get_or s 0 0 - 48)) refl refl (scan_none s) e
    where
      go : (b c : Bool) → eqb x 35 ≡ b → has (get_or s 0 0 - 48) ≡ c → (unbound_in has s ≡ nowhere → (q : ℕ) → get_or s q 0 ≡ 35 → has (get_or s (q + 1) 0 - 48) ≡ true)
          → pick b (pick c (later 1 (unbound_in has s)) (at 0)) (later 1 (unbound_in has s)) ≡ nowhere
          → (q : ℕ) → get_or (x ∷ s) q 0 ≡ 35 → has (get_or (x ∷ s) (q + 1) 0 - 48) ≡ true
      go true true eb ec ih f = all_suc x s (λ g. ec) (ih (later_nowhere 1 (unbound_in has s) f))
      go true false eb ec ih f = absurd (no_place (sym f))
      go false c eb ec ih f = all_suc x s (λ g. absurd (eqb-false x 35 eb g)) (ih (later_nowhere 1 (unbound_in has s) f))

-- every `#` of s has its digit, 0 to 3, after it
Hashes : List ℕ → Type 0
Hashes [] = Unit {0}
Hashes (x ∷ s) = (x ≡ 35 → (48 ≤ get_or s 0 0) × (get_or s 0 0 ≤ 51)) × Hashes s

hashes_free : (w r : List ℕ) → NoHash w → Hashes r → Hashes (w ++ r)
unfolding NoHash Hashes
hashes_free [] r h g = g
hashes_free (x ∷ w) r h g = (λ e. absurd (h.0 e), hashes_free w r h.1 g)

hashes_byte : (x : ℕ) (r : List ℕ) → (x ≡ 35 → ⊥) → Hashes r → Hashes (x ∷ r)
unfolding Hashes
hashes_byte x r h g = (λ e. absurd (h e), g)

hashes_bound : (n : ℕ) (r : List ℕ) → n < 4 → Hashes r → Hashes (35 ∷ (48 + n) ∷ r)
unfolding Hashes
hashes_bound n r h g = (λ e. (omega arith, omega arith), (λ e. absurd (omega arith), g))

hashes_at : (s : List ℕ) (q : ℕ) → Hashes s → get_or s q 0 ≡ 35 → (48 ≤ get_or s (q + 1) 0) × (get_or s (q + 1) 0 ≤ 51)
unfolding Hashes
hashes_at [] q h e = absurd (omega arith)
hashes_at (x ∷ s) zero h e = h.0 e
hashes_at (x ∷ s) (suc q) h e = rw (next_suc x s q) (hashes_at s q h.1 e)

abbrev HashesOf : Tree → Type 0
HashesOf t = (r : List ℕ) → Hashes r → Hashes (spell t ++ r)

abbrev EachHashes : List Tree → Type 0
EachHashes [] = Unit {0}
EachHashes (a ∷ l) = HashesOf a × EachHashes l

hashes_list : (l : List Tree) (c : ℕ) (r : List ℕ) → (c ≡ 35 → ⊥) → EachHashes l → Hashes r → Hashes (listed c (spells l) ++ r)
unfolding listed spells
hashes_list [] c r hc h g = hashes_byte 41 r (λ e. omega arith) g
hashes_list (a ∷ l) c r hc h g =
    hashes_byte c (spell a ++ listed 44 (spells l) ++ r) hc
    (rw (append_assoc (spell a) (listed 44 (spells l)) r) (h.0 (listed 44 (spells l) ++ r) (hashes_list l 44 r (λ e. omega arith) h.1 g)))

hashes_call : (k : ℕ) (l : List Tree) (r : List ℕ) → EachHashes l → Hashes r → Hashes (name_of k ++ listed 40 (spells l) ++ r)
hashes_call k l r h g =
    rw (append_assoc (name_of k) (listed 40 (spells l)) r) (hashes_free (name_of k) (listed 40 (spells l) ++ r) (name_no_hash k) (hashes_list l 40 r (λ e. omega arith) h g))

hashes_spell : (t : Tree) → Proper t → HashesOf t
unfolding spell Proper spells
hashes_spell (literal v) h r g = hashes_free (39 ∷ (pairs v ++ (39 ∷ []))) r (literal_free v) g
hashes_spell (bound n) h r g = hashes_bound n r h g
hashes_spell (row n) h r g = hashes_free (36 ∷ (48 + n) ∷ []) r (name_free 36 n (λ e. omega arith)) g
hashes_spell (run n) h r g = hashes_free (64 ∷ (48 + n) ∷ []) r (name_free 64 n (λ e. omega arith)) g
hashes_spell (one k a) h r g = hashes_call k (a ∷ []) r (hashes_spell a h.1, tt) g
hashes_spell (two k a b) h r g = hashes_call k (a ∷ b ∷ []) r (hashes_spell a h.1, (hashes_spell b h.2, tt)) g
hashes_spell (three k a b c) h r g = hashes_call k (a ∷ b ∷ c ∷ []) r (hashes_spell a h.2, (hashes_spell b h.3, (hashes_spell c h.4, tt))) g
hashes_spell (four k a b c d) h r g =
    hashes_call k (a ∷ b ∷ c ∷ d ∷ []) r (hashes_spell a h.1, (hashes_spell b h.2, (hashes_spell c h.3, (hashes_spell d h.4, tt)))) g
hashes_spell (when c a b) h r g = hashes_call when_kind (c ∷ a ∷ b ∷ []) r (hashes_spell c h.0, (hashes_spell a h.1, (hashes_spell b h.2, tt))) g

-- after each `#` of a tree's text stands a digit 0 to 3
pub hash_digit : (t : Tree) → Proper t → (q : ℕ) → get_or (spell t) q 0 ≡ 35 → (48 ≤ get_or (spell t) (q + 1) 0) × (get_or (spell t) (q + 1) 0 ≤ 51)
unfolding Hashes
hash_digit t h q e = hashes_at (spell t) q (rw append-nil at (hashes_spell t h [] tt)) e

-- place of 25: at that offset of the text stands a `#` whose digit has no value, and no earlier place of the text has one
pub unbound_first : (has : ℕ → Bool) (t : Tree) (p : ℕ) → unbound_at has t ≡ at p → FirstUnbound has (spell t) p
unbound_first has t p e = scan_first has (spell t) p (sym (unbound_scan has t) ∙ e)

-- no place of 25: every `#` of the text has a value
pub unbound_none : (has : ℕ → Bool) (t : Tree) → unbound_at has t ≡ nowhere → (q : ℕ) → get_or (spell t) q 0 ≡ 35 → has (get_or (spell t) (q + 1) 0 - 48) ≡ true
unbound_none has t e = scan_none has (spell t) (sym (unbound_scan has t) ∙ e)

pub first_none : (x : Place) (w : ℕ) (y : Place) → first x w y ≡ nowhere → (x ≡ nowhere) × (y ≡ nowhere)
unfolding first
first_none (at p) w y e = absurd (no_place (sym e))
first_none nowhere w y e = (refl, later_nowhere w y e)

pub none_first : (x : Place) (w : ℕ) (y : Place) → x ≡ nowhere → y ≡ nowhere → first x w y ≡ nowhere
unfolding first later
none_first x w y e f = rw (e, f)

pub none_later : (w : ℕ) (x : Place) → x ≡ nowhere → later w x ≡ nowhere
unfolding later
none_later w x e = rw e

-- no place of 25 means that every `#` of the tree has a value
pub none_all : (has : ℕ → Bool) (t : Tree) → unbound_at has t ≡ nowhere → AllBound has t
unfolding unbound_at AllBound pick
none_all has (literal v) e = tt
none_all has (bound n) e = go (has n) refl e
  where
    go : (b : Bool) → has n ≡ b → pick b nowhere (at 0) ≡ nowhere → has n ≡ true
    go true eb f = eb
    go false eb f = absurd (no_place (sym f))
none_all has (row n) e = tt
none_all has (run n) e = tt
none_all has (one k a) e = none_all has a (later_nowhere (head_width k) (unbound_at has a) e)
none_all has (two k a b) e =
    let (ea, eb) = first_none (unbound_at has a) (width a + 1) (unbound_at has b) (later_nowhere (head_width k) (first (unbound_at has a) (width a + 1) (unbound_at has b)) e) in
    (none_all has a ea, none_all has b eb)
none_all has (three k a b c) e =
    let B : Place = first (unbound_at has b) (width b + 1) (unbound_at has c) in
    let (ea, e1) = first_none (unbound_at has a) (width a + 1) B (later_nowhere (head_width k) (first (unbound_at has a) (width a + 1) B) e) in
    let (eb, ec) = first_none (unbound_at has b) (width b + 1) (unbound_at has c) e1 in
    (none_all has a ea, none_all has b eb, none_all has c ec)
none_all has (four k a b c d) e =
    let C : Place = first (unbound_at has c) (width c + 1) (unbound_at has d) in
    let B : Place = first (unbound_at has b) (width b + 1) C in
    let (ea, e1) = first_none (unbound_at has a) (width a + 1) B (later_nowhere (head_width k) (first (unbound_at has a) (width a + 1) B) e) in
    let (eb, e2) = first_none (unbound_at has b) (width b + 1) C e1 in
    let (ec, ed) = first_none (unbound_at has c) (width c + 1) (unbound_at has d) e2 in
    (none_all has a ea, none_all has b eb, none_all has c ec, none_all has d ed)
none_all has (when c a b) e =
    let A : Place = first (unbound_at has a) (width a + 1) (unbound_at has b) in
    let (ec, e1) = first_none (unbound_at has c) (width c + 1) A (later_nowhere (head_width when_kind) (first (unbound_at has c) (width c + 1) A) e) in
    let (ea, eb) = first_none (unbound_at has a) (width a + 1) (unbound_at has b) e1 in
    (none_all has c ec, none_all has a ea, none_all has b eb)

pub all_none : (has : ℕ → Bool) (t : Tree) → AllBound has t → unbound_at has t ≡ nowhere
unfolding unbound_at AllBound pick
all_none has (literal v) h = refl
all_none has (bound n) h = rw h
all_none has (row n) h = refl
all_none has (run n) h = refl
all_none has (one k a) h = none_later (head_width k) (unbound_at has a) (all_none has a h)
all_none has (two k a b) h =
    none_later (head_width k) (first (unbound_at has a) (width a + 1) (unbound_at has b))
    (none_first (unbound_at has a) (width a + 1) (unbound_at has b) (all_none has a h.0) (all_none has b h.1))
all_none has (three k a b c) h =
    let B : Place = first (unbound_at has b) (width b + 1) (unbound_at has c) in
    none_later (head_width k) (first (unbound_at has a) (width a + 1) B)
    (none_first (unbound_at has a) (width a + 1) B (all_none has a h.0) (none_first (unbound_at has b) (width b + 1) (unbound_at has c) (all_none has b h.1) (all_none has c h.2)))
all_none has (four k a b c d) h =
    let C : Place = first (unbound_at has c) (width c + 1) (unbound_at has d) in
    let B : Place = first (unbound_at has b) (width b + 1) C in
    none_later (head_width k) (first (unbound_at has a) (width a + 1) B)
    (
    none_first (unbound_at has a) (width a + 1) B (all_none has a h.0)
    (none_first (unbound_at has b) (width b + 1) C (all_none has b h.1) (none_first (unbound_at has c) (width c + 1) (unbound_at has d) (all_none has c h.2) (all_none has d h.3)))
    )
all_none has (when c a b) h =
    let A : Place = first (unbound_at has a) (width a + 1) (unbound_at has b) in
    none_later (head_width when_kind) (first (unbound_at has c) (width c + 1) A)
    (none_first (unbound_at has c) (width c + 1) A (all_none has c h.0) (none_first (unbound_at has a) (width a + 1) (unbound_at has b) (all_none has a h.1) (all_none has b h.2)))

-- 25 is given exactly where some `#` of the tree has no value
pub none_exactly : (has : ℕ → Bool) (t : Tree) → (unbound_at has t ≡ nowhere) ↔ AllBound has t
none_exactly has t = (none_all has t, all_none has t)
