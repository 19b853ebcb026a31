-- How many bytes of text a tree takes, and where its arguments stand.
use mathlib.Core.Bool.{Bool, true, false}
use mathlib.Core.List.{List, [], ◌∷◌, ◌++◌}
use mathlib.Core.Path.{◌≡◌, refl, ap, ◌∙◌}
use Prim.Native.Nat.{ℕ, ◌+◌, ◌-◌, ◌*◌, ◌≤◌}
use native.Mathlib.Omega.{arith}
use lib.ListN.{length, length-append}
use Rattle.common.specs.Choice.{pick}
use Rattle.tree.specs.Tree.{Tree}
use Rattle.tree.specs.Tree.Tree.{literal, bound, row, run, one, two, three, four, when}
use Rattle.tree.specs.Calls.{calls}
use Rattle.tree.specs.Bounds.{when_kind}
use Rattle.texts.specs.Spelling.{Found, pairs, row_in, suite_part, name_by, name_of, listed, spell, name_width, head_width, width}
use Rattle.texts.specs.Spelling.Found.{known, unknown}

pub length_pairs : (v : List ℕ) → length (pairs v) ≡ 2 * length v
unfolding pairs
length_pairs [] = refl
length_pairs (x ∷ v) = omega (arith, length_pairs v)

length_suite : (b : Bool) (d : ℕ) → length (suite_part b d) ≡ pick b 2 0
unfolding suite_part pick
length_suite false d = refl
length_suite true d = refl

length_by : (f : Found) (k : ℕ) → length (name_by f k) ≡ name_width f
unfolding name_by name_width
length_by (known r) k = length-append r.letters (suite_part r.suited (k - r.kind)) ∙ ap (λ (n : ℕ). length r.letters + n) (length_suite r.suited (k - r.kind))
length_by unknown k = refl

pub length_name : (k : ℕ) → length (name_of k) + 1 ≡ head_width k
unfolding name_of head_width
length_name k = ap (λ (n : ℕ). n + 1) (length_by (row_in calls k) k)

-- a call's text by its parts
length_call : (k : ℕ) (l : List ℕ) → length (name_of k ++ (40 ∷ l)) ≡ head_width k + length l
length_call k l = length-append (name_of k) (40 ∷ l) ∙ omega (arith, length_name k)

length_next : (a l : List ℕ) (n : ℕ) → length a ≡ n → length (a ++ (44 ∷ l)) ≡ n + 1 + length l
length_next a l n e = length-append a (44 ∷ l) ∙ omega (arith, e)

length_last : (a : List ℕ) (n : ℕ) → length a ≡ n → length (a ++ (41 ∷ [])) ≡ n + 1
length_last a n e = length-append a (41 ∷ []) ∙ omega (arith, e)

-- a tree's spelling has the tree's width
pub length_spell : (t : Tree) → length (spell t) ≡ width t
unfolding spell width listed
length_spell (literal v) = omega (arith, length-append (pairs v) (39 ∷ []), length_pairs v)
length_spell (bound n) = refl
length_spell (row n) = refl
length_spell (run n) = refl
length_spell (one k a) = length_call k (spell a ++ (41 ∷ [])) ∙ omega (arith, length_last (spell a) (width a) (length_spell a))
length_spell (two k a b) =
    length_call k (spell a ++ (44 ∷ (spell b ++ (41 ∷ []))))
    ∙ omega (arith, length_next (spell a) (spell b ++ (41 ∷ [])) (width a) (length_spell a), length_last (spell b) (width b) (length_spell b))
length_spell (three k a b c) =
    length_call k (spell a ++ (44 ∷ (spell b ++ (44 ∷ (spell c ++ (41 ∷ []))))))
    ∙ omega (
      arith,
      length_next (spell a) (spell b ++ (44 ∷ (spell c ++ (41 ∷ [])))) (width a) (length_spell a),
      length_next (spell b) (spell c ++ (41 ∷ [])) (width b) (length_spell b),
      length_last (spell c) (width c) (length_spell c),
    )
length_spell (four k a b c d) =
    length_call k (spell a ++ (44 ∷ (spell b ++ (44 ∷ (spell c ++ (44 ∷ (spell d ++ (41 ∷ []))))))))
    ∙ omega (
      arith,
      length_next (spell a) (spell b ++ (44 ∷ (spell c ++ (44 ∷ (spell d ++ (41 ∷ [])))))) (width a) (length_spell a),
      length_next (spell b) (spell c ++ (44 ∷ (spell d ++ (41 ∷ [])))) (width b) (length_spell b),
      length_next (spell c) (spell d ++ (41 ∷ [])) (width c) (length_spell c),
      length_last (spell d) (width d) (length_spell d),
    )
length_spell (when c a b) =
    length_call when_kind (spell c ++ (44 ∷ (spell a ++ (44 ∷ (spell b ++ (41 ∷ []))))))
    ∙ omega (
      arith,
      length_next (spell c) (spell a ++ (44 ∷ (spell b ++ (41 ∷ [])))) (width c) (length_spell c),
      length_next (spell a) (spell b ++ (41 ∷ [])) (width a) (length_spell a),
      length_last (spell b) (width b) (length_spell b),
    )

-- no tree takes less than two bytes
pub width_two : (t : Tree) → 2 ≤ width t
unfolding width head_width
width_two (literal v) = omega arith
width_two (bound n) = omega arith
width_two (row n) = omega arith
width_two (run n) = omega arith
width_two (one k a) = omega arith
width_two (two k a b) = omega arith
width_two (three k a b c) = omega arith
width_two (four k a b c d) = omega arith
width_two (when c a b) = omega arith
