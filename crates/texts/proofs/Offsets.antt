-- Where each argument of a call stands in a text.
use mathlib.Core.List.{List, [], ◌∷◌, ◌++◌, append_assoc}
use mathlib.Core.Path.{◌≡◌, sym, ap, ◌∙◌}
use Prim.Native.Nat.{ℕ, ◌+◌}
use native.Mathlib.Omega.{arith}
use lib.ListN.{length, drop}
use Rattle.tree.specs.Tree.{Tree}
use Rattle.tree.specs.Tree.Tree.{one, two, three, four, when}
use Rattle.tree.specs.Bounds.{when_kind}
use Rattle.texts.specs.Spelling.{name_of, listed, spell, head_width, width}
use Rattle.texts.proofs.Standing.{stands_next, stands_after}
use Rattle.texts.proofs.Width.{length_name, length_spell}

module _ (s : List ℕ) (p : ℕ) (r : List ℕ) where
  -- after the name and the `(`
  pub first_argument : (k : ℕ) (a : List ℕ) (l : List (List ℕ)) → drop p s ≡ name_of k ++ listed 40 (a ∷ l) ++ r → drop (p + head_width k) s ≡ a ++ (listed 44 l ++ r)
  unfolding listed
  first_argument k a l e =
      let on : p + head_width k ≡ p + length (name_of k) + 1 = omega (arith, length_name k) in
      let f : drop (p + length (name_of k)) s ≡ 40 ∷ (a ++ listed 44 l ++ r) =
      stands_after s p (name_of k) (40 ∷ (a ++ listed 44 l ++ r)) (e ∙ append_assoc (name_of k) (40 ∷ (a ++ listed 44 l)) r) in
      ap (λ (i : ℕ). drop i s) on ∙ stands_next s (p + length (name_of k)) 40 (a ++ listed 44 l ++ r) f ∙ append_assoc a (listed 44 l) r

  -- after an argument and a `,`
  pub next_argument : (a : Tree) (b : List ℕ) (l : List (List ℕ)) → drop p s ≡ spell a ++ (listed 44 (b ∷ l) ++ r) → drop (p + width a + 1) s ≡ b ++ (listed 44 l ++ r)
  unfolding listed
  next_argument a b l e =
      let f : drop (p + width a) s ≡ 44 ∷ (b ++ listed 44 l ++ r) =
      ap (λ (w : ℕ). drop (p + w) s) (sym (length_spell a)) ∙ stands_after s p (spell a) (44 ∷ (b ++ listed 44 l ++ r)) e in
      stands_next s (p + width a) 44 (b ++ listed 44 l ++ r) f ∙ append_assoc b (listed 44 l) r

-- the places of the arguments of a call that is spelt at p
module _ (s : List ℕ) (p : ℕ) (r : List ℕ) (k : ℕ) (a b c d : Tree) where
  pub one_at : drop p s ≡ spell (one k a) ++ r → drop (p + head_width k) s ≡ spell a ++ (listed 44 [] ++ r)
  unfolding spell
  one_at e = first_argument s p r k (spell a) [] e

  pub two_at : drop p s ≡ spell (two k a b) ++ r
      → (drop (p + head_width k) s ≡ spell a ++ (listed 44 (spell b ∷ []) ++ r)) × (drop (p + head_width k + width a + 1) s ≡ spell b ++ (listed 44 [] ++ r))
  unfolding spell
  two_at e =
      let e1 = first_argument s p r k (spell a) (spell b ∷ []) e in
      (e1, next_argument s (p + head_width k) r a (spell b) [] e1)

  pub three_at : drop p s ≡ spell (three k a b c) ++ r
      → (drop (p + head_width k) s ≡ spell a ++ (listed 44 (spell b ∷ spell c ∷ []) ++ r))
      × (drop (p + head_width k + width a + 1) s ≡ spell b ++ (listed 44 (spell c ∷ []) ++ r))
      × (drop (p + head_width k + width a + 1 + width b + 1) s ≡ spell c ++ (listed 44 [] ++ r))
  unfolding spell
  three_at e =
      let e1 = first_argument s p r k (spell a) (spell b ∷ spell c ∷ []) e in
      let e2 = next_argument s (p + head_width k) r a (spell b) (spell c ∷ []) e1 in
      (e1, e2, next_argument s (p + head_width k + width a + 1) r b (spell c) [] e2)

  pub four_at : drop p s ≡ spell (four k a b c d) ++ r
      → (drop (p + head_width k) s ≡ spell a ++ (listed 44 (spell b ∷ spell c ∷ spell d ∷ []) ++ r))
      × (drop (p + head_width k + width a + 1) s ≡ spell b ++ (listed 44 (spell c ∷ spell d ∷ []) ++ r))
      × (drop (p + head_width k + width a + 1 + width b + 1) s ≡ spell c ++ (listed 44 (spell d ∷ []) ++ r))
      × (drop (p + head_width k + width a + 1 + width b + 1 + width c + 1) s ≡ spell d ++ (listed 44 [] ++ r))
  unfolding spell
  four_at e =
      let e1 = first_argument s p r k (spell a) (spell b ∷ spell c ∷ spell d ∷ []) e in
      let e2 = next_argument s (p + head_width k) r a (spell b) (spell c ∷ spell d ∷ []) e1 in
      let e3 = next_argument s (p + head_width k + width a + 1) r b (spell c) (spell d ∷ []) e2 in
      (e1, e2, e3, next_argument s (p + head_width k + width a + 1 + width b + 1) r c (spell d) [] e3)

  pub when_at : drop p s ≡ spell (when a b c) ++ r
      → (drop (p + head_width when_kind) s ≡ spell a ++ (listed 44 (spell b ∷ spell c ∷ []) ++ r))
      × (drop (p + head_width when_kind + width a + 1) s ≡ spell b ++ (listed 44 (spell c ∷ []) ++ r))
      × (drop (p + head_width when_kind + width a + 1 + width b + 1) s ≡ spell c ++ (listed 44 [] ++ r))
  unfolding spell
  when_at e =
      let e1 = first_argument s p r when_kind (spell a) (spell b ∷ spell c ∷ []) e in
      let e2 = next_argument s (p + head_width when_kind) r a (spell b) (spell c ∷ []) e1 in
      (e1, e2, next_argument s (p + head_width when_kind + width a + 1) r b (spell c) [] e2)
