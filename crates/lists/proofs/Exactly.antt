-- A list is read exactly if it is good (document 01, section 6).
use mathlib.Core.Path.{◌≡◌, refl, ap, sym, ◌∙◌, subst}
use mathlib.Core.Bool.{Bool, true, false}
use mathlib.Core.List.{List, [], ◌∷◌, ◌++◌}
use mathlib.Core.Logic.{◌↔◌}
use Prim.Native.Nat.{ℕ, zero, suc, ◌+◌, ◌≤◌}
use native.Mathlib.Omega.{arith}
use lib.Dec.{eqb, leb}
use lib.ListN.{length, drop, length-append}
use lib.Seq.{drop_at}
use borrow.Author.Tests.{le-leb, leb-true, ne_eqb, eqb-true, eqb-false}
use Rattle.common.specs.Choice.{pick}
use Rattle.common.specs.Answer.{Value}
use Rattle.common.proofs.Choices.{pick_true, pick_false, true_false}
use Rattle.tree.specs.Bounds.{Bytes}
use Rattle.tree.proofs.Bytes.{bytes_drop}
use Rattle.records.specs.Record.{record_of, Front, front_of}
use Rattle.records.specs.Record.Front.{front, cut}
use Rattle.records.proofs.There.{length_record, front_record}
use Rattle.records.proofs.Back.{front_back}
use Rattle.lists.specs.Entries.{Entry, entry, Listed, among, with_first, then_entry, walk, list_of}
use Rattle.lists.specs.Entries.Listed.{listed, bad_list}
use Rattle.lists.specs.Good.{spell_list, NotIn, GoodList}

no_list : {es : List Entry} → bad_list ≡ listed es → ⊥
no_list e = let z : ◌≡◌ {A = ℕ} 0 1 = cc in omega arith

pick_listed : (b : Bool) (i : Listed) {es : List Entry} → pick b i bad_list ≡ listed es → (b ≡ true) × (i ≡ listed es)
unfolding pick
pick_listed true i e = (refl, e)
pick_listed false i e = absurd (no_list e)

pick_bad : (b : Bool) (i : Listed) {es : List Entry} → pick b bad_list i ≡ listed es → (b ≡ false) × (i ≡ listed es)
unfolding pick
pick_bad true i e = absurd (no_list e)
pick_bad false i e = (refl, e)

with_first_lem : (x : Entry) (l : Listed) {es : List Entry} → with_first x l ≡ listed es → (rest : List Entry) × (l ≡ listed rest) × (es ≡ x ∷ rest)
unfolding with_first
with_first_lem x (listed rest) e = (rest, refl, cc)
with_first_lem x bad_list e = absurd (no_list e)

-- none of the kinds met stands among the entries
unfoldable pub Apart : List ℕ → List Entry → Type 0
Apart [] es = Unit {0}
Apart (j ∷ met) es = NotIn j es × Apart met es

pick_or : (b c : Bool) → pick b true c ≡ false → (b ≡ false) × (c ≡ false)
unfolding pick
pick_or true c e = absurd (true_false e)
pick_or false c e = (refl, e)

-- a kind that was not met is apart from those that were
apart_cons : (met : List ℕ) (x : Entry) (es : List Entry) → among met x.kind ≡ false → Apart met es → Apart met (x ∷ es)
unfolding Apart among NotIn
apart_cons [] x es e h = tt
apart_cons (j ∷ met) x es e h =
    let (a, b) = pick_or (eqb j x.kind) (among met x.kind) e in
    ((λ q. eqb-false j x.kind a (sym q), h.0), apart_cons met x es b h.1)

apart_head : (met : List ℕ) (x : Entry) (es : List Entry) → Apart met (x ∷ es) → among met x.kind ≡ false
unfolding Apart among NotIn pick
apart_head [] x es h = refl
apart_head (j ∷ met) x es h = rw (ne_eqb j x.kind (λ q. h.0.0 (sym q))) (apart_head met x es h.1)

apart_tail : (met : List ℕ) (x : Entry) (es : List Entry) → Apart met (x ∷ es) → Apart met es
unfolding Apart NotIn
apart_tail [] x es h = tt
apart_tail (j ∷ met) x es h = (h.0.1, apart_tail met x es h.1)

apart_nil : (met : List ℕ) → Apart met []
unfolding Apart NotIn
apart_nil [] = tt
apart_nil (j ∷ met) = (tt, apart_nil met)

apart_more : (met : List ℕ) (x : Entry) (es : List Entry) → NotIn x.kind es → Apart met (x ∷ es) → Apart (x.kind ∷ met) es
unfolding Apart
apart_more met x es h a = (h, apart_tail met x es a)

pub same_list : {a b : List Entry} → listed a ≡ listed b → a ≡ b
same_list e = cc

module _ (taken : ℕ → Bool) where
  entry_there : (met : List ℕ) (k : ℕ) (v : Value) (f : ℕ → Value → Listed) → taken k ≡ true → among met k ≡ false → length v ≤ 1024 → then_entry taken met (front k v) f ≡ f k v
  unfolding then_entry
  entry_there met k v f a b c = pick_true _ _ _ a ∙ pick_false _ _ _ b ∙ pick_true _ _ _ (le-leb _ _ c)

  entry_step : (n : ℕ) (met : List ℕ) (k : ℕ) (v : Value) (r : List ℕ) → taken k ≡ true → among met k ≡ false → length v ≤ 1024
      → walk taken (suc n) met (record_of k v ++ r) ≡ with_first (entry k v) (walk taken n (k ∷ met) r)
  unfolding walk
  entry_step n met k v r a b c =
      let len : length (record_of k v ++ r) ≡ 4 + length v + length r = length-append (record_of k v) r ∙ ap (λ m. m + length r) (length_record k v) in
      let some : length (record_of k v ++ r) ≡ 0 → ⊥ = λ e. omega arith in
      pick_false _ _ _ (ne_eqb _ _ some)
      ∙ ap (λ g. then_entry taken met g (λ j w. with_first (entry j w) (walk taken n (j ∷ met) (drop (4 + length w) (record_of k v ++ r))))) (front_record k v r)
      ∙ entry_there met k v _ a b c
      ∙ ap (λ l. with_first (entry k v) (walk taken n (k ∷ met) l)) (drop_at (record_of k v) r (4 + length v) (length_record k v))

  walk_empty : (n : ℕ) (met : List ℕ) → walk taken n met [] ≡ listed []
  unfolding walk pick
  walk_empty zero met = refl
  walk_empty (suc n) met = refl

  -- a good list is read, whatever its order
  walk_there : (es : List Entry) (n : ℕ) (met : List ℕ) → GoodList taken es → Apart met es → length (spell_list es) ≤ n → walk taken n met (spell_list es) ≡ listed es
  unfolding spell_list GoodList with_first entry
  walk_there [] n met g a h = walk_empty n met
  walk_there (x ∷ es) zero met g a h =
      let len = length-append (record_of x.kind x.held) (spell_list es) in
      let rec = length_record x.kind x.held in
      absurd (omega arith)
  walk_there (x ∷ es) (suc n) met g a h =
      let len = length-append (record_of x.kind x.held) (spell_list es) in
      let rec = length_record x.kind x.held in
      entry_step n met x.kind x.held (spell_list es) g.0 (apart_head met x es a) g.1
      ∙ ap (with_first x) (walk_there es n (x.kind ∷ met) g.3 (apart_more met x es g.2 a) (omega arith))

  -- what a list that is read says of its first record
  then_entry_lem : (met : List ℕ) (m : Front) (f : ℕ → Value → Listed) {es : List Entry} → then_entry taken met m f ≡ listed es
      → (k : ℕ) × (v : Value) × (m ≡ front k v) × (taken k ≡ true) × (among met k ≡ false) × (length v ≤ 1024) × (f k v ≡ listed es)
  unfolding then_entry
  then_entry_lem met (front k v) f e =
      let (a, e1) = pick_listed (taken k) (pick (among met k) bad_list (pick (leb (length v) 1024) (f k v) bad_list)) e in
      let (b, e2) = pick_bad (among met k) (pick (leb (length v) 1024) (f k v) bad_list) e1 in
      let (c, e3) = pick_listed (leb (length v) 1024) (f k v) e2 in
      (k, v, refl, a, b, leb-true (length v) 1024 c, e3)
  then_entry_lem met cut f e = absurd (no_list e)

  -- what is read is what stands there
  pub record Reads (met s : List ℕ) (es : List Entry) : Type 0 where
    pub is : s ≡ spell_list es
    pub good : GoodList taken es
    pub apart : Apart met es

  reads_nil : (met s : List ℕ) (es : List Entry) → length s ≡ 0 → listed [] ≡ listed es → Reads met s es
  unfolding spell_list GoodList
  reads_nil met [] es h e = subst (λ es. Reads met [] es) (same_list e) (record { is = refl; good = tt; apart = apart_nil met })
  reads_nil met (x ∷ s) es h e = absurd (omega arith)

  reads_cons : (met s : List ℕ) (k : ℕ) (v : Value) (rest es : List Entry) → s ≡ record_of k v ++ drop (4 + length v) s → taken k ≡ true → among met k ≡ false → length v ≤ 1024
      → Reads (k ∷ met) (drop (4 + length v) s) rest → es ≡ entry k v ∷ rest → Reads met s es
  unfolding spell_list GoodList Apart entry
  reads_cons met s k v rest es same a b c R e =
      subst (λ es. Reads met s es) (sym e)
      (record { is = same ∙ ap (λ l. record_of k v ++ l) R.is; good = (a, c, R.apart.0, R.good); apart = apart_cons met (entry k v) rest b R.apart.1 })

  reads_step : (met s : List ℕ) (sub : List ℕ → List ℕ → Listed) (es : List Entry) → Bytes s
      → ((met s : List ℕ) (es : List Entry) → Bytes s → sub met s ≡ listed es → Reads met s es)
      → then_entry taken met (front_of s) (λ k v. with_first (entry k v) (sub (k ∷ met) (drop (4 + length v) s))) ≡ listed es → Reads met s es
  reads_step met s sub es hs ih e =
      let (k, v, ef, a, b, c, e1) = then_entry_lem met (front_of s) (λ k v. with_first (entry k v) (sub (k ∷ met) (drop (4 + length v) s))) e in
      let (rest, e2, e3) = with_first_lem (entry k v) (sub (k ∷ met) (drop (4 + length v) s)) e1 in
      reads_cons met s k v rest es (front_back s k v hs ef) a b c (ih (k ∷ met) (drop (4 + length v) s) rest (bytes_drop (4 + length v) s hs) e2) e3

  reads_either : (b : Bool) (met s : List ℕ) (x : Listed) (es : List Entry) → eqb (length s) 0 ≡ b → pick b (listed []) x ≡ listed es → (x ≡ listed es → Reads met s es) → Reads met s es
  unfolding pick
  reads_either true met s x es q e f = reads_nil met s es (eqb-true (length s) 0 q) e
  reads_either false met s x es q e f = f e

  walk_back : (n : ℕ) (met s : List ℕ) (es : List Entry) → Bytes s → walk taken n met s ≡ listed es → Reads met s es
  unfolding walk
  walk_back zero met s es hs e = reads_either (eqb (length s) 0) met s bad_list es refl e (λ q. absurd (no_list q))
  walk_back (suc n) met s es hs e = reads_either (eqb (length s) 0) met s _ es refl e (reads_step met s (walk taken n) es hs (walk_back n))

  -- a list is read, as these entries, exactly if it is their records one after another and they are good
  pub list_exactly : (s : List ℕ) (es : List Entry) → Bytes s → (list_of taken s ≡ listed es) ↔ ((s ≡ spell_list es) × GoodList taken es)
  unfolding list_of Apart
  list_exactly s es hs = (
    λ e. let R = walk_back (length s) [] s es hs e in (R.is, R.good),
    λ p. subst (λ l. walk taken (length l) [] l ≡ listed es) (sym p.0) (walk_there es (length (spell_list es)) [] p.1 tt (omega arith)),
  )
