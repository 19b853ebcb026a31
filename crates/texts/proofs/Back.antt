-- What was read is spelt, within the bounds: reading gives a tree for no other text.
use mathlib.Core.Bool.{Bool, true, false}
use mathlib.Core.List.{List, [], ◌∷◌, ◌++◌, append_assoc, append-nil}
use mathlib.Core.Path.{◌≡◌, refl, sym, ap, ap₂, ◌∙◌}
use Prim.Native.Nat.{ℕ, zero, suc, ◌+◌, ◌-◌, ◌≤◌, ◌<◌, max}
use native.Mathlib.Nat.{add-zero}
use native.Mathlib.Omega.{arith}
use lib.Dec.{eqb, leb}
use lib.ListN.{length, take, drop, get_or, take-append-drop, drop_of_length-le}
use lib.Seq.{drop-drop}
use borrow.Author.Tests.{leb-true, leb-false, eqb-true, eqb-false}
use Rattle.common.specs.Choice.{pick}
use Rattle.tree.specs.Tree.{Tree}
use Rattle.tree.specs.Tree.Tree.{one, two, three, four, when}
use Rattle.tree.specs.Calls.{Call, calls}
use Rattle.tree.specs.Bounds.{depth, nodes, arguments_of, when_kind, Proper, Small, Within}
use Rattle.tree.specs.Reading.Read.{got, wrong}
use Rattle.texts.specs.Spelling.{Found, row_in, suite_part, name_of, listed, spell}
use Rattle.texts.specs.Spelling.Found.{known, unknown}
use Rattle.texts.specs.Reading.{Part, then_part, is_letter, run_of, due_at, if_due, call_in, call_of, start_of, args_at, list_at, suite_at, named_at, call_on, by_start, expr_at, end_at, read_text}
use Rattle.texts.specs.Reading.Part.{part, bad}
use Rattle.texts.specs.Reading.Start.{quote, hash, dollar, sign, letter, other}
use Rattle.texts.proofs.Standing.{stands_here, Stood, due_is_lem, if_due_lem, then_part_lem, pick_bad, no_part, run_within}
use Rattle.texts.proofs.Table.{Good, Kinds, all_good, by_letters, arguments_of_lem, suited_kind, plain_row}
use Rattle.texts.proofs.Spelt.{spells, total, deepest, Each, max_last, name_is}
use Rattle.texts.proofs.LeavesBack.{Back, literal_back, bound_back, row_back, run_back}

-- what reading an argument list says
pub record ArgsBack (d : ℕ) (s : List ℕ) (left c p n : ℕ) (l : List Tree) (q m : ℕ) : Type 0 where
  pub size : length l ≡ left
  pub same : drop p s ≡ listed c (spells l) ++ drop q s
  pub proper : Each Proper l
  pub small : Each Small l
  pub deep : deepest l ≤ d
  pub count : m ≡ n + total l
  pub few : n ≤ 128 → m ≤ 128

args_as : (d : ℕ) (s : List ℕ) (left c p n : ℕ) (a l : List Tree) (u j q m : ℕ) → ArgsBack d s left c p n a u j → part a u j ≡ part l q m → ArgsBack d s left c p n l q m
args_as d s left c p n a l u j q m h e =
    let ea : a ≡ l = cc in
    let eq : u ≡ q = cc in
    let em : j ≡ m = cc in
    rw (← ea, ← eq, ← em) h

-- a byte that was due stands there
pub byte_stands : (s : List ℕ) (c p : ℕ) → Stood s c c p → drop p s ≡ c ∷ drop (p + 1) s
byte_stands s c p st =
    let l = st.low in
    let h = st.high in
    let is : get_or s p 0 ≡ c = omega arith in
    stands_here s p st.inside ∙ ap (λ (x : ℕ). x ∷ drop (p + 1) s) is

abbrev pub Sub : ℕ → List ℕ → (ℕ → ℕ → Part Tree) → Type 0
Sub d s expr = (p n : ℕ) (t : Tree) (q m : ℕ) → expr p n ≡ part t q m → Back d s p n t q m

no_args : (d : ℕ) (s : List ℕ) (c p n : ℕ) → Stood s 41 41 p → ArgsBack d s 0 c p n [] (p + 1) n
unfolding listed spells total deepest
no_args d s c p n st = record { size = refl; same = byte_stands s 41 p st; proper = tt; small = tt; deep = omega arith; count = sym (add-zero n); few = λ h. h }

more_args : (d : ℕ) (s : List ℕ) (left c p n : ℕ) (a : Tree) (q m : ℕ) (l : List Tree) (u j : ℕ) → Stood s c c p → Back d s (p + 1) n a q m → ArgsBack d s left 44 q m l u j
    → ArgsBack d s (suc left) c p n (a ∷ l) u j
unfolding listed spells total deepest
more_args d s left c p n a q m l u j st A L =
    let da = A.deep in
    let dl = L.deep in
    let ca = A.count in
    let cl = L.count in
    record {
      size = ap suc L.size;
      same =
          byte_stands s c p st
          ∙ ap (λ (w : List ℕ). c ∷ w) (A.same ∙ ap (λ (w : List ℕ). spell a ++ w) L.same ∙ sym (append_assoc (spell a) (listed 44 (spells l)) (drop u s)));
      proper = (A.proper, L.proper);
      small = (A.small, L.small);
      deep = omega arith;
      count = omega arith;
      few = λ h. L.few A.few;
    }

pub args_back : (d : ℕ) (expr : ℕ → ℕ → Part Tree) (s : List ℕ) (left c p n : ℕ) (l : List Tree) (q m : ℕ) → Sub d s expr → args_at expr s left c p n ≡ part l q m
    → ArgsBack d s left c p n l q m
unfolding args_at
args_back d expr s zero c p n l q m sub e =
    let (e1, e2) = if_due_lem (due_at s 41 41 p) (part [] (p + 1) n) e in
    args_as d s 0 c p n [] l (p + 1) n q m (no_args d s c p n (due_is_lem s 41 41 p e1)) e2
args_back d expr s (suc left) c p n l q m sub e =
    let rest : Tree → ℕ → ℕ → Part (List Tree) = λ a q m. then_part (args_at expr s left 44 q m) (λ l u k. part (a ∷ l) u k) in
    let (e1, e2) = if_due_lem (due_at s c c p) (then_part (expr (p + 1) n) rest) e in
    let (a, u, j, e3, e4) = then_part_lem (expr (p + 1) n) rest e2 in
    let (k, v, i, e5, e6) = then_part_lem (args_at expr s left 44 u j) (λ l u k. part (a ∷ l) u k) e4 in
    args_as d s (suc left) c p n (a ∷ k) l v i q m
    (more_args d s left c p n a u j k v i (due_is_lem s c c p e1) (sub (p + 1) n a u j e3) (args_back d expr s left 44 u j k v i sub e5)) e6

-- the tree that a call of these arguments is
pub record Made (k : ℕ) (l : List Tree) (u j : ℕ) (t : Tree) (q m : ℕ) : Type 0 where
  pub spelt : spell t ≡ name_of k ++ listed 40 (spells l)
  pub place : u ≡ q
  pub nodes_same : j ≡ m
  pub proper : Proper t
  pub small : Each Small l → Small t
  pub deep : depth t ≡ suc (deepest l)
  pub many : nodes t ≡ suc (total l)

made_as : (k : ℕ) (l : List Tree) (u j : ℕ) (a t : Tree) (q m : ℕ) → Made k l u j a u j → part a u j ≡ part t q m → Made k l u j t q m
made_as k l u j a t q m h e =
    let ea : a ≡ t = cc in
    let eq : u ≡ q = cc in
    let em : j ≡ m = cc in
    rw (← ea, ← eq, ← em) h

when_made : (k : ℕ) (a b c : Tree) (u j : ℕ) → k ≡ when_kind → Each Proper (a ∷ b ∷ c ∷ []) → Made k (a ∷ b ∷ c ∷ []) u j (when a b c) u j
unfolding spell spells Proper Small depth nodes deepest total
when_made k a b c u j e h =
    record {
      spelt = rw e refl;
      place = refl;
      nodes_same = refl;
      proper = (h.0, h.1.0, h.1.1.0);
      small = λ w. (w.0, w.1.0, w.1.1.0);
      deep = omega arith;
      many = omega arith;
    }

three_made : (k : ℕ) (a b c : Tree) (u j : ℕ) → arguments_of k ≡ 3 → (k ≡ when_kind → ⊥) → Each Proper (a ∷ b ∷ c ∷ [])
    → Made k (a ∷ b ∷ c ∷ []) u j (three k a b c) u j
unfolding spell spells Proper Small depth nodes deepest total
three_made k a b c u j n e h =
    record {
      spelt = refl;
      place = refl;
      nodes_same = refl;
      proper = (n, e, h.0, h.1.0, h.1.1.0);
      small = λ w. (w.0, w.1.0, w.1.1.0);
      deep = omega arith;
      many = omega arith;
    }

pub call_made : (k : ℕ) (l : List Tree) (u j : ℕ) (t : Tree) (q m : ℕ) → arguments_of k ≡ length l → Each Proper l → call_of k l u j ≡ part t q m → Made k l u j t q m
unfolding call_of spell spells Proper Small depth nodes deepest total pick
call_made k [] u j t q m n h e = absurd (no_part e)
call_made k (a ∷ []) u j t q m n h e =
    made_as k (a ∷ []) u j (one k a) t q m
    (record { spelt = refl; place = refl; nodes_same = refl; proper = (n, h.0); small = λ w. w.0; deep = omega arith; many = omega arith }) e
call_made k (a ∷ (b ∷ [])) u j t q m n h e =
    made_as k (a ∷ b ∷ []) u j (two k a b) t q m
    (record { spelt = refl; place = refl; nodes_same = refl; proper = (n, h.0, h.1.0); small = λ w. (w.0, w.1.0); deep = omega arith; many = omega arith }) e
call_made k (a ∷ (b ∷ (c ∷ []))) u j t q m n h e = go (eqb k when_kind) refl e
  where
    go : (x : Bool) → eqb k when_kind ≡ x → part (pick x (when a b c) (three k a b c)) u j ≡ part t q m → Made k (a ∷ b ∷ c ∷ []) u j t q m
    go true ex f = made_as k (a ∷ b ∷ c ∷ []) u j (when a b c) t q m (when_made k a b c u j (eqb-true k when_kind ex) h) f
    go false ex f = made_as k (a ∷ b ∷ c ∷ []) u j (three k a b c) t q m (three_made k a b c u j n (eqb-false k when_kind ex) h) f
call_made k (a ∷ (b ∷ (c ∷ (g ∷ [])))) u j t q m n h e =
    made_as k (a ∷ b ∷ c ∷ g ∷ []) u j (four k a b c g) t q m
    (
    record {
      spelt = refl;
      place = refl;
      nodes_same = refl;
      proper = (n, h.0, h.1.0, h.1.1.0, h.1.1.1.0);
      small = λ w. (w.0, w.1.0, w.1.1.0, w.1.1.1.0);
      deep = ap (λ (x : ℕ). suc (max (depth a) (max (depth b) (max (depth c) x)))) (max_last (depth g));
      many = omega arith;
    }
    )
    e
call_made k (a ∷ (b ∷ (c ∷ (g ∷ (i ∷ l))))) u j t q m n h e = absurd (no_part e)

-- what reading a call's list says: its tree has the name before it
pub record ListBack (d : ℕ) (s : List ℕ) (k p n : ℕ) (t : Tree) (q m : ℕ) : Type 0 where
  pub list : List ℕ
  pub spelt : spell t ≡ name_of k ++ list
  pub same : drop p s ≡ list ++ drop q s
  pub proper : Proper t
  pub small : Small t
  pub deep : depth t ≤ suc d
  pub count : m ≡ n + nodes t
  pub few : m ≤ 128

list_made : (d : ℕ) (s : List ℕ) (k p n : ℕ) (l : List Tree) (u j : ℕ) (t : Tree) (q m : ℕ) → n < 128 → ArgsBack d s (arguments_of k) 40 p (n + 1) l u j → Made k l u j t q m
    → ListBack d s k p n t q m
list_made d s k p n l u j t q m few A M =
    let ca = A.count in
    let da = A.deep in
    let dm = M.deep in
    let mm = M.many in
    let jm = M.nodes_same in
    let fa = A.few (omega arith) in
    record {
      list = listed 40 (spells l);
      spelt = M.spelt;
      same = A.same ∙ ap (λ (i : ℕ). listed 40 (spells l) ++ drop i s) M.place;
      proper = M.proper;
      small = M.small A.small;
      deep = omega arith;
      count = omega arith;
      few = omega arith;
    }

module _ (d : ℕ) (expr : ℕ → ℕ → Part Tree) (s : List ℕ) (t : Tree) (q m : ℕ) (sub : Sub d s expr) (n : ℕ) (few : n < 128) where
  list_back : (k count p : ℕ) → arguments_of k ≡ count → list_at expr s k count p n ≡ part t q m → ListBack d s k p n t q m
  unfolding list_at
  list_back k count p c e =
      let (l, u, j, e1, e2) = then_part_lem (args_at expr s count 40 p (n + 1)) (call_of k) e in
      let A = args_back d expr s count 40 p (n + 1) l u j sub e1 in
      list_made d s k p n l u j t q m few (rw c A) (call_made k l u j t q m (c ∙ sym A.size) A.proper e2)

  -- the letters w stand before p, where the suite and the list begin
  abbrev Whole : List ℕ → ℕ → Type 0
  Whole w p = (v : List ℕ) × (spell t ≡ w ++ v) × (drop p s ≡ v ++ drop q s) × Proper t × Small t × (depth t ≤ suc d) × (m ≡ n + nodes t) × (m ≤ 128)

  plain_back : (r : Call) (p : ℕ) → row_in calls r.kind ≡ known r → r.suited ≡ false → ListBack d s r.kind p n t q m → Whole r.letters p
  unfolding suite_part
  plain_back r p er b L =
      let name : name_of r.kind ≡ r.letters = name_is r.kind r er ∙ ap (λ (x : Bool). r.letters ++ suite_part x (r.kind - r.kind)) b ∙ append-nil r.letters in
      (L.list, L.spelt ∙ ap (λ (w : List ℕ). w ++ L.list) name, L.same, L.proper, L.small, L.deep, L.count, L.few)

  cipher_back : (r : Call) (p x : ℕ) → row_in calls (r.kind + (x - 48)) ≡ known r → r.suited ≡ true → 48 ≤ x → drop p s ≡ 46 ∷ x ∷ drop (p + 2) s
      → ListBack d s (r.kind + (x - 48)) (p + 2) n t q m
      → Whole r.letters p
  unfolding suite_part
  cipher_back r p x er b low e L =
      let k : ℕ = r.kind + (x - 48) in
      let digit : 48 + (k - r.kind) ≡ x = omega arith in
      let name : name_of k ≡ r.letters ++ (46 ∷ x ∷ []) =
      name_is k r er
      ∙ ap (λ (y : Bool). r.letters ++ suite_part y (k - r.kind)) b
      ∙ ap (λ (y : ℕ). r.letters ++ (46 ∷ y ∷ [])) digit in (
        46 ∷ x ∷ L.list,
        L.spelt ∙ ap (λ (w : List ℕ). w ++ L.list) name ∙ append_assoc r.letters (46 ∷ x ∷ []) L.list,
        e ∙ ap (λ (w : List ℕ). 46 ∷ x ∷ w) L.same,
        L.proper,
        L.small,
        L.deep,
        L.count,
        L.few,
      )

  suite_back : (b : Bool) (r : Call) (p : ℕ) → r.suited ≡ b → Kinds b r → suite_at expr s b r p n ≡ part t q m → Whole r.letters p
  unfolding suite_at
  suite_back false r p b ks e =
      let er = plain_row r ks in
      plain_back r p er b (list_back r.kind r.arguments p (arguments_of_lem r.kind r er) e)
  suite_back true r p b ks e =
      let x : ℕ = get_or s (p + 1) 0 in
      let k : ℕ = r.kind + (x - 48) in
      let (e1, e2) = if_due_lem (due_at s 46 46 p) (if_due (due_at s 49 53 (p + 1)) (list_at expr s k r.arguments (p + 2) n)) e in
      let (e3, e4) = if_due_lem (due_at s 49 53 (p + 1)) (list_at expr s k r.arguments (p + 2) n) e2 in
      let st = due_is_lem s 49 53 (p + 1) e3 in
      let low = st.low in
      let high = st.high in
      let er : row_in calls k ≡ known r = suited_kind r (x - 48) ks (omega arith) (omega arith) in
      let on : p + 1 + 1 ≡ p + 2 = omega arith in
      let same : drop p s ≡ 46 ∷ x ∷ drop (p + 2) s =
      byte_stands s 46 p (due_is_lem s 46 46 p e1) ∙ ap (λ (w : List ℕ). 46 ∷ w) (stands_here s (p + 1) st.inside ∙ ap (λ (i : ℕ). x ∷ drop i s) on) in
      cipher_back r p x er b (omega arith) same (list_back k r.arguments (p + 2) (arguments_of_lem k r er) e4)

  whole_back : (p k : ℕ) (w : List ℕ) → drop p s ≡ w ++ drop (p + k) s → Whole w (p + k) → Back (suc d) s p n t q m
  whole_back p k w e (v, spelt, same, proper, small, deep, count, most) =
      record {
        same = e ∙ ap (λ (y : List ℕ). w ++ y) same ∙ sym (append_assoc w v (drop q s)) ∙ ap (λ (y : List ℕ). y ++ drop q s) (sym spelt);
        proper = proper;
        small = small;
        deep = deep;
        count = count;
        few = most;
      }

  named_back : (f : Found) (p k : ℕ) → k ≤ length (drop p s) → call_in calls (take k (drop p s)) ≡ f → named_at expr s f p (p + k) n ≡ part t q m → Back (suc d) s p n t q m
  unfolding named_at
  named_back (known r) p k h ef e =
      let (g, letters) = by_letters Good calls (take k (drop p s)) r all_good ef in
      let same : drop p s ≡ r.letters ++ drop (p + k) s =
      sym (take-append-drop k (drop p s)) ∙ ap₂ (λ (x y : List ℕ). x ++ y) (sym letters) (drop-drop k p s) in
      whole_back p k r.letters same (suite_back r.suited r (p + k) refl g.kinds e)
  named_back unknown p k h ef e = absurd (no_part e)

  call_back : (p : ℕ) → call_on expr s (run_of is_letter (drop p s)) p n ≡ part t q m → Back (suc d) s p n t q m
  unfolding call_on
  call_back p e = named_back (call_in calls (take (run_of is_letter (drop p s)) (drop p s))) p (run_of is_letter (drop p s)) (run_within is_letter (drop p s)) refl e

  start_back : (p : ℕ) → p < length s → by_start expr s (start_of (get_or s p 0)) p n ≡ part t q m → Back (suc d) s p n t q m
  unfolding by_start start_of pick
  start_back p inside e = go (eqb b 39) (eqb b 35) (eqb b 36) (eqb b 64) (is_letter b) refl refl refl refl e
    where
      b : ℕ
      b = get_or s p 0

      go : (x1 x2 x3 x4 x5 : Bool) → eqb b 39 ≡ x1 → eqb b 35 ≡ x2 → eqb b 36 ≡ x3 → eqb b 64 ≡ x4
          → by_start expr s (pick x1 quote (pick x2 hash (pick x3 dollar (pick x4 sign (pick x5 letter other))))) p n ≡ part t q m
          → Back (suc d) s p n t q m
      go true x2 x3 x4 x5 e1 e2 e3 e4 f = literal_back d s p n t q m (eqb-true b 39 e1) inside few f
      go false true x3 x4 x5 e1 e2 e3 e4 f = bound_back d s p n t q m inside few (eqb-true b 35 e2) f
      go false false true x4 x5 e1 e2 e3 e4 f = row_back d s p n t q m inside few (eqb-true b 36 e3) f
      go false false false true x5 e1 e2 e3 e4 f = run_back d s p n t q m inside few (eqb-true b 64 e4) f
      go false false false false true e1 e2 e3 e4 f = call_back p f
      go false false false false false e1 e2 e3 e4 f = absurd (no_part f)

-- an expression that was read is spelt there
pub expr_back : (d : ℕ) (s : List ℕ) (p n : ℕ) (t : Tree) (q m : ℕ) → expr_at d s p n ≡ part t q m → Back d s p n t q m
unfolding expr_at
expr_back zero s p n t q m e = absurd (no_part e)
expr_back (suc d) s p n t q m e =
    let rest : Part Tree = by_start (expr_at d s) s (start_of (get_or s p 0)) p n in
    let (e1, e2) = pick_bad (leb 128 n) 23 p (pick (leb (length s) p) (bad 20 (length s)) rest) e in
    let (e3, e4) = pick_bad (leb (length s) p) 20 (length s) rest e2 in
    start_back d (expr_at d s) s t q m (λ p n t q m. expr_back d s p n t q m) n (leb-false 128 n e1) p (leb-false (length s) p e3) e4

no_got : {k w : ℕ} {t : Tree} → wrong k w ≡ got t → ⊥
no_got e = let z : ◌≡◌ {A = ℕ} 0 1 = cc in omega arith

end_back : (s : List ℕ) (x : Part Tree) (t : Tree) → expr_at 16 s 0 0 ≡ x → end_at s x ≡ got t → (s ≡ spell t) × Within t
unfolding end_at pick
end_back s (part u p n) t ex e = go (leb (length s) p) refl e
  where
    go : (b : Bool) → leb (length s) p ≡ b → pick b (got u) (wrong 20 p) ≡ got t → (s ≡ spell t) × Within t
    go true eb f =
        let B = expr_back 16 s 0 0 u p n ex in
        let et : u ≡ t = cc in
        let c = B.count in
        let h = B.few in
        let done : drop p s ≡ [] = drop_of_length-le s (leb-true (length s) p eb) in
        let whole : s ≡ spell u = B.same ∙ ap (λ (w : List ℕ). spell u ++ w) done ∙ append-nil (spell u) in
        rw (← et) (whole, record { proper = B.proper; small = B.small; shallow = B.deep; few = omega arith })
    go false eb f = absurd (no_got f)
end_back s (bad k p) t ex e = absurd (no_got e)

-- a text that reads to a tree is the tree's spelling, and the bounds hold
pub read_back : (s : List ℕ) (t : Tree) → read_text s ≡ got t → (s ≡ spell t) × Within t
unfolding read_text
read_back s t e = end_back s (expr_at 16 s 0 0) t refl e
