-- No text is the beginning of two trees: what a tree of section 5 is, and where it ends, is told by its text.
use mathlib.Core.Bool.{Bool, true, false}
use mathlib.Core.List.{List, [], ◌∷◌, ◌++◌, append_assoc}
use mathlib.Core.Path.{◌≡◌, refl, sym, ap, ap₂, ◌∙◌}
use Prim.Native.Nat.{ℕ, suc, ◌+◌, ◌-◌, ◌/◌, ◌%◌, ◌≤◌, ◌<◌}
use native.Mathlib.Omega.{arith}
use lib.ListN.{length, take, drop}
use lib.Seq.{take-append_seam, drop-append_seam}
use Rattle.tree.specs.Tree.{Tree}
use Rattle.tree.specs.Tree.Tree.{literal, bound, row, run, one, two, three, four, when}
use Rattle.tree.specs.Calls.{Call, calls}
use Rattle.tree.specs.Bounds.{of_row, arguments_of, when_kind, Bytes, Proper}
use Rattle.texts.specs.Spelling.{hex_digit, pairs, row_in, suite_part, name_of, listed, spell}
use Rattle.texts.specs.Spelling.Found.{known}
use Rattle.texts.specs.Reading.{is_letter, is_hex, run_of, call_in, call_of, hex_value}
use Rattle.texts.specs.Reading.Part.{part}
use Rattle.texts.proofs.Standing.{Pass, run_is, between_is}
use Rattle.texts.proofs.Table.{Good, row_of, plain_kind, cipher_kind}
use Rattle.texts.proofs.Leaves.{value_digit, pairs_pass, quote_ends}
use Rattle.texts.proofs.Spelt.{spells, Each, name_is, name_ends, listed_opens, when_count, three_call, when_call}

same_head : {x y : ℕ} {a b : List ℕ} → x ∷ a ≡ y ∷ b → x ≡ y
same_head e = cc

same_tail : {x y : ℕ} {a b : List ℕ} → x ∷ a ≡ y ∷ b → a ≡ b
same_tail e = cc

-- two texts that begin with runs of the same test have the same run
run_same : (test : ℕ → Bool) (v a w b : List ℕ) → Pass test v → Pass test w → run_of test a ≡ 0 → run_of test b ≡ 0 → v ++ a ≡ w ++ b → (v ≡ w) × (a ≡ b)
run_same test v a w b hv hw ea eb e =
    let n : length v ≡ length w = sym (run_is test v a hv ea) ∙ ap (run_of test) e ∙ run_is test w b hw eb in (
      sym (take-append_seam v a) ∙ ap₂ (λ (i : ℕ) (l : List ℕ). take i l) n e ∙ take-append_seam w b,
      sym (drop-append_seam v a) ∙ ap₂ (λ (i : ℕ) (l : List ℕ). drop i l) n e ∙ drop-append_seam w b,
    )

digit_same : (x y : ℕ) → x < 16 → y < 16 → hex_digit x ≡ hex_digit y → x ≡ y
digit_same x y hx hy e = sym (value_digit x hx) ∙ ap hex_value e ∙ value_digit y hy

pairs_same : (v w : List ℕ) → Bytes v → Bytes w → pairs v ≡ pairs w → v ≡ w
unfolding pairs
pairs_same [] [] hv hw e = refl
pairs_same [] (y ∷ w) hv hw e = let z : ◌≡◌ {A = ℕ} 0 1 = cc in absurd (omega arith)
pairs_same (x ∷ v) [] hv hw e = let z : ◌≡◌ {A = ℕ} 0 1 = cc in absurd (omega arith)
pairs_same (x ∷ v) (y ∷ w) hv hw e =
    let bx : x < 256 = hv 0 in
    let by : y < 256 = hw 0 in
    let hi : x / 16 ≡ y / 16 = digit_same (x / 16) (y / 16) (omega arith) (omega arith) (same_head e) in
    let lo : x % 16 ≡ y % 16 = digit_same (x % 16) (y % 16) (omega arith) (omega arith) (same_head (same_tail e)) in
    let is : x ≡ y = omega arith in
    ap₂ (λ (z : ℕ) (l : List ℕ). z ∷ l) is (pairs_same v w (λ i. hv (suc i)) (λ i. hw (suc i)) (same_tail (same_tail e)))

-- a call by its kind and arguments
pub record CallView (t : Tree) : Type 0 where
  pub kind : ℕ
  pub list : List Tree
  pub less : ℕ
  pub count : arguments_of kind ≡ suc less
  pub size : length list ≡ suc less
  pub proper : Each Proper list
  pub spelt : spell t ≡ name_of kind ++ listed 40 (spells list)
  pub call : call_of kind list 0 0 ≡ part t 0 0

data View : Tree → Type 0 where
  v_literal : (v : List ℕ) → Bytes v → View (literal v)
  v_bound : (n : ℕ) → View (bound n)
  v_row : (n : ℕ) → View (row n)
  v_run : (n : ℕ) → View (run n)
  v_call : (t : Tree) → CallView t → View t

one_view : (k : ℕ) (a : Tree) → Proper (one k a) → CallView (one k a)
unfolding Proper spell spells call_of
one_view k a h = record { kind = k; list = a ∷ []; less = 0; count = h.0; size = refl; proper = (h.1, tt); spelt = refl; call = refl }

two_view : (k : ℕ) (a b : Tree) → Proper (two k a b) → CallView (two k a b)
unfolding Proper spell spells call_of
two_view k a b h = record { kind = k; list = a ∷ b ∷ []; less = 1; count = h.0; size = refl; proper = (h.1, (h.2, tt)); spelt = refl; call = refl }

three_view : (k : ℕ) (a b c : Tree) → Proper (three k a b c) → CallView (three k a b c)
unfolding Proper spell spells
three_view k a b c h =
    record { kind = k; list = a ∷ b ∷ c ∷ []; less = 2; count = h.0; size = refl; proper = (h.2, (h.3, (h.4, tt))); spelt = refl; call = three_call k a b c h.1 0 0 }

four_view : (k : ℕ) (a b c d : Tree) → Proper (four k a b c d) → CallView (four k a b c d)
unfolding Proper spell spells call_of
four_view k a b c d h =
    record { kind = k; list = a ∷ b ∷ c ∷ d ∷ []; less = 3; count = h.0; size = refl; proper = (h.1, (h.2, (h.3, (h.4, tt)))); spelt = refl; call = refl }

when_view : (c a b : Tree) → Proper (when c a b) → CallView (when c a b)
unfolding Proper spell spells
when_view c a b h =
    record { kind = when_kind; list = c ∷ a ∷ b ∷ []; less = 2; count = when_count; size = refl; proper = (h.0, (h.1, (h.2, tt))); spelt = refl; call = when_call c a b 0 0 }

view : (t : Tree) → Proper t → View t
unfolding Proper
view (literal v) h = v_literal v h
view (bound n) h = v_bound n
view (row n) h = v_row n
view (run n) h = v_run n
view (one k a) h = v_call (one k a) (one_view k a h)
view (two k a b) h = v_call (two k a b) (two_view k a b h)
view (three k a b c) h = v_call (three k a b c) (three_view k a b c h)
view (four k a b c d) h = v_call (four k a b c d) (four_view k a b c d h)
view (when c a b) h = v_call (when c a b) (when_view c a b h)

-- a call's text: letters, suite, list
pub record Lettered (t : Tree) (c : CallView t) (q : List ℕ) : Type 0 where
  pub head : Call
  pub is : row_in calls c.kind ≡ known head
  pub good : Good head
  pub of_row_lem : of_row head.suited head.kind c.kind ≡ true
  pub text : spell t ++ q ≡ head.letters ++ (suite_part head.suited (c.kind - head.kind) ++ (listed 40 (spells c.list) ++ q))
  pub ends : run_of is_letter (suite_part head.suited (c.kind - head.kind) ++ (listed 40 (spells c.list) ++ q)) ≡ 0

lettered : (t : Tree) (c : CallView t) (q : List ℕ) → Lettered t c q
lettered t c q =
    let R = row_of c.kind c.less c.count in
    let r : Call = R.call in
    let S : List ℕ = suite_part r.suited (c.kind - r.kind) in
    let L : List ℕ = listed 40 (spells c.list) in
    let size = c.size in
    let opens = listed_opens c.list q (omega arith) in
    record {
      head = r;
      is = R.is;
      good = R.good;
      of_row_lem = R.kind;
      text =
          ap (λ (l : List ℕ). l ++ q) (c.spelt ∙ ap (λ (l : List ℕ). l ++ L) (name_is c.kind r R.is))
          ∙ append_assoc (r.letters ++ S) L q
          ∙ append_assoc r.letters S (L ++ q);
      ends = ap (λ (l : List ℕ). run_of is_letter (S ++ l)) opens.1 ∙ name_ends r.suited (c.kind - r.kind) opens.0;
    }

first_letter : (w y : List ℕ) → 0 < length w → Pass is_letter w → (x : ℕ) × (z : List ℕ) × (w ++ y ≡ x ∷ z) × (97 ≤ x)
unfolding Pass is_letter
first_letter [] y h p = absurd (omega arith)
first_letter (x ∷ w) y h p = (x, w ++ y, refl, (between_is 97 122 x p.0).0)

-- a call begins with a letter
call_head : (t : Tree) → CallView t → (q : List ℕ) → (x : ℕ) × (z : List ℕ) × (spell t ++ q ≡ x ∷ z) × (97 ≤ x)
call_head t c q =
    let L = lettered t c q in
    let (x, z, e, l) = first_letter L.head.letters (suite_part L.head.suited (c.kind - L.head.kind) ++ (listed 40 (spells c.list) ++ q)) L.good.some L.good.letters in
    (x, z, L.text ∙ e, l)

-- so with no sign or quote
not_call : (P : Type 0) (t : Tree) → CallView t → (q : List ℕ) (y : ℕ) (z : List ℕ) → y < 97 → y ∷ z ≡ spell t ++ q → P
not_call P t c q y z h e =
    let (x, a, f, l) = call_head t c q in
    absurd (omega (arith, same_head (e ∙ f)))

unlike : (P : Type 0) {x y : ℕ} {a b : List ℕ} → x ∷ a ≡ y ∷ b → (x ≡ y → ⊥) → P
unlike P e h = absurd (h (same_head e))

-- a tree is told from the beginning of any text that begins with it
abbrev Told : Tree → Type 0
Told t = (u : Tree) → Proper u → (r q : List ℕ) → spell t ++ r ≡ spell u ++ q → (t ≡ u) × (r ≡ q)

abbrev EachTold : List Tree → Type 0
EachTold [] = Unit {0}
EachTold (a ∷ l) = Told a × EachTold l

list_told : (l m : List Tree) (c : ℕ) (r q : List ℕ) → EachTold l → Each Proper m → length l ≡ length m → listed c (spells l) ++ r ≡ listed c (spells m) ++ q → (l ≡ m) × (r ≡ q)
unfolding listed spells
list_told [] [] c r q h p n e = (refl, same_tail e)
list_told [] (b ∷ m) c r q h p n e = absurd (omega arith)
list_told (a ∷ l) [] c r q h p n e = absurd (omega arith)
list_told (a ∷ l) (b ∷ m) c r q h p n e =
    let L : List ℕ = listed 44 (spells l) in
    let M : List ℕ = listed 44 (spells m) in
    let f : spell a ++ (L ++ r) ≡ spell b ++ (M ++ q) = sym (append_assoc (spell a) L r) ∙ same_tail e ∙ append_assoc (spell b) M q in
    let (ab, g) = h.0 b p.0 (L ++ r) (M ++ q) f in
    let (lm, i) = list_told l m 44 r q h.1 p.1 (omega arith) g in
    (ap₂ (λ (x : Tree) (y : List Tree). x ∷ y) ab lm, i)

-- the suite part tells the kind
suite_told : (b : Bool) (kind j k : ℕ) (x y : List ℕ) → of_row b kind j ≡ true → of_row b kind k ≡ true → suite_part b (j - kind) ++ x ≡ suite_part b (k - kind) ++ y → (j ≡ k) × (x ≡ y)
unfolding suite_part
suite_told false kind j k x y hj hk e = (plain_kind kind j hj ∙ sym (plain_kind kind k hk), e)
suite_told true kind j k x y hj hk e =
    let (jl, jh) = cipher_kind kind j hj in
    let (kl, kh) = cipher_kind kind k hk in
    let d : 48 + (j - kind) ≡ 48 + (k - kind) = same_head (same_tail e) in
    (omega arith, same_tail (same_tail e))

same_call : (t u : Tree) (j k : ℕ) (l m : List Tree) → j ≡ k → l ≡ m → call_of j l 0 0 ≡ part t 0 0 → call_of k m 0 0 ≡ part u 0 0 → t ≡ u
same_call t u j k l m ej el e f =
    let g : part t 0 0 ≡ part u 0 0 = sym e ∙ ap₂ (λ (x : ℕ) (y : List Tree). call_of x y 0 0) ej el ∙ f in
    cc

-- one row's letters are no other's
same_row : (p q : Call) → Good p → Good q → p.letters ≡ q.letters → p ≡ q
same_row p q hp hq e =
    let f : known p ≡ known q = sym hp.named ∙ ap (call_in calls) e ∙ hq.named in
    cc

module _ (t u : Tree) (c : CallView t) (d : CallView u) (each : EachTold c.list) (r q : List ℕ) where
  kinds_told : (p : Call) → of_row p.suited p.kind c.kind ≡ true → of_row p.suited p.kind d.kind ≡ true
      → suite_part p.suited (c.kind - p.kind) ++ (listed 40 (spells c.list) ++ r) ≡ suite_part p.suited (d.kind - p.kind) ++ (listed 40 (spells d.list) ++ q)
      → (t ≡ u) × (r ≡ q)
  kinds_told p hc hd e =
      let (k, f) = suite_told p.suited p.kind c.kind d.kind (listed 40 (spells c.list) ++ r) (listed 40 (spells d.list) ++ q) hc hd e in
      let n : suc c.less ≡ suc d.less = sym c.count ∙ ap arguments_of k ∙ d.count in
      let (l, g) = list_told c.list d.list 40 r q each d.proper (c.size ∙ n ∙ sym d.size) f in
      (same_call t u c.kind d.kind c.list d.list k l c.call d.call, g)

  call_told : spell t ++ r ≡ spell u ++ q → (t ≡ u) × (r ≡ q)
  call_told e =
      let L = lettered t c r in
      let M = lettered u d q in
      let A : List ℕ = suite_part L.head.suited (c.kind - L.head.kind) ++ (listed 40 (spells c.list) ++ r) in
      let B : List ℕ = suite_part M.head.suited (d.kind - M.head.kind) ++ (listed 40 (spells d.list) ++ q) in
      let (letters, f) = run_same is_letter L.head.letters A M.head.letters B L.good.letters M.good.letters L.ends M.ends (sym L.text ∙ e ∙ M.text) in
      one_row L.head M.head (same_row L.head M.head L.good M.good letters) L.of_row_lem M.of_row_lem f
    where
      one_row : (a b : Call) → a ≡ b → of_row a.suited a.kind c.kind ≡ true → of_row b.suited b.kind d.kind ≡ true
          → suite_part a.suited (c.kind - a.kind) ++ (listed 40 (spells c.list) ++ r) ≡ suite_part b.suited (d.kind - b.kind) ++ (listed 40 (spells d.list) ++ q)
          → (t ≡ u) × (r ≡ q)
      one_row a b ab ha hb f =
          kinds_told a ha (rw ab hb) (f ∙ ap (λ (x : Call). suite_part x.suited (d.kind - x.kind) ++ (listed 40 (spells d.list) ++ q)) (sym ab))

literal_told : (v : List ℕ) → Bytes v → (u : Tree) → View u → (r q : List ℕ) → spell (literal v) ++ r ≡ spell u ++ q → (literal v ≡ u) × (r ≡ q)
unfolding spell
literal_told v h u (v_literal w g) r q e =
    let f : pairs v ++ (39 ∷ r) ≡ pairs w ++ (39 ∷ q) = sym (append_assoc (pairs v) (39 ∷ []) r) ∙ same_tail e ∙ append_assoc (pairs w) (39 ∷ []) q in
    let (p, i) = run_same is_hex (pairs v) (39 ∷ r) (pairs w) (39 ∷ q) (pairs_pass v h) (pairs_pass w g) (quote_ends r) (quote_ends q) f in
    (ap literal (pairs_same v w h g p), same_tail i)
literal_told v h u (v_bound n) r q e = unlike ((literal v ≡ bound n) × (r ≡ q)) e (λ f. omega arith)
literal_told v h u (v_row n) r q e = unlike ((literal v ≡ row n) × (r ≡ q)) e (λ f. omega arith)
literal_told v h u (v_run n) r q e = unlike ((literal v ≡ run n) × (r ≡ q)) e (λ f. omega arith)
literal_told v h u (v_call t c) r q e = not_call ((literal v ≡ t) × (r ≡ q)) t c q 39 (pairs v ++ (39 ∷ []) ++ r) (omega arith) e

same_digit : (leaf : ℕ → Tree) (x m n : ℕ) (r q : List ℕ) → x ∷ (48 + m) ∷ r ≡ x ∷ (48 + n) ∷ q → (leaf m ≡ leaf n) × (r ≡ q)
same_digit leaf x m n r q e =
    let d : 48 + m ≡ 48 + n = same_head (same_tail e) in
    let is : m ≡ n = omega arith in
    (ap leaf is, same_tail (same_tail e))

bound_told : (m : ℕ) (u : Tree) → View u → (r q : List ℕ) → spell (bound m) ++ r ≡ spell u ++ q → (bound m ≡ u) × (r ≡ q)
unfolding spell
bound_told m u (v_literal w g) r q e = unlike ((bound m ≡ literal w) × (r ≡ q)) e (λ f. omega arith)
bound_told m u (v_bound n) r q e = same_digit bound 35 m n r q e
bound_told m u (v_row n) r q e = unlike ((bound m ≡ row n) × (r ≡ q)) e (λ f. omega arith)
bound_told m u (v_run n) r q e = unlike ((bound m ≡ run n) × (r ≡ q)) e (λ f. omega arith)
bound_told m u (v_call t c) r q e = not_call ((bound m ≡ t) × (r ≡ q)) t c q 35 ((48 + m) ∷ r) (omega arith) e

row_told : (m : ℕ) (u : Tree) → View u → (r q : List ℕ) → spell (row m) ++ r ≡ spell u ++ q → (row m ≡ u) × (r ≡ q)
unfolding spell
row_told m u (v_literal w g) r q e = unlike ((row m ≡ literal w) × (r ≡ q)) e (λ f. omega arith)
row_told m u (v_bound n) r q e = unlike ((row m ≡ bound n) × (r ≡ q)) e (λ f. omega arith)
row_told m u (v_row n) r q e = same_digit row 36 m n r q e
row_told m u (v_run n) r q e = unlike ((row m ≡ run n) × (r ≡ q)) e (λ f. omega arith)
row_told m u (v_call t c) r q e = not_call ((row m ≡ t) × (r ≡ q)) t c q 36 ((48 + m) ∷ r) (omega arith) e

run_told : (m : ℕ) (u : Tree) → View u → (r q : List ℕ) → spell (run m) ++ r ≡ spell u ++ q → (run m ≡ u) × (r ≡ q)
unfolding spell
run_told m u (v_literal w g) r q e = unlike ((run m ≡ literal w) × (r ≡ q)) e (λ f. omega arith)
run_told m u (v_bound n) r q e = unlike ((run m ≡ bound n) × (r ≡ q)) e (λ f. omega arith)
run_told m u (v_row n) r q e = unlike ((run m ≡ row n) × (r ≡ q)) e (λ f. omega arith)
run_told m u (v_run n) r q e = same_digit run 64 m n r q e
run_told m u (v_call t c) r q e = not_call ((run m ≡ t) × (r ≡ q)) t c q 64 ((48 + m) ∷ r) (omega arith) e

-- a call against any tree
call_any : (t : Tree) (c : CallView t) → EachTold c.list → (u : Tree) → View u → (r q : List ℕ) → spell t ++ r ≡ spell u ++ q → (t ≡ u) × (r ≡ q)
unfolding spell
call_any t c each u (v_literal w g) r q e = not_call ((t ≡ literal w) × (r ≡ q)) t c r 39 (pairs w ++ (39 ∷ []) ++ q) (omega arith) (sym e)
call_any t c each u (v_bound n) r q e = not_call ((t ≡ bound n) × (r ≡ q)) t c r 35 ((48 + n) ∷ q) (omega arith) (sym e)
call_any t c each u (v_row n) r q e = not_call ((t ≡ row n) × (r ≡ q)) t c r 36 ((48 + n) ∷ q) (omega arith) (sym e)
call_any t c each u (v_run n) r q e = not_call ((t ≡ run n) × (r ≡ q)) t c r 64 ((48 + n) ∷ q) (omega arith) (sym e)
call_any t c each u (v_call v d) r q e = call_told t v c d each r q e

-- a text begins with at most one tree of section 5, whatever its bounds
pub told : (t : Tree) → Proper t → Told t
unfolding Proper one_view two_view three_view four_view when_view
told (literal v) h u hu r q e = literal_told v h u (view u hu) r q e
told (bound n) h u hu r q e = bound_told n u (view u hu) r q e
told (row n) h u hu r q e = row_told n u (view u hu) r q e
told (run n) h u hu r q e = run_told n u (view u hu) r q e
told (one k a) h u hu r q e = call_any (one k a) (one_view k a h) (told a h.1, tt) u (view u hu) r q e
told (two k a b) h u hu r q e = call_any (two k a b) (two_view k a b h) (told a h.1, (told b h.2, tt)) u (view u hu) r q e
told (three k a b c) h u hu r q e = call_any (three k a b c) (three_view k a b c h) (told a h.2, (told b h.3, (told c h.4, tt))) u (view u hu) r q e
told (four k a b c d) h u hu r q e =
    call_any (four k a b c d) (four_view k a b c d h) (told a h.1, (told b h.2, (told c h.3, (told d h.4, tt)))) u (view u hu) r q e
told (when c a b) h u hu r q e = call_any (when c a b) (when_view c a b h) (told c h.0, (told a h.1, (told b h.2, tt))) u (view u hu) r q e

-- no text spells two trees of section 5
pub spell_injective : (t u : Tree) → Proper t → Proper u → spell t ≡ spell u → t ≡ u
spell_injective t u ht hu e = (told t ht u hu [] [] (ap (λ (l : List ℕ). l ++ []) e)).0
