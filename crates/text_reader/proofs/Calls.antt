-- Expressions and their argument lists: one law for each way out.
use mathlib.Core.Bool.{Bool, true, false}
use mathlib.Core.List.{List, [], ◌∷◌, ◌++◌, append-nil}
use mathlib.Core.Path.{◌≡◌, refl, ap, sym, ◌∙◌}
use Prim.Native.Nat.{ℕ, zero, suc, ◌+◌, ◌*◌, ◌-◌, ◌≤◌, ◌<◌}
use native.Mathlib.Omega.{arith}
use lib.Dec.{eqb}
use lib.ListN.{length, drop, get_or, length-append, length-drop}
use borrow.Author.Tests.{eq-eqb, ne_eqb, eqb-true}
use Rattle.common.specs.Choice.{pick}
use Rattle.tree.specs.Tree.{Tree}
use Rattle.tree.specs.Tree.Tree.{bound, row, run, one, two, three, four, when}
use Rattle.tree.specs.Calls.{calls, plain, cipher}
use Rattle.tree.specs.Bounds.{when_kind}
use Rattle.records.specs.Record.{record_of}
use Rattle.records.specs.Encode.{encode, bound_kind, row_kind, run_kind}
use Rattle.records.proofs.There.{length_record}
use Rattle.texts.specs.Spelling.{listed, spell}
use Rattle.texts.specs.Reading.{Part, then_part, is_letter, run_of, due_at, if_due, same, call_in, call_of, start_of, literal_at, name_at, args_at, list_at, named_at, call_on, by_start, expr_at}
use Rattle.texts.specs.Reading.Part.{part, bad}
use Rattle.texts.specs.Reading.Due.{stands, missing}
use Rattle.texts.specs.Reading.Start.{letter, other}
use Rattle.texts.proofs.Width.{length_spell}
use Rattle.texts.proofs.Spelt.{spells}
use Rattle.texts.proofs.Back.{expr_back, args_back}
use Rattle.texts.proofs.Ways.{expr_in, expr_taken, run_stop}
use Rattle.recipe.proofs.Reach.{encode_reach}
use Rattle.tokens.specs.Tokens.{Opens, Not, head_at}
use Rattle.tokens.proofs.Heads.{Opened, after_head, head_call}
use Rattle.text_reader.specs.Reader.Told.{Read}
use Rattle.record_out.specs.Put.{put}
use Rattle.text_reader.specs.Reader.{encodes, in_records, leaf_at, Reads}
use Rattle.record_out.proofs.Put.{front, head_before}
use Rattle.text_reader.proofs.Steps.{Got, reads_part, leaf_is}

-- an expression by its first byte
module _ (d : ℕ) (s : List ℕ) (p n : ℕ) (deep : 0 < d) (few : n < 128) (inside : p < length s) where
  pub expr_quote : get_or s p 0 ≡ 39 → expr_at d s p n ≡ literal_at s p n
  unfolding by_start start_of pick
  expr_quote e = expr_in d s p n deep few inside ∙ rw (eq-eqb (get_or s p 0) 39 e)

  pub expr_hash : (get_or s p 0 ≡ 39 → ⊥) → get_or s p 0 ≡ 35 → in_records encode (expr_at d s p n) ≡ leaf_at bound_kind 51 s p n
  unfolding by_start start_of pick encode
  expr_hash a e =
      let f : expr_at d s p n ≡ name_at bound 51 s p n = expr_in d s p n deep few inside ∙ rw (ne_eqb (get_or s p 0) 39 a, eq-eqb (get_or s p 0) 35 e) in
      ap (in_records encode) f ∙ leaf_is bound_kind 51 s p n bound (λ x. refl)

  pub expr_dollar : (get_or s p 0 ≡ 39 → ⊥) → (get_or s p 0 ≡ 35 → ⊥) → get_or s p 0 ≡ 36 → in_records encode (expr_at d s p n) ≡ leaf_at row_kind 55 s p n
  unfolding by_start start_of pick encode
  expr_dollar a b e =
      let f : expr_at d s p n ≡ name_at row 55 s p n = expr_in d s p n deep few inside ∙ rw (ne_eqb (get_or s p 0) 39 a, ne_eqb (get_or s p 0) 35 b, eq-eqb (get_or s p 0) 36 e) in
      ap (in_records encode) f ∙ leaf_is row_kind 55 s p n row (λ x. refl)

  pub expr_sign : (get_or s p 0 ≡ 39 → ⊥) → (get_or s p 0 ≡ 35 → ⊥) → (get_or s p 0 ≡ 36 → ⊥) → get_or s p 0 ≡ 64 → in_records encode (expr_at d s p n) ≡ leaf_at run_kind 51 s p n
  unfolding by_start start_of pick encode
  expr_sign a b c e =
      let f : expr_at d s p n ≡ name_at run 51 s p n =
      expr_in d s p n deep few inside ∙ rw (ne_eqb (get_or s p 0) 39 a, ne_eqb (get_or s p 0) 35 b, ne_eqb (get_or s p 0) 36 c, eq-eqb (get_or s p 0) 64 e) in
      ap (in_records encode) f ∙ leaf_is run_kind 51 s p n run (λ x. refl)

  -- no letter: the empty run names no call
  no_letters : (expr : ℕ → ℕ → Part Tree) → is_letter (get_or s p 0) ≡ false → bad 20 p ≡ call_on expr s (run_of is_letter (drop p s)) p n
  unfolding call_on named_at call_in same calls plain cipher pick
  no_letters expr e = rw (run_stop is_letter s p inside e)

  by_letter : (expr : ℕ → ℕ → Part Tree) (b : Bool) → is_letter (get_or s p 0) ≡ b → by_start expr s (pick b letter other) p n ≡ call_on expr s (run_of is_letter (drop p s)) p n
  unfolding by_start pick
  by_letter expr true e = refl
  by_letter expr false e = no_letters expr e

  pub expr_head : (get_or s p 0 ≡ 39 → ⊥) → (get_or s p 0 ≡ 35 → ⊥) → (get_or s p 0 ≡ 36 → ⊥) → (get_or s p 0 ≡ 64 → ⊥) → expr_at d s p n ≡ after_head (expr_at (d - 1) s) s (head_at s p) n
  unfolding start_of pick
  expr_head a b c e =
      expr_in d s p n deep few inside
      ∙ rw (ne_eqb (get_or s p 0) 39 a, ne_eqb (get_or s p 0) 35 b, ne_eqb (get_or s p 0) 36 c, ne_eqb (get_or s p 0) 64 e)
      (by_letter (expr_at (d - 1) s) (is_letter (get_or s p 0)) refl ∙ head_call (expr_at (d - 1) s) s p n)

-- how much text a tree and its record take
pub record Sized (s : List ℕ) (p : ℕ) (t : Tree) (q : ℕ) : Type 0 where
  pub more : p < q
  pub most : q ≤ length s
  pub size : length (encode t) ≤ 3 * (q - p)

pub expr_sized : (d : ℕ) (s : List ℕ) (p n : ℕ) (t : Tree) (q m : ℕ) → expr_at d s p n ≡ part t q m → Sized s p t q
expr_sized d s p n t q m e =
    let T = expr_taken d s p n t q m e in
    let place = T.place in
    let reach = encode_reach t in
    let long = length_spell t in
    record { more = T.more; most = T.most; size = omega arith }

-- arguments' records against their text
encodes_reach : (l : List Tree) (c : ℕ) → length (encodes l) ≤ 3 * length (listed c (spells l))
unfolding encodes listed spells
encodes_reach [] c = omega arith
encodes_reach (a ∷ l) c =
    omega (arith, length-append (encode a) (encodes l), length-append (spell a) (listed 44 (spells l)), encode_reach a, encodes_reach l 44)

pub record ArgsSized (s : List ℕ) (left p : ℕ) (l : List Tree) : Type 0 where
  pub count : length l ≡ left
  pub size : length (encodes l) ≤ 3 * (length s - p)

pub args_sized : (d : ℕ) (s : List ℕ) (left c p n : ℕ) (l : List Tree) (q m : ℕ) → args_at (expr_at d s) s left c p n ≡ part l q m → ArgsSized s left p l
args_sized d s left c p n l q m e =
    let B = args_back d (expr_at d s) s left c p n l q m (λ p n t q m. expr_back d s p n t q m) e in
    let text = sym (length-drop p s) ∙ ap length B.same ∙ length-append (listed c (spells l)) (drop q s) in
    record { count = B.size; size = omega (arith, encodes_reach l c) }

-- one to four arguments make a call, whose payload is their records
pub record Made (k : ℕ) (l : List Tree) (u m : ℕ) : Type 0 where
  pub tree : Tree
  pub is : call_of k l u m ≡ part tree u m
  pub same : encode tree ≡ record_of k (encodes l)

three_same : (k : ℕ) (a b c : Tree) (t : Bool) → eqb k when_kind ≡ t → encode (pick t (when a b c) (three k a b c)) ≡ record_of k (encode a ++ (encode b ++ encode c))
unfolding encode pick
three_same k a b c true e = ap (λ (i : ℕ). record_of i (encode a ++ (encode b ++ encode c))) (sym (eqb-true k when_kind e))
three_same k a b c false e = refl

pub call_made : (k : ℕ) (l : List Tree) (u m : ℕ) → 1 ≤ length l → length l ≤ 4 → Made k l u m
unfolding call_of encode encodes
call_made k [] u m h f = absurd (omega arith)
call_made k (a ∷ []) u m h f = record { tree = one k a; is = refl; same = ap (record_of k) (sym (append-nil (encode a))) }
call_made k (a ∷ (b ∷ [])) u m h f = record { tree = two k a b; is = refl; same = ap (λ (x : List ℕ). record_of k (encode a ++ x)) (sym (append-nil (encode b))) }
call_made k (a ∷ (b ∷ (c ∷ []))) u m h f =
    record {
      tree = pick (eqb k when_kind) (when a b c) (three k a b c);
      is = refl;
      same = three_same k a b c (eqb k when_kind) refl ∙ ap (λ (x : List ℕ). record_of k (encode a ++ (encode b ++ x))) (sym (append-nil (encode c)));
    }
call_made k (a ∷ (b ∷ (c ∷ (e ∷ [])))) u m h f =
    record { tree = four k a b c e; is = refl; same = ap (λ (x : List ℕ). record_of k (encode a ++ (encode b ++ (encode c ++ x)))) (sym (append-nil (encode e))) }
call_made k (a ∷ (b ∷ (c ∷ (e ∷ (g ∷ l))))) u m h f = absurd (omega arith)

-- a call after its head
module _ (d : ℕ) (s : List ℕ) (p n : ℕ) where
  pub call_not : (w : ℕ) → expr_at d s p n ≡ after_head (expr_at (d - 1) s) s (head_at s p) n → head_at s p ≡ Not w → expr_at d s p n ≡ bad 20 w
  unfolding after_head
  call_not w e h = e ∙ rw h

  module _ (k c q : ℕ) where
    pub call_refused : (i w : ℕ) → expr_at d s p n ≡ after_head (expr_at (d - 1) s) s (head_at s p) n → head_at s p ≡ Opens k c q
        → args_at (expr_at (d - 1) s) s c 40 q (n + 1) ≡ bad i w → expr_at d s p n ≡ bad i w
    unfolding after_head list_at then_part
    call_refused i w e h f = e ∙ rw (h, f)

    call_listed : (l : List Tree) (u m : ℕ) → expr_at d s p n ≡ after_head (expr_at (d - 1) s) s (head_at s p) n → head_at s p ≡ Opens k c q
        → args_at (expr_at (d - 1) s) s c 40 q (n + 1) ≡ part l u m → expr_at d s p n ≡ call_of k l u m
    unfolding after_head list_at then_part
    call_listed l u m e h f = e ∙ rw (h, f)

    -- all arguments read, then the head before their records
    pub call_done : (o u m e : ℕ) (before mid after : List ℕ) → expr_at d s p n ≡ after_head (expr_at (d - 1) s) s (head_at s p) n → head_at s p ≡ Opens k c q → Opened s p k c q
        → o + 3 * (length s - p) ≤ length before → Got encodes (o + 4) (args_at (expr_at (d - 1) s) s c 40 q (n + 1)) u m e before mid
        → after ≡ put mid o (front (e - o - 4) k) → Reads o (in_records encode (expr_at d s p n)) (Read u m e) before after
    call_done o u m e before mid after ex h O room G w =
        whole G.tree (args_sized (d - 1) s c 40 q (n + 1) G.tree u m G.is) (call_listed G.tree u m ex h G.is) G.end G.wrote
      where
        sized : (l : List Tree) → ArgsSized s c q l → e ≡ o + 4 + length (encodes l) → Made k l u m → expr_at d s p n ≡ call_of k l u m → mid ≡ put before (o + 4) (encodes l)
            → Reads o (in_records encode (expr_at d s p n)) (Read u m e) before after
        sized l A end M is wrote =
            let size = A.size in
            let far = O.far in
            let within = O.within in
            let tall = length_record k (encodes l) in
            let long : length (encode M.tree) ≡ 4 + length (encodes l) = ap length M.same ∙ tall in
            reads_part encode o (expr_at d s p n) M.tree u m e before after (is ∙ M.is) (omega arith)
            (head_before before mid after o k (e - o - 4) (encodes l) (omega arith) wrote (omega arith) w ∙ ap (put before o) (sym M.same))

        whole : (l : List Tree) → ArgsSized s c q l → expr_at d s p n ≡ call_of k l u m → e ≡ o + 4 + length (encodes l) → mid ≡ put before (o + 4) (encodes l)
            → Reads o (in_records encode (expr_at d s p n)) (Read u m e) before after
        whole l A is end wrote =
            let count = A.count in
            let least = O.least in
            let most = O.most in
            sized l A end (call_made k l u m (omega arith) (omega arith)) is wrote

-- the arguments after one that was read
pub args_on : (expr : ℕ → ℕ → Part Tree) (s : List ℕ) (left c p n : ℕ) (a : Tree) (q m : ℕ) → 0 < left → due_at s c c p ≡ stands → expr (p + 1) n ≡ part a q m
    → args_at expr s left c p n ≡ then_part (args_at expr s (left - 1) 44 q m) (λ l u k. part (a ∷ l) u k)
unfolding args_at if_due then_part
args_on expr s zero c p n a q m h e f = absurd (omega arith)
args_on expr s (suc left) c p n a q m h e f =
    let same : left ≡ suc left - 1 = omega arith in
    rw (e, f) (ap (λ (i : ℕ). then_part (args_at expr s i 44 q m) (λ l u k. part (a ∷ l) u k)) same)

-- some are left
pub args_some : (expr : ℕ → ℕ → Part Tree) (s : List ℕ) (left c p n k w : ℕ) → 0 < left → due_at s c c p ≡ stands → expr (p + 1) n ≡ bad k w → args_at expr s left c p n ≡ bad k w
unfolding args_at if_due then_part
args_some expr s zero c p n k w h e f = absurd (omega arith)
args_some expr s (suc left) c p n k w h e f = rw (e, f)

pub args_absent : (expr : ℕ → ℕ → Part Tree) (s : List ℕ) (left c p n w : ℕ) → 0 < left → due_at s c c p ≡ missing w → args_at expr s left c p n ≡ bad 20 w
unfolding args_at if_due
args_absent expr s zero c p n w h e = absurd (omega arith)
args_absent expr s (suc left) c p n w h e = rw e

-- none is left
pub args_last : (expr : ℕ → ℕ → Part Tree) (s : List ℕ) (left c p n : ℕ) → left ≡ 0 → args_at expr s left c p n ≡ args_at expr s 0 c p n
args_last expr s left c p n e = ap (λ (i : ℕ). args_at expr s i c p n) e
