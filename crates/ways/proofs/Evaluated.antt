-- A record that was decoded, as the evaluator takes it, and what the evaluator tells of it.
use mathlib.Core.Path.{◌≡◌, ap, sym, ◌∙◌, subst}
use mathlib.Core.Bool.{true}
use mathlib.Core.List.{List, [], ◌∷◌, ◌++◌}
use Prim.Native.Nat.{ℕ, ◌+◌, ◌-◌, ◌≤◌}
use native.Mathlib.Omega.{arith}
use lib.ListN.{length, take, drop}
use lib.Seq.{take_at}
use Rattle.lent.specs.declared.Tables.{Tables}
use Rattle.common.proofs.Choices.{true_false}
use Rattle.tree.specs.Tree.{Tree}
use Rattle.tree.specs.Bounds.{depth, Bytes, Proper, Small}
use Rattle.tree.specs.Names.{idle}
use Rattle.tree.proofs.Bytes.{bytes_drop}
use Rattle.meaning.specs.Mean.{mean}
use Rattle.meaning.specs.Real.{real}
use Rattle.meaning.specs.Folded.{NoValue}
use Rattle.modes.specs.Cell.{cell_of}
use Rattle.records.specs.Encode.{encode}
use Rattle.records.specs.Decode.{decode}
use Rattle.records.specs.Decode.Item.{item}
use Rattle.records.proofs.There.{decode_encode}
use Rattle.records.proofs.Back.{decode_back}
use Rattle.records.proofs.Sizes.{decode_counted}
use Rattle.lists.specs.Entries.{Entry, preparing, list_of}
use Rattle.lists.specs.Entries.Listed.{listed}
use Rattle.lists.specs.Given.{binding_of}
use Rattle.kinds.specs.Tables.{tables_of}
use Rattle.heads.specs.Head.{head_at, headed}
use Rattle.answers.specs.declared.Refusal.{Refusal}
use Rattle.answers.specs.Told.{table}
use Rattle.std.specs.Prelude.{None, Result, Ok, Err}
use Rattle.slots.specs.Slots.{At}
use Rattle.slots.proofs.Standing.{Has, has_of, refused_of}
use Rattle.evaluating.specs.Stretch as evaluating
use Rattle.evaluating.specs.Stretch.{Stretch, Means}
use Rattle.folding.specs.Parts.{Parts}
use Rattle.folding.proofs.TopDown.{refusal_none, constant_bytes}
use Rattle.folding.proofs.Idle.{prepared_idle}
use Rattle.folding.proofs.Parts.{head_held, head_there}
use Rattle.ways.specs.Ways.{the_calls, bound_in, bound_by, Rooms, Ready, AConstant}

-- a tree's record decodes to it, whatever follows
pub encode_decodes : (t : Tree) (r : List ℕ) → Proper t → Small t → depth t ≤ 16 → decode true 16 (encode t ++ r) ≡ item t (length (encode t))
encode_decodes t r p s d = decode_encode true t 16 r p s (λ e. absurd (true_false e)) d

-- what was decoded with fewer levels is decoded with more
pub decode_more : (d : ℕ) (s : List ℕ) (t : Tree) (n : ℕ) → Bytes s → d ≤ 16 → decode true d s ≡ item t n → decode true 16 s ≡ item t n
decode_more d s t n hs h e =
    let S = decode_back true d s t n hs e in
    let f = S.fine.deep in
    ap (decode true 16) S.same ∙ encode_decodes t (drop n s) S.fine.proper S.fine.small (omega arith) ∙ ap (item t) S.used

pub parts_more : (d : ℕ) (p : List ℕ) (u : ℕ) (ts : List Tree) → Bytes p → d ≤ 16 → Parts (decode true d) p u ts → Parts (decode true 16) p u ts
unfolding Parts
parts_more d p u [] hp h ps = ps
parts_more d p u (t ∷ ts) hp h (v, e, ps) = (v, decode_more d (drop u p) t v (bytes_drop u p hp) h e, parts_more d p (u + v) ts hp h ps)

-- what a list binds
pub bound_by_lem : (list : List ℕ) (es : List Entry) → list_of preparing list ≡ listed es → bound_by list ≡ binding_of es
unfolding bound_by bound_in
bound_by_lem list es e = ap bound_in e

-- the evaluator's answer with a preparing list is the meaning with only `#` bound
pub answer_of_lem : (s list : List ℕ) (es : List Entry) (t : Tree) (a e : ℕ) (r : Result ℕ Refusal) (w w' : List ℕ) → Bytes list → list_of preparing list ≡ listed es → Stretch s a e t → Means s list a e 0 r w w'
    → At (mean the_calls (bound_by list) idle t) 0 r w w'
unfolding Means the_calls
answer_of_lem s list es t a e r w w' hl el S M =
    subst (λ x. At x 0 r w w') (prepared_idle (real cell_of) list es hl el t ∙ ap (λ K. mean (real cell_of) K idle t) (sym (bound_by_lem list es el))) (M preparing es t el S)

-- the record that stands first, as a stretch
module _ (s : List ℕ) (t : Tree) (n : ℕ) (hs : Bytes s) (is : decode true 16 s ≡ item t n) where
  pub first_is : take n s ≡ encode t
  first_is =
      let S = decode_back true 16 s t n hs is in
      ap (take n) S.same ∙ take_at (encode t) (drop n s) n S.used

  pub first_deep : depth t ≤ 16
  first_deep = (decode_back true 16 s t n hs is).fine.deep

  pub first_proper : Proper t
  first_proper = (decode_back true 16 s t n hs is).fine.proper

  pub first_small : Small t
  first_small = (decode_back true 16 s t n hs is).fine.small

  pub first_within : n ≤ length s
  first_within = (decode_counted true 16 s t n hs is).most

  pub first_stretch : Stretch s 0 n t
  first_stretch =
      record {
        proper = first_proper;
        small = first_small;
        order = omega arith;
        inside = first_within;
        is = ap (λ m. take m s) (less n) ∙ first_is;
      }
    where
      less : (n : ℕ) → n - 0 ≡ n
      less n = omega arith

-- what the evaluator asks
pub eval_ready : (s list : List ℕ) (tables : Tables) (t : Tree) (a e need room : ℕ) → Stretch s a e t → depth t ≤ 16 → tables_of t ≤ need → Rooms need list tables room
    → evaluating.Ready s list tables a e 0 room
eval_ready s list tables t a e need room S d h R =
    let r = R.slots in
    record { tree = t; stretch = S; taken = preparing; entries = R.entries; good = R.is_list; need = need; enough = h; lent = R.lent; slots = omega arith }

-- the head of the record that stands first
module _ (s list : List ℕ) (tables : Tables) (room : ℕ) (R : Ready s list tables room) where
  pub head_is_there : head_at s 0 ≡ None → ⊥
  head_is_there e = head_there true 16 s R.tree R.used e R.is

  pub head_used : (k n : ℕ) → head_at s 0 ≡ headed k n → R.used ≡ 4 + n
  head_used k n e =
      let (q, l, ef, H) = head_held true 16 s k n R.tree R.used e R.is in
      omega (arith, H.takes)

  pub whole_stretch : (k n : ℕ) → Bytes s → head_at s 0 ≡ headed k n → Stretch s 0 (4 + n) R.tree
  whole_stretch k n hs e = subst (λ m. Stretch s 0 m R.tree) (head_used k n e) (first_stretch s R.tree R.used hs R.is)

  pub whole_ready : (k n : ℕ) → Bytes s → head_at s 0 ≡ headed k n → evaluating.Ready s list tables 0 (4 + n) 0 room
  whole_ready k n hs e =
      eval_ready s list tables R.tree 0 (4 + n) (tables_of R.tree) room (whole_stretch k n hs e) (first_deep s R.tree R.used hs R.is) (omega arith) R.rooms

  module _ (k n : ℕ) (hs : Bytes s) (hl : Bytes list) (eh : head_at s 0 ≡ headed k n) (r : Result ℕ Refusal) (w w' : List ℕ) (M : Means s list 0 (4 + n) 0 r w w') where
    pub whole_answer : At (mean the_calls (bound_by list) idle R.tree) 0 r w w'
    whole_answer = answer_of_lem s list R.rooms.entries R.tree 0 (4 + n) r w w' hl R.rooms.is_list (whole_stretch k n hs eh) M

    -- a value
    pub whole_constant : (l : ℕ) → r ≡ Ok l → AConstant (bound_by list) R.tree l w'
    whole_constant l e =
        let H : Has (mean the_calls (bound_by list) idle R.tree) l 0 w' = has_of (mean the_calls (bound_by list) idle R.tree) 0 l r w w' whole_answer e in
        record { held = H.v; bytes = constant_bytes the_calls (bound_by list) R.tree H.v H.is; size = sym H.len; stands = H.bytes }

    -- or none
    pub whole_none : (m : Refusal) → r ≡ Err m → NoValue (mean the_calls (bound_by list) idle R.tree)
    whole_none m e = refusal_none _ (table m) (refused_of (mean the_calls (bound_by list) idle R.tree) 0 m r w w' whole_answer e)
