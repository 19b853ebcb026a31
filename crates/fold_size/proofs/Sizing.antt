-- What the ways of a record say of its folded bytes.
use mathlib.Core.Path.{◌≡◌, refl, ap, sym, ◌∙◌, subst}
use mathlib.Core.Bool.{true}
use mathlib.Core.List.{List, [], ◌∷◌, ◌++◌}
use Prim.Native.Nat.{ℕ, zero, suc, ◌+◌, ◌-◌, ◌≤◌}
use native.Mathlib.Omega.{arith}
use lib.ListN.{length, take, drop, length-append, length-take, length-drop}
use lib.Seq.{length-take-le, take-length}
use Rattle.std.specs.Prelude.{None}
use Rattle.tree.specs.Tree.{Tree}
use Rattle.tree.specs.Bounds.{Bytes}
use Rattle.tree.specs.Names.{Binding}
use Rattle.tree.specs.Values.{BindingValued}
use Rattle.meaning.specs.Fold.{fold}
use Rattle.meaning.specs.Values.{CallsValued}
use Rattle.meaning.proofs.Plain.{real_valued}
use Rattle.modes.specs.Cell.{cell_of}
use Rattle.demands.proofs.Real.{cell_valued}
use Rattle.records.specs.Encode.{constant_kind, encode}
use Rattle.records.specs.Record.{record_of}
use Rattle.records.specs.Decode.{decode}
use Rattle.records.specs.Decode.Item.{item}
use Rattle.records.proofs.There.{length_record}
use Rattle.records.proofs.Sizes.{decode_counted}
use Rattle.lists.specs.Entries.{Entry, preparing, list_of}
use Rattle.lists.specs.Entries.Listed.{listed}
use Rattle.lists.proofs.Values.{binding_valued}
use Rattle.heads.specs.Head.{head_at, headed}
use Rattle.kinds.specs.Tables.{tables_of}
use Rattle.lent.specs.declared.Tables.{Tables}
use Rattle.lent.specs.Lent.{Serves}
use Rattle.folding.specs.TopDown.{folded_all}
use Rattle.folding.specs.Parts.{Parts}
use Rattle.folding.specs.Folded.{folded_from}
use Rattle.folding.proofs.Folded.{folded_is, from_none, from_more, from_parts, parts_most, part_within}
use Rattle.folding.proofs.Sizes.{decoded_most}
use Rattle.folding.proofs.Parts.{head_held, head_there}
use Rattle.ways.specs.declared.Way.{Way}
use Rattle.ways.specs.declared.Way.TheVariants.{Constant, Side, Leaf, Call}
use Rattle.ways.specs.Ways.{the_calls, bound_by, tables_all, Rooms, Ready, AConstant, ASide, ALeaf, ACall, Goes, GoesSo}
use Rattle.ways.proofs.Evaluated.{bound_by_lem}
use Rattle.fold_size.specs.Folded.{folded_at, folded_past, ReadyAll}

-- the calls make values of values, and a good list gives values
pub calls_valued : CallsValued the_calls
unfolding the_calls
calls_valued = real_valued cell_of cell_valued

pub bound_valued : (list : List ℕ) (es : List Entry) → Bytes list → list_of preparing list ≡ listed es → BindingValued (bound_by list)
bound_valued list es hl e = subst BindingValued (sym (bound_by_lem list es e)) (binding_valued preparing list es hl e)

-- what is lent for more serves less
pub lent_less : (n m : ℕ) (tables : Tables) → m ≤ n → Serves n tables → Serves m tables
lent_less n m tables h L =
    record {
      sealing = λ g. L.sealing (omega arith);
      opening = λ g. L.opening (omega arith);
      forward = λ g. L.forward (omega arith);
      backward = λ g. L.backward (omega arith);
    }

pub rooms_less : (n m : ℕ) (list : List ℕ) (tables : Tables) (room room' : ℕ) → m ≤ n → room ≤ room' → Rooms n list tables room → Rooms m list tables room'
rooms_less n m list tables room room' hm hr R =
    let h = R.slots in
    record { entries = R.entries; is_list = R.is_list; lent = lent_less n m tables hm R.lent; slots = omega arith }

-- the way taken
module _ (K : Binding) (s : List ℕ) (t : Tree) (r : Way) (w : List ℕ) (G : Goes K s t r w) where
  pub as_constant : (n : ℕ) → r ≡ Constant n → AConstant K t n w
  unfolding Goes
  as_constant n e = subst (λ r. Goes K s t r w) e G

  pub as_side : (a e : ℕ) → r ≡ Side a e → ASide K s t a e
  unfolding Goes
  as_side a e q = subst (λ r. Goes K s t r w) q G

  pub as_leaf : (e : ℕ) → r ≡ Leaf e → ALeaf K s t e
  unfolding Goes
  as_leaf e q = subst (λ r. Goes K s t r w) q G

  pub as_call : (k c e : ℕ) → r ≡ Call k c e → ACall K s t k c e
  unfolding Goes
  as_call k c e q = subst (λ r. Goes K s t r w) q G

module _ (s list : List ℕ) (tables : Tables) (room : ℕ) (R : Ready s list tables room) where
  pub folded_at_lem : folded_at list s ≡ encode (fold the_calls (bound_by list) R.tree)
  unfolding folded_at
  folded_at_lem = folded_is the_calls (bound_by list) (decode true 16 s) R.tree R.used R.is

  -- counts stay small
  pub folded_few : Bytes s → Bytes list → length (folded_at list s) ≤ 3158016
  folded_few hs hl =
      let m = decoded_most the_calls (bound_by list) calls_valued (bound_valued list R.rooms.entries hl R.rooms.is_list) true 16 s R.tree R.used hs R.is in
      let n = (decode_counted true 16 s R.tree R.used hs R.is).most in
      let l = R.short in
      let e = ap length folded_at_lem in
      omega arith

  module _ (r : Way) (w : List ℕ) (G : GoesSo (bound_by list) s r w) where
    way : Goes (bound_by list) s R.tree r w
    way = G R.tree R.used R.is

    pub constant_way : (n : ℕ) → r ≡ Constant n → AConstant (bound_by list) R.tree n w
    constant_way n e = as_constant (bound_by list) s R.tree r w way n e

    pub side_way : (a e : ℕ) → r ≡ Side a e → ASide (bound_by list) s R.tree a e
    side_way a e q = as_side (bound_by list) s R.tree r w way a e q

    pub leaf_way : (e : ℕ) → r ≡ Leaf e → ALeaf (bound_by list) s R.tree e
    leaf_way e q = as_leaf (bound_by list) s R.tree r w way e q

    pub call_way : (k c e : ℕ) → r ≡ Call k c e → ACall (bound_by list) s R.tree k c e
    call_way k c e q = as_call (bound_by list) s R.tree r w way k c e q

  -- a constant
  pub constant_folded : (n : ℕ) (w : List ℕ) (A : AConstant (bound_by list) R.tree n w) → folded_at list s ≡ record_of constant_kind A.held
  constant_folded n w A = folded_at_lem ∙ A.bytes

  pub constant_size : (n : ℕ) (w : List ℕ) → AConstant (bound_by list) R.tree n w → 4 + n ≡ length (folded_at list s)
  constant_size n w A =
      let l : length (folded_at list s) ≡ 4 + length A.held = ap length (constant_folded n w A) ∙ length_record constant_kind A.held in
      omega (arith, A.size)

  -- a leaf
  pub leaf_folded : (e : ℕ) → ALeaf (bound_by list) s R.tree e → folded_at list s ≡ take e s
  leaf_folded e A = folded_at_lem ∙ A.bytes

  pub leaf_size : (e : ℕ) → ALeaf (bound_by list) s R.tree e → e ≡ length (folded_at list s)
  leaf_size e A = sym (ap length (leaf_folded e A) ∙ length-take-le e s A.end)

  -- a chosen side
  module _ (a e : ℕ) (A : ASide (bound_by list) s R.tree a e) where
    pub side_ready : (room' : ℕ) → room ≤ room' → Ready (take (e - a) (drop a s)) list tables room'
    side_ready room' h =
        record {
          tree = A.side;
          used = A.used;
          is = A.is;
          rooms = rooms_less (tables_of R.tree) (tables_of A.side) list tables room room' A.tables h R.rooms;
          short =
              let l = length-take (e - a) (drop a s) in
              let m = length-drop a s in
              let n = R.short in
              let i = A.end in
              omega arith;
        }

    pub side_folded : folded_at list (take (e - a) (drop a s)) ≡ folded_at list s
    unfolding folded_at
    side_folded =
        folded_is the_calls (bound_by list) (decode true 16 (take (e - a) (drop a s))) A.side A.used A.is
        ∙ ap encode (sym A.folds)
        ∙ sym (folded_is the_calls (bound_by list) (decode true 16 s) R.tree R.used R.is)

  -- a call that stays
  module _ (k c e : ℕ) (A : ACall (bound_by list) s R.tree k c e) where
    pub call_ready : (room' : ℕ) → room ≤ room' → ReadyAll c 0 (take (e - 4) (drop 4 s)) list tables room'
    call_ready room' h =
        record {
          trees = A.trees;
          parts = A.parts;
          count = A.count;
          within = omega arith;
          rooms = rooms_less (tables_of R.tree) (tables_all A.trees) list tables room room' A.tables h R.rooms;
          short =
              let l = length-take (e - 4) (drop 4 s) in
              let m = length-drop 4 s in
              let n = R.short in
              let i = A.end in
              omega arith;
        }

    pub call_past : folded_past list (take (e - 4) (drop 4 s)) c 0 ≡ folded_all the_calls (bound_by list) A.trees
    unfolding folded_past
    call_past =
        ap (λ n. folded_from the_calls (bound_by list) (decode true 16) (take (e - 4) (drop 4 s)) n 0) (sym A.count)
        ∙ from_parts the_calls (bound_by list) (decode true 16) (take (e - 4) (drop 4 s)) 0 A.trees A.parts

    pub call_folded : folded_at list s ≡ record_of k (folded_past list (take (e - 4) (drop 4 s)) c 0)
    call_folded = folded_at_lem ∙ A.bytes ∙ ap (record_of k) (sym call_past)

    pub call_size : (n : ℕ) → n ≡ length (folded_past list (take (e - 4) (drop 4 s)) c 0) → 4 + n ≡ length (folded_at list s)
    call_size n h =
        let l : length (folded_at list s) ≡ 4 + length (folded_past list (take (e - 4) (drop 4 s)) c 0) =
        ap length call_folded ∙ length_record k (folded_past list (take (e - 4) (drop 4 s)) c 0)
        in
        omega arith

-- records one after another
pub rest_part : (s : List ℕ) (at : ℕ) → take (length s - at) (drop at s) ≡ drop at s
rest_part s at = ap (λ n. take n (drop at s)) (sym (length-drop at s)) ∙ take-length (drop at s)

-- the first of them and the others
record Next (left at : ℕ) (s list : List ℕ) (ts : List Tree) : Type 0 where
  pub head : Tree
  pub takes : ℕ
  pub is : decode true 16 (drop at s) ≡ item head takes
  pub rest : List Tree
  pub parts : Parts (decode true 16) s (at + takes) rest
  pub count : length rest ≡ left - 1
  pub first : tables_of head ≤ tables_all ts
  pub others : tables_all rest ≤ tables_all ts

next : (left at : ℕ) (s list : List ℕ) (ts : List Tree) → Parts (decode true 16) s at ts → length ts ≡ left → (left ≡ 0 → ⊥) → Next left at s list ts
unfolding Parts tables_all
next left at s list [] ps e z = absurd (z (sym e))
next left at s list (t ∷ ts) (v, q, ps) e z =
    record { head = t; takes = v; is = q; rest = ts; parts = ps; count = omega (arith, e); first = omega arith; others = omega arith }

module _ (left at : ℕ) (s list : List ℕ) (tables : Tables) (room : ℕ) (R : ReadyAll left at s list tables room) where
  pub past_none : left ≡ 0 → folded_past list s left at ≡ []
  unfolding folded_past
  past_none e = ap (λ n. folded_from the_calls (bound_by list) (decode true 16) s n at) e ∙ from_none the_calls (bound_by list) (decode true 16) s at

  pub none_left : left ≡ 0 → 0 ≡ length (folded_past list s left at)
  none_left e = sym (ap length (past_none e))

  module _ (z : left ≡ 0 → ⊥) where
    N : Next left at s list R.trees
    N = next left at s list R.trees R.parts R.count z

    part_is : decode true 16 (take (length s - at) (drop at s)) ≡ item N.head N.takes
    part_is = ap (decode true 16) (rest_part s at) ∙ N.is

    pub not_cut : head_at (take (length s - at) (drop at s)) 0 ≡ None → ⊥
    not_cut e = head_there true 16 (take (length s - at) (drop at s)) N.head N.takes e part_is

    pub part_ready : (room' : ℕ) → room ≤ room' → Ready (take (length s - at) (drop at s)) list tables room'
    part_ready room' h =
        record {
          tree = N.head;
          used = N.takes;
          is = part_is;
          rooms = rooms_less (tables_all R.trees) (tables_of N.head) list tables room room' N.first h R.rooms;
          short =
              let l = length-take (length s - at) (drop at s) in
              let m = length-drop at s in
              let n = R.short in
              omega arith;
        }

    takes_is : (k n : ℕ) → head_at (take (length s - at) (drop at s)) 0 ≡ headed k n → at + N.takes ≡ at + 4 + n
    takes_is k n e =
        let (q, l, ef, H) = head_held true 16 (take (length s - at) (drop at s)) k n N.head N.takes e part_is in
        omega (arith, H.takes)

    module _ (k n : ℕ) (eh : head_at (take (length s - at) (drop at s)) 0 ≡ headed k n) where
      pub next_within : Bytes s → at + 4 + n ≤ length s
      next_within hs =
          let w = part_within the_calls (bound_by list) true 16 s at N.head N.takes hs R.within N.is in
          let e = takes_is k n eh in
          omega arith

      pub rest_ready : (room' : ℕ) → room ≤ room' → Bytes s → ReadyAll (left - 1) (at + 4 + n) s list tables room'
      rest_ready room' h hs =
          record {
            trees = N.rest;
            parts = subst (λ i. Parts (decode true 16) s i N.rest) (takes_is k n eh) N.parts;
            count = N.count;
            within = next_within hs;
            rooms = rooms_less (tables_all R.trees) (tables_all N.rest) list tables room room' N.others h R.rooms;
            short = R.short;
          }

      pub past_more : folded_past list s left at ≡ folded_at list (take (length s - at) (drop at s)) ++ folded_past list s (left - 1) (at + 4 + n)
      unfolding folded_past folded_at
      past_more =
          let l : left ≡ suc (left - 1) = more left z in
          ap (λ m. folded_from the_calls (bound_by list) (decode true 16) s m at) l
          ∙ from_more the_calls (bound_by list) (decode true 16) s (left - 1) at N.head N.takes N.is
          ∙ ap (λ i. encode (fold the_calls (bound_by list) N.head) ++ folded_from the_calls (bound_by list) (decode true 16) s (left - 1) i) (takes_is k n eh)
          ∙ ap (λ (b : List ℕ). b ++ folded_from the_calls (bound_by list) (decode true 16) s (left - 1) (at + 4 + n))
          (sym (folded_is the_calls (bound_by list) (decode true 16 (take (length s - at) (drop at s))) N.head N.takes part_is))
        where
          more : (m : ℕ) → (m ≡ 0 → ⊥) → m ≡ suc (m - 1)
          more zero z = absurd (z refl)
          more (suc m) z = omega arith

      pub past_size : (a b : ℕ) → a ≡ length (folded_at list (take (length s - at) (drop at s))) → b ≡ length (folded_past list s (left - 1) (at + 4 + n))
          → a + b ≡ length (folded_past list s left at)
      past_size a b ea eb =
          let l = ap length past_more ∙ length-append (folded_at list (take (length s - at) (drop at s))) (folded_past list s (left - 1) (at + 4 + n)) in
          omega arith

  -- counts stay small
  pub past_few : Bytes s → Bytes list → length (folded_past list s left at) ≤ 3158016
  unfolding folded_past
  past_few hs hl =
      let e : folded_from the_calls (bound_by list) (decode true 16) s left at ≡ folded_all the_calls (bound_by list) R.trees =
      ap (λ n. folded_from the_calls (bound_by list) (decode true 16) s n at) (sym R.count) ∙ from_parts the_calls (bound_by list) (decode true 16) s at R.trees R.parts
      in
      let m = parts_most the_calls (bound_by list) calls_valued (bound_valued list R.rooms.entries hl R.rooms.is_list) true 16 s hs at R.trees R.parts in
      let l = R.short in
      let g = ap length e in
      omega arith
