-- A `when` by its condition: where its three records stand, and what is left of it.
use mathlib.Core.Path.{◌≡◌, refl, ap, sym, ◌∙◌, subst}
use mathlib.Core.Bool.{true}
use mathlib.Core.List.{List, [], ◌++◌, append_assoc}
use Prim.Native.Nat.{ℕ, ◌+◌, ◌-◌, ◌≤◌}
use native.Mathlib.Omega.{arith}
use lib.ListN.{length, take, drop, length-append, length-drop}
use lib.Seq.{take_at, drop_at, drop-drop}
use Rattle.lent.specs.declared.Tables.{Tables}
use Rattle.tree.specs.Tree.{Tree}
use Rattle.tree.specs.Tree.Tree.{when}
use Rattle.tree.specs.Bounds.{when_kind, depth, Bytes, Proper, Small}
use Rattle.tree.specs.Names.{Binding, idle}
use Rattle.tree.proofs.Table.{when_arguments}
use Rattle.meaning.specs.Mean.{mean, side_of}
use Rattle.meaning.specs.Mean.Side.{neither}
use Rattle.meaning.proofs.Within.{one_node}
use Rattle.records.specs.Record.{record_of, front_of}
use Rattle.records.specs.Record.Front.{front}
use Rattle.records.specs.Encode.{encode}
use Rattle.records.specs.Decode.{decode}
use Rattle.records.specs.Decode.Item.{item}
use Rattle.records.proofs.There.{length_record, front_record}
use Rattle.records.proofs.Back.{decode_back}
use Rattle.records.proofs.Sizes.{nodes_size, same_item}
use Rattle.kinds.specs.Tables.{tables_of}
use Rattle.heads.specs.Head.{head_of, head_at, headed}
use Rattle.heads.proofs.Heads.{Stands, head_stands}
use Rattle.answers.specs.declared.Refusal.{Refusal}
use Rattle.std.specs.Prelude.{Bool, false, Option, Some, None, Result, Ok, Err}
use Rattle.slots.specs.Slots.{At}
use Rattle.slots.proofs.Standing.{Has, has_of, refused_of}
use Rattle.evaluating.specs.Stretch as evaluating
use Rattle.evaluating.specs.Stretch.{Stretch, Means, side_by}
use Rattle.folding.specs.TopDown.{choice_of, kind_of}
use Rattle.folding.proofs.TopDown.{append_none, Open, first_side, second_side}
use Rattle.folding.proofs.Parts.{Held, decoded_held, head_there}
use Rattle.ways.specs.declared.Way.{Way}
use Rattle.ways.specs.declared.Way.TheVariants as way
use Rattle.ways.specs.Ways.{the_calls, bound_by, ACall, Goes, GoesSo, Choosing}
use Rattle.ways.proofs.Evaluated.{encode_decodes, answer_of_lem, eval_ready, first_deep, first_proper, first_small, first_within}
use Rattle.ways.proofs.Staying.{as_call}

-- of whatever tree stands there
pub goes_so : (K : Binding) (s : List ℕ) (t : Tree) (n : ℕ) (r : Way) (w : List ℕ) → decode true 16 s ≡ item t n → Goes K s t r w → GoesSo K s r w
goes_so K s t n r w e G = λ t' n' e'. subst (λ t. Goes K s t r w) (same_item (sym e ∙ e')) G

-- a record at a place
module _ (s : List ℕ) (x : ℕ) (t : Tree) (r : List ℕ) (e : drop x s ≡ encode t ++ r) where
  four : 4 ≤ length (encode t)
  four = let a = nodes_size t in let b = one_node t in omega arith

  room_at : x + length (encode t) ≤ length s
  room_at =
      let l = ap length e ∙ length-append (encode t) r in
      let m = length-drop x s in
      let f = four in
      omega arith

  bytes_at : (y : ℕ) → y ≡ x + length (encode t) → take (y - x) (drop x s) ≡ encode t
  bytes_at y h = ap (take (y - x)) e ∙ take_at (encode t) r (y - x) (omega arith)

  rest_at : drop (x + length (encode t)) s ≡ r
  rest_at = sym (drop-drop (length (encode t)) x s) ∙ ap (drop (length (encode t))) e ∙ drop_at (encode t) r (length (encode t)) refl

  stretch_at : (y : ℕ) → y ≡ x + length (encode t) → Proper t → Small t → Stretch s x y t
  stretch_at y h p m =
      let a = room_at in
      record { proper = p; small = m; order = omega arith; inside = omega arith; is = bytes_at y h }

  module _ (p : Proper t) (m : Small t) (d : depth t ≤ 16) where
    decodes_at : decode true 16 (drop x s) ≡ item t (length (encode t))
    decodes_at = ap (decode true 16) e ∙ encode_decodes t r p m d

    alone_at : (y : ℕ) → y ≡ x + length (encode t) → decode true 16 (take (y - x) (drop x s)) ≡ item t (length (encode t))
    alone_at y h = ap (decode true 16) (bytes_at y h ∙ sym (append_none (encode t))) ∙ encode_decodes t [] p m d

    there_at : head_at s x ≡ None → ⊥
    unfolding head_at
    there_at c = head_there true 16 (drop x s) t (length (encode t)) c decodes_at

    size_at : (k n : ℕ) → head_at s x ≡ headed k n → length (encode t) ≡ 4 + n
    size_at k n h =
        let S : Stands s x k n = head_stands s x k n h in
        let H : Held (decode true 15) k S.held t (length (encode t)) = decoded_held true 16 (drop x s) k S.held t (length (encode t)) S.is decodes_at in
        let a = H.takes in
        let b = S.size in
        omega arith

past_head : (k : ℕ) (p r : List ℕ) → drop 4 (record_of k p ++ r) ≡ p ++ r
unfolding record_of
past_head k p r = refl

module _ (s list : List ℕ) (tables : Tables) (e room : ℕ) (X : Choosing s list tables e room) (hs : Bytes s) where
  abbrev C : Tree
  C = X.condition

  abbrev Y : Tree
  Y = X.yes

  abbrev N : Tree
  N = X.no

  abbrev T : Tree
  T = when C Y N

  proper : Proper T
  proper = first_proper s T e hs X.is

  small : Small T
  small = first_small s T e hs X.is

  deep : depth T ≤ 16
  deep = first_deep s T e hs X.is

  proper_all : Proper C × Proper Y × Proper N
  unfolding Proper
  proper_all = proper

  small_all : Small C × Small Y × Small N
  unfolding Small
  small_all = small

  deep_c : depth C ≤ 16
  unfolding depth
  deep_c = let d = deep in omega arith

  deep_y : depth Y ≤ 16
  unfolding depth
  deep_y = let d = deep in omega arith

  deep_n : depth N ≤ 16
  unfolding depth
  deep_n = let d = deep in omega arith

  abbrev r : List ℕ
  r = drop e s

  whole : s ≡ record_of when_kind (encode C ++ (encode Y ++ encode N)) ++ r
  unfolding encode
  whole = (decode_back true 16 s T e hs X.is).same

  ends : e ≡ 4 + length (encode C) + length (encode Y) + length (encode N)
  unfolding encode
  ends =
      let a : length (record_of when_kind (encode C ++ (encode Y ++ encode N))) ≡ e = (decode_back true 16 s T e hs X.is).used in
      let b = length_record when_kind (encode C ++ (encode Y ++ encode N)) in
      let c = length-append (encode C) (encode Y ++ encode N) in
      let d = length-append (encode Y) (encode N) in
      omega arith

  at_c : drop 4 s ≡ encode C ++ (encode Y ++ (encode N ++ r))
  at_c = ap (drop 4) whole ∙ past_head when_kind (encode C ++ (encode Y ++ encode N)) r ∙ simp append_assoc

  at_y : drop (4 + length (encode C)) s ≡ encode Y ++ (encode N ++ r)
  at_y = rest_at s 4 C (encode Y ++ (encode N ++ r)) at_c

  at_n : drop (4 + length (encode C) + length (encode Y)) s ≡ encode N ++ r
  at_n = rest_at s (4 + length (encode C)) Y (encode N ++ r) at_y

  pub condition_there : head_at s 4 ≡ None → ⊥
  condition_there q = there_at s 4 C _ at_c proper_all.0 small_all.0 deep_c q

  -- where the condition ends
  module _ (k n : ℕ) (eh : head_at s 4 ≡ headed k n) where
    size_c : length (encode C) ≡ 4 + n
    size_c = size_at s 4 C _ at_c proper_all.0 small_all.0 deep_c k n eh

    yes_is : 8 + n ≡ 4 + length (encode C)
    yes_is = let a = size_c in omega arith

    at_yes : drop (8 + n) s ≡ encode Y ++ (encode N ++ r)
    at_yes = ap (λ i. drop i s) yes_is ∙ at_y

    pub yes_there : head_at s (8 + n) ≡ None → ⊥
    yes_there q = there_at s (8 + n) Y _ at_yes proper_all.1 small_all.1 deep_y q

    pub yes_within : 8 + n ≤ length s
    yes_within = let a = room_at s 4 C _ at_c in let b = yes_is in omega arith

    condition_stretch : Stretch s 4 (8 + n) C
    condition_stretch = stretch_at s 4 C _ at_c (8 + n) yes_is proper_all.0 small_all.0

    tables_c : tables_of C ≤ tables_of T
    unfolding tables_of
    tables_c = omega arith

    tables_y : tables_of Y ≤ tables_of T
    unfolding tables_of
    tables_y = omega arith

    tables_n : tables_of N ≤ tables_of T
    unfolding tables_of
    tables_n = omega arith

    pub condition_ready : evaluating.Ready s list tables 4 (8 + n) 0 room
    condition_ready = eval_ready s list tables C 4 (8 + n) (tables_of T) room condition_stretch deep_c tables_c X.rooms

    -- where the first side ends
    module _ (j m : ℕ) (ey : head_at s (8 + n) ≡ headed j m) where
      size_y : length (encode Y) ≡ 4 + m
      size_y = size_at s (8 + n) Y _ at_yes proper_all.1 small_all.1 deep_y j m ey

      no_is : 8 + n + 4 + m ≡ 8 + n + length (encode Y)
      no_is = let a = size_y in omega arith

      at_no : drop (8 + n + 4 + m) s ≡ encode N ++ r
      at_no = ap (λ i. drop i s) (let a = no_is in let b = yes_is in same a b) ∙ at_n
        where
          same : 8 + n + 4 + m ≡ 8 + n + length (encode Y) → 8 + n ≡ 4 + length (encode C) → 8 + n + 4 + m ≡ 4 + length (encode C) + length (encode Y)
          same a b = omega arith

      e_is : e ≡ 8 + n + 4 + m + length (encode N)
      e_is = let a = no_is in let b = yes_is in let c = ends in omega arith

      pub no_within : 8 + n + 4 + m ≤ length s
      no_within = let a = room_at s (8 + n) Y _ at_yes in let b = no_is in omega arith

      e_within : e ≤ length s
      e_within = first_within s T e hs X.is

      module _ (hl : Bytes list) (q : Result ℕ Refusal) (w w' : List ℕ) (M : Means s list 4 (8 + n) 0 q w w') where
        abbrev K : Binding
        K = bound_by list

        answer : At (mean the_calls K idle C) 0 q w w'
        answer = answer_of_lem s list X.rooms.entries C 4 (8 + n) q w w' hl X.rooms.is_list condition_stretch M

        call : choice_of (mean the_calls K idle C) ≡ neither → (v : List ℕ) → GoesSo K s (way.Call 0x0014 3 e) v
        unfolding Goes Open kind_of encode head_at head_of
        call o v =
            let P : List ℕ = encode C ++ (encode Y ++ encode N) in
            let f : front_of s ≡ front when_kind P = ap front_of whole ∙ front_record when_kind P r in
            let l : 4 + length P ≡ e = sym (length_record when_kind P) ∙ (decode_back true 16 s T e hs X.is).used in
            goes_so K s T e (way.Call 0x0014 3 e) v X.is
            (subst (λ i. ACall K s T 0x0014 3 i) l
            (as_call K s T e when_kind (length P) hs X.is (ap head_of f) 3 (sym when_arguments) (λ z. omega arith) X.none o))

        -- no value: both sides stay
        pub open_way : (m : Refusal) → q ≡ Err m → (v : List ℕ) → GoesSo K s (way.Call 0x0014 3 e) v
        unfolding choice_of
        open_way m eq v = call (ap choice_of (refused_of (mean the_calls K idle C) 0 m q w w' answer eq)) v

        module _ (l : ℕ) (eq : q ≡ Ok l) where
          has : Has (mean the_calls K idle C) l 0 w'
          has = has_of (mean the_calls K idle C) 0 l q w w' answer eq

          choice : choice_of (mean the_calls K idle C) ≡ side_of (take l w')
          unfolding choice_of
          choice = ap choice_of has.is ∙ ap side_of (sym has.bytes)

          pub slot_within : 1024 ≤ length w' → l ≤ length w'
          slot_within h = let a = has.small in omega arith

          pub first_way : (i : Option Bool) → side_by i ≡ side_of (take l w') → i ≡ Some true → (v : List ℕ) → GoesSo K s (way.Side (8 + n) (8 + n + 4 + m)) v
          unfolding Goes side_by
          first_way i ei z v =
              goes_so K s T e (way.Side (8 + n) (8 + n + 4 + m)) v X.is
              (record {
                side = Y;
                used = length (encode Y);
                folds = first_side the_calls K C Y N (choice ∙ sym ei ∙ ap side_by z);
                is = alone_at s (8 + n) Y (encode N ++ r) at_yes proper_all.1 small_all.1 deep_y (8 + n + 4 + m) no_is;
                start = omega arith;
                order = omega arith;
                end = no_within;
                tables = tables_y;
              })

          pub second_way : (i : Option Bool) → side_by i ≡ side_of (take l w') → i ≡ Some false → (v : List ℕ) → GoesSo K s (way.Side (8 + n + 4 + m) e) v
          unfolding Goes side_by
          second_way i ei z v =
              goes_so K s T e (way.Side (8 + n + 4 + m) e) v X.is
              (record {
                side = N;
                used = length (encode N);
                folds = second_side the_calls K C Y N (choice ∙ sym ei ∙ ap side_by z);
                is = alone_at s (8 + n + 4 + m) N r at_no proper_all.2 small_all.2 deep_n e e_is;
                start = omega arith;
                order = let a = e_is in omega arith;
                end = e_within;
                tables = tables_n;
              })

          pub neither_way : (i : Option Bool) → side_by i ≡ side_of (take l w') → i ≡ None → (v : List ℕ) → GoesSo K s (way.Call 0x0014 3 e) v
          unfolding side_by
          neither_way i ei z v = call (choice ∙ sym ei ∙ ap side_by z) v
