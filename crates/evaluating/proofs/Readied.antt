-- What is ready for a call is ready for its arguments.
use mathlib.Core.Path.{◌≡◌, ap, sym, ◌∙◌, subst}
use mathlib.Core.List.{List, ◌++◌}
use Prim.Native.Nat.{ℕ, suc, ◌+◌, ◌*◌, ◌≤◌, max}
use native.Mathlib.Omega.{arith}
use lib.ListN.{length}
use Rattle.tree.specs.Tree.{Tree}
use Rattle.tree.specs.Tree.Tree.{two, three, when}
use Rattle.tree.specs.Bounds.{depth, arguments_of, when_kind, Proper, Small}
use Rattle.meaning.proofs.Within.{one_level}
use Rattle.records.specs.Record.{word}
use Rattle.records.specs.Encode.{encode}
use Rattle.kinds.specs.Tables.{tables_for, tables_of}
use Rattle.lent.specs.declared.Tables.{Tables}
use Rattle.lent.specs.Lent.{Serves}
use Rattle.evaluating.specs.Stretch.{Stretch, Ready}
use Rattle.evaluating.proofs.Pieces.{kind_of, payload_of, Rest, opened, rest_room, rest_split, rest_last}
use Rattle.evaluating.proofs.Shaped.{IsTwo, two_of, IsThree, three_of, IsWhen, when_of}

serves_less : (n m : ℕ) (t : Tables) → n ≤ m → Serves m t → Serves n t
serves_less n m t h L =
    record { sealing = λ q. L.sealing (omega arith); opening = λ q. L.opening (omega arith); forward = λ q. L.forward (omega arith); backward = λ q. L.backward (omega arith) }

-- the stretches of a call's arguments
pub record TwoParts (image : List ℕ) (start m end : ℕ) (a b : Tree) : Type 0 where
  pub first : Stretch image (start + 4) m a
  pub second : Stretch image m end b
  pub low : start + 8 ≤ m
  pub high : m ≤ end

pub record ThreeParts (image : List ℕ) (start m l end : ℕ) (a b c : Tree) : Type 0 where
  pub first : Stretch image (start + 4) m a
  pub second : Stretch image m l b
  pub third : Stretch image l end c
  pub low : start + 8 ≤ m
  pub middle : m + 4 ≤ l
  pub high : l ≤ end

module _ (image : List ℕ) (start end : ℕ) where
  stretch_as : (t r : Tree) → t ≡ r → Stretch image start end t → Stretch image start end r
  stretch_as t r e S = subst (Stretch image start end) e S

  -- what a head needs
  pub head_room : (t : Tree) → Stretch image start end t → start + 4 ≤ length image
  head_room t S = let O = opened image start end t S in let l = O.long in let i = S.inside in omega arith

  pub head_kind : (t : Tree) → Stretch image start end t → word image (start + 2) ≡ kind_of t
  head_kind t S = (opened image start end t S).kind

  module _ (k : ℕ) (a b : Tree) (S : Stretch image start end (two k a b)) where
    two_rest : Rest image (start + 4) end (encode a ++ encode b)
    unfolding payload_of
    two_rest = (opened image start end (two k a b) S).rest

    pub two_room : start + 4 + 4 ≤ length image
    two_room = rest_room image (start + 4) end a (encode b) two_rest

    pub two_parts : (m : ℕ) → m ≡ start + 4 + 4 + word image (start + 4) → TwoParts image start m end a b
    unfolding Proper Small
    two_parts m e =
        let P = rest_split image (start + 4) end a (encode b) two_rest m e S.proper.1 S.small.0 in
        let Q : Stretch image m end b = rest_last image m end b S.proper.2 S.small.1 P.after in
        let s = P.short in
        let o = Q.order in
        record { first = P.first; second = Q; low = omega arith; high = o }

  -- three arguments, of a call or of `when`
  module _ (a b c : Tree) (ha : Proper a × Small a) (hb : Proper b × Small b) (hc : Proper c × Small c) (R : Rest image (start + 4) end (encode a ++ (encode b ++ encode c))) where
    three_room_of : start + 4 + 4 ≤ length image
    three_room_of = rest_room image (start + 4) end a (encode b ++ encode c) R

    three_room_2_of : (m : ℕ) → m ≡ start + 4 + 4 + word image (start + 4) → m + 4 ≤ length image
    three_room_2_of m e =
        rest_room image m end b (encode c) (rest_split image (start + 4) end a (encode b ++ encode c) R m e ha.0 ha.1).after

    three_parts_of : (m l : ℕ) → m ≡ start + 4 + 4 + word image (start + 4) → l ≡ m + 4 + word image m → ThreeParts image start m l end a b c
    three_parts_of m l e f =
        let P = rest_split image (start + 4) end a (encode b ++ encode c) R m e ha.0 ha.1 in
        let Q = rest_split image m end b (encode c) P.after l f hb.0 hb.1 in
        let T : Stretch image l end c = rest_last image l end c hc.0 hc.1 Q.after in
        let s = P.short in
        let q = Q.short in
        let o = T.order in
        record { first = P.first; second = Q.first; third = T; low = omega arith; middle = q; high = o }

  module _ (k : ℕ) (a b c : Tree) (S : Stretch image start end (three k a b c)) where
    three_rest : Rest image (start + 4) end (encode a ++ (encode b ++ encode c))
    unfolding payload_of
    three_rest = (opened image start end (three k a b c) S).rest

    pub three_room : start + 4 + 4 ≤ length image
    unfolding Proper Small
    three_room = three_room_of a b c (S.proper.2, S.small.0) (S.proper.3, S.small.1) (S.proper.4, S.small.2) three_rest

    pub three_room_2 : (m : ℕ) → m ≡ start + 4 + 4 + word image (start + 4) → m + 4 ≤ length image
    unfolding Proper Small
    three_room_2 = three_room_2_of a b c (S.proper.2, S.small.0) (S.proper.3, S.small.1) (S.proper.4, S.small.2) three_rest

    pub three_parts : (m l : ℕ) → m ≡ start + 4 + 4 + word image (start + 4) → l ≡ m + 4 + word image m → ThreeParts image start m l end a b c
    unfolding Proper Small
    three_parts = three_parts_of a b c (S.proper.2, S.small.0) (S.proper.3, S.small.1) (S.proper.4, S.small.2) three_rest

  module _ (c a b : Tree) (S : Stretch image start end (when c a b)) where
    when_rest : Rest image (start + 4) end (encode c ++ (encode a ++ encode b))
    unfolding payload_of
    when_rest = (opened image start end (when c a b) S).rest

    pub when_room : start + 4 + 4 ≤ length image
    unfolding Proper Small
    when_room = three_room_of c a b (S.proper.0, S.small.0) (S.proper.1, S.small.1) (S.proper.2, S.small.2) when_rest

    pub when_room_2 : (m : ℕ) → m ≡ start + 4 + 4 + word image (start + 4) → m + 4 ≤ length image
    unfolding Proper Small
    when_room_2 = three_room_2_of c a b (S.proper.0, S.small.0) (S.proper.1, S.small.1) (S.proper.2, S.small.2) when_rest

    pub when_parts : (m l : ℕ) → m ≡ start + 4 + 4 + word image (start + 4) → l ≡ m + 4 + word image m → ThreeParts image start m l end c a b
    unfolding Proper Small
    when_parts = three_parts_of c a b (S.proper.0, S.small.0) (S.proper.1, S.small.1) (S.proper.2, S.small.2) when_rest

-- depths and tables of a call and of its arguments
record TwoBounds (k : ℕ) (t a b : Tree) : Type 0 where
  own : tables_for k ≤ tables_of t
  deep_a : depth a + 1 ≤ depth t
  deep_b : depth b + 1 ≤ depth t
  tables_a : tables_of a ≤ tables_of t
  tables_b : tables_of b ≤ tables_of t

two_bounds : (k : ℕ) (t a b : Tree) → t ≡ two k a b → TwoBounds k t a b
unfolding depth tables_of
two_bounds k t a b e =
    let q : depth t ≡ suc (max (depth a) (depth b)) = ap depth e in
    let r : tables_of t ≡ max (tables_for k) (max (tables_of a) (tables_of b)) = ap tables_of e in
    record { own = omega arith; deep_a = omega arith; deep_b = omega arith; tables_a = omega arith; tables_b = omega arith }

record ThreeBounds (n : ℕ) (t a b c : Tree) : Type 0 where
  own : n ≤ tables_of t
  deep_a : depth a + 1 ≤ depth t
  deep_b : depth b + 1 ≤ depth t
  deep_c_lem : depth c + 1 ≤ depth t
  tables_a : tables_of a ≤ tables_of t
  tables_b : tables_of b ≤ tables_of t
  tables_c_lem : tables_of c ≤ tables_of t

three_bounds_of : (n : ℕ) (t a b c : Tree) → depth t ≡ suc (max (depth a) (max (depth b) (depth c))) → tables_of t ≡ max n (max (tables_of a) (max (tables_of b) (tables_of c)))
    → ThreeBounds n t a b c
three_bounds_of n t a b c q r =
    record { own = omega arith; deep_a = omega arith; deep_b = omega arith; deep_c_lem = omega arith; tables_a = omega arith; tables_b = omega arith; tables_c_lem = omega arith }

three_bounds : (k : ℕ) (t a b c : Tree) → t ≡ three k a b c → ThreeBounds (tables_for k) t a b c
unfolding depth tables_of
three_bounds k t a b c e = three_bounds_of (tables_for k) t a b c (ap depth e) (ap tables_of e)

when_bounds : (t c a b : Tree) → t ≡ when c a b → ThreeBounds 0 t c a b
unfolding depth tables_of
when_bounds t c a b e = three_bounds_of 0 t c a b (ap depth e) (let r : tables_of t ≡ max (tables_of c) (max (tables_of a) (tables_of b)) = ap tables_of e in omega arith)

module _ (image list : List ℕ) (tables : Tables) (start end o room : ℕ) (R : Ready image list tables start end o room) where
  -- an argument, i slots above
  sub_ready : (a : Tree) (s e i : ℕ) → Stretch image s e a → i ≤ 3 → depth a + 1 ≤ depth R.tree → tables_of a ≤ tables_of R.tree → Ready image list tables s e (o + 1024 * i) room
  sub_ready a s e i S hi hd ht =
      let l = one_level a in
      let h = R.slots in
      let n = R.enough in
      record {
        tree = a;
        stretch = S;
        taken = R.taken;
        entries = R.entries;
        good = R.good;
        need = R.need;
        enough = omega arith;
        lent = R.lent;
        slots = omega arith;
      }

  -- and where an argument has a slot's own place
  sub_at : (a : Tree) (s e i o' : ℕ) → o' ≡ o + 1024 * i → Stretch image s e a → i ≤ 3 → depth a + 1 ≤ depth R.tree → tables_of a ≤ tables_of R.tree → Ready image list tables s e o' room
  sub_at a s e i o' q S hi hd ht = subst (λ x. Ready image list tables s e x room) (sym q) (sub_ready a s e i S hi hd ht)

  pub ready_head : start + 4 ≤ length image
  ready_head = head_room image start end R.tree R.stretch

  pub ready_order : start + 4 ≤ end
  ready_order = (opened image start end R.tree R.stretch).long

  pub ready_inside : end ≤ length image
  ready_inside = R.stretch.inside

  pub ready_slot : o + 1024 ≤ room
  ready_slot = let l = one_level R.tree in let h = R.slots in omega arith

  module _ (k : ℕ) (ek : word image (start + 2) ≡ k) (ea : arguments_of k ≡ 2) where
    abbrev T : IsTwo k R.tree
    T = two_of k R.tree R.stretch.proper (sym (head_kind image start end R.tree R.stretch) ∙ ek) ea

    abbrev S2 : Stretch image start end (two k T.a T.b)
    S2 = stretch_as image start end R.tree (two k T.a T.b) T.is R.stretch

    pub two_after : start + 4 + 4 ≤ length image
    two_after = two_room image start end k T.a T.b S2

    abbrev B2 : TwoBounds k R.tree T.a T.b
    B2 = two_bounds k R.tree T.a T.b T.is

    pub two_lent : Serves (tables_for k) tables
    two_lent = let n = R.enough in let h = B2.own in serves_less (tables_for k) R.need tables (omega arith) R.lent

    pub two_slots : o + 2048 ≤ room
    two_slots = let l = one_level T.a in let h = R.slots in let q = B2.deep_a in omega arith

    module _ (m : ℕ) (em : m ≡ start + 4 + 4 + word image (start + 4)) where
      abbrev P2 : TwoParts image start m end T.a T.b
      P2 = two_parts image start end k T.a T.b S2 m em

      pub two_between : (start + 8 ≤ m) × (m ≤ end)
      two_between = (P2.low, P2.high)

      pub two_first : Ready image list tables (start + 4) m o room
      two_first = sub_at T.a (start + 4) m 0 o (omega arith) P2.first (omega arith) B2.deep_a B2.tables_a

      pub two_second : Ready image list tables m end (o + 1024) room
      two_second = sub_at T.b m end 1 (o + 1024) (omega arith) P2.second (omega arith) B2.deep_b B2.tables_b

  module _ (k : ℕ) (ek : word image (start + 2) ≡ k) (eg : 0x0010 ≤ k) (ew : k ≡ when_kind → ⊥) (ea : arguments_of k ≡ 2 → ⊥) where
    abbrev U : IsThree k R.tree
    U = three_of k R.tree R.stretch.proper (sym (head_kind image start end R.tree R.stretch) ∙ ek) eg ew ea

    abbrev S3 : Stretch image start end (three k U.a U.b U.c)
    S3 = stretch_as image start end R.tree (three k U.a U.b U.c) U.is R.stretch

    abbrev B3 : ThreeBounds (tables_for k) R.tree U.a U.b U.c
    B3 = three_bounds k R.tree U.a U.b U.c U.is

    pub three_takes : arguments_of k ≡ 3
    three_takes = U.takes

    pub three_after : start + 4 + 4 ≤ length image
    three_after = three_room image start end k U.a U.b U.c S3

    pub three_lent : Serves (tables_for k) tables
    three_lent = let n = R.enough in let h = B3.own in serves_less (tables_for k) R.need tables (omega arith) R.lent

    pub three_slots : o + 3072 ≤ room
    three_slots = let l = one_level U.a in let h = R.slots in let q = B3.deep_a in omega arith

    module _ (m : ℕ) (em : m ≡ start + 4 + 4 + word image (start + 4)) where
      pub three_after_2 : m + 4 ≤ length image
      three_after_2 = three_room_2 image start end k U.a U.b U.c S3 m em

      module _ (l : ℕ) (el : l ≡ m + 4 + word image m) where
        abbrev P3 : ThreeParts image start m l end U.a U.b U.c
        P3 = three_parts image start end k U.a U.b U.c S3 m l em el

        pub three_between : (start + 8 ≤ m) × (m + 4 ≤ l) × (l ≤ end)
        three_between = (P3.low, P3.middle, P3.high)

        pub three_first : Ready image list tables (start + 4) m o room
        three_first = sub_at U.a (start + 4) m 0 o (omega arith) P3.first (omega arith) B3.deep_a B3.tables_a

        pub three_second : Ready image list tables m l (o + 1024) room
        three_second = sub_at U.b m l 1 (o + 1024) (omega arith) P3.second (omega arith) B3.deep_b B3.tables_b

        pub three_third : Ready image list tables l end (o + 2048) room
        three_third = sub_at U.c l end 2 (o + 2048) (omega arith) P3.third (omega arith) B3.deep_c_lem B3.tables_c_lem

  module _ (ek : word image (start + 2) ≡ when_kind) where
    abbrev W : IsWhen R.tree
    W = when_of R.tree R.stretch.proper (sym (head_kind image start end R.tree R.stretch) ∙ ek)

    abbrev SW : Stretch image start end (when W.c W.a W.b)
    SW = stretch_as image start end R.tree (when W.c W.a W.b) W.is R.stretch

    abbrev BW : ThreeBounds 0 R.tree W.c W.a W.b
    BW = when_bounds R.tree W.c W.a W.b W.is

    pub when_after : start + 4 + 4 ≤ length image
    when_after = when_room image start end W.c W.a W.b SW

    module _ (m : ℕ) (em : m ≡ start + 4 + 4 + word image (start + 4)) where
      pub when_after_2 : m + 4 ≤ length image
      when_after_2 = when_room_2 image start end W.c W.a W.b SW m em

      module _ (l : ℕ) (el : l ≡ m + 4 + word image m) where
        abbrev PW : ThreeParts image start m l end W.c W.a W.b
        PW = when_parts image start end W.c W.a W.b SW m l em el

        pub when_between : (start + 8 ≤ m) × (m + 4 ≤ l) × (l ≤ end)
        when_between = (PW.low, PW.middle, PW.high)

        pub when_condition : Ready image list tables (start + 4) m o room
        when_condition = sub_at W.c (start + 4) m 0 o (omega arith) PW.first (omega arith) BW.deep_a BW.tables_a

        -- either side takes the condition's slot
        pub when_first : Ready image list tables m l o room
        when_first = sub_at W.a m l 0 o (omega arith) PW.second (omega arith) BW.deep_b BW.tables_b

        pub when_second : Ready image list tables l end o room
        when_second = sub_at W.b l end 0 o (omega arith) PW.third (omega arith) BW.deep_c_lem BW.tables_c_lem

-- the same in a room of the same size
pub ready_in : (image list : List ℕ) (tables : Tables) (s e o room room' : ℕ) → room' ≡ room → Ready image list tables s e o room → Ready image list tables s e o room'
ready_in image list tables s e o room room' q R = subst (λ n. Ready image list tables s e o n) (sym q) R
