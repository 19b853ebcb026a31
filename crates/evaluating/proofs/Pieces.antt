-- Records that stand in an image, and the records in their payloads.
use mathlib.Core.Path.{◌≡◌, refl, ap, sym, ◌∙◌}
use mathlib.Core.List.{List, [], ◌∷◌, ◌++◌, append_assoc}
use Prim.Native.Nat.{ℕ, suc, ◌+◌, ◌-◌, ◌*◌, ◌≤◌, ◌/◌, ◌%◌}
use native.Mathlib.Omega.{arith}
use lib.ListN.{length, take, drop, length-append, length-drop, length-take, take-append-drop}
use lib.Seq.{take_at, drop_at, drop-drop}
use Rattle.tree.specs.Tree.{Tree}
use Rattle.tree.specs.Tree.Tree.{literal, bound, row, run, one, two, three, four, when}
use Rattle.tree.specs.Bounds.{Proper, Small, when_kind}
use Rattle.records.specs.Record.{record_of, word}
use Rattle.records.specs.Encode.{constant_kind, row_kind, run_kind, bound_kind, encode}
use Rattle.heads.proofs.Heads.{word_drop}
use Rattle.evaluating.specs.Stretch.{Stretch}

unfoldable pub kind_of : Tree → ℕ
kind_of (literal v) = constant_kind
kind_of (bound n) = bound_kind
kind_of (row n) = row_kind
kind_of (run n) = run_kind
kind_of (one k a) = k
kind_of (two k a b) = k
kind_of (three k a b c) = k
kind_of (four k a b c d) = k
kind_of (when c a b) = when_kind

unfoldable pub payload_of : Tree → List ℕ
payload_of (literal v) = v
payload_of (bound n) = n ∷ []
payload_of (row n) = n ∷ []
payload_of (run n) = n ∷ []
payload_of (one k a) = encode a
payload_of (two k a b) = encode a ++ encode b
payload_of (three k a b c) = encode a ++ (encode b ++ encode c)
payload_of (four k a b c d) = encode a ++ (encode b ++ (encode c ++ encode d))
payload_of (when c a b) = encode c ++ (encode a ++ encode b)

encode_record : (t : Tree) → encode t ≡ record_of (kind_of t) (payload_of t)
unfolding encode kind_of payload_of
encode_record (literal v) = refl
encode_record (bound n) = refl
encode_record (row n) = refl
encode_record (run n) = refl
encode_record (one k a) = refl
encode_record (two k a b) = refl
encode_record (three k a b c) = refl
encode_record (four k a b c d) = refl
encode_record (when c a b) = refl

-- a record's head
module _ (k : ℕ) (p r : List ℕ) where
  record_length : length (record_of k p) ≡ 4 + length p
  unfolding record_of
  record_length = let f : suc (suc (suc (suc (length p)))) ≡ 4 + length p = omega arith in f

  record_size : word (record_of k p ++ r) 0 ≡ length p
  unfolding record_of
  record_size = let f : length p % 256 + 256 * (length p / 256) ≡ length p = omega arith in f

  record_kind : word (record_of k p ++ r) 2 ≡ k
  unfolding record_of
  record_kind = let f : k % 256 + 256 * (k / 256) ≡ k = omega arith in f

  record_rest : drop 4 (record_of k p ++ r) ≡ p ++ r
  unfolding record_of
  record_rest = refl

-- what is left of a payload, from a place to an end
pub record Rest (image : List ℕ) (at end : ℕ) (q : List ℕ) : Type 0 where
  pub stands : drop at image ≡ q ++ drop end image
  pub size : at + length q ≡ end
  pub inside : end ≤ length image

-- a record at a place, by its head's two words
pub record Opened (image : List ℕ) (start end : ℕ) (t : Tree) : Type 0 where
  pub kind : word image (start + 2) ≡ kind_of t
  pub ends : end ≡ start + 4 + word image start
  pub long : start + 4 ≤ end
  pub rest : Rest image (start + 4) end (payload_of t)

module _ (image : List ℕ) (start end : ℕ) (t : Tree) where
  whole_opened : Rest image start end (encode t) → Opened image start end t
  whole_opened R =
      let e : drop start image ≡ record_of (kind_of t) (payload_of t) ++ drop end image = R.stands ∙ ap (λ x. x ++ drop end image) (encode_record t) in
      let l : length (encode t) ≡ 4 + length (payload_of t) = ap length (encode_record t) ∙ record_length (kind_of t) (payload_of t) [] in
      let w : word image start ≡ length (payload_of t) =
      ap (word image) (omega arith) ∙ sym (word_drop image start 0) ∙ ap (λ s. word s 0) e ∙ record_size (kind_of t) (payload_of t) (drop end image) in
      let s = R.size in
      record {
        kind = sym (word_drop image start 2) ∙ ap (λ s. word s 2) e ∙ record_kind (kind_of t) (payload_of t) (drop end image);
        ends = omega arith;
        long = omega arith;
        rest = record {
          stands = sym (drop-drop 4 start image) ∙ ap (drop 4) e ∙ record_rest (kind_of t) (payload_of t) (drop end image);
          size = omega arith;
          inside = R.inside;
        };
      }

  stretch_rest : Stretch image start end t → Rest image start end (encode t)
  stretch_rest S =
      let o = S.order in
      let i = S.inside in
      let l : length (encode t) ≡ end - start =
      ap length (sym S.is) ∙ length-take (end - start) (drop start image) ∙ (let d = length-drop start image in omega arith) in
      let m : start + (end - start) ≡ end = omega arith in
      record {
        stands = sym (take-append-drop (end - start) (drop start image)) ∙ ap (λ x. x ++ drop (end - start) (drop start image)) S.is
            ∙ ap (λ x. encode t ++ x) (drop-drop (end - start) start image ∙ ap (λ n. drop n image) m);
        size = omega arith;
        inside = i;
      }

  pub opened : Stretch image start end t → Opened image start end t
  opened S = whole_opened (stretch_rest S)

-- the last record of a payload
pub rest_last : (image : List ℕ) (at end : ℕ) (t : Tree) → Proper t → Small t → Rest image at end (encode t) → Stretch image at end t
rest_last image at end t hp hs R =
    let s = R.size in
    let m : end - at ≡ length (encode t) = omega arith in
    record {
      proper = hp;
      small = hs;
      order = omega arith;
      inside = R.inside;
      is = ap (take (end - at)) R.stands ∙ take_at (encode t) (drop end image) (end - at) (sym m);
    }

-- the first record of what is left, and what is left after it
pub record Split (image : List ℕ) (at m end : ℕ) (a : Tree) (q : List ℕ) : Type 0 where
  pub first : Stretch image at m a
  pub after : Rest image m end q
  pub short : at + 4 ≤ m

head_long : (t : Tree) → 4 ≤ length (encode t)
head_long t = let l : length (encode t) ≡ 4 + length (payload_of t) = ap length (encode_record t) ∙ record_length (kind_of t) (payload_of t) [] in omega arith

-- where the first record of what is left ends
module _ (image : List ℕ) (at end : ℕ) (a : Tree) (q : List ℕ) (R : Rest image at end (encode a ++ q)) where
  -- its four bytes of head are there
  pub rest_room : at + 4 ≤ length image
  rest_room =
      let l = length-append (encode a) q in
      let h = head_long a in
      let s = R.size in
      let i = R.inside in
      omega arith

  first_rest : (m : ℕ) → m ≡ at + length (encode a) → Rest image at m (encode a)
  first_rest m e =
      let l = length-append (encode a) q in
      let s = R.size in
      let i = R.inside in
      let f : drop at image ≡ encode a ++ (q ++ drop end image) = R.stands ∙ append_assoc (encode a) q (drop end image) in
      record {
        stands = f ∙ ap (λ x. encode a ++ x) (sym (sym (drop-drop (length (encode a)) at image ∙ ap (λ n. drop n image) (sym e)) ∙ ap (drop (length (encode a))) f ∙ drop_at (encode a) (q ++ drop end image) (length (encode a)) refl));
        size = sym e;
        inside = omega arith;
      }

  pub rest_split : (m : ℕ) → m ≡ at + 4 + word image at → Proper a → Small a → Split image at m end a q
  rest_split m e hp hs =
      let m1 : ℕ = at + length (encode a) in
      let F = first_rest m1 refl in
      let O = whole_opened image at m1 a F in
      let f : m ≡ m1 = e ∙ sym O.ends in
      let h = head_long a in
      let l = length-append (encode a) q in
      let s = R.size in
      let g : drop at image ≡ encode a ++ (q ++ drop end image) = R.stands ∙ append_assoc (encode a) q (drop end image) in
      record {
        first = rest_last image at m a hp hs (first_rest m f);
        after = record {
          stands = ap (λ n. drop n image) f ∙ sym (drop-drop (length (encode a)) at image) ∙ ap (drop (length (encode a))) g ∙ drop_at (encode a) (q ++ drop end image) (length (encode a)) refl;
          size = omega arith;
          inside = R.inside;
        };
        short = omega arith;
      }
