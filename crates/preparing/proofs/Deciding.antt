-- What reading, the list and the scan decide.
use mathlib.Core.Path.{◌≡◌, refl, ap, sym, ◌∙◌, subst}
use mathlib.Core.Bool.{Bool, true, false}
use mathlib.Core.List.{List, ◌++◌}
use Prim.Native.Nat.{ℕ, ◌+◌, ◌≤◌, ◌<◌}
use native.Mathlib.Omega.{arith}
use lib.ListN.{length, take, drop, length-append}
use lib.Seq.{take_at}
use borrow.Author.Tests.{le-leb, lt-leb}
use Rattle.std.specs.Prelude.{Option, Some, None, is_some, Result, Ok}
use Rattle.answers.specs.declared.Fault.{Fault}
use Rattle.common.proofs.Choices.{pick_true, pick_false, true_false}
use Rattle.tree.specs.Tree.{Tree}
use Rattle.tree.specs.Bounds.{Bytes, Within}
use Rattle.tree.specs.Names.{Binding}
use Rattle.tree.specs.Reading.{Read}
use Rattle.tree.specs.Reading.Read.{got, wrong}
use Rattle.meaning.specs.Real.{real}
use Rattle.meaning.specs.Fold.{fold}
use Rattle.modes.specs.Cell.{cell_of}
use Rattle.records.specs.Encode.{encode}
use Rattle.records.specs.Decode.{decode, image_with}
use Rattle.records.specs.Decode.Image.{image}
use Rattle.records.specs.Decode.Item.{item}
use Rattle.records.proofs.There.{image_encode}
use Rattle.lists.specs.Entries.{Entry, preparing, list_of}
use Rattle.lists.specs.Entries.Listed.{listed, bad_list}
use Rattle.lists.specs.Given.{binding_of}
use Rattle.listing.specs.Walk.{taken_in, is_good}
use Rattle.listing.specs.declared.Stretch.{Stretch}
use Rattle.listing.specs.Find.{find_in, stretch_of}
use Rattle.listing.proofs.Finding.{found_value}
use Rattle.listing.proofs.Walking.{found_list, found_bad}
use Rattle.kinds.specs.declared.Need.{Need}
use Rattle.kinds.specs.Tables.{need_number, tables_of}
use Rattle.image_check.specs.Check.{needed, verdict_of}
use Rattle.texts.specs.Reading.{read_text}
use Rattle.texts.specs.Unbound as texts
use Rattle.texts.specs.Unbound.Place.{at, nowhere}
use Rattle.texts.specs.Unbound.{unbound_in}
use Rattle.texts.proofs.Back.{read_back}
use Rattle.text_reader.specs.Reader.{parsed, parsed_of, out_of, Answers}
use Rattle.text_reader.specs.Reader.Parsed.{Fine, No}
use Rattle.text_reader.proofs.Decoded.{read_fits}
use Rattle.text_reader.proofs.Answers.{fine_no}
use Rattle.unbound.specs.Scan.{place_is, has_of}
use Rattle.unbound.proofs.Bindings.{scan_of_list}
use Rattle.recipe.specs.Prepare.{Prepared, sized, is_given, has, after_scan, after_list, after_read, prepared_of}
use Rattle.recipe.specs.Prepare.Prepared.{stopped}
use Rattle.folding.proofs.Folded.{folded_is}
use Rattle.folding.proofs.TopDown.{append_none}
use Rattle.ways.specs.Ways.{the_calls, bound_by}
use Rattle.ways.proofs.Evaluated.{encode_decodes, bound_by_lem}
use Rattle.fold_size.specs.Folded.{folded_at}
use Rattle.preparing.specs.Ended.{Gives, Folding, WasRead}

-- 21
pub long_text : (text list : List ℕ) → 4096 < length text → prepared_of cell_of text list ≡ stopped 21 0
unfolding prepared_of
long_text text list h = pick_false _ _ _ (lt-leb (length text) 4096 h)

pub fair_text : (text list : List ℕ) → length text ≤ 4096 → prepared_of cell_of text list ≡ after_read cell_of text list (read_text text)
unfolding prepared_of
fair_text text list h = pick_true _ _ _ (le-leb (length text) 4096 h)

-- reading
pub was_wrong : (i : Read) (m p : ℕ) → parsed_of i ≡ No m p → i ≡ wrong m p
unfolding parsed_of
was_wrong (got t) m p e = absurd (fine_no e)
was_wrong (wrong k w) m p e = let a : k ≡ m = cc in let b : w ≡ p = cc in ap (λ k. wrong k w) a ∙ ap (wrong m) b

pub was_got : (i : Read) (n : ℕ) → parsed_of i ≡ Fine n → (t : Tree) × (i ≡ got t) × (n ≡ length (encode t))
unfolding parsed_of
was_got (got t) n e = let a : n ≡ length (encode t) = cc in (t, refl, a)
was_got (wrong k w) n e = absurd (fine_no (sym e))

pub wrong_stops : (text list : List ℕ) (m p : ℕ) → length text ≤ 4096 → read_text text ≡ wrong m p → prepared_of cell_of text list ≡ stopped m p
unfolding after_read
wrong_stops text list m p h e = fair_text text list h ∙ ap (after_read cell_of text list) e

-- the front of the buffer holds the tree's records
pub was_read : (text : List ℕ) (r : Result ℕ Fault) (n room : ℕ) (before after : List ℕ) → Answers (read_text text) (parsed r) before after → r ≡ Ok n → length text ≤ 4096 → 47104 ≤ room → WasRead text (take n after) room
unfolding out_of
was_read text r n room before after A e h g =
    let (t, et, en) = was_got (read_text text) n (sym A.says ∙ ap parsed e) in
    record {
      tree = t;
      is_tree = et;
      is = ap (take n) (A.wrote ∙ ap (λ i. out_of i before) et) ∙ take_at (encode t) (drop (length (encode t)) before) n (sym en);
      long = h;
      slots = g;
    }

-- 27
same_some : {a b : ℕ} → ◌≡◌ {A = Option ℕ} (Some a) (Some b) → a ≡ b
same_some e = cc

none_some : {a : ℕ} → ◌≡◌ {A = Option ℕ} None (Some a) → ⊥
none_some e = let z : ◌≡◌ {A = ℕ} 0 1 = cc in omega arith

place_at : (x : texts.Place) (p : ℕ) → place_is x ≡ Some p → x ≡ at p
unfolding place_is
place_at (at q) p e = ap at (same_some e)
place_at nowhere p e = absurd (none_some e)

place_nowhere : (x : texts.Place) → place_is x ≡ None → x ≡ nowhere
unfolding place_is
place_nowhere (at q) e = absurd (none_some (sym e))
place_nowhere nowhere e = refl

module _ (text records list : List ℕ) (room : ℕ) (R : WasRead text records room) where
  unlisted : list_of preparing list ≡ bad_list → after_read cell_of text list (read_text text) ≡ stopped 27 0
  unfolding after_read after_list
  unlisted e = ap (after_read cell_of text list) R.is_tree ∙ ap (after_list cell_of text R.tree) e

  pub bad_list_lem : is_good (list_of (taken_in false) list) ≡ false → after_read cell_of text list (read_text text) ≡ stopped 27 0
  unfolding taken_in
  bad_list_lem e = unlisted (found_bad (list_of preparing list) e)

  within : Within R.tree
  within = (read_back text R.tree R.is_tree).1

  size : length (encode R.tree) ≤ 12288
  size = let f = read_fits text R.tree R.is_tree in let l = R.long in omega arith

  module _ (g : is_good (list_of (taken_in false) list) ≡ true) where
    L : (es : List Entry) × (list_of preparing list ≡ listed es)
    unfolding taken_in
    L = found_list (list_of preparing list) g

    abbrev K : Binding
    K = binding_of L.0

    scanned : after_read cell_of text list (read_text text) ≡ after_scan cell_of K R.tree (unbound_in (has K) text)
    unfolding after_read after_list
    scanned = ap (after_read cell_of text list) R.is_tree ∙ ap (after_list cell_of text R.tree) L.1

    has_is : Bytes list → (n : ℕ) (b : Bool) → b ≡ is_given (stretch_of list (find_in list (512 + n))) → b ≡ has K n
    unfolding has binding_of
    has_is hl n b e = e ∙ ap is_given (found_value preparing list L.0 hl L.1 (512 + n))

    module _ (hl : Bytes list) (b0 b1 b2 b3 : Bool)
        (e0 : b0 ≡ is_given (stretch_of list (find_in list (512 + 0)))) (e1 : b1 ≡ is_given (stretch_of list (find_in list (512 + 1))))
        (e2 : b2 ≡ is_given (stretch_of list (find_in list (512 + 2)))) (e3 : b3 ≡ is_given (stretch_of list (find_in list (512 + 3)))) where
      scan_is : unbound_in (has K) text ≡ unbound_in (has_of b0 b1 b2 b3) text
      scan_is =
          scan_of_list list text L.0 hl L.1
          ∙ sym (ap (λ b. unbound_in (has_of b b1 b2 b3) text) (has_is hl 0 b0 e0)
          ∙ ap (λ b. unbound_in (has_of (has K 0) b b2 b3) text) (has_is hl 1 b1 e1)
          ∙ ap (λ b. unbound_in (has_of (has K 0) (has K 1) b b3) text) (has_is hl 2 b2 e2)
          ∙ ap (λ b. unbound_in (has_of (has K 0) (has K 1) (has K 2) b) text) (has_is hl 3 b3 e3))

      module _ (x : Option ℕ) (ex : x ≡ place_is (unbound_in (has_of b0 b1 b2 b3) text)) where
        -- 25
        pub absent_name : (p : ℕ) → x ≡ Some p → after_read cell_of text list (read_text text) ≡ stopped 25 p
        unfolding after_scan
        absent_name p e = scanned ∙ ap (after_scan cell_of K R.tree) (scan_is ∙ place_at (unbound_in (has_of b0 b1 b2 b3) text) p (sym ex ∙ e))

        -- all that is left is folding
        pub all_bound : x ≡ None → after_read cell_of text list (read_text text) ≡ sized (folded_at list records)
        unfolding after_scan folded_at the_calls
        all_bound e =
            scanned ∙ ap (after_scan cell_of K R.tree) (scan_is ∙ place_nowhere (unbound_in (has_of b0 b1 b2 b3) text) (sym ex ∙ e))
            ∙ ap sized
            (ap (λ K. encode (fold (real cell_of) K R.tree)) (sym (bound_by_lem list L.0 L.1))
            ∙ sym (folded_is (real cell_of) (bound_by list) (decode true 16 records) R.tree (length (encode R.tree)) decoded))
          where
            decoded : decode true 16 records ≡ item R.tree (length (encode R.tree))
            decoded =
                ap (decode true 16) (R.is ∙ sym (append_none (encode R.tree)))
                ∙ encode_decodes R.tree _ within.proper within.small within.shallow

    image_is : image_with true records ≡ image R.tree
    image_is = ap (image_with true) R.is ∙ image_encode true R.tree within (λ e. absurd (true_false e)) (let s = size in omega arith)

    -- what was read passes the check
    pub no_form : (v : Option Need) → needed v ≡ verdict_of (image_with true records) → v ≡ None → ⊥
    unfolding verdict_of
    no_form v ev e = none_some (sym (ap needed e) ∙ ev ∙ ap verdict_of image_is)

    pub folding : (v : Option Need) (need : Need) → needed v ≡ verdict_of (image_with true records) → v ≡ Some need → (room' : ℕ) → room ≤ room' → Folding records list (need_number need) room'
    unfolding verdict_of
    folding v need ev e room' h =
        let n : tables_of R.tree ≡ need_number need = same_some (sym (ev ∙ ap verdict_of image_is) ∙ ap needed e) in
        let l = ap length R.is in
        let s = size in
        let w = R.slots in
        record {
          tree = R.tree;
          used = length (encode R.tree);
          is =
              ap (decode true 16) (R.is ∙ sym (append_none (encode R.tree)))
              ∙ encode_decodes R.tree _ within.proper within.small within.shallow;
          entries = L.0;
          is_list = L.1;
          enough = omega arith;
          slots = omega arith;
          short = omega arith;
        }

-- the way of `has_value`
pub found_given : (list : List ℕ) (f : Option Stretch) → is_some f ≡ is_given (stretch_of list f)
unfolding stretch_of is_given
found_given list (Some s) = refl
found_given list None = refl

pub same_gives : (P Q : Prepared) (r : Result ℕ Fault) (out out' : List ℕ) → P ≡ Q → Gives Q r out out' → Gives P r out out'
same_gives P Q r out out' e g = subst (λ P. Gives P r out out') (sym e) g

-- the records stand inside the buffer
pub read_within : (text : List ℕ) (r : Result ℕ Fault) (n : ℕ) (before after : List ℕ) → Answers (read_text text) (parsed r) before after → r ≡ Ok n → n ≤ length after
unfolding out_of
read_within text r n before after A e =
    let (t, et, en) = was_got (read_text text) n (sym A.says ∙ ap parsed e) in
    let w : after ≡ encode t ++ drop (length (encode t)) before = A.wrote ∙ ap (λ i. out_of i before) et in
    let l = ap length w ∙ length-append (encode t) (drop (length (encode t)) before) in
    omega arith
