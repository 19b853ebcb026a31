-- A run of what was prepared means the text: for every text, bound list, image that preparing wrote, good run list, output room and work room.
use mathlib.Core.Path.{◌≡◌, refl, ap, ap₂, sym, ◌∙◌, subst}
use mathlib.Core.Bool.{Bool, true, false}
use mathlib.Core.List.{List, ◌++◌}
use Prim.Native.Nat.{ℕ, ◌≤◌}
use native.Mathlib.Omega.{arith}
use lib.Dec.{leb, ltb}
use lib.ListN.{length, take, drop}
use lib.Seq.{take-append_seam}
use borrow.Author.Tests.{le-ltb, leb-true}
use Rattle.common.specs.Choice.{pick}
use Rattle.common.specs.Answer.{Answer, Delivered, refusal, deliver}
use Rattle.common.proofs.Choices.{pick_false}
use Rattle.tree.specs.Tree.{Tree}
use Rattle.tree.specs.Bounds.{Bytes}
use Rattle.tree.specs.Names.{Binding, AllBound}
use Rattle.tree.specs.Reading.{Read}
use Rattle.tree.specs.Reading.Read.{got, wrong}
use Rattle.tree.proofs.Read.{got_wrong, same_number}
use Rattle.meaning.specs.Mean.{mean}
use Rattle.meaning.specs.Real.{Cipher, real}
use Rattle.meaning.specs.Fold.{fold}
use Rattle.meaning.specs.Values.{CipherValued}
use Rattle.meaning.proofs.Meaning.{fold_mean}
use Rattle.meaning.proofs.Left.{no_bound_left, all_folded}
use Rattle.meaning.proofs.Plain.{real_valued}
use Rattle.meaning.proofs.Within.{fold_within}
use Rattle.records.specs.Encode.{encode}
use Rattle.records.specs.Decode.{image_with, image_of}
use Rattle.records.specs.Decode.Image.{image}
use Rattle.records.proofs.Shapes.{pick_all}
use Rattle.records.proofs.There.{image_encode}
use Rattle.lists.specs.Entries.{Entry, Listed, preparing, running, list_of}
use Rattle.lists.specs.Entries.Listed.{listed, bad_list}
use Rattle.lists.specs.Given.{binding_of, running_of}
use Rattle.lists.proofs.Values.{binding_valued}
use Rattle.texts.specs.Spelling.{spell}
use Rattle.texts.specs.Reading.{read_text, ReadingNumber}
use Rattle.texts.specs.Reading.ReadingNumber.{syntax, deep, many, long}
use Rattle.texts.specs.Unbound.{Place, unbound_in}
use Rattle.texts.specs.Unbound.Place.{at, nowhere}
use Rattle.texts.proofs.Numbers as TextNumbers
use Rattle.texts.proofs.Numbers.Outcome.{reads, refuses}
use Rattle.texts.proofs.Exactly.{reads_exactly}
use Rattle.recipe.specs.Outcome.{Outcome, cleared, outcome, in_room}
use Rattle.recipe.specs.Prepare.{Prepared, answer_of, place_of, sized, has, after_scan, after_list, after_read, prepared_of, prepare_of}
use Rattle.recipe.specs.Prepare.Prepared.{made, stopped}
use Rattle.recipe.specs.Run.{meant_with, after_image, ran_of, run_of}
use Rattle.recipe.specs.Keeps.{Keeps}
use Rattle.recipe.proofs.Scan.{scan_exactly}

not_made : {n p : ℕ} {b : List ℕ} → stopped n p ≡ made b → ⊥
not_made e = let z : ◌≡◌ {A = ℕ} 0 1 = cc in omega arith

same_made : {a b : List ℕ} → made a ≡ made b → a ≡ b
same_made e = cc

-- every refusal of preparing has a number
unfoldable pub Numbered : Prepared → Type 0
Numbered (made b) = Unit {0}
Numbered (stopped n p) = n ≡ 0 → ⊥

sized_numbered : (b : List ℕ) → Numbered (sized b)
unfolding sized Numbered
sized_numbered b = pick_all Numbered _ _ _ (λ e. tt) (λ e q. omega arith)

-- reading refuses with 20, 22, 23 or 6
reading_numbers : (n : ℕ) → ReadingNumber n → n ≡ 0 → ⊥
reading_numbers n syntax e = omega arith
reading_numbers n deep e = omega arith
reading_numbers n many e = omega arith
reading_numbers n long e = omega arith

reading_numbered : (text : List ℕ) (n p : ℕ) → TextNumbers.Outcome text → read_text text ≡ wrong n p → n ≡ 0 → ⊥
reading_numbered text n p (reads t e) f q = got_wrong (sym e ∙ f)
reading_numbered text n p (refuses m w k l e) f q = reading_numbers m k (same_number (sym e ∙ f) ∙ q)

-- no unbound `#` in the text is none in the tree
scanned : (K : Binding) (text : List ℕ) (t : Tree) → unbound_in (has K) text ≡ nowhere → text ≡ spell t → AllBound K t
scanned K text t e es = (scan_exactly K t).0 (ap (unbound_in (has K)) (sym es) ∙ e)

module _ (cipher : Cipher) where
  scan_numbered : (K : Binding) (t : Tree) (p : Place) → Numbered (after_scan cipher K t p)
  unfolding after_scan Numbered
  scan_numbered K t (at p) = λ q. omega arith
  scan_numbered K t nowhere = sized_numbered _

  list_numbered : (text : List ℕ) (t : Tree) (l : Listed) → Numbered (after_list cipher text t l)
  unfolding after_list Numbered
  list_numbered text t (listed es) = scan_numbered (binding_of es) t (unbound_in (has (binding_of es)) text)
  list_numbered text t bad_list = λ q. omega arith

  read_numbered : (text list : List ℕ) (r : Read) → read_text text ≡ r → Numbered (after_read cipher text list r)
  unfolding after_read Numbered
  read_numbered text list (got t) e = list_numbered text t (list_of preparing list)
  read_numbered text list (wrong n p) e = reading_numbered text n p (TextNumbers.outcome text) e

  pub prepared_numbered : (text list : List ℕ) → Numbered (prepared_of cipher text list)
  unfolding prepared_of Numbered
  prepared_numbered text list = pick_all Numbered _ _ _ (λ e. read_numbered text list (read_text text) refl) (λ e q. omega arith)

-- what an image that was made says
record Came (cipher : Cipher) (text list bytes : List ℕ) : Type 0 where
  tree : Tree
  is_tree : read_text text ≡ got tree
  entries : List Entry
  is_list : list_of preparing list ≡ listed entries
  all_bound_lem : AllBound (binding_of entries) tree
  is : encode (fold (real cipher) (binding_of entries) tree) ≡ bytes
  size : length (encode (fold (real cipher) (binding_of entries) tree)) ≤ 16384

sized_made : (e b : List ℕ) → sized e ≡ made b → (e ≡ b) × (length e ≤ 16384)
unfolding sized pick
sized_made e b q = go (leb (length e) 16384) refl q
  where
    go : (t : Bool) → leb (length e) 16384 ≡ t → pick t (made e) (stopped 26 0) ≡ made b → (e ≡ b) × (length e ≤ 16384)
    go true h q = (same_made q, leb-true (length e) 16384 h)
    go false h q = absurd (not_made q)

module _ (cipher : Cipher) (text list bytes : List ℕ) where
  came_scan : (t : Tree) (es : List Entry) (p : Place) → read_text text ≡ got t → list_of preparing list ≡ listed es → unbound_in (has (binding_of es)) text ≡ p
      → after_scan cipher (binding_of es) t p ≡ made bytes → Came cipher text list bytes
  unfolding after_scan
  came_scan t es (at p) et el ep e = absurd (not_made e)
  came_scan t es nowhere et el ep e =
      let s = sized_made (encode (fold (real cipher) (binding_of es) t)) bytes e in
      record { tree = t; is_tree = et; entries = es; is_list = el; all_bound_lem = scanned (binding_of es) text t ep ((reads_exactly text t).0 et).0; is = s.0; size = s.1 }

  came_list : (t : Tree) (l : Listed) → read_text text ≡ got t → list_of preparing list ≡ l → after_list cipher text t l ≡ made bytes → Came cipher text list bytes
  unfolding after_list
  came_list t (listed es) et el e = came_scan t es (unbound_in (has (binding_of es)) text) et el refl e
  came_list t bad_list et el e = absurd (not_made e)

  came_read : (r : Read) → read_text text ≡ r → after_read cipher text list r ≡ made bytes → Came cipher text list bytes
  unfolding after_read
  came_read (got t) et e = came_list t (list_of preparing list) et refl e
  came_read (wrong n p) et e = absurd (not_made e)

  came_text : (b : Bool) → pick b (after_read cipher text list (read_text text)) (stopped 21 0) ≡ made bytes → Came cipher text list bytes
  unfolding pick
  came_text true e = came_read (read_text text) refl e
  came_text false e = absurd (not_made e)

  came : prepared_of cipher text list ≡ made bytes → Came cipher text list bytes
  unfolding prepared_of
  came e = came_text (leb (length text) 4096) e

-- an image decodes to the folded tree, and a run of it means the text's tree with both lists
module _ (cipher : Cipher) where
  ran_means : (bytes rows : List ℕ) (es : List Entry) (K : Binding) (t : Tree) → image_of bytes ≡ image (fold (real cipher) K t) → list_of running rows ≡ listed es
      → ran_of cipher bytes rows ≡ mean (real cipher) K (running_of es) t
  unfolding ran_of after_image meant_with
  ran_means bytes rows es K t ei el = rw (ei, el) (fold_mean (real cipher) K (running_of es) t)

  run_in_room : (bytes rows out work : List ℕ) (r : Answer) → ran_of cipher bytes rows ≡ r → 65536 ≤ length work → run_of cipher bytes rows out work ≡ outcome (deliver r out) 0 (cleared work)
  unfolding run_of in_room
  run_in_room bytes rows out work r e h = pick_false _ _ _ (le-ltb _ _ h) ∙ ap (λ r. outcome (deliver r out) 0 (cleared work)) e

module _ (cipher : Cipher) (valued : CipherValued cipher) (text list : List ℕ) (bytesOfList : Bytes list) where
  came_image : (bytes : List ℕ) (M : Came cipher text list bytes) → image_of bytes ≡ image (fold (real cipher) (binding_of M.entries) M.tree)
  unfolding image_of
  came_image bytes M =
      let K : Binding = binding_of M.entries in
      let w = fold_within (real cipher) K (real_valued cipher valued) (binding_valued preparing list M.entries bytesOfList M.is_list) M.tree ((reads_exactly text M.tree).0 M.is_tree).1 in
      subst (λ b. image_with false b ≡ image (fold (real cipher) K M.tree)) M.is
      (image_encode false (fold (real cipher) K M.tree) w (λ e. no_bound_left (real cipher) K M.tree M.all_bound_lem) M.size)

  came_keeps : (bytes : List ℕ) → Came cipher text list bytes → Keeps cipher text list bytes
  came_keeps bytes M =
      record {
        tree = M.tree;
        is_tree = M.is_tree;
        entries = M.entries;
        is_list = M.is_list;
        keeps =
            λ rows es el out work h.
            run_in_room cipher bytes rows out work (mean (real cipher) (binding_of M.entries) (running_of es) M.tree)
            (ran_means cipher bytes rows es (binding_of M.entries) M.tree (came_image bytes M) el) h;
        left = fold (real cipher) (binding_of M.entries) M.tree;
        is_image = came_image bytes M;
        folded = all_folded (real cipher) (binding_of M.entries) M.tree;
        free = no_bound_left (real cipher) (binding_of M.entries) M.tree M.all_bound_lem;
      }

  -- what preparing makes keeps what the text says
  pub made_keeps : (bytes : List ℕ) → prepared_of cipher text list ≡ made bytes → Keeps cipher text list bytes
  made_keeps bytes e = came_keeps bytes (came cipher text list bytes e)

-- done means an image, its length, and its bytes at the front of the output
record Done (P : Prepared) (d : Delivered) : Type 0 where
  image : List ℕ
  is_made : P ≡ made image
  front : take d.count d.out ≡ image

deliver_done : (P : Prepared) (out : List ℕ) → Numbered P → (deliver (answer_of P) out).number ≡ 0 → Done P (deliver (answer_of P) out)
unfolding answer_of deliver Numbered refusal pick
deliver_done (made b) out h e = go (leb (length b) (length out)) e
  where
    go : (t : Bool) → (pick t (record { number = 0; count = length b; out = b ++ drop (length b) out }) (refusal 9 out)).number ≡ 0
        → Done (made b) (pick t (record { number = 0; count = length b; out = b ++ drop (length b) out }) (refusal 9 out))
    go true e = record { image = b; is_made = refl; front = take-append_seam b (drop (length b) out) }
    go false e = absurd (omega arith)
deliver_done (stopped n p) out h e = absurd (h e)

-- an answer in a work room that is large enough
record InRoom (d : Delivered) (x : Outcome) : Type 0 where
  number : d.number ≡ 0
  count : x.count ≡ d.count
  out : x.out ≡ d.out

in_room_lem : (out work : List ℕ) (d : Delivered) (p : ℕ) → (in_room out work d p).number ≡ 0 → InRoom d (in_room out work d p)
unfolding in_room outcome refusal pick
in_room_lem out work d p e = go (ltb (length work) 65536) e
  where
    go : (t : Bool) → (pick t (outcome (refusal 14 out) 0 work) (outcome d p (cleared work))).number ≡ 0 → InRoom d (pick t (outcome (refusal 14 out) 0 work) (outcome d p (cleared work)))
    go true e = absurd (omega arith)
    go false e = record { number = e; count = refl; out = refl }

-- demand 3 whole: if preparing a text with a bound list answers done, the image that it wrote keeps what the text says with both lists
pub prepared_keeps : (cipher : Cipher) → CipherValued cipher → (text list out work : List ℕ) → Bytes list
    → (prepare_of cipher text list out work).number ≡ 0
    → Keeps cipher text list (take (prepare_of cipher text list out work).count (prepare_of cipher text list out work).out)
unfolding prepare_of
prepared_keeps cipher valued text list out work hl e =
    let P : Prepared = prepared_of cipher text list in
    let r = in_room_lem out work (deliver (answer_of P) out) (place_of P) e in
    let d = deliver_done P out (prepared_numbered cipher text list) r.number in
    let same : d.image ≡ take (prepare_of cipher text list out work).count (prepare_of cipher text list out work).out =
    sym d.front ∙ ap₂ (λ (n : ℕ) (l : List ℕ). take n l) (sym r.count) (sym r.out)
    in
    subst (Keeps cipher text list) same (made_keeps cipher valued text list hl d.image d.is_made)
