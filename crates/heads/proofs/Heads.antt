-- A record's head from the bytes at a place.
use mathlib.Core.Path.{◌≡◌, refl, ap, sym, ◌∙◌}
use mathlib.Core.Bool.{Bool, true, false}
use mathlib.Core.List.{List}
use Rattle.std.specs.Prelude.{Some, None}
use Prim.Native.Nat.{ℕ, ◌+◌, ◌-◌, ◌<◌, ◌≤◌}
use native.Mathlib.Omega.{arith}
use native.Mathlib.Nat.{add-zero}
use lib.Dec.{ltb}
use lib.ListN.{length, take, drop, length-drop, length-take}
use lib.Seq.{get_or-drop, drop-drop}
use borrow.Author.Tests.{lt-ltb, le-ltb, ltb-false}
use Rattle.common.specs.Choice.{pick}
use Rattle.common.proofs.Choices.{pick_true, pick_false}
use Rattle.records.specs.Record.{word, Front, front_of}
use Rattle.records.specs.Record.Front.{front, cut}
use Rattle.heads.specs.declared.Head.{Head}
use Rattle.heads.specs.Head.{headed, head_of, head_at}

-- too few bytes for a head
pub too_few : (s : List ℕ) (at : ℕ) → length s - at < 4 → None ≡ head_at s at
unfolding head_at front_of head_of
too_few s at h = ap head_of (sym (pick_true _ _ _ (lt-ltb (length (drop at s)) 4 (simp length-drop (omega arith)))))

pub word_drop : (s : List ℕ) (at i : ℕ) → word (drop at s) i ≡ word s (at + i)
word_drop s at i = rw (get_or-drop, get_or-drop, assoc)
  where
    assoc : at + (i + 1) ≡ (at + i) + 1
    assoc = omega arith

-- the payload runs over the end
pub runs_over : (s : List ℕ) (at n : ℕ) → 4 ≤ length s - at → n ≡ word s at → length s - at - 4 < n → None ≡ head_at s at
unfolding head_at front_of head_of
runs_over s at n h e o =
    let l : length (drop at s) ≡ length s - at = length-drop at s in
    let w : word (drop at s) 0 ≡ n = word_drop s at 0 ∙ ap (word s) (add-zero at) ∙ sym e in
    ap head_of (sym (pick_false _ _ _ (le-ltb (length (drop at s)) 4 (omega arith)) ∙ pick_true _ _ _ (lt-ltb (length (drop at s) - 4) (word (drop at s) 0) (omega arith))))

-- a whole record
pub whole : (s : List ℕ) (at n k : ℕ) → 4 ≤ length s - at → n ≡ word s at → k ≡ word s (at + 2) → n ≤ length s - at - 4 → headed k n ≡ head_at s at
unfolding head_at front_of head_of
whole s at n k h e f o =
    let l : length (drop at s) ≡ length s - at = length-drop at s in
    let w : word (drop at s) 0 ≡ n = word_drop s at 0 ∙ ap (word s) (add-zero at) ∙ sym e in
    let v : word (drop at s) 2 ≡ k = word_drop s at 2 ∙ sym f in
    let m : length (take (word (drop at s) 0) (drop 4 (drop at s))) ≡ n = simp (length-take, length-drop) (omega arith) in
    sym (ap head_of (pick_false _ _ _ (le-ltb (length (drop at s)) 4 (omega arith)) ∙ pick_false _ _ _ (le-ltb (length (drop at s) - 4) (word (drop at s) 0) (omega arith)))
    ∙ rw (v, m))

no_front : {k : ℕ} {v : List ℕ} → cut ≡ front k v → ⊥
no_front e = let z : ◌≡◌ {A = ℕ} 0 1 = cc in omega arith

no_record : {k n : ℕ} → None ≡ headed k n → ⊥
no_record e = let z : ◌≡◌ {A = ℕ} 0 1 = cc in omega arith

pick_whole : (b : Bool) (f : Front) {k : ℕ} {v : List ℕ} → pick b cut f ≡ front k v → (b ≡ false) × (f ≡ front k v)
unfolding pick
pick_whole true f e = absurd (no_front e)
pick_whole false f e = (refl, e)

same_payload : {k j : ℕ} {v w : List ℕ} → front k v ≡ front j w → v ≡ w
same_payload e = cc

-- what a whole record says of the bytes
pub record Whole (s : List ℕ) (v : List ℕ) : Type 0 where
  pub room : 4 + length v ≤ length s
  pub payload : v ≡ take (length v) (drop 4 s)

whole_made : (s : List ℕ) (n : ℕ) (v : List ℕ) → 4 ≤ length s → n ≤ length s - 4 → take n (drop 4 s) ≡ v → Whole s v
whole_made s n v h o e =
    let m : length (take n (drop 4 s)) ≡ n = simp (length-take, length-drop) (omega arith) in
    let l : n ≡ length v = sym m ∙ ap length e in
    record { room = omega arith; payload = sym e ∙ ap (λ i. take i (drop 4 s)) l }

pub front_whole : (s : List ℕ) (k : ℕ) (v : List ℕ) → front_of s ≡ front k v → Whole s v
unfolding front_of
front_whole s k v e =
    let (a, e1) = pick_whole (ltb (length s) 4) (pick (ltb (length s - 4) (word s 0)) cut (front (word s 2) (take (word s 0) (drop 4 s)))) e in
    let (b, e2) = pick_whole (ltb (length s - 4) (word s 0)) (front (word s 2) (take (word s 0) (drop 4 s))) e1 in
    whole_made s (word s 0) v (ltb-false (length s) 4 a) (ltb-false (length s - 4) (word s 0) b) (same_payload e2)

of_some : {g h : Head} → Some g ≡ Some h → g ≡ h
of_some e = cc

pub same_head : (k n j m : ℕ) → headed k n ≡ headed j m → (k ≡ j) × (n ≡ m)
same_head k n j m e = let h = of_some e in (ap (λ (h : Head). h.kind) h, ap (λ (h : Head). h.length) h)

pub headed_as : (h : Head) (k n : ℕ) → h.kind ≡ k → h.length ≡ n → Some h ≡ headed k n
headed_as h k n a b = ap (λ i. headed i h.length) a ∙ ap (headed k) b

head_record : (f : Front) (k n : ℕ) → head_of f ≡ headed k n → (v : List ℕ) × (f ≡ front k v) × (length v ≡ n)
unfolding head_of
head_record (front j v) k n e = let (a, b) = same_head j (length v) k n e in (v, ap (λ i. front i v) a, b)
head_record cut k n e = absurd (no_record e)

head_cut : (f : Front) → head_of f ≡ None → f ≡ cut
unfolding head_of
head_cut (front j v) e = absurd (no_record (sym e))
head_cut cut e = refl

-- a whole record stands at a place
pub record Stands (s : List ℕ) (at k n : ℕ) : Type 0 where
  pub held : List ℕ
  pub is : front_of (drop at s) ≡ front k held
  pub size : length held ≡ n
  pub room : at + 4 + n ≤ length s
  pub stretch : held ≡ take n (drop (at + 4) s)

stands_made : (s : List ℕ) (at k n : ℕ) (v : List ℕ) → front_of (drop at s) ≡ front k v → length v ≡ n → Whole (drop at s) v → Stands s at k n
stands_made s at k n v e l w =
    let d : length (drop at s) ≡ length s - at = length-drop at s in
    let r : 4 + length v ≤ length (drop at s) = w.room in
    record { held = v; is = e; size = l; room = omega arith; stretch = w.payload ∙ rw (l, drop-drop) }

pub head_stands : (s : List ℕ) (at k n : ℕ) → head_at s at ≡ headed k n → Stands s at k n
unfolding head_at
head_stands s at k n e =
    let (v, ef, el) = head_record (front_of (drop at s)) k n e in
    stands_made s at k n v ef el (front_whole (drop at s) k v ef)

pub head_none : (s : List ℕ) (at : ℕ) → head_at s at ≡ None → front_of (drop at s) ≡ cut
unfolding head_at
head_none s at e = head_cut (front_of (drop at s)) e
