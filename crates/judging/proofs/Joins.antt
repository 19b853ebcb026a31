-- What the checks tell of a cell's answer and of its delivery.
use mathlib.Core.Bool.{Bool, true, false}
use mathlib.Core.Path.{◌≡◌, refl, sym, ap, ◌∙◌, subst}
use mathlib.Core.List.{List, ◌++◌}
use Prim.Native.Nat.{ℕ, ◌<◌, ◌≤◌}
use native.Mathlib.Omega.{arith}
use borrow.Author.Tests.{ltb-true, ltb-false, le-leb}
use lib.Dec.{ltb}
use lib.ListN.{length, drop}
use Rattle.std.proofs.Common.{Option, Some, None, Result, Ok, Err}
use Rattle.common.specs.Choice.{pick}
use Rattle.common.specs.Answer.{Value, Answer, deliver, refusal}
use Rattle.common.specs.Answer.Answer.{value, refused}
use Rattle.common.proofs.Delivering.{deliver_short}
use Rattle.suites.specs.Suites.{suite_of, block_bytes}
use Rattle.suites.specs.declared.Suite.{Suite}
use Rattle.modes.specs.Stream as Stream
use Rattle.modes.specs.Fill.{fill, unfill}
use Rattle.modes.specs.Cell.{Call, side_of, shape_of, key_wrong, iv_wrong, text_empty, text_long, text_partial, tag_wrong, wraps, made, sealing, opening, checked, cell}
use Rattle.modes.proofs.Stream.{length_gamma, length_cfb, length_uncfb}
use Rattle.modes.proofs.Chain.{length_cbc, length_uncbc}
use Rattle.modes.proofs.Fill.{not_both, length_fill, unfill_either}
use Rattle.modes.proofs.Suites.{cipher_of}
use Rattle.modes.proofs.Checks.{Past, Ordered, each_answer, passed}
use Rattle.modes.proofs.Cell.{Makes, ctr_makes, cell_known, cell_unknown}
use Rattle.modes.proofs.Mac.{mac_bytes, chk_either}
use Rattle.judging.specs.Order.{length_before, judged_for, judged_named, judged_of}
use Rattle.judging.specs.Cleared.{Cleared}
use Rattle.answers.specs.declared.Refusal.{Refusal}
use Rattle.answers.specs.declared.Refusal.TheVariants as refusals
use Rattle.answers.specs.Told.{table}

-- ---- the length of what is made

-- a value of the length that the text's length tells
pub record Long (a : Answer) (n : ℕ) : Type 0 where
  pub what : Value
  pub is : a ≡ value what
  pub long : length what ≡ n

long_as : (a : Answer) (v : Value) (n : ℕ) → a ≡ value v → length v ≡ n → Long a n
long_as a v n e l = record { what = v; is = e; long = l }

module _ (n : ℕ) (s : Suite) (key side text : Value) (k : suite_of n ≡ Some s) where
  pub made_long : (f : Call) → Past f s key side text → (f ≡ Call.uncbp → ⊥) → Long (Makes f s key side text) (length_before f (block_bytes s) (length text))
  unfolding shape_of made length_before
  made_long Call.blk p h = long_as _ _ _ refl ((cipher_of n s key k).sealed text).long
  made_long Call.unblk p h = long_as _ _ _ refl ((cipher_of n s key k).opened text).long
  made_long Call.ctr p h = long_as _ _ _ (ctr_makes n s key side text k p.text_short) (unfold Stream.ctr in length_gamma _ _ _ text)
  made_long Call.ofb p h = long_as _ _ _ refl (unfold Stream.ofb in length_gamma _ _ _ text)
  made_long Call.cfb p h = long_as _ _ _ refl (length_cfb (block_bytes s) (sealing s key) side text)
  made_long Call.uncfb p h = long_as _ _ _ refl (length_uncfb (block_bytes s) (sealing s key) side text)
  made_long Call.cbc p h = long_as _ _ _ refl (length_cbc (block_bytes s) (sealing s key) side text)
  made_long Call.uncbc p h = long_as _ _ _ refl (length_uncbc (block_bytes s) (opening s key) side text)
  made_long Call.cbp p h =
      long_as _ _ _ refl (length_cbc (block_bytes s) (sealing s key) side (fill (block_bytes s) text) ∙ length_fill (block_bytes s) text (cipher_of n s key k).positive)
  made_long Call.uncbp p h = absurd (h refl)
  made_long Call.mac p h = long_as _ _ _ refl (mac_bytes (block_bytes s) (sealing s key) text (cipher_of n s key k).sealed).long
  made_long Call.chk p h =
      long_as _ _ _ refl (chk_either (block_bytes s) (sealing s key) side text (λ v. length v ≡ 1) refl refl)

-- ---- refused by lengths

-- one that holds it
pub deliver_fits : (v out after : List ℕ) (n : ℕ) → length v ≡ n → n ≤ length out → after ≡ v ++ drop n out
    → deliver (value v) out ≡ record { number = 0; count = n; out = after }
unfolding deliver pick
deliver_fits v out after n l h e =
    ap (λ b. pick b (record { number = 0; count = length v; out = v ++ drop (length v) out }) (refusal 9 out)) (le-leb (length v) (length out) (omega arith))
    ∙ ap (λ m. record { number = 0; count = m; out = v ++ drop m out }) l
    ∙ ap (λ o. record { number = 0; count = n; out = o }) (sym e)

-- ---- past the checks

-- what is left to a call to refuse: 8 and 13
made_high : (f : Call) (B : ℕ) (E D : List ℕ → List ℕ) (side text : Value) (m : ℕ) → made f B E D side text ≡ refused m → 8 ≤ m
unfolding made unfill pick
made_high Call.blk B E D side text m e = absurd (not_both m _ (sym e))
made_high Call.unblk B E D side text m e = absurd (not_both m _ (sym e))
made_high Call.ctr B E D side text m e = go (wraps B (E side) (length text)) e
  where
    inj : (a b : ℕ) → refused a ≡ refused b → a ≡ b
    inj a b q = cc

    go : (w : Bool) → pick w (refused 13) (value (Stream.ctr B E side text)) ≡ refused m → 8 ≤ m
    go true q = omega (arith, inj 13 m q)
    go false q = absurd (not_both m _ (sym q))
made_high Call.ofb B E D side text m e = absurd (not_both m _ (sym e))
made_high Call.cfb B E D side text m e = absurd (not_both m _ (sym e))
made_high Call.uncfb B E D side text m e = absurd (not_both m _ (sym e))
made_high Call.cbc B E D side text m e = absurd (not_both m _ (sym e))
made_high Call.uncbc B E D side text m e = absurd (not_both m _ (sym e))
made_high Call.cbp B E D side text m e = absurd (not_both m _ (sym e))
made_high Call.uncbp B E D side text m e = omega (arith, unfill_either _ _ _ m e)
made_high Call.mac B E D side text m e = absurd (not_both m _ (sym e))
made_high Call.chk B E D side text m e = absurd (not_both m _ (sym e))

-- where no check refuses, each is met
settled : (f : Call) (s : Suite) (key side text : Value) → ((m : ℕ) → checked f s key side text ≡ refused m → 8 ≤ m) → Past f s key side text
settled f s key side text =
    each_answer f s key side text (λ a. ((m : ℕ) → a ≡ refused m → 8 ≤ m) → Past f s key side text)
    (λ _ h. low 2 (omega arith) h)
    (λ _ _ h. low 3 (omega arith) h)
    (λ _ _ _ h. low 4 (omega arith) h)
    (λ _ _ _ _ h. low 6 (omega arith) h)
    (λ _ _ _ _ _ h. low 5 (omega arith) h)
    (λ _ _ _ _ _ _ h. low 7 (omega arith) h)
    (λ p _. p)
  where
    low : (x : ℕ) → x < 8 → ((m : ℕ) → refused x ≡ refused m → 8 ≤ m) → Past f s key side text
    low x l h = let z : ⊥ = omega (arith, h x refl) in absurd z

-- what a judgement owes: a refusal is what is delivered; else the call is past every check, and the output has room for what it makes
pub record Refuses (a : Answer) (out : List ℕ) (m : ℕ) : Type 0 where
  pub delivered : deliver a out ≡ refusal m out

pub record Passes (f : Call) (s : Suite) (key side text : Value) (out : List ℕ) : Type 0 where
  pub past : Past f s key side text
  pub room : length_before f (block_bytes s) (length text) ≤ length out

abbrev pub Owes : (a : Answer) (f : Call) (s : Suite) (key side text : Value) (out : List ℕ) → Result Suite Refusal → Type 0
Owes a f s key side text out (Err r) = Refuses a out (table r)
Owes a f s key side text out (Ok x) = (x ≡ s) × Passes f s key side text out

-- two chains of the same tests
both_orders : (P : Answer → Result Suite Refusal → Type 0) (t2 t3 t4 t6 t5 t7 : Bool) (a : Answer) (j : Result Suite Refusal) → ((r : Refusal) → P (refused (table r)) (Err r))
    → (Ordered t2 t3 t4 t6 t5 t7 a ≡ a → P a j)
    → P (Ordered t2 t3 t4 t6 t5 t7 a) (pick t2 (Err refusals.Key) (pick t3 (Err refusals.Iv) (pick t4 (Err refusals.Empty) (pick t6 (Err refusals.Long) (pick t5 (Err refusals.Partial) (pick t7 (Err refusals.Tag) j))))))
unfolding pick table
both_orders P true t3 t4 t6 t5 t7 a j r h = r refusals.Key
both_orders P false true t4 t6 t5 t7 a j r h = r refusals.Iv
both_orders P false false true t6 t5 t7 a j r h = r refusals.Empty
both_orders P false false false true t5 t7 a j r h = r refusals.Long
both_orders P false false false false true t7 a j r h = r refusals.Partial
both_orders P false false false false false true a j r h = r refusals.Tag
both_orders P false false false false false false a j r h = h refl

-- the room: `uncbp` has none to ask for beforehand
room_owes : (n : ℕ) (f : Call) (s : Suite) (key side text : Value) (out : List ℕ) → suite_of n ≡ Some s → Past f s key side text → (b : Bool)
    → ltb (length out) (length_before f (block_bytes s) (length text)) ≡ b → Owes (Makes f s key side text) f s key side text out (pick b (Err refusals.Room) (Ok s))
unfolding pick table
room_owes n f s key side text out k p true e = record { delivered = short }
  where
    less : length out < length_before f (block_bytes s) (length text)
    less = ltb-true _ _ e

    some : f ≡ Call.uncbp → ⊥
    some q = let z : ⊥ = omega (arith, subst (λ g. length out < length_before g (block_bytes s) (length text)) q less, none) in absurd z
      where
        none : length_before Call.uncbp (block_bytes s) (length text) ≡ 0
        none = unfold length_before in refl

    l : Long (Makes f s key side text) (length_before f (block_bytes s) (length text))
    l = made_long n s key side text k f p some

    short : deliver (Makes f s key side text) out ≡ refusal 9 out
    short = ap (λ a. deliver a out) l.is ∙ deliver_short l.what out (omega (arith, l.long, less))
room_owes n f s key side text out k p false e = (refl, record { past = p; room = ltb-false _ _ e })

refuses : (out : List ℕ) (r : Refusal) → Refuses (refused (table r)) out (table r)
unfolding deliver
refuses out r = record { delivered = refl }

pub judged_owes : (n : ℕ) (f : Call) (s : Suite) (key side text : Value) (out : List ℕ) → suite_of n ≡ Some s
    → Owes (checked f s key side text) f s key side text out (judged_for f s (length key) (length side) (length text) (length out))
unfolding checked judged_for
judged_owes n f s key side text out k =
    both_orders (λ a j. Owes a f s key side text out j) (key_wrong s (length key)) (iv_wrong (side_of f) (block_bytes s) (length side)) (text_empty (shape_of f) (length text))
    (text_long (shape_of f) (block_bytes s) (length text)) (text_partial (shape_of f) (block_bytes s) (length text))
    (tag_wrong (side_of f) (block_bytes s) (length side)) (Makes f s key side text) _ (refuses out)
    (λ e. room_owes n f s key side text out k (settled f s key side text (λ m q. made_high f _ _ _ side text m (sym e ∙ q))) (ltb (length out) (length_before f (block_bytes s) (length text))) refl)

-- ---- the same of a suite number

-- the number of a refusal is what the cell delivers
pub judged_refused : (f : Call) (n : ℕ) (key side text : Value) (out : List ℕ) (r : Refusal) → judged_of f n (length key) (length side) (length text) (length out) ≡ Err r
    → deliver (cell f n key side text) out ≡ refusal (table r) out
unfolding judged_of judged_named deliver table
judged_refused f n key side text out r e = go (suite_of n) refl e
  where
    one : (a b : Refusal) → ◌≡◌ {A = Result Suite Refusal} (Err a) (Err b) → a ≡ b
    one a b q = cc

    go : (x : Option Suite) → suite_of n ≡ x → judged_named f x (length key) (length side) (length text) (length out) ≡ Err r → deliver (cell f n key side text) out ≡ refusal (table r) out
    go (Some s) k q =
        ap (λ a. deliver a out) (cell_known f n s key side text k)
        ∙ (subst (Owes (checked f s key side text) f s key side text out) q (judged_owes n f s key side text out k)).delivered
    go None k q = ap (λ a. deliver a out) (cell_unknown f n key side text k) ∙ ap (λ i. refusal (table i) out) (one refusals.Suite r q)

-- past the checks
pub judged_fine : (f : Call) (n : ℕ) (s : Suite) (key side text : Value) (out : List ℕ) → judged_of f n (length key) (length side) (length text) (length out) ≡ Ok s
    → (suite_of n ≡ Some s) × Cleared f s (length key) (length side) (length text) (length out)
unfolding judged_of judged_named
judged_fine f n s key side text out e = go (suite_of n) refl e
  where
    never : (r : Refusal) → ◌≡◌ {A = Result Suite Refusal} (Err r) (Ok s) → ⊥
    never r q = let z : ◌≡◌ {A = ℕ} 0 1 = cc in omega arith

    go : (x : Option Suite) → suite_of n ≡ x → judged_named f x (length key) (length side) (length text) (length out) ≡ Ok s
        → (suite_of n ≡ Some s) × Cleared f s (length key) (length side) (length text) (length out)
    go (Some x) k q = at (subst (Owes (checked f x key side text) f x key side text out) q (judged_owes n f x key side text out k)).0
      where
        at : s ≡ x → (suite_of n ≡ Some s) × Cleared f s (length key) (length side) (length text) (length out)
        at es = (k ∙ ap Some (sym es), record { number = n; known = k ∙ ap Some (sym es); fine = ap (λ y. judged_for f y (length key) (length side) (length text) (length out)) es ∙ q })
    go None k q = absurd (never refusals.Suite q)

-- what being past them gives
pub cleared_passes : (f : Call) (s : Suite) (key side text : Value) (out : List ℕ) → Cleared f s (length key) (length side) (length text) (length out) → Passes f s key side text out
cleared_passes f s key side text out c =
    (subst (Owes (checked f s key side text) f s key side text out) c.fine (judged_owes c.number f s key side text out c.known)).1

-- and what the cell then answers
pub cleared_cell : (f : Call) (n : ℕ) (s : Suite) (key side text : Value) (out : List ℕ) → suite_of n ≡ Some s → Cleared f s (length key) (length side) (length text) (length out)
    → cell f n key side text ≡ Makes f s key side text
cleared_cell f n s key side text out k c = cell_known f n s key side text k ∙ passed f s key side text (cleared_passes f s key side text out c).past
