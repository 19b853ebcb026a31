-- In a good list, walking its bytes finds what its entries give.
use mathlib.Core.Path.{◌≡◌, refl, ap, sym, ◌∙◌, subst}
use mathlib.Core.Bool.{Bool}
use mathlib.Core.List.{List, [], ◌∷◌, ◌++◌}
use Prim.Native.Nat.{ℕ, zero, suc, ◌+◌, ◌≤◌}
use native.Mathlib.Omega.{arith}
use lib.Dec.{eqb}
use lib.ListN.{length, drop, length-append}
use lib.Seq.{drop_at}
use Rattle.common.specs.Choice.{pick}
use Rattle.tree.specs.Bounds.{Bytes}
use Rattle.tree.specs.Names.Given.{given, nothing}
use Rattle.records.specs.Record.{record_of, front_of}
use Rattle.records.proofs.There.{length_record, front_record}
use Rattle.lists.specs.Entries.{Entry, list_of}
use Rattle.lists.specs.Entries.Listed.{listed}
use Rattle.lists.specs.Given.{value_of}
use Rattle.lists.specs.Good.{spell_list}
use Rattle.lists.specs.Seek.{if_kind, seek}
use Rattle.lists.proofs.Exactly.{list_exactly}

seek_nothing : (n k : ℕ) → seek n [] k ≡ nothing
unfolding seek if_kind front_of pick
seek_nothing zero k = refl
seek_nothing (suc n) k = refl

seek_step : (n j : ℕ) (v r : List ℕ) (k : ℕ) → seek (suc n) (record_of j v ++ r) k ≡ pick (eqb j k) (given v) (seek n r k)
unfolding seek if_kind
seek_step n j v r k =
    ap (λ m. if_kind k m (λ w. seek n (drop (4 + length w) (record_of j v ++ r)) k)) (front_record j v r)
    ∙ ap (λ l. pick (eqb j k) (given v) (seek n l k)) (drop_at (record_of j v) r (4 + length v) (length_record j v))

seek_entries : (es : List Entry) (n k : ℕ) → length (spell_list es) ≤ n → seek n (spell_list es) k ≡ value_of es k
unfolding spell_list value_of
seek_entries [] n k h = seek_nothing n k
seek_entries (x ∷ es) zero k h =
    let len = length-append (record_of x.kind x.held) (spell_list es) in
    let rec = length_record x.kind x.held in
    absurd (omega arith)
seek_entries (x ∷ es) (suc n) k h =
    let len = length-append (record_of x.kind x.held) (spell_list es) in
    let rec = length_record x.kind x.held in
    seek_step n x.kind x.held (spell_list es) k ∙ ap (pick (eqb x.kind k) (given x.held)) (seek_entries es n k (omega arith))

-- what walking finds is what the list gives
pub seek_value : (taken : ℕ → Bool) (s : List ℕ) (es : List Entry) → Bytes s → list_of taken s ≡ listed es → (n k : ℕ) → length s ≤ n → seek n s k ≡ value_of es k
seek_value taken s es hs e n k h =
    let is : s ≡ spell_list es = ((list_exactly taken s es hs).0 e).0 in
    subst (λ l. length l ≤ n → seek n l k ≡ value_of es k) (sym is) (seek_entries es n k) h
