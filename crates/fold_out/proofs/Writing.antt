-- Folded bytes written one piece after another.
use mathlib.Core.Path.{◌≡◌, ap, sym, ◌∙◌, subst}
use mathlib.Core.List.{List, [], ◌++◌}
use Prim.Native.Nat.{ℕ, ◌+◌, ◌-◌, ◌≤◌}
use native.Mathlib.Nat.{add-zero}
use native.Mathlib.Omega.{arith}
use lib.ListN.{length, length-append}
use Rattle.records.specs.Record.{record_of}
use Rattle.records.proofs.There.{length_record}
use Rattle.record_out.specs.Put.{put}
use Rattle.record_out.proofs.Put.{length_put, put_after, put_none, front, head_before}
use Rattle.fold_out.specs.Written.{Fitting, Written}

-- the same bytes by another name
pub same_fitting : (o : ℕ) (v w out : List ℕ) → v ≡ w → Fitting o v out → Fitting o w out
same_fitting o v w out e F = subst (λ v. Fitting o v out) e F

pub same_written : (o : ℕ) (v w : List ℕ) (r : ℕ) (before after : List ℕ) → v ≡ w → Written o v r before after → Written o w r before after
same_written o v w r before after e W = subst (λ v. Written o v r before after) e W

-- an output of the same length
pub other_fitting : (o : ℕ) (v out out' : List ℕ) → length out ≤ length out' → Fitting o v out → Fitting o v out'
other_fitting o v out out' h F = let a = F.fits in record { fits = omega arith; few = F.few }

-- bytes that were written
pub was_written : (o : ℕ) (v : List ℕ) (r : ℕ) (before after : List ℕ) → after ≡ put before o v → r ≡ o + length v → Written o v r before after
was_written o v r before after e h = record { next = h; wrote = e }

pub none_written : (o : ℕ) (before : List ℕ) → Written o [] o before before
none_written o before = record { next = sym (add-zero o); wrote = put_none before o }

-- a record: room for its head and its payload
module _ (o k : ℕ) (v out : List ℕ) (F : Fitting o (record_of k v) out) where
  pub record_room : o + 4 + length v ≤ length out
  record_room = let a = F.fits in let l = length_record k v in omega arith

  pub record_few : length v ≤ 16384
  record_few = let a = F.few in let l = length_record k v in omega arith

  pub payload_fitting : Fitting (o + 4) v out
  payload_fitting = record { fits = record_room; few = record_few }

  pub record_written : (r : ℕ) (after : List ℕ) → after ≡ put out o (record_of k v) → r ≡ o + 4 + length v → Written o (record_of k v) r out after
  record_written r after e h = let l = length_record k v in record { next = omega arith; wrote = e }

  -- the payload, then the head before it
  pub head_written : (end : ℕ) (mid after : List ℕ) → Written (o + 4) v end out mid → after ≡ put mid o (front (end - o - 4) k) → Written o (record_of k v) end out after
  head_written end mid after W e =
      let n = W.next in
      let m : end - o - 4 ≡ length v = omega arith in
      let l = length_record k v in
      record { next = omega arith; wrote = head_before out mid after o k (end - o - 4) v record_room W.wrote m e }

-- two pieces
module _ (o : ℕ) (v w out : List ℕ) (F : Fitting o (v ++ w) out) where
  pub first_fitting : Fitting o v out
  first_fitting = let l = length-append v w in let a = F.fits in let b = F.few in record { fits = omega arith; few = omega arith }

  module _ (end : ℕ) (mid : List ℕ) (W : Written o v end out mid) where
    mid_long : length mid ≡ length out
    mid_long = ap length W.wrote ∙ length_put out o v first_fitting.fits

    pub second_fitting : Fitting end w mid
    second_fitting =
        let l = length-append v w in
        let a = F.fits in
        let b = F.few in
        let n = W.next in
        let m = mid_long in
        record { fits = omega arith; few = omega arith }

    pub both_written : (r : ℕ) (after : List ℕ) → Written end w r mid after → Written o (v ++ w) r out after
    both_written r after X =
        let l = length-append v w in
        let n = W.next in
        let m = X.next in
        record {
          next = omega arith;
          wrote = X.wrote ∙ ap (λ b. put b end w) W.wrote ∙ put_after out o v w end first_fitting.fits n;
        }
