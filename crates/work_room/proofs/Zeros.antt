-- A room cleared stretch by stretch.
use mathlib.Core.List.{List, ◌++◌, append_assoc}
use mathlib.Core.Path.{◌≡◌, refl, sym, ap, ap₂, ◌∙◌}
use Prim.Native.Nat.{ℕ, ◌+◌, ◌-◌, ◌≤◌}
use native.Mathlib.Omega.{arith}
use lib.ListN.{length, take, drop, replicate, length-replicate, replicate-append-replicate}
use lib.Seq.{take_at, drop_at, drop-drop}
use borrow.Rule.Slice.PartMut.{mid_of, put_mid, mid_len, same_len_mid}
use Rattle.recipe.specs.Outcome.{zeroed}

-- the first i bytes of d are zero in o
pub record Zeroed (d : List ℕ) (i : ℕ) (o : List ℕ) : Type 0 where
  pub long : length o ≡ length d
  pub is : o ≡ zeroed i d

pub zero_none : (d : List ℕ) → Zeroed d 0 d
unfolding zeroed
zero_none d = record { long = refl; is = refl }

-- the next stretch filled with zeros
pub zero_more : {d : List ℕ} {at : ℕ} {o : List ℕ} (e m : ℕ) (ys : List ℕ) → Zeroed d at o → m ≡ e → at ≤ e → e ≤ length o → ys ≡ replicate (length (mid_of at (e - at) o)) 0 → Zeroed d m (put_mid at (e - at) o ys)
unfolding zeroed
zero_more {d} {at} {o} e m ys z i h l y =
    record {
      long = same_len_mid at (e - at) o ys (ap length y ∙ length-replicate (length (mid_of at (e - at) o)) 0) ∙ z.long;
      is =
          ap₂ (λ (x w : List ℕ). x ++ w) front (ap₂ (λ (x w : List ℕ). x ++ drop (e - at) w) (y ∙ ap (λ n. replicate n 0) (mid_len at e o l)) back)
          ∙ sym (append_assoc (replicate at 0) (replicate (e - at) 0) (drop (e - at) (drop at d)))
          ∙ ap₂ (λ (x w : List ℕ). x ++ w) (replicate-append-replicate at (e - at) 0) (drop-drop (e - at) at d)
          ∙ ap (λ n. zeroed n d) end;
    }
  where
    front : take at o ≡ replicate at 0
    front = ap (take at) z.is ∙ take_at (replicate at 0) (drop at d) at (length-replicate at 0)

    back : drop at o ≡ drop at d
    back = ap (drop at) z.is ∙ drop_at (replicate at 0) (drop at d) at (length-replicate at 0)

    end : at + (e - at) ≡ m
    end = omega arith

-- what stood in the first n bytes leaves no trace
pub zeroed_same : (n : ℕ) (w v : List ℕ) → drop n w ≡ drop n v → zeroed n w ≡ zeroed n v
unfolding zeroed
zeroed_same n w v e = ap (λ x. replicate n 0 ++ x) e
