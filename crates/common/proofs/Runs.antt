-- A loop that stores a run of values from a place on, one after another.
use mathlib.Core.Path.{◌≡◌, refl, sym, ap, ap₂, ◌∙◌, subst}
use mathlib.Core.List.{List, [], ◌∷◌, ◌++◌, append_assoc}
use Prim.Native.Nat.{ℕ, suc, ◌+◌, ◌<◌, ◌≤◌}
use native.Mathlib.Nat.{add-zero}
use native.Mathlib.Numerals.{add-one}
use native.Mathlib.Omega.{arith}
use lib.ListN.{take, drop, length, set, length-set, length-append, take-append-drop}
use lib.Seq.{take-suc-set, drop-set-lt, drop-drop, sets, sets-eq, length-sets, take_at, drop_at, length-take-le}
use Rattle.common.specs.Places.{tab}
use Rattle.common.proofs.Places.{tab_snoc, tab_add, length_tab}

-- o is o₀ with f 0 .. f (i - 1) stored from place `at` on
pub record Run (f : ℕ → ℕ) (at : ℕ) (o₀ : List ℕ) (i : ℕ) (o : List ℕ) : Type 0 where
  pub long : length o ≡ length o₀
  pub front : take (at + i) o ≡ take at o₀ ++ tab i f
  pub back : drop (at + i) o ≡ drop (at + i) o₀

module _ (f : ℕ → ℕ) (at : ℕ) (o₀ : List ℕ) where
  pub run_none : Run f at o₀ 0 o₀
  unfolding tab
  run_none =
      record {
        long = refl;
        front = ap (λ n. take n o₀) (add-zero at) ∙ sym (append_nil (take at o₀));
        back = refl;
      }
    where
      append_nil : (l : List ℕ) → l ++ [] ≡ l
      append_nil [] = refl
      append_nil (x ∷ l) = ap (λ k. x ∷ k) (append_nil l)

  -- one more is stored
  pub run_more : (i : ℕ) (o : List ℕ) (v : ℕ) → Run f at o₀ i o → at + i < length o₀ → v ≡ f i → Run f at o₀ (i + 1) (set o (at + i) v)
  run_more i o v r h e =
      record {
        long = length-set o (at + i) v ∙ r.long;
        front =
            ap (λ n. take n (set o (at + i) v)) next ∙ take-suc-set o (at + i) v (subst (λ n. at + i < n) (sym r.long) h)
            ∙ ap₂ (λ (x : List ℕ) (y : ℕ). x ++ (y ∷ [])) r.front e
            ∙ append_assoc (take at o₀) (tab i f) (f i ∷ []) ∙ ap (λ x. take at o₀ ++ x) (sym (tab_snoc i f) ∙ ap (λ n. tab n f) (sym (add-one i)));
        back =
            drop-set-lt (at + (i + 1)) o (at + i) v (omega arith)
            ∙ ap (λ n. drop n o) (sym one) ∙ sym (drop-drop 1 (at + i) o) ∙ ap (drop 1) r.back ∙ drop-drop 1 (at + i) o₀ ∙ ap (λ n. drop n o₀) one;
      }
    where
      next : at + (i + 1) ≡ suc (at + i)
      next = omega arith

      one : at + i + 1 ≡ at + (i + 1)
      one = omega arith

  -- the whole afterwards
  pub run_whole : (i : ℕ) (o : List ℕ) → Run f at o₀ i o → o ≡ take at o₀ ++ (tab i f ++ drop (at + i) o₀)
  run_whole i o r =
      sym (take-append-drop (at + i) o) ∙ ap₂ (λ (x y : List ℕ). x ++ y) r.front r.back ∙ append_assoc (take at o₀) (tab i f) (drop (at + i) o₀)

-- m more are stored at once
pub run_sets : (f : ℕ → ℕ) (at : ℕ) (o₀ : List ℕ) (i m : ℕ) (o o' vs : List ℕ) → Run f at o₀ i o → at + (i + m) ≤ length o₀ → length vs ≡ m → vs ≡ tab m (λ k. f (i + k))
    → o' ≡ sets o (at + i) vs → Run f at o₀ (i + m) o'
run_sets f at o₀ i m o o' vs r h lv ev e =
    record {
      long = ap length e ∙ length-sets o (at + i) vs ∙ r.long;
      front =
          ap (take (at + (i + m))) whole ∙ take_at (take at o₀ ++ tab (i + m) f) (drop (at + (i + m)) o₀) (at + (i + m)) front_long;
      back = ap (drop (at + (i + m))) whole ∙ drop_at (take at o₀ ++ tab (i + m) f) (drop (at + (i + m)) o₀) (at + (i + m)) front_long;
    }
  where
    front_long : length (take at o₀ ++ tab (i + m) f) ≡ at + (i + m)
    front_long = length-append (take at o₀) (tab (i + m) f) ∙ ap₂ (λ (x y : ℕ). x + y) (length-take-le at o₀ (omega arith)) (length_tab (i + m) f)

    past : drop (at + i + length vs) o ≡ drop (at + (i + m)) o₀
    past =
        ap (λ n. drop (at + i + n) o) lv ∙ sym (drop-drop m (at + i) o) ∙ ap (drop m) r.back ∙ drop-drop m (at + i) o₀ ∙ ap (λ n. drop n o₀) sum
      where
        sum : at + i + m ≡ at + (i + m)
        sum = omega arith

    whole : o' ≡ (take at o₀ ++ tab (i + m) f) ++ drop (at + (i + m)) o₀
    whole =
        e ∙ sets-eq vs o (at + i) (omega (arith, lv, r.long))
        ∙ ap₂ (λ (x y : List ℕ). x ++ vs ++ y) r.front past
        ∙ ap (λ x. x ++ drop (at + (i + m)) o₀) (append_assoc (take at o₀) (tab i f) vs ∙ ap (λ x. take at o₀ ++ x) (ap (λ x. tab i f ++ x) ev ∙ sym (tab_add i m f)))
