-- An output that is written from its front on.
use mathlib.Core.Path.{◌≡◌, refl, sym, ap, ap₂, ◌∙◌, subst}
use mathlib.Core.List.{List, ◌++◌, append_assoc}
use Prim.Native.Nat.{ℕ, ◌+◌, ◌*◌, ◌<◌, ◌≤◌}
use native.Mathlib.Nat.{zero-mul}
use native.Mathlib.Omega.{arith}
use lib.ListN.{take, drop, length, length-append, take-append-drop}
use lib.Seq.{take_at, drop_at, drop-drop, length-take-le}
use Rattle.common.specs.Places.{tab}
use Rattle.common.proofs.Places.{tab_add, tab_ext, length_tab}
use Rattle.stream_laws.specs.Gammas.{added, Written}
use Rattle.stream_laws.proofs.Widths.{next_at}
use Rattle.modes.specs.Stream.{add_gamma}

pub written_none : (f : ℕ → ℕ) (o : List ℕ) → Written f 0 o o
unfolding tab
written_none f o = record { long = refl; front = refl; back = refl }

-- no block of B bytes, and one more
pub written_no_block : (f : ℕ → ℕ) (B : ℕ) (o : List ℕ) → Written f (0 * B) o o
written_no_block f B o = subst (λ n. Written f n o o) (sym (zero-mul B)) (written_none f o)

pub written_block : (f : ℕ → ℕ) (B i : ℕ) (o o' : List ℕ) → Written f (i * B + B) o o' → Written f ((i + 1) * B) o o'
written_block f B i o o' = subst (λ n. Written f n o o') (next_at B i (i * B) refl)

-- m more bytes
pub written_more : (f g : ℕ → ℕ) (k m : ℕ) (o₀ o o' : List ℕ) → Written f k o₀ o → o' ≡ take k o ++ (tab m g ++ drop (k + m) o) → k + m ≤ length o₀
    → ((i : ℕ) → i < m → g i ≡ f (k + i)) → Written f (k + m) o₀ o'
written_more f g k m o₀ o o' w e r h =
    record {
      long = ap length whole ∙ length-append (tab (k + m) f) (drop (k + m) o) ∙ sym (length-append (take (k + m) o) (drop (k + m) o) ∙ ap (λ n. n + length (drop (k + m) o)) (length-take-le (k + m) o (omega (arith, w.long))) ∙ ap (λ n. n + length (drop (k + m) o)) (sym (length_tab (k + m) f))) ∙ ap length (take-append-drop (k + m) o) ∙ w.long;
      front = ap (take (k + m)) whole ∙ take_at (tab (k + m) f) (drop (k + m) o) (k + m) (length_tab (k + m) f);
      back = ap (drop (k + m)) whole ∙ drop_at (tab (k + m) f) (drop (k + m) o) (k + m) (length_tab (k + m) f) ∙ sym (drop-drop m k o) ∙ ap (drop m) w.back ∙ drop-drop m k o₀;
    }
  where
    whole : o' ≡ tab (k + m) f ++ drop (k + m) o
    whole =
        e ∙ ap (λ x. x ++ (tab m g ++ drop (k + m) o)) w.front ∙ ap (λ x. tab k f ++ (x ++ drop (k + m) o)) (tab_ext m g (λ i. f (k + i)) h)
        ∙ sym (append_assoc (tab k f) (tab m (λ i. f (k + i))) (drop (k + m) o)) ∙ ap (λ x. x ++ drop (k + m) o) (sym (tab_add k m f))

pub written_whole : (f : ℕ → ℕ) (n : ℕ) (o₀ o : List ℕ) → Written f n o₀ o → o ≡ tab n f ++ drop n o₀
written_whole f n o₀ o w = sym (take-append-drop n o) ∙ ap₂ (λ (x y : List ℕ). x ++ y) w.front w.back

-- the whole text with its gamma
pub written_gamma : (B : ℕ) (gamma : ℕ → List ℕ) (place : ℕ → ℕ) (text o₀ o : List ℕ) → Written (added B gamma place text) (length text) o₀ o
    → o ≡ add_gamma B gamma place text ++ drop (length text) o₀
unfolding added add_gamma
written_gamma B gamma place text o₀ o w = written_whole (added B gamma place text) (length text) o₀ o w
