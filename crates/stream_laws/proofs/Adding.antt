-- Bytes of a cell added to the text are what the modes define.
use mathlib.Core.Path.{◌≡◌, refl, sym, ap, ap₂, ◌∙◌, subst}
use mathlib.Core.List.{List, ◌++◌, append_assoc}
use Prim.Native.Nat.{ℕ, ◌+◌, ◌-◌, ◌*◌, ◌/◌, ◌%◌, ◌<◌, ◌≤◌}
use native.Mathlib.Nat.{zero-add}
use native.Mathlib.Omega.{arith}
use lib.Arith.{digits_div}
use lib.ListN.{get_or, take, drop, length, length-append}
use lib.Seq.{take_at, drop_at, drop-drop, length-take-le}
use Rattle.common.specs.Places.{tab}
use Rattle.common.proofs.Places.{tab_add, tab_ext, length_tab}
use Rattle.field.specs.Xor.{xor}
use Rattle.field.specs.Column.{byte_of}
use Rattle.words.specs.Words.{word_at, block_at}
use Rattle.kalyna.specs.State.{bytes_of}
use Rattle.stream_laws.specs.Gammas.{cell_byte, added, Written}
use Rattle.stream_laws.proofs.Out.{written_none, written_more}
use Rattle.stream_laws.proofs.Cells.{cell_byte_lem, cell_place}

-- two parts of an output, one after the other
pub parts_join : (f g : ℕ → ℕ) (at m r : ℕ) (o o₁ o₂ : List ℕ) → o₁ ≡ take at o ++ (tab m f ++ drop (at + m) o)
    → o₂ ≡ take (at + m) o₁ ++ (tab r g ++ drop (at + m + r) o₁) → at + m ≤ length o → ((i : ℕ) → i < r → g i ≡ f (m + i))
    → o₂ ≡ take at o ++ (tab (m + r) f ++ drop (at + (m + r)) o)
parts_join f g at m r o o₁ o₂ e₁ e₂ l h =
    e₂
    ∙ ap₂ (λ (x y : List ℕ). x ++ (tab r g ++ y)) (ap (take (at + m)) whole ∙ take_at front (drop (at + m) o) (at + m) long)
    (sym (drop-drop r (at + m) o₁) ∙ ap (drop r) (ap (drop (at + m)) whole ∙ drop_at front (drop (at + m) o) (at + m) long) ∙ drop-drop r (at + m) o ∙ ap (λ n. drop n o) sum)
    ∙ append_assoc (take at o) (tab m f) (tab r g ++ drop (at + (m + r)) o)
    ∙ ap (λ x. take at o ++ x) (sym (append_assoc (tab m f) (tab r g) (drop (at + (m + r)) o)))
    ∙ ap (λ x. take at o ++ (x ++ drop (at + (m + r)) o)) (ap (λ x. tab m f ++ x) (tab_ext r g (λ i. f (m + i)) h) ∙ sym (tab_add m r f))
  where
    front : List ℕ
    front = take at o ++ tab m f

    whole : o₁ ≡ (take at o ++ tab m f) ++ drop (at + m) o
    whole = e₁ ∙ sym (append_assoc (take at o) (tab m f) (drop (at + m) o))

    long : length (take at o ++ tab m f) ≡ at + m
    long = length-append (take at o) (tab m f) ∙ ap₂ (λ (x y : ℕ). x + y) (length-take-le at o (omega arith)) (length_tab m f)

    sum : at + m + r ≡ at + (m + r)
    sum = omega arith

-- whole columns, then what is left
pub front_added : (s text o o₁ o₂ : List ℕ) (at n m : ℕ) → 8 * m ≤ n → at + n ≤ length o
    → o₁ ≡ take at o ++ (tab (8 * m) (λ k. xor (get_or text (at + k) 0) (byte_of (word_at s (0 + k / 8)) (k % 8))) ++ drop (at + 8 * m) o)
    → o₂ ≡ take (at + 8 * m) o₁ ++ (tab (n - 8 * m) (λ i. xor (get_or text (at + 8 * m + i) 0) (byte_of (word_at s ((8 * m + i) / 8)) ((8 * m + i) % 8))) ++ drop (at + 8 * m + (n - 8 * m)) o₁)
    → o₂ ≡ take at o ++ (tab n (λ i. xor (get_or text (at + i) 0) (cell_byte s i)) ++ drop (at + n) o)
unfolding cell_byte
front_added s text o o₁ o₂ at n m h l e₁ e₂ =
    parts_join (λ i. xor (get_or text (at + i) 0) (cell_byte s i)) _ at (8 * m) (n - 8 * m) o o₁ o₂
    (e₁ ∙ ap (λ x. take at o ++ (x ++ drop (at + 8 * m) o)) (tab_ext (8 * m) _ _ (λ k lk. ap (λ w. xor (get_or text (at + k) 0) (byte_of (word_at s w) (k % 8))) (zero-add (k / 8)))))
    e₂ (omega arith) (λ i li. ap (λ w. xor (get_or text w 0) (byte_of (word_at s ((8 * m + i) / 8)) ((8 * m + i) % 8))) (sum i))
    ∙ ap (λ k. take at o ++ (tab k (λ i. xor (get_or text (at + i) 0) (cell_byte s i)) ++ drop (at + k) o)) all
  where
    sum : (i : ℕ) → at + 8 * m + i ≡ at + (8 * m + i)
    sum i = omega arith

    all : 8 * m + (n - 8 * m) ≡ n
    all = omega arith

module _ (c : ℕ) (gamma : ℕ → List ℕ) (place : ℕ → ℕ) (text : List ℕ) where
  abbrev f : ℕ → ℕ
  f = added (8 * c) gamma place text

  -- r bytes of block i, with the bytes from k on of the block of the cell that holds its gamma
  pub block_added : (i b k r at : ℕ) (s o₀ o o' : List ℕ) (g : ℕ → ℕ) → Written (added (8 * c) gamma place text) at o₀ o → at ≡ i * (8 * c) → k + r ≤ 8 * c
      → bytes_of c (block_at c s b) ≡ gamma i → ((j : ℕ) → j < r → place (i * (8 * c) + j) ≡ k + j)
      → ((j : ℕ) → j < r → g j ≡ xor (get_or text (at + j) 0) (cell_byte s (b * (8 * c) + (k + j))))
      → o' ≡ take at o ++ (tab r g ++ drop (at + r) o) → at + r ≤ length o₀ → Written (added (8 * c) gamma place text) (at + r) o₀ o'
  unfolding added
  block_added i b k r at s o₀ o o' g w ea fits eg ep h e l =
      written_more f g at r o₀ o o' w e l (λ j lj.
      h j lj
      ∙ ap (xor (get_or text (at + j) 0))
      (cell_byte_lem c b (k + j) s (omega arith)
      ∙ ap (λ x. get_or x (k + j) 0) eg
      ∙ ap₂ (λ (a d : ℕ). get_or (gamma a) d 0)
      (sym (ap (λ n. (n + j) / (8 * c)) ea ∙ digits_div i {m = 8 * c} {r = j} (omega arith)))
      (sym (ap (λ n. place (n + j)) ea ∙ ep j lj))))

  -- m bytes from the front on, each with the byte of the cell at its place
  pub cells_added : (m : ℕ) (s o o' : List ℕ) → 0 < c → ((i : ℕ) → i < m → bytes_of c (block_at c s (i / (8 * c))) ≡ gamma (i / (8 * c)))
      → ((i : ℕ) → i < m → place i ≡ i % (8 * c)) → o' ≡ take 0 o ++ (tab m (λ i. xor (get_or text (0 + i) 0) (cell_byte s i)) ++ drop (0 + m) o) → m ≤ length o
      → Written (added (8 * c) gamma place text) m o o'
  unfolding added
  cells_added m s o o' p eg ep e l =
      subst (λ n. Written f n o o') (zero-add m)
      (written_more f _ 0 m o o o' (written_none f o) e (omega arith) (λ i li.
      ap₂ (λ (a x : ℕ). xor (get_or text a 0) x) refl (cell_place c i s p ∙ ap₂ (λ (x : List ℕ) (d : ℕ). get_or x d 0) (eg i li) (sym (ep i li)))
      ∙ ap (λ n. xor (get_or text (0 + i) 0) (get_or (gamma (n / (8 * c))) (place n) 0)) (sym (zero-add i))))
