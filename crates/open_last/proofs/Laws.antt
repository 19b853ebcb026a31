-- The last step: rows that are looked up are the rows that the standard names, and blocks are stored less their key.
use Rattle.std.proofs.Common.{◌≡◌, ℕ, ◌+◌, ◌-◌, ◌*◌, ◌/◌, ◌%◌, ◌^◌, ◌<◌, ◌≤◌, List, [], ◌∷◌, length, get_or, sym, ap, ◌∙◌, ap₂, mod-lt, arith}
use Rattle.common.proofs.Places.{get_d_tab, tab_ext}
use Rattle.field.specs.Column.{byte_of}
use Rattle.field.proofs.PackLaws.{byte_of_lt, pack_ext, eight_bytes}
use Rattle.substitutions.specs.Tables.{unsub, unsubstitutions}
use Rattle.words.specs.Words.{word_at, put_words, block_at, Walked}
use Rattle.words.proofs.Walks.{walk_more}
use Rattle.kalyna.specs.Round.{sub_key, to}
use Rattle.kalyna.specs.Block.{moves}
use Rattle.kalyna.proofs.Rows.{back, back_at, to_lt}
use Rattle.rounds.specs.Rounds.{open_places, key_at}
use Rattle.blocks.proofs.Laws.{block_column}
use Rattle.open_laws.specs.Opening.{last_round}
use Rattle.open_laws.proofs.Swaps.{unsub_place}
use Rattle.open_last.specs.Last.{replaced, Replaced}

-- ---- a column

-- eight bytes, each looked up
pub column_is : (u : List ℕ) (a b c d e f g h b7 b6 b5 b4 b3 b2 b1 b0 : ℕ)
    → b7 ≡ get_or u (256 * 3 + h / 256) 0 → b6 ≡ get_or u (256 * 2 + g % 256) 0
    → b5 ≡ get_or u (256 * 1 + f / 256) 0 → b4 ≡ get_or u (256 * 0 + e % 256) 0
    → b3 ≡ get_or u (256 * 3 + d / 256) 0 → b2 ≡ get_or u (256 * 2 + c % 256) 0
    → b1 ≡ get_or u (256 * 1 + b / 256) 0 → b0 ≡ get_or u (256 * 0 + a % 256) 0
    → (((((((b7 * 256 + b6) * 256 + b5) * 256 + b4) * 256 + b3) * 256 + b2) * 256 + b1) * 256 + b0) ≡ replaced u (λ i. get_or (a % 256 ∷ b / 256 ∷ c % 256 ∷ d / 256 ∷ e % 256 ∷ f / 256 ∷ g % 256 ∷ h / 256 ∷ []) i 0)
unfolding replaced
column_is u a b c d e f g h b7 b6 b5 b4 b3 b2 b1 b0 e7 e6 e5 e4 e3 e2 e1 e0 =
    eight_bytes (λ i. get_or u (256 * (i % 4) + get_or (a % 256 ∷ b / 256 ∷ c % 256 ∷ d / 256 ∷ e % 256 ∷ f / 256 ∷ g % 256 ∷ h / 256 ∷ []) i 0) 0) b7 b6 b5 b4 b3 b2 b1 b0 e7 e6 e5 e4 e3 e2 e1 e0

-- only rows 0 to 7 count
pub replaced_ext : (u : List ℕ) (b b' : ℕ → ℕ) → ((i : ℕ) → i < 8 → b i ≡ b' i) → replaced u b ≡ replaced u b'
unfolding replaced
replaced_ext u b b' e = pack_ext 8 _ _ (λ i l. ap (λ x. get_or u (256 * (i % 4) + x) 0) (e i l))

-- ---- the rows of a block

-- a column, from the rows of the block that it comes from
pub rows_are : (u s : List ℕ) (c b j : ℕ) (y : ℕ → ℕ) → j < c → ((i : ℕ) → i < 8 → y i ≡ byte_of (get_or (block_at c s b) (open_places c i j) 0) i)
    → replaced u y ≡ replaced u (λ i. byte_of (word_at s (c * b + open_places c i j)) i)
unfolding open_places
rows_are u s c b j y l h = replaced_ext u _ _ (λ i li. h i li ∙ ap (λ x. byte_of x i) (block_column c s b (to c (moves c i) j) (to_lt c (moves c i) j (omega arith))))

-- ---- all blocks

-- what is looked up is shifted and substituted back
back_column : (c i : ℕ) (u s : List ℕ) (w : ℕ) (x : List ℕ) → u ≡ unsubstitutions → w ≡ c * i → Replaced u c s w x → (j : ℕ) → j < c → get_or x j 0 ≡ get_or (back (moves c) c (block_at c s i)) j 0
unfolding replaced open_places
back_column c i u s w x eu ew r j l =
    r.says j l
    ∙ pack_ext 8 _ _ (λ k lk.
    ap₂ (λ (u : List ℕ) (w : ℕ). get_or u (256 * (k % 4) + byte_of (word_at s (w + to c (moves c k) j)) k) 0) eu ew
    ∙ unsub_place k (byte_of (word_at s (c * i + to c (moves c k) j)) k) (byte_of_lt _ k)
    ∙ ap (λ z. unsub k (byte_of z k)) (sym (block_column c s i (to c (moves c k) j) (to_lt c (moves c k) j (omega arith)))))
    ∙ sym (back_at (moves c) c (block_at c s i) j l)

-- one more block
pub last_more : (c i : ℕ) (u ks : List ℕ) (at : ℕ) (s₀ s s' : List ℕ) (w : ℕ) (x : List ℕ) → u ≡ unsubstitutions → w ≡ c * i → Replaced u c s w x
    → Walked c i (last_round c (key_at c ks at)) s₀ s → 4 * (c * i + c) ≤ length s₀
    → s' ≡ put_words s w c (λ j. (get_or x j 0 + 2 ^ 64 - get_or ks (at + j) 0 % 2 ^ 64) % 2 ^ 64) → Walked c (i + 1) (last_round c (key_at c ks at)) s₀ s'
unfolding last_round sub_key key_at
last_more c i u ks at s₀ s s' w x eu ew r a h e =
    walk_more c i (last_round c (key_at c ks at)) s₀ s s' (λ j. (get_or x j 0 + 2 ^ 64 - get_or ks (at + j) 0 % 2 ^ 64) % 2 ^ 64) a h
    (e ∙ ap (λ n. put_words s n c (λ j. (get_or x j 0 + 2 ^ 64 - get_or ks (at + j) 0 % 2 ^ 64) % 2 ^ 64)) ew)
    (λ k l. mod-lt _ (omega arith))
    (tab_ext c _ _ (λ j l.
    ap₂ (λ (p q : ℕ). (p + 2 ^ 64 - q % 2 ^ 64) % 2 ^ 64) (back_column c i u s w x eu ew r j l) (sym (get_d_tab c (λ j. get_or ks (at + j) 0) j l))))
