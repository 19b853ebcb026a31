-- The rounds of the helper key and of the even keys.
use mathlib.Core.Path.{◌≡◌, sym, ap, ap₂, ◌∙◌}
use mathlib.Core.List.{List}
use Prim.Native.Nat.{ℕ, ◌+◌, ◌-◌, ◌*◌, ◌%◌, ◌^◌, ◌<◌, ◌≤◌}
use native.Mathlib.Decide.{ℕ_discrete}
use native.Mathlib.Nat.{zero-add, mul-zero}
use native.Mathlib.Omega.{arith}
use lib.Dec.{eqb}
use lib.ListN.{get_or, replicate, get_or-replicate}
use lib.Seq.{get_or-take, get_or-drop}
use borrow.Author.Tests.{eq-eqb, ne_eqb}
use Rattle.common.specs.Choice.{pick}
use Rattle.common.proofs.Places.{get_d_tab, tab_ext, tab_self}
use Rattle.field.specs.Xor.{xor}
use Rattle.field.proofs.XorLaws.{zero_r}
use Rattle.words.specs.Words.{word_at, put_word, block_at, Walked}
use Rattle.words.proofs.Laws.{word_same, word_other}
use Rattle.words.proofs.Walks.{walk_as}
use Rattle.kalyna.specs.State.{State}
use Rattle.kalyna.specs.Round.{add_key, xor_key, ssm}
use Rattle.kalyna.specs.Block.{moves}
use Rattle.kalyna.specs.Keys.{start_number, start, first_half, second_half, helper_from, helper, even_input, even_from, even_key}
use Rattle.kalyna.proofs.Undo.{ssm_state}
use Rattle.rounds.specs.Rounds.{key_at}
use Rattle.blocks.specs.Blocks.{keys_of}
use Rattle.key_laws.specs.Stores.{Spread, Laned, Lanes}
use Rattle.key_laws.proofs.Stores.{spread_as}

-- a fresh array of n numbers
abbrev pub noughts : ℕ → List ℕ
noughts n = replicate n 0

-- a key of zeros changes nothing
zero_key : (c : ℕ) (y : List ℕ) → c ≤ 8 → State c y → xor_key c (key_at c (noughts 8) 0) y ≡ y
unfolding xor_key key_at
zero_key c y h st =
    tab_ext c _ (λ j. get_or y j 0)
    (λ j l. ap (xor (get_or y j 0)) (get_d_tab c (λ j. get_or (noughts 8) (0 + j) 0) j l ∙ get_or-replicate 8 (0 + j) 0 0 (omega arith)) ∙ zero_r (get_or y j 0))
    ∙ tab_self c y st.long

-- a round with a key of zeros is a round with no key
pub no_key : (c n : ℕ) (s s' : List ℕ) → c ≤ 8 → Walked c n (λ x. xor_key c (key_at c (noughts 8) 0) (ssm (moves c) c x)) s s' → Walked c n (ssm (moves c) c) s s'
no_key c n s s' h w = walk_as c n _ _ s s' (λ i l. zero_key c _ h (ssm_state (moves c) c _)) w

-- ---- the helper key

-- the number that it starts from, as a block
pub start_is : (c kc v : ℕ) (s : List ℕ) → s ≡ put_word (noughts 32) 0 v → v ≡ c + kc + 1 → c ≤ 8 → kc ≤ 8 → block_at c s 0 ≡ start c kc
unfolding block_at start
start_is c kc v s es e h g = tab_ext c _ _ (λ j l. ap (λ s. word_at s (c * 0 + j)) es ∙ one j l (ℕ_discrete j 0))
  where
    number : c + kc + 1 ≡ start_number (64 * c) (64 * kc)
    number = unfold start_number in omega arith

    nought : (j : ℕ) → j < 8 → word_at (noughts 32) j ≡ 0
    nought j l = unfold word_at in
        ap₂ (λ (x y : ℕ). x * 65536 + y) (ap₂ (λ (x y : ℕ). x * 65536 + y) (ap₂ (λ (x y : ℕ). x * 65536 + y) (none (4 * j + 3) (omega arith)) (none (4 * j + 2) (omega arith))) (none (4 * j + 1) (omega arith))) (none (4 * j) (omega arith))
      where
        none : (i : ℕ) → i < 32 → get_or (noughts 32) i 0 ≡ 0
        none i l = get_or-replicate 32 i 0 0 l

    at : (j : ℕ) → c * 0 + j ≡ j
    at j = ap (λ x. x + j) (mul-zero c) ∙ zero-add j

    one : (j : ℕ) → j < c → Dec (j ≡ 0) → word_at (put_word (noughts 32) 0 v) (c * 0 + j) ≡ pick (eqb j 0) (start_number (64 * c) (64 * kc)) 0
    one j l (yes q) =
        ap (word_at (put_word (noughts 32) 0 v)) (at j ∙ q) ∙ word_same (noughts 32) 0 v (omega arith) (omega arith) ∙ e ∙ number
        ∙ sym (unfold pick in ap (λ b. pick b (start_number (64 * c) (64 * kc)) 0) (eq-eqb j 0 q))
    one j l (no q) =
        ap (word_at (put_word (noughts 32) 0 v)) (at j) ∙ word_other (noughts 32) 0 j v q ∙ nought j (omega arith)
        ∙ sym (unfold pick in ap (λ b. pick b (start_number (64 * c) (64 * kc)) 0) (ne_eqb j 0 q))

first_half_lem : (c kc : ℕ) (k x : List ℕ) → add_key c (key_at c k 0) x ≡ add_key c (first_half c kc k) x
unfolding add_key key_at first_half
first_half_lem c kc k x =
    tab_ext c _ _ (λ j l. ap (λ y. (get_or x j 0 + y) % 2 ^ 64) (get_d_tab c (λ j. get_or k (0 + j) 0) j l ∙ ap (λ n. get_or k n 0) (zero-add j) ∙ sym (get_or-take c k j 0 l)))

second_half_lem : (c kc : ℕ) (k x : List ℕ) → xor_key c (key_at c k (kc - c)) x ≡ xor_key c (second_half c kc k) x
unfolding xor_key key_at second_half
second_half_lem c kc k x =
    tab_ext c _ _ (λ j l. ap (λ y. xor (get_or x j 0) y) (get_d_tab c (λ j. get_or k (kc - c + j) 0) j l ∙ sym (get_or-drop (kc - c) k j 0)))

-- 6.5.1: its three rounds
pub helper_is : (c kc : ℕ) (k s₀ s₁ s₂ s₃ s₄ s₅ : List ℕ) → c ≤ 8 → block_at c s₀ 0 ≡ start c kc → Walked c 1 (add_key c (key_at c k 0)) s₀ s₁
    → Walked c 1 (λ x. xor_key c (key_at c k (kc - c)) (ssm (moves c) c x)) s₁ s₂ → Walked c 1 (λ x. xor_key c (key_at c (noughts 8) 0) (ssm (moves c) c x)) s₂ s₃
    → Walked c 1 (add_key c (key_at c k 0)) s₃ s₄ → Walked c 1 (λ x. xor_key c (key_at c (noughts 8) 0) (ssm (moves c) c x)) s₄ s₅ → block_at c s₅ 0 ≡ helper c kc k
unfolding helper helper_from
helper_is c kc k s₀ s₁ s₂ s₃ s₄ s₅ h e w₁ w₂ w₃ w₄ w₅ =
    (no_key c 1 s₄ s₅ h w₅).done 0 (omega arith)
    ∙ ap (ssm (moves c) c)
    (w₄.done 0 (omega arith) ∙ first_half_lem c kc k _
    ∙ ap (add_key c (first_half c kc k))
    ((no_key c 1 s₂ s₃ h w₃).done 0 (omega arith)
    ∙ ap (ssm (moves c) c)
    (w₂.done 0 (omega arith) ∙ second_half_lem c kc k _
    ∙ ap (λ x. xor_key c (second_half c kc k) (ssm (moves c) c x)) (w₁.done 0 (omega arith) ∙ first_half_lem c kc k _ ∙ ap (add_key c (first_half c kc k)) e))))

-- ---- the even keys

-- 6.5.2: two rounds, all lanes at once
pub even_is : (c kc n : ℕ) (k h a s₀ s₁ s₂ s₃ ks ks' : List ℕ) → c ≤ 8 → Lanes c kc n k h a s₀
    → Walked c n (λ x. xor_key c (key_at c (noughts 8) 0) (ssm (moves c) c x)) s₀ s₁ → Laned c n (λ e. xor_key c (keys_of c a e)) s₁ s₂
    → Walked c n (λ x. xor_key c (key_at c (noughts 8) 0) (ssm (moves c) c x)) s₂ s₃ → Spread c 0 n (λ e. add_key c (keys_of c a e) (block_at c s₃ e)) ks ks'
    → Spread c 0 n (even_key c kc k h) ks ks'
unfolding even_key even_from
even_is c kc n k h a s₀ s₁ s₂ s₃ ks ks' g l w₁ x w₂ p =
    spread_as c 0 n _ _ ks ks'
    (λ e m.
    ap₂ (add_key c) (l.addend e m)
    ((no_key c n s₂ s₃ g w₂).done e m
    ∙ ap (ssm (moves c) c)
    (x.done e m ∙ ap (xor_key c (keys_of c a e)) ((no_key c n s₀ s₁ g w₁).done e m)
    ∙ ap₂ (λ (d z : List ℕ). xor_key c d (ssm (moves c) c z)) (l.addend e m) (l.input e m ∙ ap (λ d. add_key c d (even_input c kc k e)) (l.addend e m)))))
    p
