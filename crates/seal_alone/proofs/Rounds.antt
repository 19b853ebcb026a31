-- A block round by round: what it is before each round, and what it is at the end.
use mathlib.Core.Path.{◌≡◌, sym, ap, ap₂, ◌∙◌, subst}
use mathlib.Core.List.{List}
use Prim.Native.Nat.{ℕ, suc, ◌+◌, ◌-◌, ◌*◌, ◌^◌, ◌<◌, ◌≤◌}
use native.Mathlib.Nat.{mul-zero, mod-lt}
use native.Mathlib.Omega.{arith}
use lib.Dec.{ltb}
use lib.ListN.{get_or, length}
use borrow.Author.Tests.{lt-ltb, le-ltb}
use Rattle.common.specs.Choice.{pick}
use Rattle.common.specs.Places.{tab}
use Rattle.common.proofs.Places.{get_d_tab, tab_self, length_tab}
use Rattle.common.proofs.Choices.{pick_true, pick_false}
use Rattle.lookup.specs.Table.{seal_table}
use Rattle.words.specs.Words.{put_words, block_at, Walked}
use Rattle.words.proofs.Walks.{walk_none, walk_more}
use Rattle.kalyna.specs.Round.{add_key, xor_key, ssm}
use Rattle.kalyna.specs.Block.{moves, rounds, seal}
use Rattle.rounds.specs.Rounds.{looked, seal_places, key_at}
use Rattle.rounds.proofs.Laws.{looked_seal}
use Rattle.blocks.specs.Blocks.{keys_of}

-- x is the block y before round m, or sealed where no round is left
pub record Reached (c t : ℕ) (ks y : List ℕ) (m : ℕ) (x : List ℕ) : Type 0 where
  pub going : m ≤ t → x ≡ rounds c (keys_of c ks) (add_key c (keys_of c ks 0) y) (m - 1)
  pub done : t < m → x ≡ seal c t (keys_of c ks) y

pub reached_first : (c t : ℕ) (ks y x : List ℕ) → 0 < t → x ≡ add_key c (key_at c ks 0) y → Reached c t ks y 1 x
unfolding rounds keys_of
reached_first c t ks y x h e =
    record {
      going = λ l. e ∙ ap (λ k. add_key c (key_at c ks k) y) (sym (mul-zero c));
      done = λ l. absurd (none l);
    }
  where
    none : t < 1 → ⊥
    none l = omega arith

pub reached_next : (c t m at : ℕ) (tab ks y x r q : List ℕ) → tab ≡ seal_table → 1 ≤ m → m ≤ t → at ≡ c * m → Reached c t ks y m x → r ≡ looked tab c (seal_places c) x
    → q ≡ pick (ltb m t) (xor_key c (key_at c ks at) r) (add_key c (key_at c ks at) r) → Reached c t ks y (m + 1) q
unfolding rounds seal keys_of
reached_next c t m at tab ks y x r q et h l ea z er eq =
    record {
      going = λ g. eq ∙ pick_true (ltb m t) _ _ (lt-ltb m t (omega arith)) ∙ ap₂ (xor_key c) key mixed ∙ ap (λ k. xor_key c (key_at c ks (c * k)) (ssm (moves c) c (rounds c (keys_of c ks) (add_key c (keys_of c ks 0) y) (m - 1)))) after ∙ ap (rounds c (keys_of c ks) (add_key c (keys_of c ks 0) y)) more;
      done = λ g. eq ∙ pick_false (ltb m t) _ _ (le-ltb m t (omega arith)) ∙ ap₂ (add_key c) (key ∙ ap (λ k. key_at c ks (c * k)) (same g)) (mixed ∙ ap (λ k. ssm (moves c) c (rounds c (keys_of c ks) (add_key c (keys_of c ks 0) y) (k - 1))) (same g));
    }
  where
    key : key_at c ks at ≡ key_at c ks (c * m)
    key = ap (key_at c ks) ea

    mixed : r ≡ ssm (moves c) c (rounds c (keys_of c ks) (add_key c (keys_of c ks 0) y) (m - 1))
    mixed = er ∙ ap (λ u. looked u c (seal_places c) x) et ∙ looked_seal c x ∙ ap (ssm (moves c) c) (z.going l)

    after : m ≡ suc (m - 1)
    after = omega arith

    more : suc (m - 1) ≡ m + 1 - 1
    more = omega arith

    same : t < m + 1 → m ≡ t
    same g = omega arith

-- the block alone, put back
pub put_back : (c t : ℕ) (ks s s' x : List ℕ) → 4 * c ≤ length s → s' ≡ put_words s 0 c (λ j. get_or x j 0) → x ≡ seal c t (keys_of c ks) (block_at c s 0) → Walked c 1 (seal c t (keys_of c ks)) s s'
unfolding seal add_key
put_back c t ks s s' x h e q =
    walk_more c 0 (seal c t (keys_of c ks)) s s s' (λ j. get_or x j 0) (walk_none c (seal c t (keys_of c ks)) s) room (e ∙ ap (λ k. put_words s k c (λ j. get_or x j 0)) (sym (mul-zero c)))
    (λ k l. subst (λ v. v < 2 ^ 64) (sym (ap (λ u. get_or u k 0) q ∙ get_d_tab c _ k l)) (mod-lt _ (omega arith)))
    (tab_self c x (ap length q ∙ length_tab c _) ∙ q)
  where
    room : 4 * (c * 0 + c) ≤ length s
    room = subst (λ k. 4 * (k + c) ≤ length s) (sym (mul-zero c)) (omega arith)
