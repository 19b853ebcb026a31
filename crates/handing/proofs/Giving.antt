-- What is told and written is what is delivered.
use mathlib.Core.Path.{◌≡◌, refl, ap, ap₂, sym, ◌∙◌}
use mathlib.Core.List.{List, ◌++◌}
use Prim.Native.Nat.{ℕ, ◌+◌, ◌≤◌, ◌<◌}
use native.Mathlib.Nat.{zero-add}
use native.Mathlib.Omega.{arith}
use lib.ListN.{length, get_or, take, drop}
use borrow.Author.Tests.{le-leb, lt-leb}
use Rattle.common.specs.Places.{tab}
use Rattle.common.specs.Answer.{refusal, deliver}
use Rattle.common.specs.Answer.Answer.{value, refused}
use Rattle.common.proofs.Places.{tab_self}
use Rattle.common.proofs.Runs.{Run, run_whole}
use Rattle.common.proofs.Choices.{pick_true, pick_false}
use Rattle.std.proofs.Common.{Ok, Err}
use Rattle.answers.specs.declared.Refusal.{Refusal}
use Rattle.answers.specs.declared.Refusal.TheVariants as refusals
use Rattle.answers.specs.Told.{table, number_by, number_of, count_of, told_of}

-- a value that fits, one that does not, a refusal
pub gives : (v out out' : List ℕ) (n : ℕ) → n ≡ length v → n ≤ length out → out' ≡ v ++ drop n out → told_of (Ok n) out' ≡ deliver (value v) out
unfolding told_of number_of number_by count_of deliver
gives v out out' n e h w =
    ap₂ (λ (m : ℕ) (o : List ℕ). record { number = 0; count = m; out = o }) e (w ∙ ap (λ m. v ++ drop m out) e)
    ∙ sym (pick_true _ _ _ (le-leb (length v) (length out) (omega arith)))

pub lacks : (v out : List ℕ) → length out < length v → told_of (Err refusals.Room) out ≡ deliver (value v) out
unfolding told_of number_of number_by count_of table deliver refusal
lacks v out h = sym (pick_false _ _ _ (lt-leb (length v) (length out) h))

pub refuses : (r : Refusal) (out : List ℕ) → told_of (Err r) out ≡ deliver (refused (table r)) out
unfolding told_of number_of number_by count_of deliver refusal
refuses r out = refl

-- `put` : after i bytes
pub put_whole : (v out out' : List ℕ) (at i : ℕ) → i ≡ length v → Run (λ j. get_or v j 0) at out i out' → out' ≡ take at out ++ (v ++ drop (at + length v) out)
put_whole v out out' at i e R =
    run_whole (λ j. get_or v j 0) at out i out' R
    ∙ ap (λ n. take at out ++ (tab n (λ j. get_or v j 0) ++ drop (at + n) out)) e
    ∙ ap (λ t. take at out ++ (t ++ drop (at + length v) out)) (tab_self (length v) v refl)

-- `hand`
pub hand_out : (v out out' : List ℕ) → out' ≡ take 0 out ++ (v ++ drop (0 + length v) out) → out' ≡ v ++ drop (length v) out
hand_out v out out' e = e ∙ ap (λ n. v ++ drop n out) (zero-add (length v))
