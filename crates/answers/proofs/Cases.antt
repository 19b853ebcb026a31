-- Laws of the table: 0 is for done alone, and no two refusals share a number.
use Rattle.std.proofs.Common.{◌≡◌, ℕ, ◌<◌, ap, sym, ◌∙◌, refl, arith, eqb}
use Rattle.common.specs.Choice.{pick}
use Rattle.answers.specs.declared.Refusal.{Refusal}
use Rattle.answers.specs.declared.Refusal.TheVariants as refusal
use Rattle.answers.specs.Told.{table}

pub never_zero : (r : Refusal) → 0 < table r
unfolding table
never_zero refusal.Suite = omega arith
never_zero refusal.Key = omega arith
never_zero refusal.Iv = omega arith
never_zero refusal.Empty = omega arith
never_zero refusal.Partial = omega arith
never_zero refusal.Long = omega arith
never_zero refusal.Tag = omega arith
never_zero refusal.Fill = omega arith
never_zero refusal.Room = omega arith
never_zero refusal.Unequal = omega arith
never_zero refusal.Choice = omega arith
never_zero refusal.Short = omega arith
never_zero refusal.Wrap = omega arith
never_zero refusal.Work = omega arith
never_zero refusal.Syntax = omega arith
never_zero refusal.Text = omega arith
never_zero refusal.Deep = omega arith
never_zero refusal.Many = omega arith
never_zero refusal.Absent = omega arith
never_zero refusal.Image = omega arith
never_zero refusal.List = omega arith
never_zero refusal.Form = omega arith

-- the refusal that a number names; Form for any other number
named : ℕ → Refusal
named n =
    pick (eqb n 1) refusal.Suite (
    pick (eqb n 2) refusal.Key (
    pick (eqb n 3) refusal.Iv (
    pick (eqb n 4) refusal.Empty (
    pick (eqb n 5) refusal.Partial (
    pick (eqb n 6) refusal.Long (
    pick (eqb n 7) refusal.Tag (
    pick (eqb n 8) refusal.Fill (
    pick (eqb n 9) refusal.Room (
    pick (eqb n 10) refusal.Unequal (
    pick (eqb n 11) refusal.Choice (
    pick (eqb n 12) refusal.Short (
    pick (eqb n 13) refusal.Wrap (
    pick (eqb n 14) refusal.Work (
    pick (eqb n 20) refusal.Syntax (
    pick (eqb n 21) refusal.Text (
    pick (eqb n 22) refusal.Deep (
    pick (eqb n 23) refusal.Many (
    pick (eqb n 25) refusal.Absent (
    pick (eqb n 26) refusal.Image (
    pick (eqb n 27) refusal.List (
    refusal.Form)))))))))))))))))))))

named_table : (r : Refusal) → named (table r) ≡ r
unfolding table named pick
named_table refusal.Suite = refl
named_table refusal.Key = refl
named_table refusal.Iv = refl
named_table refusal.Empty = refl
named_table refusal.Partial = refl
named_table refusal.Long = refl
named_table refusal.Tag = refl
named_table refusal.Fill = refl
named_table refusal.Room = refl
named_table refusal.Unequal = refl
named_table refusal.Choice = refl
named_table refusal.Short = refl
named_table refusal.Wrap = refl
named_table refusal.Work = refl
named_table refusal.Syntax = refl
named_table refusal.Text = refl
named_table refusal.Deep = refl
named_table refusal.Many = refl
named_table refusal.Absent = refl
named_table refusal.Image = refl
named_table refusal.List = refl
named_table refusal.Form = refl

pub one_refusal : (r s : Refusal) → table r ≡ table s → r ≡ s
one_refusal r s e = sym (named_table r) ∙ ap named e ∙ named_table s
