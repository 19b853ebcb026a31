use mathlib.Core.Path.{sym, ◌∙◌}
use native.Mathlib.Omega.{arith}
use lib.ListN.{length}
use Rattle.modes.specs.Cell.{cell_of}
use Rattle.texts.specs.Reading.{read_text}
use Rattle.recipe.specs.Prepare.{sized, after_read}
use Rattle.fold_size.specs.Folded.{folded_at}
use Rattle.answers.specs.Told.{table}
use Rattle.preparing.proofs.Giving.{stops}
use Rattle.preparing.proofs.Deciding.{bad_list_lem, absent_name, all_bound, no_form, folding, same_gives}
use Rattle.preparing.proofs.after_read.Goals as goal

pub with_tables-requires : goal.with_tables-requires
with_tables-requires c = folding c.args.text.now c.args.records.now c.args.list.now (length c.args.work.now) c.requires (sym c.good.ensures ∙ c.if-good.true) c.check.result c.in-Some-check.need c.check.ensures c.in-Some-check.is _ (omega arith)

pub returns-in-Some : goal.returns-in-Some
unfolding table
returns-in-Some c = stops (after_read cell_of c.args.text.now c.args.list.now (read_text c.args.text.now)) _ c.args.out.now (absent_name c.args.text.now c.args.records.now c.args.list.now (length c.args.work.now) c.requires (sym c.good.ensures ∙ c.if-good.true) (λ i. omega (arith, c.type_inv.list i)) c.has_value-b0.result c.has_value-b1.result c.has_value-b2.result c.has_value-b3.result c.has_value-b0.ensures c.has_value-b1.ensures c.has_value-b2.ensures c.has_value-b3.ensures c.first_unbound.result c.first_unbound.ensures c.in-Some.place c.in-Some.is)

pub returns-in_default-check : goal.returns-in_default-check
returns-in_default-check c = absurd (no_form c.args.text.now c.args.records.now c.args.list.now (length c.args.work.now) c.requires (sym c.good.ensures ∙ c.if-good.true) c.check.result c.check.ensures c.in_default-check.is)

pub returns-then-good : goal.returns-then-good
returns-then-good c = same_gives (after_read cell_of c.args.text.now c.args.list.now (read_text c.args.text.now)) (sized (folded_at c.args.list.now c.args.records.now)) c.with_tables.result c.args.out.now c.with_tables.new.out (all_bound c.args.text.now c.args.records.now c.args.list.now (length c.args.work.now) c.requires (sym c.good.ensures ∙ c.if-good.true) (λ i. omega (arith, c.type_inv.list i)) c.has_value-b0.result c.has_value-b1.result c.has_value-b2.result c.has_value-b3.result c.has_value-b0.ensures c.has_value-b1.ensures c.has_value-b2.ensures c.has_value-b3.ensures c.first_unbound.result c.first_unbound.ensures c.in_default.is) c.with_tables.ensures

pub returns : goal.returns
unfolding table
returns c = rw c.from-2.ensures (stops (after_read cell_of c.args.text.now c.args.list.now (read_text c.args.text.now)) _ c.args.out.now (bad_list_lem c.args.text.now c.args.records.now c.args.list.now (length c.args.work.now) c.requires (sym c.good.ensures ∙ c.if-good.false)))
