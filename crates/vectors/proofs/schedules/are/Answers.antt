use Rattle.std.proofs.Common.{sym}
use Rattle.suite_laws.specs.Row.{Row}
use Rattle.suite_laws.proofs.Rows.{known_row}
use Rattle.vectors.proofs.schedules.are.Goals as goal

pub helper_columns-h-requires : goal.helper_columns-h-requires
helper_columns-h-requires c = let row : Row c.in-Some.s = known_row c.args.suite c.in-Some.s (sym c.in-Some.ensures) in (c.table-t.ensures, row.sized, c.if-key-kc.false)

pub schedule-ks-requires : goal.schedule-ks-requires
schedule-ks-requires c = let row : Row c.in-Some.s = known_row c.args.suite c.in-Some.s (sym c.in-Some.ensures) in (c.table-t.ensures, row.sized, c.if-key-kc.false, row.even, row.most)
