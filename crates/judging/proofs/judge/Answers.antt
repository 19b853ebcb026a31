use Rattle.std.proofs.Common.{rules}
use Rattle.suite_laws.proofs.Rows.{known_row}
use Rattle.judging.proofs.judge.Goals as goal

pub judge_known-requires : goal.judge_known-requires
judge_known-requires c = known_row c.args.n c.in_ok-s.s (search rules)
