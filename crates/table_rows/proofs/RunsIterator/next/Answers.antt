use Rattle.std.proofs.Common.{arith, ap, refl, sym, length}
use Rattle.table_rows.proofs.FirstRun.{first_run}
use Rattle.table_rows.proofs.RunsIterator.next.Goals as goal

pub returns-in_ok-byte-in-len2-up-clause-steps : goal.returns-in_ok-byte-in-len2-up-clause-steps
returns-in_ok-byte-in-len2-up-clause-steps g c =
    first_run _ c.args.self.now.0.now _ _ _ _ c.in-len2-up.len_at_least refl (sym c.in_ok-byte-in-len2-up.ensures) c.count-count.ensures.many c.count-count.ensures.behind

pub returns-in_ok-byte-in-len2-up-clause-goes : goal.returns-in_ok-byte-in-len2-up-clause-goes
returns-in_ok-byte-in-len2-up-clause-goes g c = record { on = λ _. (tt, tt, omega (arith, ap length (returns-in_ok-byte-in-len2-up-clause-steps g c))); keeps = tt; rests = λ _. tt }
