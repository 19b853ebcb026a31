use Rattle.std.proofs.Common.{rules, tests}
use Rattle.common.specs.Choice.{pick}
use Rattle.suites.specs.Suites.{suite_of}
use Rattle.suites.proofs.suite_of.Goals as goal

pub returns-in-1 : goal.returns-in-1
unfolding suite_of pick
returns-in-1 c = rw c.in-1.is

pub returns-in-2 : goal.returns-in-2
unfolding suite_of pick
returns-in-2 c = rw c.in-2.is

pub returns-in-3 : goal.returns-in-3
unfolding suite_of pick
returns-in-3 c = rw c.in-3.is

pub returns-in-4 : goal.returns-in-4
unfolding suite_of pick
returns-in-4 c = rw c.in-4.is

pub returns-in-5 : goal.returns-in-5
unfolding suite_of pick
returns-in-5 c = rw c.in-5.is

pub returns-in_default : goal.returns-in_default
unfolding suite_of pick
returns-in_default c = search (rules, tests)
