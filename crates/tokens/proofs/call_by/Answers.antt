use mathlib.Core.Path.{sym, ap}
use Rattle.common.specs.Choice.{pick}
use Rattle.tree.specs.Calls.{calls, plain, cipher}
use Rattle.texts.specs.Packed.{packed, call_by}
use native.Mathlib.Omega.{arith}
use Rattle.tokens.specs.Tokens.{call_is, row_is}
use Rattle.tokens.proofs.Rows.{no_row}
use Rattle.tokens.proofs.call_by.Goals as goal

pub returns-in-6513012 : goal.returns-in-6513012
unfolding call_is row_is call_by calls plain cipher packed pick
returns-in-6513012 c = rw c.in-6513012.is

pub returns-in-7892850 : goal.returns-in-7892850
unfolding call_is row_is call_by calls plain cipher packed pick
returns-in-7892850 c = rw c.in-7892850.is

pub returns-in-25969 : goal.returns-in-25969
unfolding call_is row_is call_by calls plain cipher packed pick
returns-in-25969 c = rw c.in-25969.is

pub returns-in-1751474532 : goal.returns-in-1751474532
unfolding call_is row_is call_by calls plain cipher packed pick
returns-in-1751474532 c = rw c.in-1751474532.is

pub returns-in-2003330414 : goal.returns-in-2003330414
unfolding call_is row_is call_by calls plain cipher packed pick
returns-in-2003330414 c = rw c.in-2003330414.is

pub returns-in-6450283 : goal.returns-in-6450283
unfolding call_is row_is call_by calls plain cipher packed pick
returns-in-6450283 c = rw c.in-6450283.is

pub returns-in-504363117675 : goal.returns-in-504363117675
unfolding call_is row_is call_by calls plain cipher packed pick
returns-in-504363117675 c = rw c.in-504363117675.is

pub returns-in-6517874 : goal.returns-in-6517874
unfolding call_is row_is call_by calls plain cipher packed pick
returns-in-6517874 c = rw c.in-6517874.is

pub returns-in-7300706 : goal.returns-in-7300706
unfolding call_is row_is call_by calls plain cipher packed pick
returns-in-7300706 c = rw c.in-7300706.is

pub returns-in-6514274 : goal.returns-in-6514274
unfolding call_is row_is call_by calls plain cipher packed pick
returns-in-6514274 c = rw c.in-6514274.is

pub returns-in-504363181666 : goal.returns-in-504363181666
unfolding call_is row_is call_by calls plain cipher packed pick
returns-in-504363181666 c = rw c.in-504363181666.is

pub returns-in-6513251 : goal.returns-in-6513251
unfolding call_is row_is call_by calls plain cipher packed pick
returns-in-6513251 c = rw c.in-6513251.is

pub returns-in-504363180643 : goal.returns-in-504363180643
unfolding call_is row_is call_by calls plain cipher packed pick
returns-in-504363180643 c = rw c.in-504363180643.is

pub returns-in-6513264 : goal.returns-in-6513264
unfolding call_is row_is call_by calls plain cipher packed pick
returns-in-6513264 c = rw c.in-6513264.is

pub returns-in-504363180656 : goal.returns-in-504363180656
unfolding call_is row_is call_by calls plain cipher packed pick
returns-in-504363180656 c = rw c.in-504363180656.is

pub returns-in-7168355 : goal.returns-in-7168355
unfolding call_is row_is call_by calls plain cipher packed pick
returns-in-7168355 c = rw c.in-7168355.is

pub returns-in-6514795 : goal.returns-in-6514795
unfolding call_is row_is call_by calls plain cipher packed pick
returns-in-6514795 c = rw c.in-6514795.is

pub returns-in_default : goal.returns-in_default
unfolding call_is
returns-in_default c = sym (ap call_is (no_row c.args.w (λ e. omega arith) (λ e. omega arith) (λ e. omega arith) (λ e. omega arith) (λ e. omega arith) (λ e. omega arith) (λ e. omega arith) (λ e. omega arith) (λ e. omega arith) (λ e. omega arith) (λ e. omega arith) (λ e. omega arith) (λ e. omega arith) (λ e. omega arith) (λ e. omega arith) (λ e. omega arith) (λ e. omega arith)))
