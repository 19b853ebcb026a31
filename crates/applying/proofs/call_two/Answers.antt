use native.Mathlib.Omega.{arith}
use Rattle.applying.proofs.Numbering.{above_plain, two_says, lent_number}
use Rattle.applying.proofs.Dispatch.{as_cat, as_xor, as_eq, as_head, as_cipher}
use Rattle.applying.proofs.call_two.Goals as goal

pub returns-in-16 : goal.returns-in-16
returns-in-16 c = as_cat c.args.k c.args.a.now c.args.b.now c.args.out.now _ c.in-16.is c.cat.ensures

pub returns-in-17 : goal.returns-in-17
returns-in-17 c = as_xor c.args.k c.args.a.now c.args.b.now c.args.out.now _ c.in-17.is c.xor.ensures

pub returns-in-18 : goal.returns-in-18
returns-in-18 c = as_eq c.args.k c.args.a.now c.args.b.now c.args.out.now _ c.in-18.is c.eq.ensures

pub returns-in-19 : goal.returns-in-19
returns-in-19 c = as_head c.args.k c.args.a.now c.args.b.now c.args.out.now _ c.in-19.is c.head.ensures

pub overflow_sub-f : goal.overflow_sub-f
overflow_sub-f c = (two_says c.args.k c.requires.0 (above_plain c.args.k c.requires.0 (λ q. omega arith) (λ q. omega arith) (λ q. omega arith) (λ q. omega arith))).high

pub call-requires : goal.call-requires
call-requires c = lent_number c.args.k c.args.tables.now (two_says c.args.k c.requires.0 (above_plain c.args.k c.requires.0 (λ q. omega arith) (λ q. omega arith) (λ q. omega arith) (λ q. omega arith))) c.requires.1

pub returns-in_default : goal.returns-in_default
returns-in_default c = as_cipher c.args.k c.args.a.now c.args.b.now c.args.out.now _ c.requires.0 (above_plain c.args.k c.requires.0 (λ q. omega arith) (λ q. omega arith) (λ q. omega arith) (λ q. omega arith)) c.call.ensures
