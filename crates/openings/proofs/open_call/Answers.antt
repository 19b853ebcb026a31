use mathlib.Core.Path.{ap, ◌∙◌}
use native.Mathlib.Omega.{arith}
use native.Mathlib.Nat.{mul-suc}
use native.Mathlib.Numerals.{add-one}
use lib.ListN.{length}
use Rattle.modes.specs.Cell.{call_of}
use Rattle.call_laws.proofs.Same.{keys_long}
use Rattle.call_laws.proofs.Facts as facts
use Rattle.openings.proofs.Calls.{is_unblk, is_uncbc, is_uncbp}
use Rattle.openings.proofs.Laws as laws
use Rattle.openings.proofs.open_call.Goals as goal

pub schedule-ks-requires : goal.schedule-ks-requires
schedule-ks-requires c = (c.requires.0.sealing (omega arith), (facts.row (call_of c.args.f) c.args.s c.args.key.now c.args.side.now c.args.text.now c.args.out.now c.requires.2).sized, facts.key_long (call_of c.args.f) c.args.s c.args.key.now c.args.side.now c.args.text.now c.args.out.now c.requires.2, (facts.row (call_of c.args.f) c.args.s c.args.key.now c.args.side.now c.args.text.now c.args.out.now c.requires.2).even, (facts.row (call_of c.args.f) c.args.s c.args.key.now c.args.side.now c.args.text.now c.args.out.now c.requires.2).most)

pub keys_back-requires : goal.keys_back-requires
keys_back-requires c = (c.requires.0.opening (omega arith), c.requires.0.forward (omega arith), (facts.row (call_of c.args.f) c.args.s c.args.key.now c.args.side.now c.args.text.now c.args.out.now c.requires.2).some, omega (arith, facts.keys_room (call_of c.args.f) c.args.s c.args.key.now c.args.side.now c.args.text.now c.args.out.now c.requires.2 c.schedule-ks.result (ap length c.schedule-ks.ensures ∙ keys_long c.args.s c.args.key.now), mul-suc c.args.s.columns c.args.s.rounds, add-one c.args.s.rounds))

pub invariant_of-opener : goal.invariant_of-opener
invariant_of-opener c = record {
  tabled = c.requires.0.opening (omega arith);
  substituted = c.requires.0.forward (omega arith);
  unsubstituted = c.requires.0.backward (omega arith);
  width = (laws.base (call_of c.args.f) c.args.s c.args.key.now c.args.side.now c.args.text.now c.args.out.now c.requires.2 c.schedule-ks.result c.keys_back.new.ks c.schedule-ks.ensures c.keys_back.ensures).0;
  some_rounds = (laws.base (call_of c.args.f) c.args.s c.args.key.now c.args.side.now c.args.text.now c.args.out.now c.requires.2 c.schedule-ks.result c.keys_back.new.ks c.schedule-ks.ensures c.keys_back.ensures).1;
  keyed = (laws.base (call_of c.args.f) c.args.s c.args.key.now c.args.side.now c.args.text.now c.args.out.now c.requires.2 c.schedule-ks.result c.keys_back.new.ks c.schedule-ks.ensures c.keys_back.ensures).2;
}

pub unblk-requires : goal.unblk-requires
unblk-requires c = laws.unblk_needs (call_of c.args.f) c.args.s c.args.key.now c.args.side.now c.args.text.now c.args.out.now c.requires.2 c.schedule-ks.result c.keys_back.new.ks c.schedule-ks.ensures c.keys_back.ensures (is_unblk c.args.f c.in-1.is)

pub overflow_mul-result : goal.overflow_mul-result
overflow_mul-result c = omega (arith, facts.wide (call_of c.args.f) c.args.s c.args.key.now c.args.side.now c.args.text.now c.args.out.now c.requires.2)

pub uncbc-requires : goal.uncbc-requires
uncbc-requires c = laws.uncbc_needs (call_of c.args.f) c.args.s c.args.key.now c.args.side.now c.args.text.now c.args.out.now c.requires.2 c.schedule-ks.result c.keys_back.new.ks c.schedule-ks.ensures c.keys_back.ensures (is_uncbc c.args.f c.in-7.is)

pub unfilled-requires : goal.unfilled-requires
unfilled-requires c = laws.uncbp_needs (call_of c.args.f) c.args.s c.args.key.now c.args.side.now c.args.text.now c.args.out.now c.requires.2 c.schedule-ks.result c.keys_back.new.ks c.schedule-ks.ensures c.keys_back.ensures (is_uncbp c.args.f c.requires.1 c.in_default.in_default-own.rest.0.1 c.in_default.in_default-own.rest.1)

pub returns-in-1 : goal.returns-in-1
returns-in-1 c = laws.unblk_done (call_of c.args.f) c.args.s c.args.key.now c.args.side.now c.args.text.now c.args.out.now c.requires.2 c.schedule-ks.result c.keys_back.new.ks c.schedule-ks.ensures c.keys_back.ensures (is_unblk c.args.f c.in-1.is) _ (c.unblk.ensures c.schedule-ks.result c.keys_back.ensures)

pub returns-in-7 : goal.returns-in-7
returns-in-7 c = laws.uncbc_done (call_of c.args.f) c.args.s c.args.key.now c.args.side.now c.args.text.now c.args.out.now c.requires.2 c.schedule-ks.result c.keys_back.new.ks c.schedule-ks.ensures c.keys_back.ensures (is_uncbc c.args.f c.in-7.is) _ (c.uncbc.ensures c.schedule-ks.result c.keys_back.ensures)

pub returns-in_default : goal.returns-in_default
returns-in_default c = laws.uncbp_done (call_of c.args.f) c.args.s c.args.key.now c.args.side.now c.args.text.now c.args.out.now c.requires.2 c.schedule-ks.result c.keys_back.new.ks c.schedule-ks.ensures c.keys_back.ensures (is_uncbp c.args.f c.requires.1 c.in_default.in_default-own.rest.0.1 c.in_default.in_default-own.rest.1) _ (c.unfilled.ensures c.schedule-ks.result c.keys_back.ensures)
