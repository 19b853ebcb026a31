use native.Mathlib.Omega.{arith}
use Rattle.modes.specs.Cell.{call_of}
use Rattle.call_laws.proofs.Facts as facts
use Rattle.sealings.proofs.Calls.{is_blk, is_ctr, is_ofb, is_cfb, is_uncfb, is_cbc, is_cbp, is_mac, is_chk}
use Rattle.sealings.proofs.Needs as needs
use Rattle.sealings.proofs.Dones as dones
use Rattle.sealings.proofs.seal_call.Goals as goal

pub schedule-ks-requires : goal.schedule-ks-requires
schedule-ks-requires c = (c.requires.0, (facts.row (call_of c.args.f) c.args.s c.args.key.now c.args.side.now c.args.text.now c.args.out.now c.requires.2).sized, facts.key_long (call_of c.args.f) c.args.s c.args.key.now c.args.side.now c.args.text.now c.args.out.now c.requires.2, (facts.row (call_of c.args.f) c.args.s c.args.key.now c.args.side.now c.args.text.now c.args.out.now c.requires.2).even, (facts.row (call_of c.args.f) c.args.s c.args.key.now c.args.side.now c.args.text.now c.args.out.now c.requires.2).most)

pub invariant_of-sealer : goal.invariant_of-sealer
invariant_of-sealer c = record { tabled = c.requires.0; width = (needs.base (call_of c.args.f) c.args.s c.args.key.now c.args.side.now c.args.text.now c.args.out.now c.requires.2 c.schedule-ks.result c.schedule-ks.ensures).0; some_rounds = (needs.base (call_of c.args.f) c.args.s c.args.key.now c.args.side.now c.args.text.now c.args.out.now c.requires.2 c.schedule-ks.result c.schedule-ks.ensures).1; few_rounds = (needs.base (call_of c.args.f) c.args.s c.args.key.now c.args.side.now c.args.text.now c.args.out.now c.requires.2 c.schedule-ks.result c.schedule-ks.ensures).2; keyed = (needs.base (call_of c.args.f) c.args.s c.args.key.now c.args.side.now c.args.text.now c.args.out.now c.requires.2 c.schedule-ks.result c.schedule-ks.ensures).3 }

pub blk-requires : goal.blk-requires
blk-requires c = needs.blk_needs (call_of c.args.f) c.args.s c.args.key.now c.args.side.now c.args.text.now c.args.out.now c.requires.2 c.schedule-ks.result c.schedule-ks.ensures (is_blk c.args.f c.in-0.is)

pub overflow_mul-result : goal.overflow_mul-result
overflow_mul-result c = omega (arith, facts.wide (call_of c.args.f) c.args.s c.args.key.now c.args.side.now c.args.text.now c.args.out.now c.requires.2)

pub ctr-requires : goal.ctr-requires
ctr-requires c = needs.ctr_needs (call_of c.args.f) c.args.s c.args.key.now c.args.side.now c.args.text.now c.args.out.now c.requires.2 c.schedule-ks.result c.schedule-ks.ensures (is_ctr c.args.f c.in-2.is)

pub ofb-requires : goal.ofb-requires
ofb-requires c = needs.ofb_needs (call_of c.args.f) c.args.s c.args.key.now c.args.side.now c.args.text.now c.args.out.now c.requires.2 c.schedule-ks.result c.schedule-ks.ensures (is_ofb c.args.f c.in-3.is)

pub cfb-requires : goal.cfb-requires
cfb-requires c = needs.cfb_needs (call_of c.args.f) c.args.s c.args.key.now c.args.side.now c.args.text.now c.args.out.now c.requires.2 c.schedule-ks.result c.schedule-ks.ensures (is_cfb c.args.f c.in-4.is)

pub uncfb-requires : goal.uncfb-requires
uncfb-requires c = needs.uncfb_needs (call_of c.args.f) c.args.s c.args.key.now c.args.side.now c.args.text.now c.args.out.now c.requires.2 c.schedule-ks.result c.schedule-ks.ensures (is_uncfb c.args.f c.in-5.is)

pub cbc-requires : goal.cbc-requires
cbc-requires c = needs.cbc_needs (call_of c.args.f) c.args.s c.args.key.now c.args.side.now c.args.text.now c.args.out.now c.requires.2 c.schedule-ks.result c.schedule-ks.ensures (is_cbc c.args.f c.in-6.is)

pub cbp-requires : goal.cbp-requires
cbp-requires c = needs.cbp_needs (call_of c.args.f) c.args.s c.args.key.now c.args.side.now c.args.text.now c.args.out.now c.requires.2 c.schedule-ks.result c.schedule-ks.ensures (is_cbp c.args.f c.in-8.is)

pub overflow_mul-result-in-8 : goal.overflow_mul-result-in-8
overflow_mul-result-in-8 c = omega (arith, facts.wide (call_of c.args.f) c.args.s c.args.key.now c.args.side.now c.args.text.now c.args.out.now c.requires.2)

pub overflow_mul-result-in-8-2 : goal.overflow_mul-result-in-8-2
overflow_mul-result-in-8-2 c = omega (arith, facts.wide (call_of c.args.f) c.args.s c.args.key.now c.args.side.now c.args.text.now c.args.out.now c.requires.2)

pub nonzero_div-result : goal.nonzero_div-result
nonzero_div-result c = omega (arith, facts.some_wide (call_of c.args.f) c.args.s c.args.key.now c.args.side.now c.args.text.now c.args.out.now c.requires.2)

pub overflow_add-result : goal.overflow_add-result
overflow_add-result c = omega (arith, needs.quotient_short (call_of c.args.f) c.args.s c.args.key.now c.args.side.now c.args.text.now c.args.out.now c.requires.2 c.schedule-ks.result c.schedule-ks.ensures (is_cbp c.args.f c.in-8.is))

pub overflow_mul-result-in-8-3 : goal.overflow_mul-result-in-8-3
overflow_mul-result-in-8-3 c = omega (arith, needs.filled_short (call_of c.args.f) c.args.s c.args.key.now c.args.side.now c.args.text.now c.args.out.now c.requires.2 c.schedule-ks.result c.schedule-ks.ensures (is_cbp c.args.f c.in-8.is))

pub mac-requires : goal.mac-requires
mac-requires c = needs.mac_needs (call_of c.args.f) c.args.s c.args.key.now c.args.side.now c.args.text.now c.args.out.now c.requires.2 c.schedule-ks.result c.schedule-ks.ensures (is_mac c.args.f c.in-10.is)

pub overflow_mul-result-in-10 : goal.overflow_mul-result-in-10
overflow_mul-result-in-10 c = omega (arith, facts.wide (call_of c.args.f) c.args.s c.args.key.now c.args.side.now c.args.text.now c.args.out.now c.requires.2)

pub chk-requires : goal.chk-requires
chk-requires c = needs.chk_needs (call_of c.args.f) c.args.s c.args.key.now c.args.side.now c.args.text.now c.args.out.now c.requires.2 c.schedule-ks.result c.schedule-ks.ensures (is_chk c.args.f c.requires.1 c.in_default.in_default-own.rest.0.0.0.0.0.0.0.1 c.in_default.in_default-own.rest.0.0.0.0.0.0.1 c.in_default.in_default-own.rest.0.0.0.0.0.1 c.in_default.in_default-own.rest.0.0.0.0.1 c.in_default.in_default-own.rest.0.0.0.1 c.in_default.in_default-own.rest.0.0.1 c.in_default.in_default-own.rest.0.1 c.in_default.in_default-own.rest.1)

pub returns-in-0 : goal.returns-in-0
returns-in-0 c = dones.blk_done (call_of c.args.f) c.args.s c.args.key.now c.args.side.now c.args.text.now c.args.out.now c.requires.2 c.schedule-ks.result c.schedule-ks.ensures (is_blk c.args.f c.in-0.is) _ c.blk.ensures

pub returns-in-2 : goal.returns-in-2
returns-in-2 c = dones.ctr_done (call_of c.args.f) c.args.s c.args.key.now c.args.side.now c.args.text.now c.args.out.now c.requires.2 c.schedule-ks.result c.schedule-ks.ensures (is_ctr c.args.f c.in-2.is) _ c.ctr.ensures

pub returns-in-3 : goal.returns-in-3
returns-in-3 c = dones.ofb_done (call_of c.args.f) c.args.s c.args.key.now c.args.side.now c.args.text.now c.args.out.now c.requires.2 c.schedule-ks.result c.schedule-ks.ensures (is_ofb c.args.f c.in-3.is) _ c.ofb.ensures

pub returns-in-4 : goal.returns-in-4
returns-in-4 c = dones.cfb_done (call_of c.args.f) c.args.s c.args.key.now c.args.side.now c.args.text.now c.args.out.now c.requires.2 c.schedule-ks.result c.schedule-ks.ensures (is_cfb c.args.f c.in-4.is) _ c.cfb.ensures

pub returns-in-5 : goal.returns-in-5
returns-in-5 c = dones.uncfb_done (call_of c.args.f) c.args.s c.args.key.now c.args.side.now c.args.text.now c.args.out.now c.requires.2 c.schedule-ks.result c.schedule-ks.ensures (is_uncfb c.args.f c.in-5.is) _ c.uncfb.ensures

pub returns-in-6 : goal.returns-in-6
returns-in-6 c = dones.cbc_done (call_of c.args.f) c.args.s c.args.key.now c.args.side.now c.args.text.now c.args.out.now c.requires.2 c.schedule-ks.result c.schedule-ks.ensures (is_cbc c.args.f c.in-6.is) _ c.cbc.ensures

pub returns-in-8 : goal.returns-in-8
returns-in-8 c = dones.cbp_done (call_of c.args.f) c.args.s c.args.key.now c.args.side.now c.args.text.now c.args.out.now c.requires.2 c.schedule-ks.result c.schedule-ks.ensures (is_cbp c.args.f c.in-8.is) _ c.cbp.ensures

pub returns-in-10 : goal.returns-in-10
returns-in-10 c = dones.mac_done (call_of c.args.f) c.args.s c.args.key.now c.args.side.now c.args.text.now c.args.out.now c.requires.2 c.schedule-ks.result c.schedule-ks.ensures (is_mac c.args.f c.in-10.is) _ c.mac.ensures

pub returns-in_default : goal.returns-in_default
returns-in_default c = dones.chk_done (call_of c.args.f) c.args.s c.args.key.now c.args.side.now c.args.text.now c.args.out.now c.requires.2 c.schedule-ks.result c.schedule-ks.ensures (is_chk c.args.f c.requires.1 c.in_default.in_default-own.rest.0.0.0.0.0.0.0.1 c.in_default.in_default-own.rest.0.0.0.0.0.0.1 c.in_default.in_default-own.rest.0.0.0.0.0.1 c.in_default.in_default-own.rest.0.0.0.0.1 c.in_default.in_default-own.rest.0.0.0.1 c.in_default.in_default-own.rest.0.0.1 c.in_default.in_default-own.rest.0.1 c.in_default.in_default-own.rest.1) _ c.chk.ensures
