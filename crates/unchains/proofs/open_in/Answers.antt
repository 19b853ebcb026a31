use native.Mathlib.Nat.{mul-one}
use native.Mathlib.Omega.{arith}
use Rattle.blocks.specs.Blocks.{keys_of}
use Rattle.unchains.proofs.Laws.{opened_is, first_columns}
use Rattle.opener.proofs.Sizes.{size_pos}
use Rattle.unchains.proofs.open_in.Goals as goal

pub unseal-requires : goal.unseal-requires
unseal-requires c = omega (arith, c.requires.1, c.load.auto.s, mul-one c.args.opener.now.columns, first_columns c.args.opener.now.columns c.args.n c.requires.0)

pub xor_in-requires : goal.xor_in-requires
xor_in-requires c = (omega (arith, c.requires.1, first_columns c.args.opener.now.columns c.args.n c.requires.0, c.load.auto.s, c.unseal.auto.s), omega (arith, c.requires.2))

pub overflow_sub-c : goal.overflow_sub-c
overflow_sub-c c = first_columns c.args.opener.now.columns c.args.n c.requires.0

pub xor_in-requires-2 : goal.xor_in-requires-2
xor_in-requires-2 c = (omega (arith, c.requires.1, first_columns c.args.opener.now.columns c.args.n c.requires.0, c.load.auto.s, c.unseal.auto.s, c.xor_in.auto.s), omega (arith, c.requires.3))

pub returns : goal.returns
returns c = λ k un. opened_is c.args.opener.now.columns c.args.n c.args.iv.now c.args.text.now (λ n. omega (arith, c.type_inv.iv n)) (λ n. omega (arith, c.type_inv.text n)) (omega (arith, size_pos c.args.opener.now)) c.requires.0 c.args.s.now c.load.new.s c.requires.1 c.load.ensures c.args.opener.now.rounds (keys_of c.args.opener.now.columns k) c.unseal.new.s (c.unseal.ensures k un) c.xor_in.new.s c.xor_in-2.new.s (λ n. omega (arith, c.slice_known-3-1.given n)) (λ n. omega (arith, c.slice_known-4-1.given n)) (omega (arith, c.requires.1, c.load.auto.s, c.unseal.auto.s)) (omega (arith, c.requires.1, c.load.auto.s, c.unseal.auto.s, c.xor_in.auto.s)) c.xor_in.ensures c.xor_in-2.ensures c.requires.3
