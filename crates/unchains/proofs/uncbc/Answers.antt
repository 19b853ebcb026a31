use Prim.Native.Nat.{◌*◌, ◌/◌}
use native.Mathlib.Omega.{arith}
use lib.ListN.{length}
use Rattle.unchains.proofs.Laws.{whole_columns, some_whole, stored_all}
use Rattle.opener.specs.Opening.{block_size}
use Rattle.opener.proofs.Sizes.{size_pos}
use Rattle.unchains.proofs.uncbc.Goals as goal

pub nonzero_div-n : goal.nonzero_div-n
nonzero_div-n c = omega (arith, size_pos c.args.opener.now)

pub open_in-requires : goal.open_in-requires
open_in-requires c = (some_whole c.args.opener.now.columns (length c.args.text.now) c.requires.1 c.requires.3, omega (arith, whole_columns c.args.opener.now.columns (length c.args.text.now) c.requires.3, c.requires.2), c.requires.0, whole_columns c.args.opener.now.columns (length c.args.text.now) c.requires.3)

pub overflow_mul-c : goal.overflow_mul-c
overflow_mul-c c = omega (arith, whole_columns c.args.opener.now.columns (length c.args.text.now) c.requires.3, c.requires.2)

pub store-requires : goal.store-requires
store-requires c = (omega (arith, whole_columns c.args.opener.now.columns (length c.args.text.now) c.requires.3, c.requires.2, c.open_in.auto.s), omega (arith, whole_columns c.args.opener.now.columns (length c.args.text.now) c.requires.3, c.requires.4))

pub returns : goal.returns
returns c = λ k un. stored_all (c.args.opener.now.columns * ((length c.args.text.now) / block_size c.args.opener.now)) (length c.args.text.now) _ _ c.args.out.now _ (whole_columns c.args.opener.now.columns (length c.args.text.now) c.requires.3) c.store.ensures (c.open_in.ensures k un)
