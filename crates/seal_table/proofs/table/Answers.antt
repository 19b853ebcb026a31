use Rattle.common.specs.Places.{tab}
use Rattle.field.specs.Xor.{xor}
use Rattle.field.specs.Field.{double}
use Rattle.field.specs.Mixing.{coef}
use Rattle.substitutions.specs.Tables.{pi0, pi1, pi2, pi3}
use Rattle.lookup.proofs.Laid.{doubles, weigh, products, row, laid, laid_seal}
use Rattle.seal_table.proofs.table.Goals as goal

-- The table of the code is the table laid entry by entry, which antt computes.

pub returns : goal.returns
unfolding laid row products weigh doubles double xor coef tab pi0 pi1 pi2 pi3
returns c = laid_seal
