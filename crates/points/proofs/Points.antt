-- The table of points holds.
use mathlib.Core.Path.{refl}
use Rattle.common.specs.Choice.{pick}
use Rattle.common.specs.Places.{tab}
use Rattle.field.specs.Xor.{xor}
use Rattle.field.specs.Field.{times, times_digits, double}
use Rattle.field.specs.Column.{byte_of, pack}
use Rattle.field.specs.Mixing.{product, xsum, coef}
use Rattle.substitutions.specs.Tables.{sub, unsub, tables, inverses, pi0, pi1, pi2, pi3, inv0, inv1, inv2, inv3}
use Rattle.kalyna.specs.State.{columns_of, bytes_of}
use Rattle.kalyna.specs.Round.{substitute, mix}
use Rattle.kalyna.specs.Block.{moves}
use Rattle.kalyna.specs.Keys.{start_number, odd_turn, odd_key}
use Rattle.meaning.specs.Real.{Cipher}
use Rattle.recipe.proofs.Points.{p8, p9, p10, p10_runs, p11}
use Rattle.points.specs.Points.{Points}

pub points : (cipher : Cipher) → Points cipher
unfolding tab pick columns_of bytes_of byte_of pack substitute mix moves start_number odd_turn odd_key product xsum coef times times_digits double xor sub unsub tables inverses pi0 pi1 pi2 pi3 inv0 inv1 inv2 inv3
points cipher =
    record {
      P1 = refl;
      P2 = refl;
      P3 = refl;
      P4 = refl;
      P5 = refl;
      P6 = refl;
      P7 = refl;
      P8 = p8 cipher;
      P9 = p9 cipher;
      P10 = p10 cipher;
      P10-means = p10_runs cipher;
      P11 = p11 cipher;
    }
