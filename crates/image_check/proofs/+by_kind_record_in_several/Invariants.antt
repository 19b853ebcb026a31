use Prim.Native.Nat.{◌+◌, ◌*◌}
use lib.ListN.{length}
use Rattle.image_check.proofs.+by_kind_record_in_several.Given as goal

abbrev pub decreases-by_kind : goal.decreases-by_kind
decreases-by_kind l = 8 * length l.p.now + 7

abbrev pub decreases-record_in : goal.decreases-record_in
decreases-record_in l = 8 * length l.s.now

abbrev pub decreases-several : goal.decreases-several
decreases-several l = 8 * length l.p.now + 1 + l.left
