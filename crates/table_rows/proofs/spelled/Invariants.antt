use Rattle.std.proofs.Common.{◌≡◌, ◌≤◌, take, replicate, vec_len}
use Rattle.std.specs.List.{flat_map}
use Rattle.table_rows.proofs.spelled.Given as goal

abbrev pub invariant-loop-run : goal.invariant-loop-run
invariant-loop-run g l =
    (l.bytes.items ≡ take l.most (flat_map (λ r. replicate r.count r.byte) l.yielded)) × (vec_len l.bytes ≤ l.most)
