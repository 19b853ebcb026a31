use mathlib.Core.Path.{◌≡◌}
use Prim.Native.Nat.{ℕ, ◌^◌, ◌<◌}
use lib.ListN.{get_or, take, length}
use Rattle.common.specs.Places.{tab}
use Rattle.field.specs.Column.{byte_of}
use Rattle.lookup.specs.Table.{gather}
use Rattle.words.specs.Words.{block_at}
use Rattle.rounds.proofs.mix.Given as goal

abbrev pub invariant-loop-j : goal.invariant-loop-j
invariant-loop-j g l = let f : ℕ → ℕ = λ j. gather l.t (λ i. byte_of (get_or (block_at g.row.C l.s l.b) (g.D.Direction.places g.row.C i j) 0) i) in
    (length l.o ≡ g.row.C) × (take l.j l.o ≡ tab l.j f) × ((k : ℕ) → k < l.j → f k < 2 ^ 64)
