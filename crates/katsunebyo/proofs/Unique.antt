-- What an entry gives back is determined: number, length and every output byte. One statement serves the twelve, whose contracts are equations with what the cell delivers.
use mathlib.Core.Path.{◌≡◌, ap}
use mathlib.Core.List.{List}
use Prim.Native.Nat.{ℕ}
use Rattle.common.specs.Answer.{Value, Delivered, deliver}
use Rattle.common.proofs.Unique.{by_equation}
use Rattle.answers.specs.Told.{number_of, count_of, told_of}
use Rattle.answers.specs.declared.Refusal.{Refusal}
use Rattle.std.proofs.Common.{Result}
use Rattle.modes.specs.Cell.{Call, cell}
use Rattle.recipe.specs.Outcome.{Outcome, outcome}
use Rattle.entries.specs.Seen.{seen}

module _ (f : Call) (suite : ℕ) (key side text : Value) (out : List ℕ) (r r' l l' : ℕ) (o o' : List ℕ)
    (e : seen r l o ≡ deliver (cell f suite key side text) out) (e' : seen r' l' o' ≡ deliver (cell f suite key side text) out) where
  same : seen r l o ≡ seen r' l' o'
  same = by_equation (deliver (cell f suite key side text) out) (seen r l o) (seen r' l' o') e e'

  pub one_number : r ≡ r'
  unfolding seen
  one_number = ap (λ d. d.number) same

  pub one_length : l ≡ l'
  unfolding seen
  one_length = ap (λ d. d.count) same

  pub one_output : o ≡ o'
  unfolding seen
  one_output = ap (λ d. d.out) same

-- The same of every function that tells: number, length and every output byte are determined by what is delivered (`handing::hand`, `sealings::seal_call`, `openings::open_call`,
-- `calls::call`, `entries::sealed`, `entries::opened`, and the plain calls).
module _ (d : Delivered) (t t' : Result ℕ Refusal) (o o' : List ℕ) (e : told_of t o ≡ d) (e' : told_of t' o' ≡ d) where
  told_same : told_of t o ≡ told_of t' o'
  told_same = by_equation d (told_of t o) (told_of t' o') e e'

  pub told_number : number_of t ≡ number_of t'
  unfolding told_of
  told_number = ap (λ x. x.number) told_same

  pub told_length : count_of t ≡ count_of t'
  unfolding told_of
  told_length = ap (λ x. x.count) told_same

  pub told_output : o ≡ o'
  unfolding told_of
  told_output = ap (λ x. x.out) told_same

-- The same of preparing and running: number, length, place, every output byte and every byte of the work room.
module _ (x : Outcome) (r r' l l' p p' : ℕ) (o o' w w' : List ℕ) (e : outcome (seen r l o) p w ≡ x) (e' : outcome (seen r' l' o') p' w' ≡ x) where
  all_same : outcome (seen r l o) p w ≡ outcome (seen r' l' o') p' w'
  all_same = by_equation x (outcome (seen r l o) p w) (outcome (seen r' l' o') p' w') e e'

  pub one_number_all : r ≡ r'
  unfolding outcome seen
  one_number_all = ap (λ d. d.number) all_same

  pub one_length_all : l ≡ l'
  unfolding outcome seen
  one_length_all = ap (λ d. d.count) all_same

  pub one_place : p ≡ p'
  unfolding outcome seen
  one_place = ap (λ d. d.place) all_same

  pub one_output_all : o ≡ o'
  unfolding outcome seen
  one_output_all = ap (λ d. d.out) all_same

  pub one_work_room : w ≡ w'
  unfolding outcome seen
  one_work_room = ap (λ d. d.work) all_same
