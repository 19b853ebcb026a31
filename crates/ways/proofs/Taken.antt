-- The way that a record takes, by what the evaluator tells of it.
use mathlib.Core.Path.{◌≡◌, ap, sym, ◌∙◌, subst}
use mathlib.Core.List.{List}
use Prim.Native.Nat.{ℕ, ◌+◌, ◌≤◌}
use native.Mathlib.Omega.{arith}
use Rattle.lent.specs.declared.Tables.{Tables}
use Rattle.tree.specs.Bounds.{arguments_of, when_kind, Bytes}
use Rattle.tree.specs.Names.{idle}
use Rattle.meaning.specs.Mean.{mean}
use Rattle.meaning.specs.Folded.{NoValue}
use Rattle.records.specs.Decode.Item.{item}
use Rattle.kinds.specs.Tables.{tables_of}
use Rattle.heads.specs.Head.{head_at, headed}
use Rattle.answers.specs.declared.Refusal.{Refusal}
use Rattle.std.specs.Prelude.{Result, Ok, Err}
use Rattle.evaluating.specs.Stretch.{Means}
use Rattle.ways.specs.declared.Way.TheVariants as way
use Rattle.ways.specs.Ways.{the_calls, bound_by, Rooms, Ready, Goes, GoesSo, Choosing}
use Rattle.ways.proofs.Evaluated.{first_proper, head_used, whole_constant, whole_none}
use Rattle.ways.proofs.Staying.{IsWhen, when_is, kind_is, others_open, as_leaf, as_call}
use Rattle.ways.proofs.Choosing.{goes_so}

-- a longer room serves too
pub rooms_longer : (need : ℕ) (list : List ℕ) (tables : Tables) (room room' : ℕ) → room ≤ room' → Rooms need list tables room → Rooms need list tables room'
rooms_longer need list tables room room' h R = let s = R.slots in record { entries = R.entries; is_list = R.is_list; lent = R.lent; slots = omega arith }

module _ (s list : List ℕ) (tables : Tables) (room : ℕ) (R : Ready s list tables room) (k n : ℕ) (hs : Bytes s) (hl : Bytes list) (eh : head_at s 0 ≡ headed k n)
    (r : Result ℕ Refusal) (w w' : List ℕ) (M : Means s list 0 (4 + n) 0 r w w') where
  -- a value
  pub taken_constant : (l : ℕ) → r ≡ Ok l → GoesSo (bound_by list) s (way.Constant l) w'
  unfolding Goes
  taken_constant l e = goes_so (bound_by list) s R.tree R.used (way.Constant l) w' R.is (whole_constant s list tables room R k n hs hl eh r w w' M l e)

  module _ (m : Refusal) (e : r ≡ Err m) (c : ℕ) (ec : c ≡ arguments_of k) where
    none : NoValue (mean the_calls (bound_by list) idle R.tree)
    none = whole_none s list tables room R k n hs hl eh r w w' M m e

    -- a name that only a run has a value for
    pub taken_leaf : c ≡ 0 → (v : List ℕ) → GoesSo (bound_by list) s (way.Leaf (4 + n)) v
    unfolding Goes
    taken_leaf z v =
        goes_so (bound_by list) s R.tree R.used (way.Leaf (4 + n)) v R.is (as_leaf (bound_by list) s R.tree R.used k n hs R.is eh c ec z none)

    -- a call that stays
    pub taken_call : (c ≡ 0 → ⊥) → (k ≡ when_kind → ⊥) → (v : List ℕ) → GoesSo (bound_by list) s (way.Call k c (4 + n)) v
    unfolding Goes
    taken_call z x v =
        goes_so (bound_by list) s R.tree R.used (way.Call k c (4 + n)) v R.is
        (as_call (bound_by list) s R.tree R.used k n hs R.is eh c ec z none
        (others_open (bound_by list) R.tree (λ q. x (sym (kind_is (bound_by list) s R.tree R.used k n hs R.is eh) ∙ q))))

    -- a `when`
    pub taken_when : k ≡ when_kind → (room' : ℕ) → room ≤ room' → Choosing s list tables (4 + n) room'
    taken_when x room' h = made (when_is R.tree (first_proper s R.tree R.used hs R.is) (kind_is (bound_by list) s R.tree R.used k n hs R.is eh ∙ x))
      where
        made : IsWhen R.tree → Choosing s list tables (4 + n) room'
        made W =
            record {
              condition = W.condition;
              yes = W.yes;
              no = W.no;
              is = R.is ∙ ap (λ m. item R.tree m) (head_used s list tables room R k n eh) ∙ ap (λ t. item t (4 + n)) W.is;
              none = subst (λ t. NoValue (mean the_calls (bound_by list) idle t)) W.is none;
              rooms = subst (λ t. Rooms (tables_of t) list tables room') W.is (rooms_longer (tables_of R.tree) list tables room room' h R.rooms);
            }
