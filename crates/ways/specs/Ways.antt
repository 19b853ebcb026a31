-- How the record that stands first in a list of bytes folds (document 01, section 5), read from the top.
use Rattle.std.specs.Prelude.{◌≡◌, true, List, [], ◌∷◌, ℕ, ◌-◌, ◌≤◌, ◌<◌, max, length, take, drop}
use Rattle.common.specs.Answer.{Value}
use Rattle.tree.specs.Tree.{Tree}
use Rattle.tree.specs.Tree.Tree.{when}
use Rattle.tree.specs.Names.{Binding, unbound, idle}
use Rattle.meaning.specs.Mean.{Calls, mean}
use Rattle.meaning.specs.Folded.{NoValue}
use Rattle.meaning.specs.Real.{real}
use Rattle.meaning.specs.Fold.{fold}
use Rattle.modes.specs.Cell.{cell_of}
use Rattle.records.specs.Record.{record_of}
use Rattle.records.specs.Encode.{constant_kind, encode}
use Rattle.records.specs.Decode.{decode}
use Rattle.records.specs.Decode.Item.{item}
use Rattle.lists.specs.Entries.{Entry, Listed, preparing, list_of}
use Rattle.lists.specs.Entries.Listed.{listed, bad_list}
use Rattle.lists.specs.Given.{binding_of}
use Rattle.kinds.specs.Tables.{tables_of}
use Rattle.lent.specs.declared.Tables.{Tables}
use Rattle.lent.specs.Lent.{Serves}
use Rattle.folding.specs.TopDown.{folded_all}
use Rattle.folding.specs.Parts.{Parts}
use Rattle.ways.specs.declared.Way.{Way}
use Rattle.ways.specs.declared.Way.TheVariants as way

-- the calls of section 5 with the standard's ciphers
unfoldable pub the_calls : Calls
the_calls = real cell_of

unfoldable pub bound_in : Listed → Binding
bound_in (listed es) = binding_of es
bound_in bad_list = unbound

-- what a list binds `#` to
unfoldable pub bound_by : List ℕ → Binding
bound_by list = bound_in (list_of preparing list)

unfoldable pub tables_all : List Tree → ℕ
tables_all [] = 0
tables_all (t ∷ ts) = max (tables_of t) (tables_all ts)

-- a good list, tables for what is needed, and slots for the evaluator's 16 levels
pub record Rooms (need : ℕ) (list : List ℕ) (tables : Tables) (room : ℕ) : Type 0 where
  pub entries : List Entry
  pub is_list : list_of preparing list ≡ listed entries
  pub lent : Serves need tables
  pub slots : 47104 ≤ room

-- one record stands first
pub record Ready (s list : List ℕ) (tables : Tables) (room : ℕ) : Type 0 where
  pub tree : Tree
  pub used : ℕ
  pub is : decode true 16 s ≡ item tree used
  pub rooms : Rooms (tables_of tree) list tables room
  pub short : length s ≤ 12288

-- its value stands in the first slot
pub record AConstant (K : Binding) (t : Tree) (n : ℕ) (work : List ℕ) : Type 0 where
  pub held : Value
  pub bytes : encode (fold the_calls K t) ≡ record_of constant_kind held
  pub size : length held ≡ n
  pub stands : take n work ≡ held

-- a `when` that is its chosen side, the record from place a to e
pub record ASide (K : Binding) (s : List ℕ) (t : Tree) (a e : ℕ) : Type 0 where
  pub side : Tree
  pub used : ℕ
  pub folds : fold the_calls K t ≡ fold the_calls K side
  pub is : decode true 16 (take (e - a) (drop a s)) ≡ item side used
  pub start : 4 ≤ a
  pub order : a ≤ e
  pub end : e ≤ length s
  pub tables : tables_of side ≤ tables_of t

-- a name that only a run has a value for: its record up to e stays as it is
pub record ALeaf (K : Binding) (s : List ℕ) (t : Tree) (e : ℕ) : Type 0 where
  pub bytes : encode (fold the_calls K t) ≡ take e s
  pub end : e ≤ length s

-- a call of kind k that stays, with c arguments in its payload up to e
pub record ACall (K : Binding) (s : List ℕ) (t : Tree) (k c e : ℕ) : Type 0 where
  pub trees : List Tree
  pub bytes : encode (fold the_calls K t) ≡ record_of k (folded_all the_calls K trees)
  pub parts : Parts (decode true 16) (take (e - 4) (drop 4 s)) 0 trees
  pub count : length trees ≡ c
  pub few : c ≤ 4
  pub kind : k < 65536
  pub start : 4 ≤ e
  pub end : e ≤ length s
  pub tables : tables_all trees ≤ tables_of t

-- which of them
unfoldable pub Goes : Binding → List ℕ → Tree → Way → List ℕ → Type 0
Goes K s t (way.Constant n) work = AConstant K t n work
Goes K s t (way.Side a e) work = ASide K s t a e
Goes K s t (way.Leaf e) work = ALeaf K s t e
Goes K s t (way.Call k c e) work = ACall K s t k c e

-- of whatever tree stands there
abbrev pub GoesSo : Binding → List ℕ → Way → List ℕ → Type 0
GoesSo K s r work = (t : Tree) (n : ℕ) → decode true 16 s ≡ item t n → Goes K s t r work

-- a `when` without a value stands first, up to e
pub record Choosing (s list : List ℕ) (tables : Tables) (e room : ℕ) : Type 0 where
  pub condition : Tree
  pub yes : Tree
  pub no : Tree
  pub is : decode true 16 s ≡ item (when condition yes no) e
  pub none : NoValue (mean the_calls (bound_by list) idle (when condition yes no))
  pub rooms : Rooms (tables_of (when condition yes no)) list tables room
