-- The lookup tables that a cipher call is lent: made once, only where a call needs them.
use Rattle.std.specs.Prelude.{◌≡◌, List, ℕ, ◌≤◌, eqb}
use Rattle.common.specs.Choice.{pick}
use Rattle.substitutions.specs.Tables.{substitutions, unsubstitutions}
use Rattle.lent.specs.declared.Tables.{Tables}
use Rattle.lookup.specs.Table.{seal_table, open_table}

-- document 01, section 6: f = 1, 7, 9, `unblk`, `uncbc` and `uncbp`, open blocks: they need the opening tables too; every call makes its round keys by sealing
unfoldable pub need_of : ℕ → ℕ
need_of f = pick (eqb f 1) 2 (pick (eqb f 7) 2 (pick (eqb f 9) 2 1))

-- what is lent serves a need of 0 none, 1 the sealing table, 2 the opening ones too
pub record Lent (need : ℕ) (tab back p u : List ℕ) : Type 0 where
  pub sealing : 1 ≤ need → tab ≡ seal_table
  pub opening : 2 ≤ need → back ≡ open_table
  pub forward : 2 ≤ need → p ≡ substitutions
  pub backward : 2 ≤ need → u ≡ unsubstitutions

-- the same of tables that are lent together
abbrev pub Serves : ℕ → Tables → Type 0
Serves need t = Lent need t.seal.now t.unseal.now t.forward.now t.backward.now
