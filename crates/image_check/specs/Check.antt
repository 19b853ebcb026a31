-- What the image check tells (document 01, section 6; 28, bytes are no image).
use Rattle.std.specs.Prelude.{List, ℕ, zero, suc, ◌+◌, max, eqb, ltb, length, get_or, drop, Option, Some, None}
use Rattle.common.specs.Choice.{pick}
use Rattle.tree.specs.Bounds.{nodes}
use Rattle.records.specs.Decode.{Item, Image}
use Rattle.records.specs.Decode.Item.{item, no_item}
use Rattle.records.specs.Decode.Image.{image, no_image}
use Rattle.kinds.specs.Tables.{need_number, tables_for, tables_of}
use Rattle.kinds.specs.declared.Need.{Need}
use Rattle.image_check.specs.declared.Checked.{Checked}

-- the bytes that a record takes, its nodes, the tables that it needs; or none
pub data Counted : Type 0 where
  Fits : ℕ → ℕ → ℕ → Counted
  Fails : Counted

-- what an answer counts
abbrev pub counted : Option Checked → Counted
counted (Some c) = Fits c.used c.nodes (need_number c.need)
counted None = Fails

abbrev pub needed : Option Need → Option ℕ
needed (Some n) = Some (need_number n)
needed None = None

-- good, with the tables that the image needs, or 28
unfoldable pub verdict_of : Image → Option ℕ
verdict_of (image t) = Some (tables_of t)
verdict_of no_image = None

-- of a tree that stands first: the bytes that it takes, its nodes, the tables that it needs
unfoldable pub check_of : Item → Counted
check_of (item t u) = Fits u (nodes t) (tables_of t)
check_of no_item = Fails

-- a name's digit
unfoldable pub digit_of : ℕ → List ℕ → Counted
digit_of top p = pick (eqb (length p) 1) (pick (ltb (get_or p 0 0) top) (Fits 5 1 0) Fails) Fails

unfoldable pub then_fits : Counted → (ℕ → ℕ → ℕ → Counted) → Counted
then_fits (Fits u m x) f = f u m x
then_fits Fails f = Fails

-- so many records, one after another, from place u on; m nodes and tables x before them
unfoldable pub several_from : (List ℕ → Item) → List ℕ → ℕ → ℕ → ℕ → ℕ → Counted
several_from sub p zero u m x = Fits u m x
several_from sub p (suc n) u m x = then_fits (check_of (sub (drop u p))) (λ v l y. several_from sub p n (u + v) (m + l) (max x y))

-- a call whose arguments fill its payload exactly
unfoldable pub call_of : ℕ → List ℕ → Counted → Counted
call_of k p (Fits u m x) = pick (eqb u (length p)) (Fits (4 + length p) (m + 1) (max (tables_for k) x)) Fails
call_of k p Fails = Fails
