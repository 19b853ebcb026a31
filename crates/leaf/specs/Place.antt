-- Where the value of a leaf stands: a stretch of the image or of the list (document 01, section 6).
use Rattle.std.specs.Prelude.{List, [], ℕ, ◌+◌, eqb, get_or, take, drop, Option, Some, None}
use Rattle.common.specs.Choice.{pick}
use Rattle.common.specs.Answer.{Value}
use Rattle.tree.specs.Tree.{Tree}
use Rattle.tree.specs.Tree.Tree.{literal, bound, row, run, one, two, three, four, when}
use Rattle.tree.specs.Names.{Given}
use Rattle.tree.specs.Names.Given.{given, nothing}
use Rattle.records.specs.Encode.{constant_kind, row_kind, run_kind, bound_kind}
use Rattle.lists.specs.Entries.{bound_list, row_list, run_list}
use Rattle.heads.specs.declared.Head.{Head}
use Rattle.heads.specs.Head.{head_at}
use Rattle.listing.specs.declared.Stretch.{Stretch}
use Rattle.listing.specs.Find.{find_in}
use Rattle.leaf.specs.declared.Place.{Place}
use Rattle.leaf.specs.declared.Place.TheVariants.{Image, List as InList}

unfoldable pub place_in : Option Stretch → Option Place
place_in (Some at) = Some (InList at)
place_in None = None

-- `$d`, `@d` and `#d` are found in the list by their kinds there
unfoldable pub name_in : List ℕ → ℕ → ℕ → Option Place
name_in list k d =
    pick (eqb k row_kind) (place_in (find_in list (row_list + d)))
    (pick (eqb k run_kind) (place_in (find_in list (run_list + d)))
    (pick (eqb k bound_kind) (place_in (find_in list (bound_list + d))) None))

unfoldable pub place_of_head : List ℕ → ℕ → List ℕ → Option Head → Option Place
place_of_head image at list (Some h) =
    pick (eqb h.kind constant_kind) (Some (Image (record { start = at + 4; length = h.length }))) (pick (eqb h.length 1) (name_in list h.kind (get_or image (at + 4) 0)) None)
place_of_head image at list None = None

-- of the leaf that stands at a place of the image
unfoldable pub place_of : List ℕ → ℕ → List ℕ → Option Place
place_of image at list = place_of_head image at list (head_at image at)

-- what stands there
unfoldable pub placed : List ℕ → List ℕ → Option Place → Given
placed image list (Some (Image p)) = given (take p.length (drop p.start image))
placed image list (Some (InList p)) = given (take p.length (drop p.start list))
placed image list None = nothing

unfoldable pub bytes_of : Given → Value
bytes_of (given v) = v
bytes_of nothing = []

-- what a leaf is given, by the list's kinds; a call is no leaf
unfoldable pub leaf_in : (ℕ → Given) → Tree → Given
leaf_in f (literal v) = given v
leaf_in f (bound n) = f (bound_list + n)
leaf_in f (row n) = f (row_list + n)
leaf_in f (run n) = f (run_list + n)
leaf_in f (one k a) = nothing
leaf_in f (two k a b) = nothing
leaf_in f (three k a b c) = nothing
leaf_in f (four k a b c d) = nothing
leaf_in f (when c a b) = nothing
