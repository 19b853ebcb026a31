-- Worked examples, whatever the cipher calls mean (document 01, sections 5, 8 and 10; recipes in their text are beside each).
use mathlib.Core.Path.{◌≡◌, refl}
use mathlib.Core.List.{[], ◌∷◌, ◌++◌}
use Prim.Native.Nat.{zero, suc}
use lib.ListN.{replicate}
use Rattle.common.specs.Choice.{pick}
use Rattle.common.specs.Places.{tab}
use Rattle.common.specs.Answer.{then}
use Rattle.common.specs.Answer.Answer.{value, refused}
use Rattle.tree.specs.Tree.{Tree}
use Rattle.tree.specs.Tree.Tree.{literal, bound, row, run, two, three, when}
use Rattle.tree.specs.Names.{Binding, Running, unbound, idle}
use Rattle.tree.specs.Names.Given.{given, nothing}
use Rattle.meaning.specs.Mean.{Calls, named, side_of, chosen, mean}
use Rattle.meaning.specs.Real.{cat, xor_byte, xor_bytes, xor, same, eq, head, Cipher, ciphered, real_two, real}
use Rattle.meaning.specs.Fold.{constant_of, known, gives, or_stays, side_or, fold_when, fold_two, fold_three, fold}

-- `#0` is 42
abbrev only42 : Binding
only42 zero = given (0x42 ∷ [])
only42 (suc n) = nothing

-- `$0` is 07
abbrev row07 : Running
row07 = record { rows = elim [ zero ↦ given (0x07 ∷ []) | suc n ↦ nothing ]; runs = unbound }

abbrev '41' : Tree
'41' = literal (0x41 ∷ [])

abbrev '4142' : Tree
'4142' = literal (0x41 ∷ 0x42 ∷ [])

abbrev '00' : Tree
'00' = literal (0x00 ∷ [])

abbrev '01' : Tree
'01' = literal (0x01 ∷ [])

abbrev '02' : Tree
'02' = literal (0x02 ∷ [])

module _ (cipher : Cipher) where
  abbrev C : Calls
  C = real cipher

  -- the plain calls, and each of their refusals
  pub plain_calls :
      (cat (0x41 ∷ []) (0x42 ∷ 0x43 ∷ []) ≡ value (0x41 ∷ 0x42 ∷ 0x43 ∷ []))
      × (xor (0x0F ∷ 0xFF ∷ []) (0x3C ∷ 0x01 ∷ []) ≡ value (0x33 ∷ 0xFE ∷ []))
      × (xor (0x41 ∷ []) (0x41 ∷ 0x42 ∷ []) ≡ refused 10)
      × (xor [] [] ≡ value [])
      × (eq (0x41 ∷ []) (0x41 ∷ []) ≡ value (0x01 ∷ []))
      × (eq (0x41 ∷ []) (0x42 ∷ []) ≡ value (0x00 ∷ []))
      × (eq [] (0x42 ∷ []) ≡ value (0x00 ∷ []))
      × (head (0x01 ∷ []) (0x41 ∷ 0x42 ∷ []) ≡ value (0x41 ∷ []))
      × (head (0x00 ∷ []) [] ≡ value [])
      × (head (0x03 ∷ []) (0x41 ∷ 0x42 ∷ []) ≡ refused 12)
      × (head [] (0x41 ∷ []) ≡ refused 12)
      × (head (0x00 ∷ 0x01 ∷ []) (0x41 ∷ []) ≡ refused 12)
  unfolding cat xor xor_bytes xor_byte eq same head pick tab
  plain_calls = (refl, refl, refl, refl, refl, refl, refl, refl, refl, refl, refl, refl)

  -- both sides of 1,024
  pub cat_bound : (cat (replicate 1000 0x41) (replicate 24 0x42) ≡ value (replicate 1000 0x41 ++ replicate 24 0x42)) × (cat (replicate 1000 0x41) (replicate 25 0x42) ≡ refused 6)
  unfolding cat pick
  cat_bound = (refl, refl)

  -- each plain name has its own kind
  pub kinds :
      (mean C unbound idle (two 0x0010 '41' '41') ≡ value (0x41 ∷ 0x41 ∷ []))
      × (mean C unbound idle (two 0x0011 '41' '41') ≡ value (0x00 ∷ []))
      × (mean C unbound idle (two 0x0012 '41' '41') ≡ value (0x01 ∷ []))
      × (mean C unbound idle (two 0x0013 '01' '4142') ≡ value (0x41 ∷ []))
  unfolding real real_two cat xor xor_bytes xor_byte eq same head pick tab mean then
  kinds = (refl, refl, refl, refl)

  -- a cipher call is handed its number, its suite and its arguments
  pub cipher_kinds :
      (mean C unbound idle (two 0x0101 '41' '00') ≡ cipher 0 1 ((0x41 ∷ []) ∷ (0x00 ∷ []) ∷ []))
      × (mean C unbound idle (three 0x0125 '41' '00' '01') ≡ cipher 2 5 ((0x41 ∷ []) ∷ (0x00 ∷ []) ∷ (0x01 ∷ []) ∷ []))
      × (mean C unbound idle (three 0x01B3 '41' '00' '01') ≡ cipher 11 3 ((0x41 ∷ []) ∷ (0x00 ∷ []) ∷ (0x01 ∷ []) ∷ []))
  unfolding real real_two ciphered pick mean then
  cipher_kinds = (refl, refl, refl)

  -- names: `#0`, `$0`, `@0` each from its own list; 25 without a value
  pub names :
      (mean C only42 idle (bound 0) ≡ value (0x42 ∷ []))
      × (mean C only42 idle (bound 1) ≡ refused 25)
      × (mean C only42 row07 (row 0) ≡ value (0x07 ∷ []))
      × (mean C only42 row07 (row 1) ≡ refused 25)
      × (mean C only42 row07 (run 0) ≡ refused 25)
  unfolding mean named unbound idle
  names = (refl, refl, refl, refl, refl)

  -- the first refusal is the answer: xor(@0,head('02','41')), xor(head('02','41'),@0), xor('41',@0)
  pub first_refusal :
      (mean C only42 row07 (two 0x0011 (run 0) (two 0x0013 '02' '41')) ≡ refused 25)
      × (mean C only42 row07 (two 0x0011 (two 0x0013 '02' '41') (run 0)) ≡ refused 12)
      × (mean C only42 row07 (two 0x0011 '4142' (row 0)) ≡ refused 10)
  unfolding mean named unbound real real_two xor head pick then
  first_refusal = (refl, refl, refl)

  -- only the chosen side is evaluated: when('01',$0,@0), when('00',@0,$0), when('02',$0,$0), when('0001',$0,$0), when(@0,$0,$0)
  pub choices :
      (mean C only42 row07 (when '01' (row 0) (run 0)) ≡ value (0x07 ∷ []))
      × (mean C only42 row07 (when '00' (run 0) (row 0)) ≡ value (0x07 ∷ []))
      × (mean C only42 row07 (when '02' (row 0) (row 0)) ≡ refused 11)
      × (mean C only42 row07 (when (literal (0x00 ∷ 0x01 ∷ [])) (row 0) (row 0)) ≡ refused 11)
      × (mean C only42 row07 (when (literal []) (row 0) (row 0)) ≡ refused 11)
      × (mean C only42 row07 (when (run 0) (row 0) (row 0)) ≡ refused 25)
      × (mean C only42 row07 (when '01' (run 0) (row 0)) ≡ refused 25)
  unfolding mean named unbound then chosen side_of pick
  choices = (refl, refl, refl, refl, refl, refl, refl)

  -- what folds: cat('41',#0); cat(cat('41',#0),@1); when('01',$0,xor('41','4142')); when(eq(#0,'42'),$0,@0)
  pub folds :
      (fold C only42 (two 0x0010 '41' (bound 0)) ≡ '4142')
      × (fold C only42 (two 0x0010 (two 0x0010 '41' (bound 0)) (run 1)) ≡ two 0x0010 '4142' (run 1))
      × (fold C only42 (when '01' (row 0) (two 0x0011 '41' '4142')) ≡ row 0)
      × (fold C only42 (when (two 0x0012 (bound 0) (literal (0x42 ∷ []))) (row 0) (run 0)) ≡ row 0)
  unfolding fold fold_two fold_when or_stays known gives side_or constant_of real real_two cat xor xor_bytes eq same pick tab side_of
  folds = (refl, refl, refl, refl)

  -- what stays: a call that refuses, `when` on another constant, and all that holds a name of a run; nothing is regrouped
  pub stays :
      (fold C only42 (two 0x0011 '41' '4142') ≡ two 0x0011 '41' '4142')
      × (fold C only42 (two 0x0010 (two 0x0011 '41' '4142') (bound 0)) ≡ two 0x0010 (two 0x0011 '41' '4142') (literal (0x42 ∷ [])))
      × (fold C only42 (two 0x0010 '41' (two 0x0010 (literal (0x42 ∷ [])) (run 0))) ≡ two 0x0010 '41' (two 0x0010 (literal (0x42 ∷ [])) (run 0)))
      × (fold C only42 (two 0x0010 (literal []) (run 0)) ≡ two 0x0010 (literal []) (run 0))
      × (fold C only42 (two 0x0011 (row 0) (row 0)) ≡ two 0x0011 (row 0) (row 0))
      × (fold C only42 (two 0x0013 '00' (row 0)) ≡ two 0x0013 '00' (row 0))
      × (fold C only42 (when '02' (row 0) (bound 0)) ≡ when '02' (row 0) (literal (0x42 ∷ [])))
      × (fold C only42 (when (literal (0x00 ∷ 0x01 ∷ [])) (row 0) '41') ≡ when (literal (0x00 ∷ 0x01 ∷ [])) (row 0) '41')
      × (fold C only42 (when (row 0) '41' '41') ≡ when (row 0) '41' '41')
      × (fold C only42 (row 0) ≡ row 0)
      × (fold C only42 (run 0) ≡ run 0)
  unfolding fold fold_two fold_when or_stays known gives side_or constant_of real real_two cat xor xor_bytes eq same head pick tab side_of
  stays = (refl, refl, refl, refl, refl, refl, refl, refl, refl, refl, refl)

  -- an IV that is drawn for each run is never folded, nor a row: ctr.1(#0,@0,$0), ctr.1(#0,'',$0)
  pub drawn :
      (fold C only42 (three 0x0121 (bound 0) (run 0) (row 0)) ≡ three 0x0121 (literal (0x42 ∷ [])) (run 0) (row 0))
      × (fold C only42 (three 0x0121 (bound 0) (literal []) (row 0)) ≡ three 0x0121 (literal (0x42 ∷ [])) (literal []) (row 0))
  unfolding fold fold_three or_stays known constant_of
  drawn = (refl, refl)
